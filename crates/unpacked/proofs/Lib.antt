pub mod Laws
pub mod Bytes
pub mod Back
pub mod Itself
pub mod Lossless
