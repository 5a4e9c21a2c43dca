pub mod Passes
pub mod Laws
