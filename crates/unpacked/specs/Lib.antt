pub mod Unpacked
pub mod Back
