pub mod Lengths
pub mod Cases
