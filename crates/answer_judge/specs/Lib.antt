pub mod Judging
pub mod Parts
pub mod Cases
