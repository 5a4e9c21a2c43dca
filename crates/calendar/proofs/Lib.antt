pub mod Laws
pub mod Months
pub mod Parts
pub mod Cases
