pub mod Dates
pub mod Cases
