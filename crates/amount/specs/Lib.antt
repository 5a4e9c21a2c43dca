pub mod Amounts
pub mod Cases
