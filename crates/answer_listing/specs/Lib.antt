pub mod Rows
pub mod Composed
pub mod Cases
