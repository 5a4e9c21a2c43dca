pub mod Verdicts
pub mod Lines
pub mod Cases
