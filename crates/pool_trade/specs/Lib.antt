pub mod Narrative
pub mod Records
pub mod Parts
pub mod Cases
