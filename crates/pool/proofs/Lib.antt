pub mod Optional
pub mod Cases
pub mod Finding
pub mod FieldCases
pub mod Standing
pub mod Cutting
