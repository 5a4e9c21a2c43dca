pub mod Cases
pub mod Field
pub mod Finding
pub mod FieldCases
pub mod Standing
pub mod Cutting
