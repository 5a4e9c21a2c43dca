pub mod Trees
pub mod Notation
pub mod Slots
pub mod Sheets
pub mod Taking
pub mod Filled
pub mod Plain
pub mod Cases
