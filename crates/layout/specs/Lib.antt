pub mod Rows
pub mod Layout
