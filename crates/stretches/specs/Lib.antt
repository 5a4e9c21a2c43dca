pub mod Stretches
pub mod Fields
