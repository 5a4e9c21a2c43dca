pub mod Widest
pub mod Demands
