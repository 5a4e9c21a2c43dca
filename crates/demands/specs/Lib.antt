pub mod Demands
pub mod Answers
