pub mod Asked
pub mod Laws
pub mod Demands
pub mod Answers
