pub mod Lent
pub mod Answers
