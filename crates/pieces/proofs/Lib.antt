pub mod Pieces
pub mod Laws
pub mod Lines
pub mod Cutting
pub mod Answers
