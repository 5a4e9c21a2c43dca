pub mod Asked
pub mod Widest
pub mod Lengths
pub mod Laws
pub mod Demands
