pub mod Blocks
pub mod Mutual
pub mod Cases
