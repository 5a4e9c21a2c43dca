pub mod Runs
pub mod Trees
pub mod Rows
pub mod Places
