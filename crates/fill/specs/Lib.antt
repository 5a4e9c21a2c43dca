pub mod Runs
pub mod Filling
pub mod Steps
pub mod Places
