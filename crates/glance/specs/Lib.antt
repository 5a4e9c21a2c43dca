pub mod Glance
pub mod Steps
