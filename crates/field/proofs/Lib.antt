pub mod Steps
pub mod Finding
