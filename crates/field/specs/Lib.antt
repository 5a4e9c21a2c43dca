pub mod Field
pub mod Finding
