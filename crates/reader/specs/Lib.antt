pub mod Header
pub mod Take
