pub mod Asked
pub mod Built
pub mod Plain
pub mod Steps
