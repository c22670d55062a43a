pub mod Over
pub mod Slots
pub mod Marks
pub mod Laws
pub mod Examples
