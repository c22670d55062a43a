pub mod Slotted
pub mod Writing
pub mod Changing
