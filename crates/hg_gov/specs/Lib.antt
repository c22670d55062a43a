pub mod Rounds
pub mod Shown
