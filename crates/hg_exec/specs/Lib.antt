pub mod Joins
pub mod Standing
pub mod Turning
pub mod Entering
pub mod Beginning
pub mod Meaning
pub mod Planned
