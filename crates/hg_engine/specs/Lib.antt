pub mod Work
pub mod Standing
pub mod Steps
pub mod Stepping
pub mod Shown
pub mod ShownLaws
pub mod Opened
