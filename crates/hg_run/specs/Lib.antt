pub mod Format
pub mod Layout
pub mod Runs
pub mod LayoutLaws
pub mod RunLaws
pub mod Calls
pub mod Kept
pub mod Steps
