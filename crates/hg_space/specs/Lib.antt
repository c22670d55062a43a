pub mod PageMap
pub mod PageLaws
pub mod Bits
pub mod Summary
pub mod Shown
pub mod ShownLaws
