pub mod Pages
pub mod Ending
pub mod Growing
pub mod Filling
pub mod Places
