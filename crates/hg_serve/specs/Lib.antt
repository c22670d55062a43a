pub mod Asking
pub mod Output
pub mod Session
pub mod Serving
pub mod Ending
pub mod Run
pub mod Number
