pub mod Clock
pub mod Looks
pub mod Sweep
