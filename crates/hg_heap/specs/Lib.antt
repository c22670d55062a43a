pub mod Resting
pub mod Handing
pub mod Relocating
pub mod Locking
