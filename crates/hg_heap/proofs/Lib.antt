pub mod Walking
pub mod Outs
pub mod Frames
pub mod Mapping
pub mod Looking
pub mod Turns
pub mod Locks
