pub mod Listing
pub mod Soundness
