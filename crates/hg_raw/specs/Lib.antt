pub mod ChainParts
pub mod Frames
pub mod Lending
pub mod Links
pub mod Memory
pub mod PageParts
pub mod RegionParts
pub mod Shells
