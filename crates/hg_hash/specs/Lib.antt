pub mod Buckets
pub mod Chains
pub mod Names
pub mod Tables
pub mod Changing
pub mod Following
pub mod Moving
pub mod Leading
