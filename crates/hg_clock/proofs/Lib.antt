pub mod Cases
pub mod Chains
pub mod Looking
pub mod Places
pub mod Sweeps
pub mod Victims
