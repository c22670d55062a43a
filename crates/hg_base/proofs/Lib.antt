pub mod PlainSteps
pub mod PlainHeaps
pub mod PlainGrowth
pub mod PlainTargets
pub mod PlainDrops
pub mod PlainPlacing
pub mod PlainDraining
