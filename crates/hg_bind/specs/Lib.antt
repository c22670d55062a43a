pub mod Bound
pub mod BoundMeaning
pub mod BoundSelect
pub mod Kinds
pub mod Laws
pub mod Selecting
