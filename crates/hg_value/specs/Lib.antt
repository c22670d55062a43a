pub mod Coding
pub mod Comparing
pub mod Keys
pub mod Hashing
pub mod Laws
pub mod RowParts
pub mod Looks
pub mod Choosing
