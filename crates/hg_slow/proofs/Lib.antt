pub mod Answering
pub mod Loops
pub mod Premises
pub mod ReadSelects
pub mod ReadTrees
pub mod Turns
