pub mod Alone
pub mod OneHeap
