mod Digits
mod Lengths
mod KeyOrder
mod Codings
mod Beginnings
mod Rows
mod Reading
mod Chosen
