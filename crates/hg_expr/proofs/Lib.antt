mod Nodes
mod Bounds
mod Fitting
mod Holding
mod Telling
mod Marking
mod TableRows
