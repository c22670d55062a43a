pub mod Answerable
pub mod Bound
pub mod SlowPlaces
pub mod SlowTables
