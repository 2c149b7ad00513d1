pub mod Lanes
pub mod Place
pub mod Fetch
pub mod Names
pub mod Numbers
pub mod Cells
pub mod CellsLemmas
