pub mod LinkKept
pub mod Whole
