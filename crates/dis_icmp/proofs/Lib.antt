pub mod OptionBound
pub mod NeighLemmas
pub mod Whole
