pub mod Compiled
pub mod ContainsLemmas
pub mod Decided
pub mod ExtremeLemmas
pub mod Never
pub mod Refused
pub mod SliceLemmas
