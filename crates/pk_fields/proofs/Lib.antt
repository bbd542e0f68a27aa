mod AddedLemmas
pub mod FieldSetLemmas
pub mod HalfLemmas
pub mod Names
pub mod Passes
pub mod Sound
