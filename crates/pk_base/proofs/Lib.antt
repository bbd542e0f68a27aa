mod BitLemmas
pub mod Choices
pub mod JoinedBits
pub mod SameFront
