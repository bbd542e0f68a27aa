pub mod Called
pub mod Keys
pub mod Needles
pub mod Pairs
pub mod Passes
pub mod Questions
pub mod Walks
