pub mod Alike
pub mod Pairs
