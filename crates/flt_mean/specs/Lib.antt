pub mod Joined
pub mod Laws
pub mod Meaning
pub mod Values
