pub mod Firsts
pub mod Found
pub mod Laws
pub mod Outlines
pub mod Picks
pub mod Readers
pub mod Sources
