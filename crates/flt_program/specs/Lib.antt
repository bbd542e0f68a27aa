pub mod Asked
pub mod Listing
pub mod Literals
pub mod Parts
pub mod Programs
pub mod Sources
pub mod Told
