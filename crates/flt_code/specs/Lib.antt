pub mod Code
pub mod Decides
pub mod Laws
pub mod Owners
