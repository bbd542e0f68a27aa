pub mod Bare
pub mod Shown
pub mod Texts
