pub mod Constants
pub mod Layers
pub mod Literals
pub mod Ranges
pub mod Standing
pub mod Terms
pub mod Texts
pub mod Typing
