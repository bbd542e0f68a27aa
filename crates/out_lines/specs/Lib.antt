pub mod Columns
pub mod Follow
pub mod Joined
pub mod Laws
pub mod Lines
pub mod Places
pub mod Summary
pub mod ValueText
