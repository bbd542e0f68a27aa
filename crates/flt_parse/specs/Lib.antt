pub mod Laws
pub mod Longest
pub mod Parser
