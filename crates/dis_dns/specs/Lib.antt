pub mod Chains
pub mod Collected
pub mod Dns
pub mod Fields
pub mod Names
pub mod Records
pub mod Texts
