pub mod Icmp
pub mod Icmp6
pub mod Igmp
pub mod Neigh
pub mod NeighOptions
