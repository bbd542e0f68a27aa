pub mod Blocks
pub mod Interface
pub mod Options
pub mod Pcap
pub mod Sections
pub mod Ticks
