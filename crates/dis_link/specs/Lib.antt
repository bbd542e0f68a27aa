pub mod Arp
pub mod EtherTypes
pub mod Ethernet
pub mod Link
pub mod LinuxCooked
pub mod Null
pub mod Vlan
