-- Written by tools/make_protocols from tools/protocols.txt.
pub mod Dhcp
pub mod DhcpOptions
pub mod Ntp
