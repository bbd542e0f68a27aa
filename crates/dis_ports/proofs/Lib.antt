pub mod OptionBound
pub mod TcpLemmas
pub mod UdpLemmas
