pub mod Tcp
pub mod TcpOptions
pub mod Udp
