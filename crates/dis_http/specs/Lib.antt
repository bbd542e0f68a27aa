pub mod Heads
pub mod Http
pub mod Rows
pub mod Steps
