mod BlockBack
pub mod FitLaws
pub mod HeldLaws
pub mod KeptLaws
pub mod LinkLaws
pub mod MadeLengths
pub mod NumberLaws
mod PacketBack
mod PcapBack
mod PcapngBack
pub mod Sending
mod Steps
