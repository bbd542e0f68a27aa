-- Written by tools/make_protocols from tools/protocols.txt.
pub mod DhcpFits
pub mod DhcpLemmas
pub mod OptionBound
pub mod Whole
pub mod WholeOptions
