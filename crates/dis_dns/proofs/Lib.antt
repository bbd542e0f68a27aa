pub mod ChainLemmas
pub mod CollectedLemmas
pub mod DnsFits
pub mod LeavingLaw
pub mod MdnsFits
pub mod NameLaw
pub mod NameLemmas
pub mod TextLemmas
