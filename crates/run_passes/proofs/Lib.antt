pub mod FaultLemmas
mod FrontLemmas
mod KeepLemmas
pub mod Together
pub mod TwiceLemmas
pub mod WayLemmas
