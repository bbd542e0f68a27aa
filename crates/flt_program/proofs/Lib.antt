pub mod AskedLemmas
pub mod ListingLemmas
pub mod PartLemmas
pub mod PatternLemmas
pub mod PrefixLemmas
pub mod RangeLemmas
pub mod ToldLemmas
