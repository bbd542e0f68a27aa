pub mod ChainLemmas
pub mod SizeLemmas
