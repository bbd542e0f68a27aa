mod BackLemmas
mod LinkKeys
mod LinkLemmas
pub mod LinkedLemmas
mod NoteBits
mod NoteLemmas
mod NumberedLemmas
mod ShownLemmas
