pub mod CalmLemmas
pub mod NoteLemmas
pub mod PacketLemmas
pub mod ToldLemmas
pub mod TotalsLemmas
pub mod WantedLemmas
