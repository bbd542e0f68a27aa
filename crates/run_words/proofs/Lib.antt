mod EitherLemmas
pub mod PlanLemmas
mod ReasonLemmas
pub mod TruthLemmas
mod WordLemmas
