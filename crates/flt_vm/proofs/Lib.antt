pub mod ExtremeLists
pub mod FedLemmas
pub mod GivenLemmas
pub mod JoinLemmas
pub mod RunLemmas
pub mod StepLemmas
pub mod VerdictLemmas
