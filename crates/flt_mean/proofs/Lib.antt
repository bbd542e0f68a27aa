pub mod JoinedLemmas
pub mod KeptMeaning
