mod ClosingLemmas
mod EnoughLemmas
mod FollowLemmas
mod JsonLemmas
mod LineLemmas
mod ProtocolLemmas
mod ReportLemmas
pub mod StatsLemmas
mod SummaryLemmas
