pub mod ColumnLemmas
pub mod HeadersLemmas
pub mod JoinedLemmas
pub mod KeptLines
pub mod LineLemmas
pub mod PlaceLemmas
pub mod SummaryLemmas
