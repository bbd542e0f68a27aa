pub mod HttpLemmas
pub mod RowLemmas
pub mod LayerLemmas
pub mod RowsLawProofs
