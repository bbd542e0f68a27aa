mod LiteralLemmas
pub mod MaskLemmas
