pub mod FaultTexts
pub mod Closing
