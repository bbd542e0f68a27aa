pub mod Ended
pub mod Noting
pub mod Passed
pub mod Reading
pub mod SoFar
pub mod Takeable
pub mod Taken
pub mod WrotePieces
