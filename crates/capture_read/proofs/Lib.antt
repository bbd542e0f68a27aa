mod FillSteps
mod HeldParts
mod FormatSteps
pub mod FrameBounds
mod HereSteps
pub mod KnownBlocks
pub mod Limit
mod PieceBounds
pub mod PieceSteps
mod ReaderBounds
mod ReaderSteps
mod ReaderTurns
mod SameSteps
pub mod SmallTimes
pub mod TakenLemmas
