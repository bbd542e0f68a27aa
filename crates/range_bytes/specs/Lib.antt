pub mod Held
pub mod Pieces
pub mod Joined
pub mod LetGo
