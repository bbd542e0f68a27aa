-- What the parser's own functions cite, and no public contract.
pub mod Answers
pub mod Lexemes
pub mod Reading
pub mod States
