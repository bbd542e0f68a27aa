pub mod Filters
pub mod Grammar
pub mod Letters
pub mod Strings
pub mod Tokens
pub mod Written
