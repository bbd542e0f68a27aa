pub mod Buffers
pub mod Entries
pub mod FieldValues
pub mod Following
pub mod Layouts
pub mod Tables
pub mod Trees
pub mod Values
