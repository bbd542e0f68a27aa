pub mod Conversations
pub mod Laws
pub mod Linked
pub mod LinkTables
pub mod Links
pub mod Notes
