pub mod Back
pub mod Forward
pub mod Laws
pub mod Messages
pub mod Named
pub mod Others
pub mod Replies
pub mod Stands
