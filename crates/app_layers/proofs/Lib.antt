pub mod Behind
mod DataLemmas
mod DnsFraming
mod FramePassed
mod HeadLemmas
mod HttpUnasked
pub mod KeptHeads
pub mod KeptMessages
pub mod KeptPayloads
pub mod MessageBuffers
mod MessageLemmas
pub mod MessagesAside
pub mod RowLemmas
pub mod StreamApps
pub mod ToldHeads
pub mod WantedMessages
