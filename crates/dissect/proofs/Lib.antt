mod AloneLemmas
mod Asked
mod ButNumbers
mod Chains
mod DatagramLemmas
mod FedLemmas
mod FirstHead
mod FramesAside
pub mod FramesJoined
mod FramesTold
mod HeadWords
mod HeaderLayers
mod HeldBytes
mod Isolating
mod Joining
mod KeepingLemmas
mod Kept
pub mod LayerProtocols
mod LeftOut
mod MessagesFit
mod MessagesPassed
mod MessagesTold
mod Numbering
mod NumbersAside
mod OnWay
mod Opens
mod Passing
mod PlainHeads
mod PlainNotes
mod PlainRead
mod PlainWay
pub mod RuleEvents
mod SameValues
mod SegmentHeads
mod Segmenting
mod Shrinking
mod Spaces
mod StreamsKept
mod StreamsTold
mod StretchBytes
mod Taken
mod TakenOut
mod Tellings
mod Told
pub mod TreeMessages
mod Unlinked
mod Unnumbered
