-- The heap, its calls and its collections: what a reader takes first.
pub mod Layout
pub mod Heap
pub mod Room
pub mod Steps
pub mod Closure
pub mod Runs
pub mod Cycles
pub mod Histories
pub mod Transcripts
-- What contracts of other crates cite.
pub mod Shapes
pub mod Ranges
pub mod Replies
pub mod SequentialObject
-- The laws.
pub mod Sound
pub mod Laws
pub mod Touching
pub mod PartialCycles
