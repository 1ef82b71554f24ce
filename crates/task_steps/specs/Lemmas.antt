-- What the law of the search stands on. These lemmas stand here and not in proofs/, since the law
-- is a part of what the calls promise, and such a part cites definitions and lemmas of specs/
-- alone.
pub mod LawfulPasses
pub mod TaskCuts
pub mod Reasons
pub mod Columns
pub mod TaskChunks
pub mod Bounds
pub mod Boxes
pub mod NoColumns
pub mod Working
pub mod Counts
pub mod ChunkWork
pub mod CutWords
pub mod CutChunks
pub mod DiveChunks
pub mod Calls
pub mod Beginning
pub mod NameCounts
pub mod Entries
pub mod Fitting
pub mod Sounds
pub mod Owing
pub mod Joining
pub mod Standings
pub mod Histories
pub mod Agreeing
