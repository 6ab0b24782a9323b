-- the promise is kept by each way in which a command ends
pub mod Kept
-- the ways of a build
pub mod Built
-- the ways of a run
pub mod Ran
-- the words and the files have one effect
pub mod Settled
-- texts that grew by a piece or by a part of one
pub mod Pieces
