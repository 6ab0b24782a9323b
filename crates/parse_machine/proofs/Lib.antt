-- what the place where the machine stopped says of the text
pub mod Stopping
-- a table that passes the test is a plan
pub mod Planning
-- the machine's state, and each of its steps
pub mod Running
-- what the machine keeps
pub mod Keeping
-- a token with which a symbol opens is read
pub mod Reaching
-- what is still to be read can be completed
pub mod Completion
-- what the machine selects is what stands in each derivation
pub mod Selection
-- where one token decides, it tells which production stands in a derivation
pub mod Opening
-- derivations as a stack machine goes through them
pub mod Stack
