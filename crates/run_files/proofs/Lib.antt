-- the run of a program's text, once it was read
pub mod Sources
-- one input of a run of which a front part was put
pub mod Giving
-- a run of which a front part was put
pub mod Remains
-- what an answer leaves
pub mod Answers
-- what a line gives, and lines one after the other
pub mod Inputs
-- where texts are cut
pub mod Cutting
