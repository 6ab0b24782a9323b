-- how long texts are
pub mod Lengths
-- how long what stands round expressions is
pub mod Frames
-- names that are made
pub mod Anywhere
-- how long operations are
pub mod Operations
-- how long expressions are
pub mod Expressions
-- how long what crosses a port is
pub mod Payloads
-- how long lines are
pub mod Lines
-- all of a program
pub mod Programs
-- a worked program
mod Samples
pub mod Uses
pub mod Assigned
pub mod Parts
pub mod Functions
pub mod Bound
pub mod Words
pub mod Choices
pub mod Spelled
pub mod Codecs
pub mod EmitSubsetLawsLines
pub mod EmitSubsetLawsSamples
