pub mod Refs
pub mod Lists
pub mod Looking
pub mod Tables
pub mod Adding
pub mod Once
pub mod Proper
pub mod Written
pub mod Keeping
pub mod Reading
pub mod Stepping
pub mod Grouping
pub mod Reopened
pub mod Ending
pub mod Beginning
pub mod Saying
pub mod Stopping
-- the first entry of a name
pub mod InferKnownLooking
-- types of constructors
pub mod Making
-- types that can be written into a store
pub mod Writing
-- the types of annotations have no constants
pub mod InferModulesWritten
