pub mod Payloads
-- types as annotations, and what crosses a port
pub mod EntryTypePayloads
-- what the type of a program's `main` says
pub mod Entry
-- types whose nodes stand in turn
pub mod Fronts
-- a few types, worked out
pub mod Examples
