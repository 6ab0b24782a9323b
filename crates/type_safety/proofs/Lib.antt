-- groups of functions
pub mod Groups
-- from a scope to another
pub mod Transfers
-- the groups of a `let`
pub mod Stagings
pub mod Orders
pub mod Annotated
pub mod Lets
pub mod Destructured
-- whole expressions
pub mod Mapped
pub mod Progress
-- whole modules
pub mod Modules
-- an expression worked out
pub mod SampleExpression
-- shapes of a type, and patterns that leave nothing out
pub mod TypedShapes
pub mod Exhaustive
-- single steps
pub mod Sound
-- some pattern matches
pub mod Matching
-- covered sites make resolved expressions simple
pub mod Covering
