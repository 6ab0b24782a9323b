pub mod Names
pub mod Unions
pub mod Tree
pub mod View
pub mod Examples
pub mod Spelled
pub mod Constructors
pub mod Proper
pub mod Declarations
pub mod Mentions
pub mod Apart
-- what `map` does with what ports made
pub mod Maps
-- trees that leave it so everywhere else
pub mod Obeys
