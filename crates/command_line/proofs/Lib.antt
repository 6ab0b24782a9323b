-- what clap makes of the words of a process, by `specs/Given.antt`
pub mod Line
-- what clap makes of the words of a subcommand, by `specs/Given.antt`
pub mod Leaf
-- the numbers of a command lie within their bounds
pub mod Bounds
-- what `parse` reads, by the test that `specs/Command.antt` makes
pub mod NumberLemmas
