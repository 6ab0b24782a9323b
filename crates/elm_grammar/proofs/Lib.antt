-- what the search finds is a derivation, and what it computes is the value of one
pub mod Found
-- each derivation has a value of the kind of its nonterminal
pub mod Sense
-- what is shown of each value
pub mod Values
-- what each action makes
pub mod Making
-- along a derivation
pub mod Walking
