-- from what the machine and the search for faults answer to the steps of a text, or its fault
pub mod Answering
-- the tree and the fault are determined by the tokens, and there are not both
pub mod Determined
-- the number of a code that a token decides determines the code
pub mod Codes
-- what is built of the steps of a derivation is what its tokens spell
pub mod Valued
-- the longest front of tokens that begins a text
pub mod Fronts
-- tokens have at most one derivation from a nonterminal
pub mod Unique
-- one step of the pass over the steps
pub mod Steps
-- where faults stand
pub mod Standings
-- the least of the faults that count
pub mod Firsts
-- of the faults that steps tell, those that a token decides are told by the steps up to that token
pub mod Prefix
-- two derivations of texts that begin with the same tokens begin with the same steps
pub mod Agreeing
-- a production of a grammar that the program holds
pub mod Productions
-- the faults that the steps of a derivation tell are those of the derivation
pub mod Scanning
-- what the program keeps of a level tells what the level tells
pub mod Levels
