-- each text and character among the tokens spells its value
pub mod Spelled
-- a character has one code
pub mod Single
-- what the scan of escapes accepts is spelled in the language's words
pub mod Scanned
-- each text and character among the tokens is a literal
pub mod Values
-- each text has a list of tokens or a fault
pub mod Total
-- each name without points among the tokens is a word
pub mod Names
-- the loop over a text
pub mod Loop
-- a text has one list of tokens and one end of it
pub mod Same
-- numbers
pub mod Numbers
-- what one turn of the program says of the tokens and the fault
pub mod Steps
-- one turn of the scans of literals
pub mod Scans
-- one turn of the walks over the characters of a text
pub mod Walks
-- what a text begins with is what the program finds, and what a token is
pub mod Starts
-- where literals end
pub mod Ends
-- what follows a gap or a piece of a text is a text
pub mod Texts
-- the length that the program finds is that of the longest piece
pub mod Pieces
-- how far a run of characters and a name go, in bytes
pub mod Runs
-- block comments and gaps
pub mod Blocks
-- tests and fronts of lists
pub mod Basics
