-- where trees begin, as nodes come
pub mod Linked
-- spellings, computed
pub mod Examples
-- bytes stop to be a text at exactly one place
pub mod Places
-- reading is exact
pub mod Exact
-- the text of an expression, of statements and of a program is read to its end, as that
pub mod CompleteTree
-- the text of a program is read to its end, as that program
pub mod Complete
-- where the reader is not dead, what has been read begins the text of a program
pub mod Viable
-- what has been read begins the text of a program
pub mod Plugs
-- what has been read stays spelled
pub mod StepFits
-- each character goes to what has been read
pub mod Steps
-- what has been read where a state is reached, as text, and that it is spelled
pub mod Fronts
-- what has been read of a name is its text so far, and is spelled
pub mod NameFronts
-- what has been read of a name, as text, and whether a name that can be spelled begins so
pub mod NameTexts
