pub mod Waiting
pub mod Performed
pub mod MadeArrows
pub mod MadeParts
