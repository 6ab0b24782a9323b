-- what parts and numbers tell
pub mod View
-- the core library, one module after another
pub mod Library
-- what holds of the modules of each build
pub mod Laws
-- the modules of a build, in order, and what each compiles to
pub mod Modules
-- the outcome of a build
pub mod Outcomes
-- small projects, worked out
pub mod Examples
