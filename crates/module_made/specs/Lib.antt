-- what a module is compiled in
pub mod Around
-- what a module compiles to
pub mod Made
-- small modules, worked out
pub mod Examples
