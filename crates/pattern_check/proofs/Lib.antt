pub mod Members
pub mod Rows
pub mod Heads
pub mod Where
pub mod Sound
pub mod Complete
pub mod Reported
pub mod Flattened
pub mod Lists
pub mod Listing
pub mod Searching
pub mod Checked
pub mod Building
pub mod Reporting
pub mod Writing
pub mod Skipping
-- one expression, branch, group or function more
pub mod Adding
pub mod Linking
pub mod Covered
-- where patterns begin
pub mod Placing
