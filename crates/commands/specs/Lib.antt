-- the promise of `top`
pub mod Promise
-- what a command does if nothing fails
pub mod Effect
-- why it was not done, and what is printed then
pub mod Causes
-- what a report does to a sink
pub mod Report
-- what the files and the sinks tell at one moment
pub mod Outside
