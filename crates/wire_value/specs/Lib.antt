pub mod Wire
pub mod Exact
pub mod View
pub mod FromJson
pub mod Text
pub mod Within
pub mod Tasks
