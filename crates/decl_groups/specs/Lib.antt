pub mod Groups
pub mod Search
pub mod Placing
pub mod Examples
pub mod InOrder
pub mod View
pub mod Orders
-- a walk along uses
pub mod Walk
