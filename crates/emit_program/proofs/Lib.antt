-- ports in order
pub mod Order
-- lines that go on
pub mod Growing
-- lines one after the other
pub mod Joined
-- ports in order
pub mod Ordered
-- the line of `_main`, piece by piece
pub mod Pieces
