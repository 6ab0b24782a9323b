-- types with the levels that are left
pub mod Within
-- types that are told by their names
pub mod Plain
-- types at the front of nodes
pub mod Front
-- parts and fields, one after the other
pub mod Parts
-- how many types are still to come
pub mod Lasting
-- fields of records among flags
mod Ascending
