pub mod Modules
pub mod Counted
pub mod Inside
pub mod Laws
pub mod Declarations
pub mod Records
