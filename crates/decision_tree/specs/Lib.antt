pub mod Views
pub mod Marks
pub mod Run
pub mod Before
pub mod Opened
pub mod Placed
