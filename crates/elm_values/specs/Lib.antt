pub mod Stack
pub mod Used
pub mod Building
