pub mod Command
pub mod Given
pub mod Clap
pub mod Examples
pub mod Laws
