pub mod Code
pub mod Fault
pub mod Path
pub mod Reserved
pub mod Units
pub mod Quoted
