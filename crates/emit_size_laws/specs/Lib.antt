-- outputs that are not huge
pub mod Small
pub mod Programs
