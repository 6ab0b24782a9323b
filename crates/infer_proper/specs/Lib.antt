pub mod Formed
pub mod Simple
pub mod Annotations
-- interfaces that can be trusted, and what a module is compiled in
pub mod Sound
-- each of these facts has one proof at most
pub mod Props
