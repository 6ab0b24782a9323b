pub mod Parts
pub mod Programs
pub mod Primitives
pub mod Told
pub mod Example
-- commands and subscriptions of ports
pub mod Ports
-- declarations that leave them so, with what they use
pub mod Leaving
-- modules that leave commands and subscriptions as ports made them
pub mod Signs
