pub mod Faults
pub mod Sample
pub mod Serving
pub mod Telling
pub mod Differing
