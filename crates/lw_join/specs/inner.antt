pub mod Ends
pub mod Facets
pub mod Place
pub mod Room
