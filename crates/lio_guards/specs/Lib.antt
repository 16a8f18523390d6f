pub mod Class
pub mod Width
pub mod Guard
pub mod Laws
