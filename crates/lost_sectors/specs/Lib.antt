-- which sectors have lost a page that a translation page names
pub mod Lost
pub mod Laws
