pub mod Exact
pub mod Lasts
pub mod Places
pub mod Keys
pub mod Firsts
