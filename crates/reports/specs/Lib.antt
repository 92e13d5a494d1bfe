pub mod Input
pub mod Texts
pub mod Lines
pub mod Refusals
