mod LineLaws
pub mod InputLaws
pub mod LengthLaws
pub mod OneResult
