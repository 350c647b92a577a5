pub mod Staging
pub mod Completing
pub mod Rewritten
pub mod Regathering
pub mod Rests
