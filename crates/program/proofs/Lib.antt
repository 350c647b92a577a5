pub mod Rows
pub mod Told
pub mod Refused
pub mod Printed
pub mod Footers
pub mod CommandLines
pub mod Endings
pub mod TextLines
mod Copied
