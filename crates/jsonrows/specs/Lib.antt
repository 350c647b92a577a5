pub mod SchemaJson
pub mod SchemaPrinted
pub mod Filters
pub mod Answers
pub mod GroupColumns
pub mod Calls
pub mod Scripts
pub mod inner
