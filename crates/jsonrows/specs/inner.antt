pub mod SchemaReading
pub mod SchemaViews
pub mod SchemaPrinting
pub mod ValueJson
