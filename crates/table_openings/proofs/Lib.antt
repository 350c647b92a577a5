mod PathsApart
mod AfterCreations
mod NewTables
mod AfterOpenings
mod AfterReopenings
mod StartedStores
mod TablesFound
pub mod TablesInDoubt
