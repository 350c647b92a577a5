mod Called
pub mod Answered
mod OneByOne
mod Wanted
mod Selected
mod FirstOf
mod Batched
pub mod OkThen
mod GatheredLines
mod Counted
mod UnlessThere
mod Renewed
mod PartsGiven
mod FilesOfQuery
mod ToldColumns
mod Restyled
pub mod FirstKept
mod RowsAppended
mod FilesGathered
