pub mod FetchesWithoutCursor
pub mod AfterEvents
pub mod SomethingOpens
pub mod SomethingEnds
mod ListedGroups
pub mod AppendsOpen
pub mod AbortsAndCloses
pub mod TermFaults
mod QueriesOpen
pub mod FilesLeftAlone
mod CutColumns
pub mod ReadsOfPassedGroups
pub mod GroupsAtPlaces
mod CursorsGoOn
pub mod AbsentFiles
mod MovedCursors
pub mod FetchesGoOn
pub mod CountedRows
pub mod CountingGroups
pub mod WholeRows
mod SourcePlaces
mod SourceRows
mod ShownRows
pub mod StoredColumns
mod PlacesOfColumns
