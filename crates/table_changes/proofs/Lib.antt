mod GatheredChecks
mod RowsGathered
pub mod AppendChecks
mod NotInDoubt
pub mod AppendEnds
mod ImportEnds
mod OpenOverMoreColumns
mod ColumnsAdded
mod WhatRemains
mod AbsentParts
mod ReplacingOneGroup
mod RemovalEnds
mod GroupsReplaced
mod GroupsJudged
mod RemovalChecks
mod GroupsForeseen
mod NothingWritten
mod RootsForeseen
