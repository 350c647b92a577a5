use Rattle.std.proofs.Common.{refl, arith}
use Rattle.clap.proofs.CountText.{decimal-count_text}
use Rattle.program.proofs.refusal_line.line_of.Goals as goal

pub returns-in-Truncated : goal.returns-in-Truncated
returns-in-Truncated c = rw (c.in-Truncated.is, decimal-count_text 1 (omega arith)) refl

pub returns-in-Magic : goal.returns-in-Magic
returns-in-Magic c = rw (c.in-Magic.is, decimal-count_text 2 (omega arith)) refl

pub returns-in-Thrift : goal.returns-in-Thrift
returns-in-Thrift c = rw (c.in-Thrift.is, decimal-count_text 3 (omega arith)) refl

pub returns-in-Schema : goal.returns-in-Schema
returns-in-Schema c = rw (c.in-Schema.is, decimal-count_text 4 (omega arith)) refl

pub returns-in-Codec : goal.returns-in-Codec
returns-in-Codec c = rw (c.in-Codec.is, decimal-count_text 5 (omega arith)) refl

pub returns-in-Float : goal.returns-in-Float
returns-in-Float c = rw (c.in-Float.is, decimal-count_text 6 (omega arith)) refl

pub returns-in-Int96 : goal.returns-in-Int96
returns-in-Int96 c = rw (c.in-Int96.is, decimal-count_text 7 (omega arith)) refl

pub returns-in-Encoding : goal.returns-in-Encoding
returns-in-Encoding c = rw (c.in-Encoding.is, decimal-count_text 8 (omega arith)) refl

pub returns-in-Page : goal.returns-in-Page
returns-in-Page c = rw (c.in-Page.is, decimal-count_text 9 (omega arith)) refl

pub returns-in-Levels : goal.returns-in-Levels
returns-in-Levels c = rw (c.in-Levels.is, decimal-count_text 10 (omega arith)) refl

pub returns-in-Value : goal.returns-in-Value
returns-in-Value c = rw (c.in-Value.is, decimal-count_text 11 (omega arith)) refl

pub returns-in-Utf8 : goal.returns-in-Utf8
returns-in-Utf8 c = rw (c.in-Utf8.is, decimal-count_text 12 (omega arith)) refl

pub returns-in-Limit : goal.returns-in-Limit
returns-in-Limit c = rw (c.in-Limit.is, decimal-count_text 13 (omega arith)) refl

pub returns-in-RowShape : goal.returns-in-RowShape
returns-in-RowShape c = rw (c.in-RowShape.is, decimal-count_text 14 (omega arith)) refl

pub returns-in-NoColumn : goal.returns-in-NoColumn
returns-in-NoColumn c = rw (c.in-NoColumn.is, decimal-count_text 15 (omega arith)) refl

pub returns-in-Unordered : goal.returns-in-Unordered
returns-in-Unordered c = rw (c.in-Unordered.is, decimal-count_text 16 (omega arith)) refl

pub returns-in-Key : goal.returns-in-Key
returns-in-Key c = rw (c.in-Key.is, decimal-count_text 17 (omega arith)) refl

pub returns-in-NoGroup : goal.returns-in-NoGroup
returns-in-NoGroup c = rw (c.in-NoGroup.is, decimal-count_text 18 (omega arith)) refl

pub returns-in-Stale : goal.returns-in-Stale
returns-in-Stale c = rw (c.in-Stale.is, decimal-count_text 19 (omega arith)) refl

pub returns-in-NoJob : goal.returns-in-NoJob
returns-in-NoJob c = rw (c.in-NoJob.is, decimal-count_text 20 (omega arith)) refl

pub returns-in-NoCursor : goal.returns-in-NoCursor
returns-in-NoCursor c = rw (c.in-NoCursor.is, decimal-count_text 21 (omega arith)) refl

pub returns-in-Full : goal.returns-in-Full
returns-in-Full c = rw (c.in-Full.is, decimal-count_text 22 (omega arith)) refl

pub returns-in-NoTable : goal.returns-in-NoTable
returns-in-NoTable c = rw (c.in-NoTable.is, decimal-count_text 23 (omega arith)) refl

pub returns-in-Exists : goal.returns-in-Exists
returns-in-Exists c = rw (c.in-Exists.is, decimal-count_text 24 (omega arith)) refl

pub returns-in-Device : goal.returns-in-Device
returns-in-Device c = rw (c.in-Device.is, decimal-count_text 25 (omega arith)) refl

pub returns-in-InDoubt : goal.returns-in-InDoubt
returns-in-InDoubt c = rw (c.in-InDoubt.is, decimal-count_text 26 (omega arith)) refl

pub returns-in-Closed : goal.returns-in-Closed
returns-in-Closed c = rw (c.in-Closed.is, decimal-count_text 27 (omega arith)) refl

pub returns-in-Memory : goal.returns-in-Memory
returns-in-Memory c = rw (c.in-Memory.is, decimal-count_text 28 (omega arith)) refl

pub returns-in-Script : goal.returns-in-Script
returns-in-Script c = rw (c.in-Script.is, decimal-count_text 29 (omega arith)) refl
