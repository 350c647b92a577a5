-- Which kept structs of a schema's elements can be written again in a footer, where they are three levels down.
use Rattle.std.specs.Prelude.{IfSome}
use Rattle.std.specs.List.{AllByRecursion}
use Rattle.schema.specs.Elements.{Element}
use Rattle.schema.specs.Law.{IsWritable}
use Rattle.metadata.specs.Records.{FileMeta}

-- the struct that an element keeps, where it keeps one, nests at most 29 deep, and some bytes have it
abbrev pub KeepsWritten : Element → Type 0
KeepsWritten e = IfSome e.logical_type IsWritable

-- each struct that an element of the footer's schema keeps nests at most 29 deep, and some bytes have it
abbrev pub EachKeepsWritten : FileMeta → Type 0
EachKeepsWritten m = AllByRecursion KeepsWritten m.schema
