-- The elements of a schema can be written in a footer.
use Rattle.std.specs.Prelude.{IfSome}
use Rattle.std.specs.List.{AllByRecursion}
use Rattle.lists.proofs.Lists.{all_append as all_joined}
use Rattle.schema.specs.Annotations.{Annotation, plain, known, other_converted, other_logical, logical_struct}
use Rattle.schema.specs.Shape.{Field, leaf, fields, Fields, no_fields, field}
use Rattle.schema.specs.Listed.{listing, listings, elements_of}
use Rattle.schema.specs.Law.{IsWritable, KeepsWritable, IsValid, AreValid, IsSchema}
use Rattle.metadata.specs.Kept.{KeepsWritten}

kept_writable : (a : Annotation) → KeepsWritable a → IfSome (logical_struct a) IsWritable
kept_writable plain h = tt
kept_writable (known c) h = tt
kept_writable (other_converted z) h = tt
kept_writable (other_logical s) h = h.0

mutual
  writable_below : (f : Field) → IsValid f → AllByRecursion KeepsWritten (listing f)
  writable_below (leaf n r t) h = (kept_writable t.annotation h.keeps, tt)
  writable_below (fields n r a fs) h = (tt, writable_each fs h.1)

  writable_each : (fs : Fields) → AreValid fs → AllByRecursion KeepsWritten (listings fs)
  writable_each no_fields h = tt
  writable_each (field f fs) h = all_joined KeepsWritten (listing f) (listings fs) (writable_below f h.0) (writable_each fs h.1)

pub elements_writable : (fs : Fields) → IsSchema fs → AllByRecursion KeepsWritten (elements_of fs)
elements_writable fs h = (tt, writable_each fs h.1)
