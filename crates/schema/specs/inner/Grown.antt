-- The last of some fields.
use Rattle.std.specs.Prelude.{◌≡◌}
use Rattle.schema.specs.declared.value.Repetition.TheVariants.{Optional}
use Rattle.schema.specs.Shape.{Fields, no_fields, field, repetition_of}

-- there is a last field, and it is OPTIONAL
abbrev pub EndsOptional : Fields → Type 0
EndsOptional no_fields = ⊥
EndsOptional (field f no_fields) = repetition_of f ≡ Optional
EndsOptional (field f (field g fs)) = EndsOptional (field g fs)
