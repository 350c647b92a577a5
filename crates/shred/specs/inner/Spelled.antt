-- A value that is put in PLAIN after the bytes of others.
use Rattle.std.specs.Prelude.{◌≡◌, ℕ, Bool, true, false, List, ◌++◌}
use Rattle.schema.specs.declared.value.Kind.{Kind}
use Rattle.schema.specs.Values.{ValueTree}
use Rattle.plain.specs.Plain.{HasSpelling, spelling}

-- true: the bytes of a value in PLAIN are put after the others; false: the others stay as they are
abbrev pub IsSpelledIf : Bool → Kind → ValueTree → List ℕ → List ℕ → Type 0
IsSpelledIf true kind v old new = HasSpelling kind v × (new ≡ old ++ spelling kind v)
IsSpelledIf false kind v old new = new ≡ old
