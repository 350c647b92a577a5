-- What the program's values say of a schema, apart from where they lie in memory.
use Rattle.std.specs.Prelude.{◌≡◌, Bool, true, false, List, map, ◌++◌, Option, Some, None, option_map}
use Rattle.schema.specs.Elements.{element_view}
use Rattle.jsonrows.specs.declared.schema_notes.Note.{Note as CodeNote}
use Rattle.jsonrows.specs.declared.schema_elements.Said.{Said as CodeSaid}
use Rattle.jsonrows.specs.inner.SchemaReading.{Note, Said}

-- what the program's value says of a note
abbrev pub note_view : CodeNote → Note
note_view n = record { converted = n.converted; logical = option_map (λ s. s.items) n.logical }

-- what the program's value says that the object of a field says
abbrev pub said_view : CodeSaid → Said
said_view s = record { element = element_view s.element; logical = option_map (λ b. b.items) s.logical }

-- what the program's values say that objects of fields say, one for each and in their order
abbrev pub saids : List CodeSaid → List Said
saids all = map said_view all

-- true: what the objects say is appended to the old list; false: they are not of the form, and say nothing
abbrev pub Says : List Said → List Said → Bool → Option (List Said) → Type 0
Says old new true said = Some new ≡ option_map (λ more. old ++ more) said
Says old new false said = None ≡ said
