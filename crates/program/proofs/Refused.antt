-- What two texts are refused for: a line of the one, or all rows together.
use Rattle.std.proofs.Common.{◌≡◌, ◌⊎◌, inl, inr, ℕ, Bool, List, Result, Ok, Err, refl, subst}
use Rattle.std.specs.Prelude.{IfErr, OnOk}
use Rattle.std.specs.Str.Lines.{lines}
use Rattle.bits.specs.declared.refusal.Refusal.{Refusal}
use Rattle.bits.specs.declared.refusal.Refusal.TheVariants.{RowShape, Script, Limit, Memory, Exists, Device}
use Rattle.bits.specs.Refusals.{HasCause}
use Rattle.schema.specs.Values.{ValueTrees}
use Rattle.schema.specs.Shape.{Fields}
use Rattle.footer.specs.declared.options.WriteOptions.{WriteOptions}
use Rattle.footer.specs.Writing.{IsOutOfRange}
use Rattle.jsonrows.specs.SchemaJson.{IsSchemaText}
use Rattle.program.specs.Program.{AreRowTexts, HasFirstFault, AreRefusedTexts, AreNotWritten}
use Rattle.program.specs.inner.Lines.{IsLinesRefusal}
use Rattle.program.proofs.Endings.{memory_or}

-- the first line that is refused
pub by_line : (with_texts : Bool) (options : WriteOptions) (schema_text rows_text : List ℕ) (fs : Fields) (e : Refusal) → IsSchemaText schema_text fs → HasCause (HasFirstFault with_texts fs (lines rows_text)) e → AreRefusedTexts with_texts options schema_text rows_text e
by_line with_texts options schema_text rows_text fs RowShape says h = (fs, says, h)
by_line with_texts options schema_text rows_text fs Script says h = inr (fs, says, h)
by_line with_texts options schema_text rows_text fs Memory says h = tt
by_line with_texts options schema_text rows_text fs e says h = absurd h.refused

-- rows that are too much, where all lines are rows
pub too_much : {X : Type 0} (with_texts : Bool) (options : WriteOptions) (schema_text rows_text : List ℕ) (fs : Fields) (r : Result X Refusal) → r ≡ Err Limit → IsSchemaText schema_text fs
    → (rows : List ValueTrees) × AreRowTexts with_texts fs (lines rows_text) rows → IfErr r (IsLinesRefusal with_texts fs options (lines rows_text)) → AreNotWritten with_texts options schema_text rows_text
too_much with_texts options schema_text rows_text fs r is says read h =
    let why = subst (λ (s : Result _ Refusal). IfErr s (IsLinesRefusal with_texts fs options (lines rows_text))) is h in
    record { fs = fs; rows = read.0; schema = says; read = read.1; why = why read.0 read.1 }

-- options that are out of range
pub stopped_at_once : (with_texts : Bool) (fs : Fields) (options : WriteOptions) (texts : List (List ℕ)) (e : Refusal) → HasCause (λ x. x ≡ Limit) e → (e ≡ Limit → IsOutOfRange options) → IsLinesRefusal with_texts fs options texts e
stopped_at_once with_texts fs options texts e h out = elim (memory_or (λ x. x ≡ Limit) e h) [ inl m ↦ rw m tt | inr l ↦ rw l (λ rows read. inl (out l)) ]
