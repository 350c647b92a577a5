-- Rows that are taken one by one.
use Rattle.std.proofs.Common.{◌≡◌, ◌-◌, ◌<◌, List, [], ◌∷◌, length, true, false, Some, Ok, refl, sym, ap, subst, ◌∙◌, arith}
use Rattle.bits.specs.Faults.{refusal_of}
use Rattle.bits.specs.declared.fault.Fault.{Fault}
use Rattle.bits.specs.declared.fault.Fault.TheVariants as fault
use Rattle.bits.specs.declared.refusal.Refusal.TheVariants.{Memory}
use Rattle.schema.specs.declared.row.Row.{Row}
use Rattle.schema.specs.Values.{ValueTrees}
use Rattle.schema.specs.Shape.{Fields}
use Rattle.schema.specs.Law.{IsSchema}
use Rattle.schema.specs.Views.{row_view}
use Rattle.assemble.specs.Sinks.{Token, Visits, tokens_each}
use Rattle.assemble.specs.RowsOf.{StandForRows, IsNextRow}
use Rattle.assemble.specs.Flat.{is_flat, OfFlatRows, ShowsFirst}
use Rattle.row_group.specs.declared.chunk_reader.ChunkReader.{ChunkReader}
use Rattle.row_group.specs.declared.rows.Rows.{Rows}
use Rattle.row_group.specs.Left.{chunk_stands, RowsStand, rows_stand, TakesRow, TakesRowTo}
use Rattle.row_group.proofs.GroupRows.{row_taken}

-- what stays, and what the readers are now
pub record IsNext (old new : Rows) (later : List ChunkReader) : Type 0 where
  pub schema : new.schema.now ≡ old.schema.now
  pub readers : new.readers.items ≡ later
  pub left : new.left ≡ old.left - 1
  pub whole : new.is_broken ≡ old.is_broken
  pub flat : new.is_flat ≡ old.is_flat

-- the other rows stand
others_stand : (old new : Rows) (later : List ChunkReader) → (old.left ≡ 0 → ⊥) → IsNext old new later → (row : ValueTrees) (rows rest : List ValueTrees) → rows_stand old rows → rows ≡ row ∷ rest → StandForRows chunk_stands later old.schema.now rest → rows_stand new rest
others_stand old new later some is row rows rest s split columns =
    let size = s.count in
    let more : length rows ≡ length (row ∷ rest) = ap (λ (r : List ValueTrees). length r) split in
    let left = is.left in
    record {
      whole = is.whole ∙ s.whole;
      schema = subst IsSchema (sym is.schema) s.schema;
      flat = is.flat ∙ s.flat ∙ ap is_flat (sym is.schema);
      count = omega (arith, size, more, left, some);
      columns = subst (λ (fs : Fields). StandForRows chunk_stands new.readers.items fs rest) (sym is.schema) (subst (λ (rs : List ChunkReader). StandForRows chunk_stands rs old.schema.now rest) (sym is.readers) columns);
    }

-- the row that was shown is the first of those that stood
pub takes_to : (from to : List Token → Type 0) (old new : Rows) (mid later : List ChunkReader) → (old.left ≡ 0 → ⊥) → mid ≡ old.readers.items → IsNext old new later
    → Visits from to tokens_each (IsNextRow chunk_stands old.schema.now mid later) → TakesRowTo (rows_stand old) (rows_stand new) from to (Ok true)
takes_to from to old new mid later some same is next = λ rows s.
    let stood = subst (λ (rs : List ChunkReader). StandForRows chunk_stands rs old.schema.now rows) (sym same) s.columns in
    let size = s.count in
    let row = next.0 in
    let t = row_taken old.schema.now s.schema mid later row rows (omega (arith, size, some)) next.1.0 stood in
    record { first = row; rest = t.0; split = t.1; stands = others_stand old new later some is row rows t.0 s t.1 t.2; shown = next.1.1 }

-- so it is of a flat schema
pub takes_flat : (from to : List Token → Type 0) (old new : Rows) (mid later : List ChunkReader) → (old.left ≡ 0 → ⊥) → old.is_flat ≡ true → mid ≡ old.readers.items → IsNext old new later
    → OfFlatRows chunk_stands mid (λ fs. ShowsFirst (StandForRows chunk_stands later fs) from to) → TakesRowTo (rows_stand old) (rows_stand new) from to (Ok true)
takes_flat from to old new mid later some flat same is next = λ rows s.
    let stood = subst (λ (rs : List ChunkReader). StandForRows chunk_stands rs old.schema.now rows) (sym same) s.columns in
    let size = s.count in
    let t = next old.schema.now rows (sym s.flat ∙ flat) stood (omega (arith, size, some)) in
    record { first = t.first; rest = t.rest; split = t.split; stands = others_stand old new later some is t.first rows t.rest s t.split t.stands; shown = t.shown }

-- a row is left, so that only memory is refused
pub only_memory : (old : Rows) (mid : List ChunkReader) (f : Fault) → (old.left ≡ 0 → ⊥) → mid ≡ old.readers.items
    → ((rows : List ValueTrees) → StandForRows chunk_stands mid old.schema.now rows → 0 < length rows → f ≡ fault.Memory) → (rows : List ValueTrees) → rows_stand old rows → refusal_of f ≡ Memory
only_memory old mid f some same known rows s =
    let size = s.count in
    ap refusal_of (known rows (subst (λ (rs : List ChunkReader). StandForRows chunk_stands rs old.schema.now rows) (sym same) s.columns) (omega (arith, size, some)))

-- where no row is left
pub takes_none : (from to : List Token → Type 0) (r : Rows) → r.left ≡ 0 → TakesRowTo (rows_stand r) (rows_stand r) from to (Ok false)
takes_none from to r zero = λ rows s.
    let none = empty rows (s.count ∙ zero) in
    (none, subst (RowsStand r) none s)
  where
    empty : (rows : List ValueTrees) → length rows ≡ 0 → rows ≡ []
    empty [] e = refl
    empty (x ∷ rows) e = absurd (omega (arith, e))

-- a row that was made of what a sink was shown is the first one
pub takes_made : (S T : List ValueTrees → Type 0) (from to : List Token → Type 0) (row : Row) → from [] → ((values : ValueTrees) → to (tokens_each values) → row_view row ≡ values)
    → TakesRowTo S T from to (Ok true) → TakesRow S T (Ok (Some row))
takes_made S T from to row empty made takes = λ rows s.
    let t = takes rows s in
    let same = made t.first (t.shown [] empty) in
    (t.rest, t.split ∙ ap (λ (v : ValueTrees). v ∷ t.rest) (sym same), t.stands)
