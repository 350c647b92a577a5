-- Rows of a group that are taken one by one.
use Rattle.std.proofs.Common.{◌≡◌, ℕ, Bool, true, false, List, [], ◌∷◌, ◌++◌, length, map, Ok, Err, refl, ap, sym, subst, ◌∙◌, arith, append_assoc}
use Rattle.std.specs.Prelude.{Result, Option, Some, None, IfErr}
use Rattle.std.specs.Result.{IsErrAnd}
use Rattle.std.proofs.lemmas.List.{nil_from_length as empty_when}
use Rattle.bits.specs.Faults.{refusal_of}
use Rattle.bits.specs.declared.fault.Fault.{Fault}
use Rattle.bits.specs.declared.fault.Fault.TheVariants as fault
use Rattle.bits.specs.declared.refusal.Refusal.{Refusal}
use Rattle.bits.specs.declared.refusal.Refusal.TheVariants.{Memory}
use Rattle.schema.specs.declared.row.Row.{Row}
use Rattle.schema.specs.Values.{ValueTrees}
use Rattle.assemble.specs.Flat.{ShowsFirst}
use Rattle.assemble.specs.Sinks.{Token}
use Rattle.row_group.specs.Left.{TakesRow, TakesRowTo, with_refusal}
use Rattle.scan.specs.declared.rows_left.Rows.{Rows}
use Rattle.scan.specs.Left.{joined, selected_by, PartsStand, RowsStand, rows_stand}
use Rattle.scan.specs.inner.Left.{next_marked, IsAfterFirst, NextShown}
use Rattle.scan.specs.inner.Parts.{IsMemoryWhere}
use Rattle.scan.proofs.Pieces.{selected_first, passed_first, none_selected_by}

-- ---- refusals that are passed on

pub err_only : {T E : Type 0} (P : E → Type 0) (r : Result T E) (e : E) → IsErrAnd r (λ f. f ≡ e) → P e → IfErr r P
err_only P (Ok x) e is h = tt
err_only P (Err f) e is h = subst P (sym is) h

pub passes_shown : (S T : List ValueTrees → Type 0) (from to : List Token → Type 0) (r : Result Bool Fault) (f : Fault) → IsErrAnd r (λ g. g ≡ f) → ((rows : List ValueTrees) → S rows → f ≡ fault.Memory) → TakesRowTo S T from to (with_refusal r)
passes_shown S T from to (Ok true) f is p = absurd is
passes_shown S T from to (Ok false) f is p = absurd is
passes_shown S T from to (Err g) f is p = λ rows s. ap refusal_of (is ∙ p rows s)

pub passes_row : (S T : List ValueTrees → Type 0) (r : Result (Option Row) Refusal) (e : Refusal) → IsErrAnd r (λ f. f ≡ e) → ((rows : List ValueTrees) → S rows → e ≡ Memory) → TakesRow S T r
passes_row S T (Ok (Some row)) e is p = absurd is
passes_row S T (Ok None) e is p = absurd is
passes_row S T (Err f) e is p = λ rows s. is ∙ p rows s

-- ---- the first of the rows that are left

-- it is passed over
pub pass_one : (old new : Rows) → (old.left ≡ 0 → ⊥) → IsAfterFirst old new → ((x : List ValueTrees) (rest : List (List ValueTrees)) → PartsStand old.parts.items (x ∷ rest) → PartsStand new.parts.items rest)
    → next_marked old.marks.now ≡ false → (rows : List ValueTrees) → RowsStand old rows → RowsStand new rows
pass_one old new some is later away rows s = by s.pieces s.count s.parts s.selected
  where
    by : (pieces : List (List ValueTrees)) → length pieces ≡ old.left → PartsStand old.parts.items pieces → rows ≡ map (joined (length old.parts.items)) (selected_by old.marks.now pieces) → RowsStand new rows
    by [] size parts selected = absurd (some (sym size))
    by (x ∷ rest) size parts selected = record {
      whole = is.whole ∙ s.whole;
      pieces = rest;
      count = (let left = is.left in omega (arith, left, size));
      parts = later x rest parts;
      selected =
          selected ∙ ap (map (joined (length old.parts.items))) (passed_first old.marks.now x rest away)
          ∙ ap (λ (ms : List Bool). map (joined (length old.parts.items)) (selected_by ms rest)) (sym is.marks)
          ∙ ap (λ (n : ℕ). map (joined n) (selected_by new.marks.now rest)) (sym is.as_many);
    }

module _ (old new : Rows) (from to : List Token → Type 0) (some : old.left ≡ 0 → ⊥) where
  -- it is shown
  pub show_one : NextShown old new from to → next_marked old.marks.now ≡ true → TakesRowTo (rows_stand old) (rows_stand new) from to (Ok true)
  show_one next here rows s = by s.pieces s.count s.parts s.selected
    where
      by : (pieces : List (List ValueTrees)) → length pieces ≡ old.left → PartsStand old.parts.items pieces → rows ≡ map (joined (length old.parts.items)) (selected_by old.marks.now pieces)
          → ShowsFirst (rows_stand new) from to rows
      by [] size parts is = absurd (some (sym size))
      by (x ∷ rest) size parts is =
          let took = next.1 x rest parts in
          record {
            first = joined (length old.parts.items) x;
            rest = map (joined (length new.parts.items)) (selected_by new.marks.now rest);
            split =
                is ∙ ap (map (joined (length old.parts.items))) (selected_first old.marks.now x rest here)
                ∙ ap (λ (ms : List Bool). joined (length old.parts.items) x ∷ map (joined (length old.parts.items)) (selected_by ms rest)) (sym next.0.marks)
                ∙ ap (λ (n : ℕ). joined (length old.parts.items) x ∷ map (joined n) (selected_by new.marks.now rest)) (sym next.0.as_many);
            stands = record {
              whole = next.0.whole ∙ s.whole;
              pieces = rest;
              count = (let left = next.0.left in omega (arith, left, size));
              parts = took.0;
              selected = refl;
            };
            shown = took.1;
          }

  -- only memory is refused
  pub one_memory : (f : Fault) → IsMemoryWhere (PartsStand old.parts.items) f → (rows : List ValueTrees) → RowsStand old rows → f ≡ fault.Memory
  one_memory f only rows s = by s.pieces s.count s.parts
    where
      by : (pieces : List (List ValueTrees)) → length pieces ≡ old.left → PartsStand old.parts.items pieces → f ≡ fault.Memory
      by [] size parts = absurd (some (sym size))
      by (x ∷ rest) size parts = only x rest parts

-- where no row is left
pub none_left : (r : Rows) → r.left ≡ 0 → (rows : List ValueTrees) → RowsStand r rows → (rows ≡ []) × RowsStand r []
none_left r zero rows s =
    let none = empty_when s.pieces (s.count ∙ zero) in
    let empty : rows ≡ [] =
    s.selected ∙ ap (λ (ps : List (List ValueTrees)). map (joined (length r.parts.items)) (selected_by r.marks.now ps)) none
    ∙ ap (map (joined (length r.parts.items))) (none_selected_by r.marks.now) in
    (empty, subst (RowsStand r) empty s)

-- rows that stood before are shown now
pub takes_later : (S R T : List ValueTrees → Type 0) (from to : List Token → Type 0) → ((rows : List ValueTrees) → S rows → R rows) → TakesRowTo R T from to (Ok true) → TakesRowTo S T from to (Ok true)
takes_later S R T from to later takes rows s = takes rows (later rows s)

-- one more row was taken
pub one_taken : (all before rest next : List ValueTrees) (row : ValueTrees) → all ≡ before ++ rest → rest ≡ row ∷ next → all ≡ (before ++ row ∷ []) ++ next
one_taken all before rest next row split first = split ∙ ap (λ (t : List ValueTrees). before ++ t) first ∙ sym (append_assoc before (row ∷ []) next)
