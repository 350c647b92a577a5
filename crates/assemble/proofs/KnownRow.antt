-- A row that is known to be left.
use Rattle.std.proofs.Common.{◌≡◌, ◌<◌, List, [], ◌∷◌, length, refl, arith, inl, inr, Option}
use Rattle.std.proofs.lemmas.List.{length-map}
use Rattle.bits.specs.declared.refusal.Refusal.{Refusal}
use Rattle.bits.specs.declared.refusal.Refusal.TheVariants as refusal
use Rattle.schema.specs.Values.{ValueTrees}
use Rattle.schema.specs.Shape.{Fields}
use Rattle.schema.specs.Fits.{RowsFit}
use Rattle.schema.specs.Stripe.{Entry, Leaf, leaves_of, column, columns}
use Rattle.assemble.specs.Columns.{Tells}
use Rattle.assemble.specs.Standing.{IsRefusedFor}
use Rattle.assemble.specs.RowsOf.{StandForRows, HasFault}
use Rattle.assemble.specs.inner.Fronts.{FitEach, stripes_each, wants_each}
use Rattle.assemble.specs.inner.ReadValues.{IsFaulty}
use Rattle.assemble.proofs.RowByRow.{faulty_row, has_entry}
use Rattle.assemble.proofs.Standing.{stand_length}
use Rattle.assemble.proofs.WholeColumns.{faultless}

-- rows have no fault, so that only memory is refused
no_fault : (fs : Fields) (rows : List ValueTrees) (e : Refusal) → Tells (Unit {0}) (Unit {0}) e → HasFault fs (columns fs rows) e → RowsFit fs rows → e ≡ refusal.Memory
no_fault fs rows refusal.Memory t h fit = refl
no_fault fs rows refusal.Levels t h fit = absurd (faultless fs (columns fs rows) refusal.Levels h tt rows (record { fit = fit; have = refl }))
no_fault fs rows refusal.Value t h fit = absurd (faultless fs (columns fs rows) refusal.Value h tt rows (record { fit = fit; have = refl }))
no_fault fs rows _ t h fit = absurd t

module _ {A : Type 0} (S : A → List Entry → Type 0) (R : A → Option Refusal) (C : A → Refusal → Type 0) where
  -- what the reader of a row is refused for
  pub only_memory : (fs : Fields) → 0 < length (leaves_of fs) → (old new : List A) (e : Refusal) → IsRefusedFor S R C old new (IsFaulty (FitEach fs) (stripes_each fs 0 0 0) 0 (wants_each fs 0)) e
      → (rows : List ValueTrees) → StandForRows S old fs rows → 0 < length rows → e ≡ refusal.Memory
  only_memory fs some old new e refused [] stand more = absurd (omega (arith, more))
  only_memory fs some old new e (inl h) (row ∷ rows) stand more = absurd (h.1 (columns fs (row ∷ rows)) stand.stand)
  only_memory fs some old new e (inr h) (row ∷ rows) stand more =
      no_fault fs (row ∷ rows) e h.1.0 (faulty_row fs some (columns fs (row ∷ rows)) e (has_entry fs some row rows stand.fit) (h.1.1 (columns fs (row ∷ rows)) stand.stand)) stand.fit

  -- rows have a column for each leaf
  pub one_each : (fs : Fields) (xs : List A) (rows : List ValueTrees) → StandForRows S xs fs rows → length xs ≡ length (leaves_of fs)
  one_each fs xs rows stand = let size = stand_length S xs (columns fs rows) stand.stand in omega (arith, size, length-map (leaves_of fs) (λ (l : Leaf). column rows l.steps))
