-- Rows that are appended unless some row satisfies a filter.
use Rattle.std.specs.Prelude.{◌≡◌, ℕ, suc, Bool, List, Result, Ok, Err}
use Rattle.bits.specs.declared.refusal.Refusal.{Refusal}
use Rattle.schema.specs.Shape.{Fields}
use Rattle.schema.specs.Stripe.{leaves_of}
use Rattle.filter.specs.Terms.{Term}
use Rattle.disk.specs.State.{State as DiskState}
use Rattle.table.specs.State.{State}
use Rattle.table.specs.Calls.{Call, count, counted, import}
use Rattle.table.specs.Views.{answered}
use Rattle.jsonrows.specs.Filters.{IsFilterTextAs, IsRefusedFilterAs}
use Rattle.table_state.specs.declared.standing.Core.{Core}
use Rattle.table_state.specs.Stands.{Stands}
use Rattle.table_state.specs.Promises.{ActsFrom}
use Rattle.answers.specs.Making.{MakesFrom}

-- From the one state: the store counts the rows that satisfy the filter of a text, and its answer is the result; or the text is
-- refused, and the store is as it was.
pub data CountsFrom {D : Type 0} (state : D → DiskState) (texts : Bool) (old new : Core D) (text : List ℕ) (result : Result ℕ Refusal) (s : State) : Type 0 where
  counts_them : (ands : List (List Term)) → IsFilterTextAs texts (leaves_of s.table.schema) text ands
      → ActsFrom state old new (count ands) (answered counted result) s → CountsFrom state texts old new text result s
  no_filter : (e : Refusal) → IsRefusedFilterAs texts (leaves_of s.table.schema) text e → result ≡ Err e → new ≡ old → CountsFrom state texts old new text result s

-- on an honest disk, from each state that the store stands in
abbrev pub CountsByText : {D : Type 0} → (D → DiskState) → Bool → Core D → Core D → List ℕ → Result ℕ Refusal → Type 0
CountsByText state texts old new text result = (state old.vault.disk).honest → (s : State) → Stands state old s → CountsFrom state texts old new text result s

-- From the one state: the store counts the rows that satisfy the filter of a text. Where there are none, it goes on so from the state
-- that the count led to. Where there are some the result is 0. Or the count is refused.
pub data UnlessFrom {D : Type 0} (state : D → DiskState) (texts : Bool) (old new : Core D) (text : List ℕ) (GoesOn : Core D → State → Type 0) (result : Result ℕ Refusal) (s : State) : Type 0 where
  none_there : (ands : List (List Term)) (mid : Core D) → IsFilterTextAs texts (leaves_of s.table.schema) text ands
      → (first : ActsFrom state old mid (count ands) (counted 0) s) → GoesOn mid first.after → UnlessFrom state texts old new text GoesOn result s
  some_there : (n : ℕ) → CountsFrom state texts old new text (Ok (suc n)) s → result ≡ Ok 0 → UnlessFrom state texts old new text GoesOn result s
  not_counted : (e : Refusal) → CountsFrom state texts old new text (Err e) s → result ≡ Err e → UnlessFrom state texts old new text GoesOn result s

-- on an honest disk, from each state that the store stands in: the store makes the call that was asked for, or that is refused, unless
-- some row satisfies the filter of a text
abbrev pub MakesUnless : {D : Type 0} → (D → DiskState) → Bool → Core D → Core D → List ℕ → (Fields → Call → Type 0) → (Fields → Refusal → Type 0)
    → Result ℕ Refusal → Type 0
MakesUnless state texts old new text IsAsked IsRefused result = (state old.vault.disk).honest → (s : State) → Stands state old s
    → UnlessFrom state texts old new text (λ mid t. MakesFrom state mid new IsAsked IsRefused result t) result s

-- the rows of a Parquet file are to be appended
abbrev pub AsksImport : List ℕ → Fields → Call → Type 0
AsksImport bytes fs call = call ≡ import bytes
