-- A fetch of a cursor that is not there, or whose end was answered.
use Rattle.std.proofs.Common.{◌≡◌, ℕ, Bool, true, false, not, ◌==◌, if◌then◌else◌, List, [], ◌∷◌, option_map, Option, Some, None, refl, sym, ◌∙◌, ap, subst}
use Rattle.std.specs.List.{AllZip}
use Rattle.std.proofs.lemmas.Bool.{eqb-true, or_parts as neither}
use Rattle.bits.specs.declared.refusal.Refusal.TheVariants.{Closed, NoCursor, Memory}
use Rattle.schema.specs.Cutting.{is_among}
use Rattle.schema.specs.Keys.{KeyColumn, AreDistinct}
use Rattle.disk.specs.State.{State as DiskState}
use Rattle.manifest.specs.Groups.{Group as FileGroup}
use Rattle.snapshots.specs.Views.{state_of}
use Rattle.table.specs.Cursors.{Cursor}
use Rattle.table.specs.State.{State, open_at, changed_at}
use Rattle.table.specs.Faults.{first, unless}
use Rattle.table.specs.Calls.{fetch, ended, refused}
use Rattle.table.specs.Checks.{fault, cursor_fault}
use Rattle.table.specs.History.{next_answer, after_fetch}
use Rattle.table.specs.Refusing.{checked, no_memory, is_over}
use Rattle.table.proofs.Steady.{stays}
use Rattle.table_state.specs.declared.standing.Core.{Core}
use Rattle.table_state.specs.declared.jobs.OpenCursor.{OpenCursor}
use Rattle.table_state.specs.Lookups.{cursor_at}
use Rattle.table_state.specs.Stands.{Stands, ShowsCursor, ShowsOpen, numbers_at}
use Rattle.table_state.specs.Promises.{Acts}
use Rattle.table_commits.proofs.UnchangedRefusals.{changes_nothing}

module _ (disk : DiskState) (held : List (ℕ × List FileGroup)) (keys : List KeyColumn) (count : ℕ) where
  abbrev Seen : OpenCursor → ℕ × Cursor → Type 0
  Seen x d = ShowsCursor disk held keys count x d

  abbrev IsFound : ℕ → OpenCursor → Option Cursor → Type 0
  IsFound n x there = (e : Cursor) × (there ≡ Some e) × Seen x (n, e)

  found_here : (n : ℕ) (y x : OpenCursor) (d : ℕ × Cursor) → y ≡ x → y.number ≡ n → Seen y d → Seen x (n, d.1)
  found_here n y x d same e z = subst (λ (w : OpenCursor). Seen w (n, d.1)) same
      (record { number = e; pinned = z.pinned; keyed = z.keyed; made = z.made; groups = z.groups; stored = z.stored; batches = z.batches; ended = z.ended; over = z.over })

  some_same : (y x : OpenCursor) → Some y ≡ Some x → y ≡ x
  some_same y x e = cc

  found_next : (n : ℕ) (y x : OpenCursor) (d : ℕ × Cursor) (at : Option OpenCursor) (there : Option Cursor) → Seen y d → (at ≡ Some x → IsFound n x there) → (b : Bool) → (y.number == n) ≡ b
      → (if b then Some y else at) ≡ Some x → IsFound n x (if b then Some d.1 else there)
  found_next n y x d at there z rest true f g = (d.1, refl, found_here n y x d (some_same y x g) (eqb-true y.number n f) z)
  found_next n y x d at there z rest false f g = rest g

  -- what is looked up in the store is what is open in the state
  pub cursor_found : (n : ℕ) (shown : List OpenCursor) (xs : List (ℕ × Cursor)) → AllZip Seen shown xs → (x : OpenCursor) → cursor_at n shown ≡ Some x → IsFound n x (open_at n xs)
  cursor_found n [] [] z x e = absurd (cc)
  cursor_found n (y ∷ ys) (d ∷ ds) z x e =
      subst (λ (m : ℕ). IsFound n x (if m == n then Some d.1 else open_at n ds)) z.0.number (found_next n y x d (cursor_at n ys) (open_at n ds) z.0 (cursor_found n ys ds z.1 x) (y.number == n) refl e)
  cursor_found n [] (d ∷ ds) z x e = absurd z
  cursor_found n (y ∷ ys) [] z x e = absurd z

  pub cursor_not_found : (n : ℕ) (shown : List OpenCursor) (xs : List (ℕ × Cursor)) → AllZip (ShowsCursor disk held keys count) shown xs → cursor_at n shown ≡ None → open_at n xs ≡ None
  cursor_not_found n [] [] z e = refl
  cursor_not_found n (y ∷ ys) (x ∷ xs) z e = subst (λ (m : ℕ). (if m == n then Some x.1 else open_at n xs) ≡ None) z.0.number (by (y.number == n) (cursor_not_found n ys xs z.1) e)
    where
      by : (b : Bool) → (cursor_at n ys ≡ None → open_at n xs ≡ None) → (if b then Some y else cursor_at n ys) ≡ None → (if b then Some x.1 else open_at n xs) ≡ None
      by true rest g = absurd (cc)
      by false rest g = rest g
  cursor_not_found n [] (x ∷ xs) z e = absurd z
  cursor_not_found n (y ∷ ys) [] z e = absurd z

-- ---- a change to what is there already

pub changed_none : {A : Type 0} (n : ℕ) (d : A) (xs : List (ℕ × A)) → is_among (numbers_at xs) n ≡ false → changed_at n d xs ≡ xs
changed_none n d [] h = refl
changed_none n d (x ∷ xs) h =
    let q = neither (x.0 == n) (is_among (numbers_at xs) n) h in
    ap (λ (b : Bool). (if b then (n, d) else x) ∷ changed_at n d xs) q.0 ∙ ap (λ (ys : List (ℕ × _)). x ∷ ys) (changed_none n d xs q.1)

pub changed_same : {A : Type 0} (n : ℕ) (d : A) (xs : List (ℕ × A)) → AreDistinct (numbers_at xs) → open_at n xs ≡ Some d → changed_at n d xs ≡ xs
changed_same n d [] u h = refl
changed_same {A} n d (x ∷ xs) u h = by (x.0 == n) refl (λ g. changed_same n d xs u.1 g) h
  where
    some_same : (a b : A) → Some a ≡ Some b → a ≡ b
    some_same a b f = cc

    by : (b : Bool) → (x.0 == n) ≡ b → (open_at n xs ≡ Some d → changed_at n d xs ≡ xs) → (if b then Some x.1 else open_at n xs) ≡ Some d → (if b then (n, d) else x) ∷ changed_at n d xs ≡ x ∷ xs
    by true e rest h =
        let is_n : x.0 ≡ n = eqb-true x.0 n e in
        let is_d : x.1 ≡ d = some_same x.1 d h in
        ap (λ (k : ℕ). (k, d) ∷ changed_at n d xs) (sym is_n) ∙ ap (λ (y : A). (x.0, y) ∷ changed_at n d xs) (sym is_d)
        ∙ ap (λ (ys : List (ℕ × A)). x ∷ ys) (changed_none n d xs (subst (λ (k : ℕ). is_among (numbers_at xs) k ≡ false) is_n u.0))
    by false e rest h = ap (λ (ys : List (ℕ × A)). x ∷ ys) (rest h)

-- ---- what a look-up tells

pub was_none : (o : Option OpenCursor) → None ≡ option_map (λ (c : OpenCursor). c.ended) o → o ≡ None
was_none None e = refl
was_none (Some c) e = absurd (cc)

pub was_some : (o : Option OpenCursor) (b : Bool) → Some b ≡ option_map (λ (c : OpenCursor). c.ended) o → (c : OpenCursor) × (o ≡ Some c) × (c.ended ≡ b)
was_some None b e = absurd (cc)
was_some (Some c) b e = let f : b ≡ c.ended = cc in (c, refl, sym f)

pub told : (lent items : List OpenCursor) (n : ℕ) (r b : Option Bool) → r ≡ b → r ≡ option_map (λ (c : OpenCursor). c.ended) (cursor_at n lent) → lent ≡ items → b ≡ option_map (λ (c : OpenCursor). c.ended) (cursor_at n items)
told lent items n r b e f g = sym e ∙ f ∙ ap (λ cs. option_map (λ (c : OpenCursor). c.ended) (cursor_at n cs)) g

-- ---- the ends of a fetch

module _ {D : Type 0} (state : D → DiskState) (store : Core D) (n : ℕ) (is_open : store.closed ≡ false) where
  pub sure : (s : State) → Stands state store s → s.closed ≡ false
  sure s stands = sym stands.shows.closed ∙ is_open

  pub here : (s : State) → (stands : Stands state store s) → ShowsOpen (state store.vault.disk) store s
  here s stands = stands.shows.shown (sure s stands)

  pub found : (s : State) (stands : Stands state store s) (c : OpenCursor) → cursor_at n store.cursors.items ≡ Some c → (d : Cursor) × (open_at n s.cursors ≡ Some d) × (d.ended ≡ c.ended) × (c.ended ≡ true → d.batches ≡ [])
  found s stands c e =
      let d = cursor_found (state store.vault.disk) (state_of store.snapshots).cursors s.table.keys s.next_group n store.cursors.items s.cursors (here s stands).cursors c e in
      (d.0, d.1, d.2.ended, d.2.over)

  pub fault_is : (s : State) (stands : Stands state store s) (there : Option Cursor) → open_at n s.cursors ≡ there → fault s (fetch n) ≡ first (cursor_fault there ∷ [])
  fault_is s stands there e = ap (λ b. first (unless (not b) Closed ∷ cursor_fault (open_at n s.cursors) ∷ [])) (sure s stands) ∙ ap (λ o. first (cursor_fault o ∷ [])) e

  pub fetch_none : cursor_at n store.cursors.items ≡ None → Acts state store store (fetch n) (refused NoCursor)
  fetch_none e honest s stands =
      let none = cursor_not_found (state store.vault.disk) (state_of store.snapshots).cursors s.table.keys s.next_group n store.cursors.items s.cursors (here s stands).cursors e in
      changes_nothing state store (fetch n) (refused NoCursor) s stands (checked (fault_is s stands None none) (λ b. absurd (cc)) (stays s (fetch n) refl))

  pub fetch_poor : (c : OpenCursor) → cursor_at n store.cursors.items ≡ Some c → c.ended ≡ false → Acts state store store (fetch n) (refused Memory)
  fetch_poor c e o honest s stands =
      let d = found s stands c e in
      changes_nothing state store (fetch n) (refused Memory) s stands (no_memory refl (ap not (sure s stands)) (ap (λ x. not (is_over x)) d.1 ∙ ap not (d.2 ∙ o)) (stays s (fetch n) refl))

  pub fetch_over : (c : OpenCursor) → cursor_at n store.cursors.items ≡ Some c → c.ended ≡ true → Acts state store store (fetch n) ended
  fetch_over c e o honest s stands =
      let d = found s stands c e in
      let cursor : Cursor = d.0 in
      let none : cursor.batches ≡ [] = d.3 o in
      let behind : after_fetch cursor.batches ≡ cursor = ap after_fetch none ∙ sym (ap (λ bs. record { batches = bs; ended = cursor.ended }) none ∙ ap (λ b. record { batches = []; ended = b }) (d.2 ∙ o)) in
      let same : changed_at n (after_fetch cursor.batches) s.cursors ≡ s.cursors = ap (λ x. changed_at n x s.cursors) behind ∙ changed_same n cursor s.cursors (here s stands).numbered_cursors.distinct d.1 in
      changes_nothing state store (fetch n) ended s stands (
        fault_is s stands (Some cursor) d.1,
        record {
          cursor = cursor;
          is_open = d.1;
          gives = sym (ap next_answer none);
          becomes = ap (λ (cs : List (ℕ × Cursor)). record s { cursors = cs }) (sym same);
        },
      )
