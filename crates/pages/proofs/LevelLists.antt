-- The entries of a page, from their levels and their values.
use Rattle.std.proofs.Common.{◌≡◌, ℕ, zero, suc, ◌+◌, ◌-◌, ◌<◌, Bool, true, false, List, [], ◌∷◌, length, filter, drop, replicate, Option, Some, None, refl, sym, ap, subst, ◌∙◌, arith}
use Rattle.std.specs.Prelude.{◌==◌, slice_get, min, Ok, Err}
use Rattle.std.proofs.lemmas.List.{length-drop}
use Rattle.std.proofs.lemmas.Bool.Decides.{nat_tests}
use Rattle.lists.proofs.Slices.{drop_found_more as drop_get, drop_missing as drop_none}
use Rattle.bits.specs.declared.fault.Fault.{Fault}
use Rattle.bits.specs.declared.fault.Fault.TheVariants.{Memory}
use Rattle.schema.specs.Values.{ValueTree}
use Rattle.schema.specs.Stripe.{Entry}
use Rattle.pages.specs.declared.page_values.PageValues.{PageValues}
use Rattle.pages.specs.Left.{entry_by, values_after, entries_by, value_where, values_left, value_taken, TakesWhere, Shows}
use Rattle.plain.specs.Flat.{flat_entry, flat_entries}

-- ---- a level at an index

-- ---- the entries

pub no_entries : (g : ℕ) (rs ds : List ℕ) (vs : List ValueTree) → ds ≡ [] → entries_by g rs ds vs ≡ []
no_entries g [] ds vs is = refl
no_entries g (r ∷ rs) [] vs is = refl
no_entries g (r ∷ rs) (d ∷ ds) vs is = cc

pub no_entries_at : (g : ℕ) (rs ds : List ℕ) (vs : List ValueTree) (i : ℕ) → slice_get rs i ≡ None → entries_by g (drop i rs) (drop i ds) vs ≡ []
no_entries_at g rs ds vs i is = ap (λ (t : List ℕ). entries_by g t (drop i ds) vs) (drop_none rs i is)

pub no_entries_at_all : (g : ℕ) (rs ds : List ℕ) (vs : List ValueTree) (i : ℕ) → slice_get ds i ≡ None → entries_by g (drop i rs) (drop i ds) vs ≡ []
no_entries_at_all g rs ds vs i is = no_entries g (drop i rs) (drop i ds) vs (drop_none ds i is)

pub first_entry : (g : ℕ) (rs ds : List ℕ) (vs : List ValueTree) (i r d : ℕ) → slice_get rs i ≡ Some r → slice_get ds i ≡ Some d
    → entries_by g (drop i rs) (drop i ds) vs ≡ entry_by (d == g) r d vs ∷ entries_by g (drop (i + 1) rs) (drop (i + 1) ds) (values_after (d == g) vs)
first_entry g rs ds vs i r d first second =
    ap (λ (t : List ℕ). entries_by g t (drop i ds) vs) (drop_get rs i r first) ∙ ap (λ (t : List ℕ). entries_by g (r ∷ drop (i + 1) rs) t vs) (drop_get ds i d second)

shows_made : (full : Bool) (r d : ℕ) (vs : List ValueTree) (es : List Entry) → Shows (entry_by full r d vs ∷ es) (Some (r, d))
shows_made true r d [] es = (refl, refl)
shows_made true r d (v ∷ vs) es = (refl, refl)
shows_made false r d vs es = (refl, refl)

pub shows_entry : (g : ℕ) (rs ds : List ℕ) (vs : List ValueTree) (i r d : ℕ) → slice_get rs i ≡ Some r → slice_get ds i ≡ Some d → Shows (entries_by g (drop i rs) (drop i ds) vs) (Some (r, d))
shows_entry g rs ds vs i r d first second = subst (λ (t : List Entry). Shows t (Some (r, d))) (sym (first_entry g rs ds vs i r d first second)) (shows_made (d == g) r d vs (entries_by g (drop (i + 1) rs) (drop (i + 1) ds) (values_after (d == g) vs)))

count_by_levels : (g : ℕ) (rs ds : List ℕ) (vs : List ValueTree) → length (entries_by g rs ds vs) ≡ min (length rs) (length ds)
count_by_levels g [] ds vs = omega arith
count_by_levels g (r ∷ rs) [] vs = omega arith
count_by_levels g (r ∷ rs) (d ∷ ds) vs = let e = count_by_levels g rs ds (values_after (d == g) vs) in omega (arith, e)

pub count_left : (g : ℕ) (rs ds : List ℕ) (vs : List ValueTree) (i : ℕ) → length (entries_by g (drop i rs) (drop i ds) vs) ≡ min (length rs) (length ds) - i
count_left g rs ds vs i = omega (arith, count_by_levels g (drop i rs) (drop i ds) vs, length-drop i rs, length-drop i ds)

-- ---- an entry that is taken

abbrev made : ℕ → ℕ → Option ValueTree → Entry
made r d o = record { repetition = r; definition = d; value = o }

-- the value of a full entry is taken
taken_full : (r d : ℕ) (old : List ValueTree) (v : ValueTree) (new : List ValueTree) → old ≡ v ∷ new → (entry_by true r d old ≡ made r d (Some v)) × (values_after true old ≡ new)
taken_full r d [] v new is = cc
taken_full r d (w ∷ ws) v new is = (cc, cc)

taken_none : (r d : ℕ) (old : List ValueTree) → old ≡ [] → (entry_by true r d old ≡ made r d None) × (values_after true old ≡ [])
taken_none r d [] is = (refl, refl)
taken_none r d (w ∷ ws) is = cc

pub record IsTakenBy (full : Bool) (r d : ℕ) (old : List ValueTree) (o : Option ValueTree) (new : List ValueTree) : Type 0 where
  pub entry : entry_by full r d old ≡ made r d o
  pub rest : values_after full old ≡ new

-- a value is taken where the entry is full, if there is one
pub by_value : (full : Bool) (r d : ℕ) (old new : PageValues) (found : Bool) → TakesWhere full old new (Ok found) → IsTakenBy full r d (values_left old) (value_where found (value_taken new)) (values_left new)
by_value true r d old new true takes = let both = taken_full r d (values_left old) (value_taken new) (values_left new) takes in record { entry = both.0; rest = both.1 }
by_value true r d old new false takes = let both = taken_none r d (values_left old) takes.0 in record { entry = both.0; rest = both.1 ∙ sym takes.1 }
by_value false r d old new true takes = absurd (let e = takes.0 in cc)
by_value false r d old new false takes = record { entry = refl; rest = sym takes.1 }

-- out of memory, the values are as they were
pub unchanged_values : (full : Bool) (old new : PageValues) (fault : Fault) → TakesWhere full old new (Err fault) → (fault ≡ Memory) × (values_left new ≡ values_left old)
unchanged_values true old new fault takes = takes
unchanged_values false old new fault takes = absurd takes

-- the entry is the first of those that are left
pub takes_entry : (g : ℕ) (rs ds : List ℕ) (old new : List ValueTree) (i r d : ℕ) (o : Option ValueTree) → slice_get rs i ≡ Some r → slice_get ds i ≡ Some d → IsTakenBy (d == g) r d old o new
    → entries_by g (drop i rs) (drop i ds) old ≡ record { repetition = r; definition = d; value = o } ∷ entries_by g (drop (i + 1) rs) (drop (i + 1) ds) new
takes_entry g rs ds old new i r d o first second taken =
    first_entry g rs ds old i r d first second ∙ ap (λ (e : Entry). e ∷ entries_by g (drop (i + 1) rs) (drop (i + 1) ds) (values_after (d == g) old)) taken.entry
    ∙ ap (λ (t : List ValueTree). made r d o ∷ entries_by g (drop (i + 1) rs) (drop (i + 1) ds) t) taken.rest

-- ---- entries without levels

-- where all levels are 0, and there is one for each value, the entries are those of the values
flat_by_levels : (vs : List ValueTree) → entries_by 0 (replicate (length vs) 0) (replicate (length vs) 0) vs ≡ flat_entries vs
flat_by_levels [] = refl
flat_by_levels (v ∷ vs) = ap (λ (es : List Entry). flat_entry v ∷ es) (flat_by_levels vs)

pub made_flat : (g n : ℕ) (rs ds : List ℕ) (plain vs : List ValueTree) → g ≡ 0 → rs ≡ replicate n 0 → ds ≡ replicate n 0 → n ≡ length plain → plain ≡ vs → flat_entries plain ≡ entries_by g rs ds vs
made_flat g n rs ds plain vs least first second size same =
    let zeros : (xs : List ℕ) → xs ≡ replicate n 0 → replicate (length plain) 0 ≡ xs = λ xs is. ap (λ (k : ℕ). replicate k 0) (sym size) ∙ sym is in
    sym (flat_by_levels plain) ∙ ap (λ (xs : List ℕ). entries_by 0 xs (replicate (length plain) 0) plain) (zeros rs first) ∙ ap (λ (xs : List ℕ). entries_by 0 rs xs plain) (zeros ds second)
    ∙ ap (λ (k : ℕ). entries_by k rs ds plain) (sym least) ∙ ap (λ (ws : List ValueTree). entries_by g rs ds ws) same

-- ---- how many levels are one

none_other : (level n : ℕ) → (0 == level) ≡ false → length (filter (λ l. l == level) (replicate n 0)) ≡ 0
none_other level zero other = refl
none_other level (suc n) other = rw other (none_other level n other)

all_zeros : (level n : ℕ) → (0 == level) ≡ true → length (filter (λ l. l == level) (replicate n 0)) ≡ n
all_zeros level zero same = refl
all_zeros level (suc n) same = rw same (ap suc (all_zeros level n same))

pub zeros_count : (level n : ℕ) → level ≡ 0 → n ≡ length (filter (λ l. l == level) (replicate n 0))
zeros_count level n is = sym (all_zeros level n (grind (arith, nat_tests)))

pub zeros_without : (level n : ℕ) → 0 < level → 0 ≡ length (filter (λ l. l == level) (replicate n 0))
zeros_without level n some = sym (none_other level n (grind (arith, nat_tests)))
