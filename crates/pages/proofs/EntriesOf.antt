-- Entries from levels and values, and back.
use Rattle.std.proofs.Common.{◌≡◌, ℕ, suc, ◌<◌, ◌≤◌, cond, Bool, true, false, List, [], ◌∷◌, length, filter, Option, Some, None, refl, sym, ap, subst, ◌∙◌, arith}
use Rattle.std.specs.Prelude.{◌==◌, IsTrue, MatchOption}
use Rattle.std.specs.List.{AllByRecursion}
use Rattle.std.proofs.lemmas.Bool.{eqb-true, eqb-false, eq-eqb}
use Rattle.std.proofs.lemmas.Bool.Decides.{nat_tests}
use Rattle.std.proofs.lemmas.List.Elements.{All-from_recursion, recursion_from_All}
use Rattle.schema.specs.Fits.{fits_leaf}
use Rattle.schema.specs.Law.{IsEntryOf}
use Rattle.schema.specs.Stripe.{Leaf, Entry}
use Rattle.schema.specs.Values.{ValueTree}
use Rattle.pages.specs.declared.encoding.Encoding.{Encoding}
use Rattle.pages.specs.Encodings.{AreValues}
use Rattle.pages.specs.Page.{Spell, repetitions, definitions, values}
use Rattle.pages.specs.Left.{entry_by, values_after, entries_by}
use Rattle.pages.specs.inner.Reading.{AllFit, AreWithin, AreSpelled, AreEntries}

-- ---- entries of levels and values

-- what entries are made of
pub record AreMadeOf (leaf : Leaf) (rs ds : List ℕ) (vs : List ValueTree) (es : List Entry) : Type 0 where
  pub rs_are : repetitions es ≡ rs
  pub ds_are : definitions es ≡ ds
  pub vs_are : values es ≡ vs
  pub each : AllByRecursion (IsEntryOf leaf) es

one_more : (leaf : Leaf) (r d : ℕ) (rs ds full : List ℕ) (b : Bool) (vs : List ValueTree) → (d == leaf.greatest_definition) ≡ b → r ≤ leaf.greatest_repetition → d ≤ leaf.greatest_definition → length vs ≡ length (cond b (d ∷ full) full) → AllFit leaf.leaf_type vs
    → ((ws : List ValueTree) → length ws ≡ length full → AllFit leaf.leaf_type ws → AreMadeOf leaf rs ds ws (entries_by leaf.greatest_definition rs ds ws))
    → AreMadeOf leaf (r ∷ rs) (d ∷ ds) vs (entry_by b r d vs ∷ entries_by leaf.greatest_definition rs ds (values_after b vs))
one_more leaf r d rs ds full true [] is low below size fit rest = absurd (omega (arith, size))
one_more leaf r d rs ds full true (v ∷ vs) is low below size fit rest =
    let more = rest vs (omega (arith, size)) fit.1 in
    record {
      rs_are = ap (λ (t : List ℕ). r ∷ t) more.rs_are;
      ds_are = ap (λ (t : List ℕ). d ∷ t) more.ds_are;
      vs_are = ap (λ (t : List ValueTree). v ∷ t) more.vs_are;
      each = (record { repetition = low; definition = below; value = (eqb-true d leaf.greatest_definition is, fit.0) }, more.each);
    }
one_more leaf r d rs ds full false vs is low below size fit rest =
    let more = rest vs size fit in
    let other : d ≡ leaf.greatest_definition → ⊥ = eqb-false d leaf.greatest_definition is in
    record {
      rs_are = ap (λ (t : List ℕ). r ∷ t) more.rs_are;
      ds_are = ap (λ (t : List ℕ). d ∷ t) more.ds_are;
      vs_are = more.vs_are;
      each = (record { repetition = low; definition = below; value = lower d leaf.greatest_definition below other }, more.each);
    }
  where
    lower : (a b : ℕ) → a ≤ b → (a ≡ b → ⊥) → a < b
    lower a b le ne = grind (arith, nat_tests)

made_of : (leaf : Leaf) (rs ds : List ℕ) (vs : List ValueTree) → AllByRecursion (λ r. r ≤ leaf.greatest_repetition) rs → AllByRecursion (λ d. d ≤ leaf.greatest_definition) ds → length rs ≡ length ds
    → length vs ≡ length (filter (λ d. d == leaf.greatest_definition) ds) → AllFit leaf.leaf_type vs → AreMadeOf leaf rs ds vs (entries_by leaf.greatest_definition rs ds vs)
made_of leaf [] [] [] low below paired size fit = record { rs_are = refl; ds_are = refl; vs_are = refl; each = tt }
made_of leaf [] [] (v ∷ vs) low below paired size fit = absurd (omega (arith, size))
made_of leaf [] (d ∷ ds) vs low below paired size fit = absurd (omega (arith, paired))
made_of leaf (r ∷ rs) [] vs low below paired size fit = absurd (omega (arith, paired))
made_of leaf (r ∷ rs) (d ∷ ds) vs low below paired size fit =
    one_more leaf r d rs ds (filter (λ x. x == leaf.greatest_definition) ds) (d == leaf.greatest_definition) vs refl low.0 below.0 size fit
    (λ ws many all. made_of leaf rs ds ws low.1 below.1 (omega (arith, paired)) many all)

pub entries_stand : (leaf : Leaf) (d : Option (List ValueTree)) (e : Option Encoding) (text rs ds : List ℕ) (n : ℕ) (vs : List ValueTree) → AreWithin leaf rs ds → length rs ≡ length ds → n ≡ length (filter (λ x. x == leaf.greatest_definition) ds)
    → AreSpelled d leaf.leaf_type e text n vs → AreEntries leaf d e text rs ds (entries_by leaf.greatest_definition rs ds vs)
entries_stand leaf d e text rs ds n vs within paired many p =
    let made = made_of leaf rs ds vs (recursion_from_All (λ r. r ≤ leaf.greatest_repetition) rs within.repetitions) (recursion_from_All (λ x. x ≤ leaf.greatest_definition) ds within.definitions) paired (p.count ∙ many) p.fit in
    record { repetitions_are = made.rs_are; definitions_are = made.ds_are; each = made.each; spelled = subst (λ (ws : List ValueTree). Spell (AreValues d leaf.leaf_type.kind e) text ws) (sym made.vs_are) p.spelled }

-- ---- and back

abbrev made : ℕ → ℕ → Option ValueTree → Entry
made r d o = record { repetition = r; definition = d; value = o }

-- what the values of entries are
pub record HasValues (leaf : Leaf) (es : List Entry) : Type 0 where
  pub count : length (values es) ≡ length (filter (λ d. d == leaf.greatest_definition) (definitions es))
  pub fit : AllFit leaf.leaf_type (values es)

pub has_values : (leaf : Leaf) (es : List Entry) → AllByRecursion (IsEntryOf leaf) es → HasValues leaf es
has_values leaf [] each = record { count = refl; fit = tt }
has_values leaf (e ∷ es) (here, each) = by e.definition e.value here.value (has_values leaf es each)
  where
    by : (d : ℕ) (o : Option ValueTree) → MatchOption o (d < leaf.greatest_definition) (λ v. (d ≡ leaf.greatest_definition) × IsTrue (fits_leaf leaf.leaf_type v)) → HasValues leaf es → HasValues leaf (made e.repetition d o ∷ es)
    by d None low rest =
        let other : (d == leaf.greatest_definition) ≡ false = grind (arith, nat_tests) in
        record { count = rw other rest.count; fit = rest.fit }
    by d (Some v) full rest =
        let same : (d == leaf.greatest_definition) ≡ true = eq-eqb d leaf.greatest_definition full.0 in
        record { count = rw same (ap suc rest.count); fit = (full.1, rest.fit) }

pub spelled_values : (leaf : Leaf) (d : Option (List ValueTree)) (e : Option Encoding) (text rs ds : List ℕ) (n : ℕ) (es : List Entry) → n ≡ length (filter (λ x. x == leaf.greatest_definition) ds) → AreEntries leaf d e text rs ds es → AreSpelled d leaf.leaf_type e text n (values es)
spelled_values leaf d e text rs ds n es many p =
    let has = has_values leaf es p.each in
    record { count = has.count ∙ ap (λ (xs : List ℕ). length (filter (λ x. x == leaf.greatest_definition) xs)) p.definitions_are ∙ sym many; spelled = p.spelled; fit = has.fit }

within_by_recursion : (leaf : Leaf) (es : List Entry) → AllByRecursion (IsEntryOf leaf) es → AllByRecursion (λ r. r ≤ leaf.greatest_repetition) (repetitions es) × AllByRecursion (λ d. d ≤ leaf.greatest_definition) (definitions es)
within_by_recursion leaf [] each = (tt, tt)
within_by_recursion leaf (e ∷ es) (here, each) = let rest = within_by_recursion leaf es each in ((here.repetition, rest.0), (here.definition, rest.1))

pub within_of : (leaf : Leaf) (es : List Entry) → AllByRecursion (IsEntryOf leaf) es → AreWithin leaf (repetitions es) (definitions es)
within_of leaf es each =
    let both = within_by_recursion leaf es each in
    record { repetitions = All-from_recursion (λ r. r ≤ leaf.greatest_repetition) (repetitions es) both.0; definitions = All-from_recursion (λ d. d ≤ leaf.greatest_definition) (definitions es) both.1 }
