-- The column of a leaf below no repeated field: one entry a row.
use Rattle.std.proofs.Common.{◌≡◌, ℕ, ◌+◌, ◌≤◌, suc, Bool, List, [], ◌∷◌, ◌++◌, length, Option, Some, None, IsTrue, refl, ap, sym, subst, ◌∙◌, ◌⊎◌, inl, inr, arith}
use Rattle.std.specs.Prelude.{is_none, cond, not}
use Rattle.std.proofs.lemmas.List.Sums.{sum_by-cons}
use Rattle.std.specs.List.{AllByRecursion}
use Rattle.schema.specs.declared.value.Repetition.{Repetition}
use Rattle.schema.specs.declared.value.Repetition.TheVariants.{Required, Optional, Repeated}
use Rattle.schema.specs.Values.{ValueTree, null, group, ValueTrees, member}
use Rattle.schema.specs.Stripe.{Step, Entry, stripe, stripe_as, column}
use Rattle.statistics.specs.Bounds.{values, null_count}
use Rattle.std.proofs.lemmas.Bool.{false≢true}
use Rattle.filter.specs.Test.{value_at, is_repeated, is_single}

-- ---- elements of a list

pub all_zip : {X : Type 0} (P Q R : X → Type 0) → ((x : X) → P x → Q x → R x) → (xs : List X) → AllByRecursion P xs → AllByRecursion Q xs → AllByRecursion R xs
all_zip P Q R f [] h k = tt
all_zip P Q R f (x ∷ xs) h k = (f x h.0 k.0, all_zip P Q R f xs h.1 k.1)

-- ---- entries

-- one entry, with the value or, where it is null, perhaps with none
pub record IsOne (v : ValueTree) (es : List Entry) : Type 0 where
  pub entry : Entry
  pub alone : es ≡ entry ∷ []
  pub value : (entry.value ≡ Some v) ⊎ ((entry.value ≡ None) × (v ≡ null))

null_at : (p : (List Step)) → value_at p null ≡ null
null_at [] = refl
null_at (s ∷ p) = null_at p

abbrev pub IsSingle : Step → Type 0
IsSingle s = IsTrue (is_single s)

abbrev IsSingleAs : Repetition → Type 0
IsSingleAs rep = IsTrue (not (is_repeated rep))

one_as : (rep : Repetition) (p : (List Step)) (m : ValueTree) (r d k : ℕ) → IsSingleAs rep
    → ((v : ValueTree) (r d k : ℕ) → IsOne (value_at p v) (stripe p v r d k)) → IsOne (value_at p m) (stripe_as rep (stripe p) m r d k)
one_as Required p m r d k h more = more m r d k
one_as Optional p null r d k h more = record { entry = record { repetition = r; definition = d; value = None }; alone = refl; value = inr (refl, null_at p) }
one_as Optional p m r d k h more = more m r (suc d) k
one_as Repeated p m r d k h more = absurd (false≢true h)

pub one : (p : (List Step)) → AllByRecursion IsSingle p → (v : ValueTree) (r d k : ℕ) → IsOne (value_at p v) (stripe p v r d k)
one [] h v r d k = record { entry = record { repetition = r; definition = d; value = Some v }; alone = refl; value = inl refl }
one (s ∷ p) h v r d k = one_as s.repetition p (member s.place v) r d k h.0 (one p h.1)

-- ---- what holds of the values of a column holds of each row whose value is not null

abbrev pub AtRow : (ValueTree → Type 0) → (List Step) → ValueTrees → Type 0
AtRow Q p row = (value_at p (group row) ≡ null) ⊎ Q (value_at p (group row))

value_case : (Q : ValueTree → Type 0) (v : ValueTree) (o : Option ValueTree) (e : Entry) (es : List Entry) → e.value ≡ o → (o ≡ Some v) ⊎ ((o ≡ None) × (v ≡ null))
    → AllByRecursion Q (values (e ∷ es)) → ((v ≡ null) ⊎ Q v) × AllByRecursion Q (values es)
value_case Q v o e es is (inl there) h =
    let all = rw (is ∙ there) at h in
    (inr all.0, all.1)
value_case Q v o e es is (inr gone) h =
    let all = rw (is ∙ gone.0) at h in
    (inl gone.1, all)

pub each_row : (Q : ValueTree → Type 0) (p : (List Step)) → AllByRecursion IsSingle p → (rows : List ValueTrees) → AllByRecursion Q (values (column rows p)) → AllByRecursion (AtRow Q p) rows
each_row Q p single [] h = tt
each_row Q p single (row ∷ rows) h =
    let first = one p single (group row) 0 0 0 in
    let split = value_case Q (value_at p (group row)) first.entry.value first.entry (column rows p) refl first.value (subst (λ (es : List Entry). AllByRecursion Q (values (es ++ column rows p))) first.alone h) in
    (split.0, each_row Q p single rows split.1)

-- ---- nulls

abbrev one_if : Bool → ℕ
one_if b = cond b 1 0

null_count-cons : (e : Entry) (es : List Entry) → null_count (e ∷ es) ≡ one_if (is_none e.value) + null_count es
null_count-cons e es = sum_by-cons (λ (x : Entry). one_if (is_none x.value)) e es

null_case : (v : ValueTree) (e : Entry) (es : List Entry) → (e.value ≡ Some v) ⊎ ((e.value ≡ None) × (v ≡ null))
    → ((v ≡ null) × (null_count (e ∷ es) ≡ 1 + null_count es)) ⊎ (null_count (e ∷ es) ≡ null_count es)
null_case v e es (inl there) =
    let none : one_if (is_none e.value) ≡ 0 = ap (λ (o : Option ValueTree). one_if (is_none o)) there in
    inr (omega (arith, null_count-cons e es, none))
null_case v e es (inr gone) =
    let one_more : one_if (is_none e.value) ≡ 1 = ap (λ (o : Option ValueTree). one_if (is_none o)) gone.0 in
    inl (gone.1, omega (arith, null_count-cons e es, one_more))

null_count-le : (p : (List Step)) → AllByRecursion IsSingle p → (rows : List ValueTrees) → null_count (column rows p) ≤ length rows
null_count-le p single [] = omega arith
null_count-le p single (row ∷ rows) =
    let first = one p single (group row) 0 0 0 in
    let more = null_count-le p single rows in
    let counted = null_case (value_at p (group row)) first.entry (column rows p) first.value in
    subst (λ (es : List Entry). null_count (es ++ column rows p) ≤ suc (length rows)) (sym first.alone)
    (elim counted [ inl c ↦ omega (arith, c.1, more) | inr c ↦ omega (arith, c, more) ])

-- where there are as many nulls as rows, each row has a null
pub all_null : (p : (List Step)) → AllByRecursion IsSingle p → (rows : List ValueTrees) → null_count (column rows p) ≡ length rows → AllByRecursion (λ row. value_at p (group row) ≡ null) rows
all_null p single [] h = tt
all_null p single (row ∷ rows) h =
    let first = one p single (group row) 0 0 0 in
    let most = null_count-le p single rows in
    let counted = null_case (value_at p (group row)) first.entry (column rows p) first.value in
    let whole : null_count (first.entry ∷ column rows p) ≡ suc (length rows) = subst (λ (es : List Entry). null_count (es ++ column rows p) ≡ suc (length rows)) first.alone h in
    elim counted [
      | inl c ↦ (c.0, all_null p single rows (omega (arith, c.1, whole)))
      | inr c ↦ absurd (omega (arith, c, whole, most))
    ]
