-- What pages of indexes stand for.
use Rattle.std.proofs.Common.{◌≡◌, ℕ, zero, suc, ◌+◌, ◌<◌, ◌≤◌, List, [], ◌∷◌, ◌++◌, length, map, refl, sym, ap, subst, ◌∙◌, arith, append_assoc}
use Rattle.std.specs.Prelude.{All}
use Rattle.lists.proofs.Lists.{same_first as first_is, same_rest as rest_is}
use Rattle.bits.specs.Codec.{NothingStands, IsFunctional, Appends}
use Rattle.hybrid_rle.specs.Hybrid.{IsHybrid}
use Rattle.hybrid_rle.proofs.Hybrids.{one_hybrid}
use Rattle.schema.specs.Values.{ValueTree}
use Rattle.dictionary.specs.Entries.{AreEntriesAt}
use Rattle.dictionary.specs.IndexPages.{AreIndexesOf, IsIndexPage, IsWrittenIndexPage, AreIndexed}
use Rattle.dictionary.proofs.Lookups.{one_value_each}

pub indexes_one : (w n : ℕ) → IsFunctional (λ bytes. AreIndexesOf w bytes n)
indexes_one zero n bytes is js used taken p q = (p.0 ∙ sym q.0, p.1 ∙ sym q.1)
indexes_one (suc w) n bytes is js used taken p q = one_hybrid (suc w) n bytes is js used taken p q

-- whatever the sizes of the dictionaries are
pub page_one : (size other n : ℕ) (bytes is js : List ℕ) (used taken : ℕ) → IsIndexPage size bytes n is used → IsIndexPage other bytes n js taken → (is ≡ js) × (used ≡ taken)
page_one size other n bytes is js used taken p q =
    let width : p.width ≡ q.width = first_is p.width q.width p.rest q.rest (sym p.begins ∙ q.begins) in
    let rest : p.rest ≡ q.rest = rest_is p.width q.width p.rest q.rest (sym p.begins ∙ q.begins) in
    let same : AreIndexesOf q.width q.rest n is p.taken = subst (λ (w : ℕ). AreIndexesOf w q.rest n is p.taken) width (subst (λ (bs : List ℕ). AreIndexesOf p.width bs n is p.taken) rest p.are) in
    let one = indexes_one q.width n q.rest is js p.taken q.taken same q.are in
    (one.0, p.ends ∙ ap (λ (k : ℕ). 1 + k) one.1 ∙ sym q.ends)

pub page_functional : (size n : ℕ) → IsFunctional (λ bytes. IsIndexPage size bytes n)
page_functional size n bytes is js used taken p q = page_one size size n bytes is js used taken p q

pub values_functional : (entries : List ValueTree) (n : ℕ) → IsFunctional (λ bytes. AreIndexed entries bytes n)
values_functional es n bytes vs ws used taken p q =
    let one = page_one (length es) (length es) n bytes p.indexes q.indexes used taken p.stand q.stand in
    (one_value_each es q.indexes vs ws (subst (λ (is : List ℕ). AreEntriesAt es is vs) one.0 p.are) q.are, one.1)

-- where indexes stand and one of them has no entry, no others stand
pub past_the_end : (size n width taken : ℕ) (bytes rest is : List ℕ) → bytes ≡ width ∷ rest → AreIndexesOf width rest n is taken → (All (λ i. i < size) is → ⊥) → NothingStands (IsIndexPage size bytes n)
past_the_end size n width taken bytes rest is begins are outside js used p =
    let w : p.width ≡ width = first_is p.width width p.rest rest (sym p.begins ∙ begins) in
    let r : p.rest ≡ rest = rest_is p.width width p.rest rest (sym p.begins ∙ begins) in
    let same : AreIndexesOf width rest n js p.taken = subst (λ (v : ℕ). AreIndexesOf v rest n js p.taken) w (subst (λ (bs : List ℕ). AreIndexesOf p.width bs n js p.taken) r p.are) in
    outside (subst (All (λ i. i < size)) (indexes_one width n rest js is p.taken taken same are).0 p.within)

-- what the bytes after the width do not stand for, the page does not stand for
pub nothing_after_width : (size n width : ℕ) (bytes rest : List ℕ) → bytes ≡ width ∷ rest → NothingStands (AreIndexesOf width rest n) → NothingStands (IsIndexPage size bytes n)
nothing_after_width size n width bytes rest begins none js used p =
    let w : p.width ≡ width = first_is p.width width p.rest rest (sym p.begins ∙ begins) in
    let r : p.rest ≡ rest = rest_is p.width width p.rest rest (sym p.begins ∙ begins) in
    none js p.taken (subst (λ (v : ℕ). AreIndexesOf v rest n js p.taken) w (subst (λ (bs : List ℕ). AreIndexesOf p.width bs n js p.taken) r p.are))

-- a page of values is a page of indexes
pub no_values : (es : List ValueTree) (n : ℕ) (bytes : List ℕ) → NothingStands (IsIndexPage (length es) bytes n) → NothingStands (AreIndexed es bytes n)
no_values es n bytes none vs used p = none p.indexes used p.stand

-- a width and the indexes after it
pub page_written : (size width most whole : ℕ) (is old mid new : List ℕ) → whole ≡ 1 + most → width ≤ 32 → 1 ≤ width → All (λ i. i < size) is → mid ≡ old ++ width ∷ []
    → Appends (λ bytes used. AreIndexesOf width bytes (length is) is used) most mid new → Appends (λ bytes used. IsWrittenIndexPage size bytes (length is) is used) whole old new
page_written size width most whole is old mid new sum narrow some within is_mid p = record {
  text = width ∷ p.text;
  joined = p.joined ∙ ap (λ (l : List ℕ). l ++ p.text) is_mid ∙ append_assoc old (width ∷ []) p.text;
  stands = λ more. (record { width = width; rest = p.text ++ more; taken = length p.text; begins = refl; narrow = narrow; are = p.stands more; within = within; ends = omega arith }, some);
  short = omega (arith, sum, p.short);
}

-- indexes of more bits than none are the hybrid's
pub hybrid_written : (width n most : ℕ) (is old new : List ℕ) → 0 < width → Appends (λ bytes used. IsHybrid width bytes n is used) most old new → Appends (λ bytes used. AreIndexesOf width bytes n is used) most old new
hybrid_written zero n most is old new some p = absurd (omega arith)
hybrid_written (suc w) n most is old new some p = p

-- numbers that are seen as they are
pub seen_same : (seen : ℕ → ℕ) → ((n : ℕ) → seen n ≡ n) → (xs : List ℕ) → map seen xs ≡ xs
seen_same seen same [] = refl
seen_same seen same (x ∷ xs) = λ i. same x i ∷ seen_same seen same xs i
