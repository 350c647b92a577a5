-- When two keys are the same, and how they compare.
use Rattle.std.proofs.Common.{◌≡◌, ℕ, ℤ, pos, Bool, true, false, ◌&&◌, List, [], ◌∷◌, refl, ap, sym, ◌∙◌}
use Rattle.std.specs.declared.cmp.Ordering.{Ordering}
use Rattle.std.specs.declared.cmp.Ordering.TheVariants.{Less, Equal, Greater}
use Rattle.std.specs.Ordering.{nat_cmp, int_cmp, bool_cmp, is_lt, ordering_then, ordering_reverse, then_cmp, on}
use Rattle.std.specs.Cmp.{IsTotalOrder, bool_cmp_total}
use Rattle.std.proofs.lemmas.Bool.Decides.{Decides-int_eq}
use Rattle.std.proofs.lemmas.Map.Lookups.{exact_signed, exact_bytes}
use Rattle.std.specs.Cmp.Lexicographic.{slice_cmp, bytes_decides}
use Rattle.std.proofs.lemmas.Bool.{false≢true, and_parts}
use Rattle.std.proofs.lemmas.Cmp.{nat_cmp_total, int_cmp_total, nat_list_cmp_total, int_eq_equiv, nat_list_eq_equiv, lists_total, on_total, then_total}
use Rattle.lists.proofs.Booleans.{same_by_beq as same_boolean, beq_itself as boolean_same, same_by_bool_cmp as boolean_equal}
use Rattle.schema.specs.declared.key.KeyKind.{KeyKind}
use Rattle.schema.specs.declared.key.KeyKind.TheVariants.{Boolean, Int32, Int64, Utf8}
use Rattle.schema.specs.Values.{ValueTree, null, boolean, integer, bytes, group, list}
use Rattle.schema.specs.Keys.{KeyColumn}
use Rattle.partition.specs.Folders.{is_key_value, is_key}
use Rattle.partition.specs.Order.{value_cmp, key_cmp, kind_rank, is_same_value, is_same_key}

same_value : (v w : ValueTree) → is_same_value v w ≡ true → v ≡ w
same_value (boolean a) (boolean b) h = ap boolean (same_boolean a b h)
same_value (integer a) (integer b) h = ap integer ((Decides-int_eq a b).0 h)
same_value (bytes a) (bytes b) h = ap bytes ((bytes_decides a b).0 h)
same_value (boolean a) _ h = absurd (false≢true h)
same_value (integer a) _ h = absurd (false≢true h)
same_value (bytes a) _ h = absurd (false≢true h)
same_value _ _ h = absurd (false≢true h)

pub same_key : (k l : List ValueTree) → is_same_key k l ≡ true → k ≡ l
same_key [] [] h = refl
same_key [] (w ∷ ws) h = absurd (false≢true h)
same_key (v ∷ vs) [] h = absurd (false≢true h)
same_key (v ∷ vs) (w ∷ ws) h =
    let parts = and_parts (is_same_value v w) (is_same_key vs ws) h in
    let first = same_value v w parts.0 in
    let rest = same_key vs ws parts.1 in
    λ i. first i ∷ rest i

value_flips : (v w : ValueTree) → is_same_value v w ≡ is_same_value w v
value_flips (boolean true) (boolean true) = refl
value_flips (boolean true) (boolean false) = refl
value_flips (boolean false) (boolean true) = refl
value_flips (boolean false) (boolean false) = refl
value_flips (integer a) (integer b) = int_eq_equiv.symm a b
value_flips (bytes a) (bytes b) = nat_list_eq_equiv.symm a b
value_flips null null = refl
value_flips null (boolean b) = refl
value_flips null (integer b) = refl
value_flips null (bytes b) = refl
value_flips null (group b) = refl
value_flips null (list b) = refl
value_flips (boolean a) null = refl
value_flips (boolean a) (integer b) = refl
value_flips (boolean a) (bytes b) = refl
value_flips (boolean a) (group b) = refl
value_flips (boolean a) (list b) = refl
value_flips (integer a) null = refl
value_flips (integer a) (boolean b) = refl
value_flips (integer a) (bytes b) = refl
value_flips (integer a) (group b) = refl
value_flips (integer a) (list b) = refl
value_flips (bytes a) null = refl
value_flips (bytes a) (boolean b) = refl
value_flips (bytes a) (integer b) = refl
value_flips (bytes a) (group b) = refl
value_flips (bytes a) (list b) = refl
value_flips (group a) null = refl
value_flips (group a) (boolean b) = refl
value_flips (group a) (integer b) = refl
value_flips (group a) (bytes b) = refl
value_flips (group a) (group b) = refl
value_flips (group a) (list b) = refl
value_flips (list a) null = refl
value_flips (list a) (boolean b) = refl
value_flips (list a) (integer b) = refl
value_flips (list a) (bytes b) = refl
value_flips (list a) (group b) = refl
value_flips (list a) (list b) = refl

pub key_flips : (k l : List ValueTree) → is_same_key k l ≡ is_same_key l k
key_flips [] [] = refl
key_flips [] (w ∷ ws) = refl
key_flips (v ∷ vs) [] = refl
key_flips (v ∷ vs) (w ∷ ws) = λ i. value_flips v w i && key_flips vs ws i

pub other_way : (k l : List ValueTree) → is_same_key k l ≡ false → is_same_key l k ≡ false
other_way k l h = key_flips l k ∙ h

-- a value of a key is the same as itself
value_same : (kind : KeyKind) (v : ValueTree) → is_key_value kind v ≡ true → is_same_value v v ≡ true
value_same Boolean (boolean b) h = boolean_same b
value_same Boolean _ h = absurd (false≢true h)
value_same Int32 (integer z) h = (Decides-int_eq z z).1 refl
value_same Int32 _ h = absurd (false≢true h)
value_same Int64 (integer z) h = (Decides-int_eq z z).1 refl
value_same Int64 _ h = absurd (false≢true h)
value_same Utf8 (bytes s) h = (bytes_decides s s).1 refl
value_same Utf8 _ h = absurd (false≢true h)

pub key_same : (columns : List KeyColumn) (k : List ValueTree) → is_key columns k ≡ true → is_same_key k k ≡ true
key_same [] [] h = refl
key_same [] (v ∷ vs) h = absurd (false≢true h)
key_same (c ∷ cs) [] h = absurd (false≢true h)
key_same (c ∷ cs) (v ∷ vs) h =
    let parts = and_parts (is_key_value c.kind v) (is_key cs vs) h in
    rw (value_same c.kind v parts.0) (key_same cs vs parts.1)

-- ---- the order of keys is total

boolean_part : ValueTree → Bool
boolean_part (boolean b) = b
boolean_part _ = false

number_part : ValueTree → ℤ
number_part (integer z) = z
number_part _ = pos 0

bytes_part : ValueTree → List ℕ
bytes_part (bytes s) = s
bytes_part _ = []

abbrev in_turn : ValueTree → ValueTree → Ordering
in_turn = then_cmp (on kind_rank nat_cmp) (then_cmp (on boolean_part bool_cmp) (then_cmp (on number_part int_cmp) (on bytes_part (slice_cmp nat_cmp))))

in_turn_total : IsTotalOrder in_turn
in_turn_total = then_total (on_total kind_rank nat_cmp_total) (then_total (on_total boolean_part bool_cmp_total) (then_total (on_total number_part int_cmp_total) (on_total bytes_part nat_list_cmp_total)))

then_equal : (o : Ordering) → ordering_then o Equal ≡ o
then_equal Less = refl
then_equal Equal = refl
then_equal Greater = refl

value_is : (v w : ValueTree) → value_cmp v w ≡ in_turn v w
unfolding boolean_part number_part bytes_part
value_is (boolean a) (boolean b) = sym (then_equal (bool_cmp a b))
value_is (integer a) (integer b) = sym (then_equal (int_cmp a b))
value_is (bytes a) (bytes b) = refl
value_is null null = refl
value_is null (boolean b) = refl
value_is null (integer b) = refl
value_is null (bytes b) = refl
value_is null (group b) = refl
value_is null (list b) = refl
value_is (boolean a) null = refl
value_is (boolean a) (integer b) = refl
value_is (boolean a) (bytes b) = refl
value_is (boolean a) (group b) = refl
value_is (boolean a) (list b) = refl
value_is (integer a) null = refl
value_is (integer a) (boolean b) = refl
value_is (integer a) (bytes b) = refl
value_is (integer a) (group b) = refl
value_is (integer a) (list b) = refl
value_is (bytes a) null = refl
value_is (bytes a) (boolean b) = refl
value_is (bytes a) (integer b) = refl
value_is (bytes a) (group b) = refl
value_is (bytes a) (list b) = refl
value_is (group a) null = refl
value_is (group a) (boolean b) = refl
value_is (group a) (integer b) = refl
value_is (group a) (bytes b) = refl
value_is (group a) (group b) = refl
value_is (group a) (list b) = refl
value_is (list a) null = refl
value_is (list a) (boolean b) = refl
value_is (list a) (integer b) = refl
value_is (list a) (bytes b) = refl
value_is (list a) (group b) = refl
value_is (list a) (list b) = refl

value_total : IsTotalOrder value_cmp
value_total = record {
  antisymm = λ x y. value_is x y ∙ in_turn_total.antisymm x y ∙ ap ordering_reverse (sym (value_is y x));
  trans = λ x y z p q. value_is x z ∙ in_turn_total.trans x y z (sym (value_is x y) ∙ p) (sym (value_is y z) ∙ q);
  congr = λ x y z p. value_is x z ∙ in_turn_total.congr x y z (sym (value_is x y) ∙ p) ∙ sym (value_is y z);
}

pub key_total : IsTotalOrder key_cmp
key_total = lists_total value_total

-- ---- keys that compare as equal are the same

equal_value : (kind : KeyKind) (v w : ValueTree) → is_key_value kind v ≡ true → is_key_value kind w ≡ true → value_cmp v w ≡ Equal → v ≡ w
equal_value Boolean (boolean a) (boolean b) p q h = ap boolean (boolean_equal a b h)
equal_value Boolean (boolean a) _ p q h = absurd (false≢true q)
equal_value Boolean _ _ p q h = absurd (false≢true p)
equal_value Int32 (integer a) (integer b) p q h = ap integer (exact_signed a b h)
equal_value Int32 (integer a) _ p q h = absurd (false≢true q)
equal_value Int32 _ _ p q h = absurd (false≢true p)
equal_value Int64 (integer a) (integer b) p q h = ap integer (exact_signed a b h)
equal_value Int64 (integer a) _ p q h = absurd (false≢true q)
equal_value Int64 _ _ p q h = absurd (false≢true p)
equal_value Utf8 (bytes a) (bytes b) p q h = ap bytes (exact_bytes a b h)
equal_value Utf8 (bytes a) _ p q h = absurd (false≢true q)
equal_value Utf8 _ _ p q h = absurd (false≢true p)

then_both : (o p : Ordering) → ordering_then o p ≡ Equal → (o ≡ Equal) × (p ≡ Equal)
then_both Less p h = cc
then_both Equal p h = (refl, h)
then_both Greater p h = cc

pub equal_key : (columns : List KeyColumn) (k l : List ValueTree) → is_key columns k ≡ true → is_key columns l ≡ true → key_cmp k l ≡ Equal → k ≡ l
equal_key [] [] [] p q h = refl
equal_key [] [] (w ∷ ws) p q h = absurd (false≢true q)
equal_key [] (v ∷ vs) ls p q h = absurd (false≢true p)
equal_key (c ∷ cs) [] ls p q h = absurd (false≢true p)
equal_key (c ∷ cs) (v ∷ vs) [] p q h = absurd (false≢true q)
equal_key (c ∷ cs) (v ∷ vs) (w ∷ ws) p q h =
    let pv = and_parts (is_key_value c.kind v) (is_key cs vs) p in
    let pw = and_parts (is_key_value c.kind w) (is_key cs ws) q in
    let each = then_both (value_cmp v w) (key_cmp vs ws) h in
    let first = equal_value c.kind v w pv.0 pw.0 each.0 in
    let rest = equal_key cs vs ws pv.1 pw.1 each.1 in
    λ i. first i ∷ rest i

below : (o p : Ordering) → p ≡ ordering_reverse o → is_lt o ≡ false → (p ≡ Equal → ⊥) → is_lt p ≡ true
below Less p e h n = absurd (false≢true (sym h))
below Equal p e h n = absurd (n e)
below Greater p e h n = ap is_lt e

-- of two different keys in order, the first is below
pub key_below : (columns : List KeyColumn) (k l : List ValueTree) → is_key columns k ≡ true → is_key columns l ≡ true → is_same_key k l ≡ false → is_lt (key_cmp l k) ≡ false → is_lt (key_cmp k l) ≡ true
key_below columns k l p q other up =
    below (key_cmp l k) (key_cmp k l) (key_total.antisymm k l) up
    (λ e. false≢true (sym other ∙ ap (is_same_key k) (sym (equal_key columns k l p q e)) ∙ key_same columns k p))
