-- The orders of leaves.
use Rattle.std.proofs.Common.{◌≡◌, ℕ, ◌-◌, ◌<◌, ◌≤◌, ◌^◌, suc, ℤ, pos, negsuc, Bool, true, false, List, Option, Some, None, IsSome, IsTrue, refl, ap, sym, ◌∙◌, arith}
use Rattle.std.specs.Prelude.{option_map, ◌==◌, if◌then◌else◌}
use Rattle.std.specs.Int.{Width, w8, w16, w32, w64, w128}
use mir.Val.{bits, hbits}
use Rattle.std.specs.declared.cmp.Ordering.{Ordering}
use Rattle.std.specs.declared.cmp.Ordering.TheVariants.{Less, Equal, Greater}
use Rattle.std.specs.Ordering.{nat_cmp, int_cmp, bool_cmp, ordering_reverse, MatchOrdering}
use Rattle.std.specs.Cmp.{bool_cmp_total, nat_cmp_is, ranked}
use Rattle.std.specs.Cmp.Lexicographic.{slice_cmp}
use Rattle.std.proofs.lemmas.Bool.{and_parts}
use Rattle.std.proofs.lemmas.Cmp.{nat_cmp_total, int_cmp_total, nat_list_cmp_total}
use Rattle.std.proofs.lemmas.Map.Lookups.{exact_unsigned, exact_signed, exact_bytes}
use Rattle.lists.proofs.Booleans.{same_by_bool_cmp as bool_equal}
use Rattle.schema.specs.declared.value.Kind.{Kind}
use Rattle.schema.specs.declared.value.Kind.TheVariants.{Boolean, Int32, Int64, ByteArray, FixedLenByteArray}
use Rattle.schema.specs.declared.annotation.ConvertedType.{ConvertedType}
use Rattle.schema.specs.declared.annotation.ConvertedType.TheVariants as converted
use Rattle.schema.specs.declared.order.Order.{Order}
use Rattle.schema.specs.declared.order.Order.TheVariants.{Signed, Unsigned, FalseFirst, Bytewise}
use Rattle.schema.specs.declared.order.Standing.{Standing}
use Rattle.schema.specs.declared.order.Standing.TheVariants.{Unknown, Unordered, Ordered}
use Rattle.schema.specs.Values.{ValueTree, boolean, integer, bytes}
use Rattle.schema.specs.Annotations.{Annotation, plain, known, other_converted, other_logical, is_text, standing, plain_order, order_by_standing, order_over}
use Rattle.schema.specs.Fits.{fits_kind, is_valid_text}
use Rattle.schema.specs.Orders.{unsigned_cmp, compared, IsTotal, OrdersAreTotal, UnsignedOrderIsOfBits}

-- what an answer holds
inside : (a b : Ordering) → Some a ≡ Some b → a ≡ b
inside a b h = cc

-- ---- the unsigned order

unsigned_reversed : (a b : ℤ) → unsigned_cmp a b ≡ ordering_reverse (unsigned_cmp b a)
unsigned_reversed (pos a) (pos b) = nat_cmp_total.antisymm a b
unsigned_reversed (pos a) (negsuc b) = refl
unsigned_reversed (negsuc a) (pos b) = refl
unsigned_reversed (negsuc a) (negsuc b) = nat_cmp_total.antisymm b a

unsigned_chains : (a b c : ℤ) → unsigned_cmp a b ≡ Less → unsigned_cmp b c ≡ Less → unsigned_cmp a c ≡ Less
unsigned_chains (pos a) (pos b) (pos c) h k = nat_cmp_total.trans a b c h k
unsigned_chains (pos a) (pos b) (negsuc c) h k = refl
unsigned_chains (pos a) (negsuc b) (pos c) h k = cc
unsigned_chains (pos a) (negsuc b) (negsuc c) h k = refl
unsigned_chains (negsuc a) (pos b) c h k = cc
unsigned_chains (negsuc a) (negsuc b) (pos c) h k = cc
unsigned_chains (negsuc a) (negsuc b) (negsuc c) h k = nat_cmp_total.trans c b a k h

unsigned_equal : (a b : ℤ) → unsigned_cmp a b ≡ Equal → a ≡ b
unsigned_equal (pos a) (pos b) h = ap pos (exact_unsigned a b h)
unsigned_equal (pos a) (negsuc b) h = cc
unsigned_equal (negsuc a) (pos b) h = cc
unsigned_equal (negsuc a) (negsuc b) h = ap negsuc (sym (exact_unsigned b a h))

-- ---- the laws, order by order

equal_of : (o : Order) (a b : ValueTree) → compared (Some o) a b ≡ Some Equal → a ≡ b
equal_of Signed (integer a) (integer b) h = ap integer (exact_signed a b (inside _ _ h))
equal_of Signed _ _ h = cc
equal_of Unsigned (integer a) (integer b) h = ap integer (unsigned_equal a b (inside _ _ h))
equal_of Unsigned _ _ h = cc
equal_of FalseFirst (boolean a) (boolean b) h = ap boolean (bool_equal a b (inside _ _ h))
equal_of FalseFirst _ _ h = cc
equal_of Bytewise (bytes a) (bytes b) h = ap bytes (exact_bytes a b (inside _ _ h))
equal_of Bytewise _ _ h = cc

-- what two comparable parts answer
abbrev both : {K : Type 0} → (K → K → Ordering) → Option K → Option K → Option Ordering
both R (Some x) (Some y) = Some (R x y)
both R _ _ = None

both_reversed : {K : Type 0} (R : K → K → Ordering) → ((x y : K) → R x y ≡ ordering_reverse (R y x)) → (p q : Option K) → both R p q ≡ option_map ordering_reverse (both R q p)
both_reversed R h None None = refl
both_reversed R h None (Some y) = refl
both_reversed R h (Some x) None = refl
both_reversed R h (Some x) (Some y) = ap Some (h x y)

abbrev as_integer : ValueTree → Option ℤ
as_integer (integer z) = Some z
as_integer _ = None

abbrev as_boolean : ValueTree → Option Bool
as_boolean (boolean b) = Some b
as_boolean _ = None

abbrev as_bytes : ValueTree → Option (List ℕ)
as_bytes (bytes s) = Some s
as_bytes _ = None

by_signed : (a b : ValueTree) → compared (Some Signed) a b ≡ both int_cmp (as_integer a) (as_integer b)
by_signed (integer a) (integer b) = refl
by_signed _ _ = refl

by_unsigned : (a b : ValueTree) → compared (Some Unsigned) a b ≡ both unsigned_cmp (as_integer a) (as_integer b)
by_unsigned (integer a) (integer b) = refl
by_unsigned _ _ = refl

by_false_first : (a b : ValueTree) → compared (Some FalseFirst) a b ≡ both bool_cmp (as_boolean a) (as_boolean b)
by_false_first (boolean a) (boolean b) = refl
by_false_first _ _ = refl

by_bytes : (a b : ValueTree) → compared (Some Bytewise) a b ≡ both (slice_cmp nat_cmp) (as_bytes a) (as_bytes b)
by_bytes (bytes a) (bytes b) = refl
by_bytes _ _ = refl

reversed_of : (o : Order) (a b : ValueTree) → compared (Some o) a b ≡ option_map ordering_reverse (compared (Some o) b a)
reversed_of Signed a b = by_signed a b ∙ both_reversed int_cmp int_cmp_total.antisymm (as_integer a) (as_integer b) ∙ ap (option_map ordering_reverse) (sym (by_signed b a))
reversed_of Unsigned a b = by_unsigned a b ∙ both_reversed unsigned_cmp unsigned_reversed (as_integer a) (as_integer b) ∙ ap (option_map ordering_reverse) (sym (by_unsigned b a))
reversed_of FalseFirst a b = by_false_first a b ∙ both_reversed bool_cmp bool_cmp_total.antisymm (as_boolean a) (as_boolean b) ∙ ap (option_map ordering_reverse) (sym (by_false_first b a))
reversed_of Bytewise a b = by_bytes a b ∙ both_reversed (slice_cmp nat_cmp) nat_list_cmp_total.antisymm (as_bytes a) (as_bytes b) ∙ ap (option_map ordering_reverse) (sym (by_bytes b a))

chains_of : (o : Order) (a b c : ValueTree) → compared (Some o) a b ≡ Some Less → compared (Some o) b c ≡ Some Less → compared (Some o) a c ≡ Some Less
chains_of Signed (integer a) (integer b) (integer c) h k = ap Some (int_cmp_total.trans a b c (inside _ _ h) (inside _ _ k))
chains_of Signed _ _ _ h k = cc
chains_of Unsigned (integer a) (integer b) (integer c) h k = ap Some (unsigned_chains a b c (inside _ _ h) (inside _ _ k))
chains_of Unsigned _ _ _ h k = cc
chains_of FalseFirst (boolean a) (boolean b) (boolean c) h k = ap Some (bool_cmp_total.trans a b c (inside _ _ h) (inside _ _ k))
chains_of FalseFirst _ _ _ h k = cc
chains_of Bytewise (bytes a) (bytes b) (bytes c) h k = ap Some (nat_list_cmp_total.trans a b c (inside _ _ h) (inside _ _ k))
chains_of Bytewise _ _ _ h k = cc

-- ---- the same, where there may be no order

pub equal_in : (o : Option Order) (a b : ValueTree) → compared o a b ≡ Some Equal → a ≡ b
equal_in (Some o) a b h = equal_of o a b h
equal_in None a b h = cc

pub reversed_in : (o : Option Order) (a b : ValueTree) → compared o a b ≡ option_map ordering_reverse (compared o b a)
reversed_in (Some o) a b = reversed_of o a b
reversed_in None a b = refl

pub chains_in : (o : Option Order) (a b c : ValueTree) → compared o a b ≡ Some Less → compared o b c ≡ Some Less → compared o a c ≡ Some Less
chains_in (Some o) a b c h k = chains_of o a b c h k
chains_in None a b c h k = cc

-- ---- which values the order of a leaf compares

-- an order compares a value
abbrev IsOf : Order → ValueTree → Type 0
IsOf Signed (integer a) = Unit {0}
IsOf Unsigned (integer a) = Unit {0}
IsOf FalseFirst (boolean a) = Unit {0}
IsOf Bytewise (bytes a) = Unit {0}
IsOf _ _ = ⊥

compares_of : (o : Order) (a b : ValueTree) → IsOf o a → IsOf o b → IsSome (compared (Some o) a b)
compares_of Signed (integer a) (integer b) p q = refl
compares_of Unsigned (integer a) (integer b) p q = refl
compares_of FalseFirst (boolean a) (boolean b) p q = refl
compares_of Bytewise (bytes a) (bytes b) p q = refl
compares_of Signed (integer a) _ p q = absurd q
compares_of Unsigned (integer a) _ p q = absurd q
compares_of FalseFirst (boolean a) _ p q = absurd q
compares_of Bytewise (bytes a) _ p q = absurd q
compares_of _ _ _ p q = absurd p

total_of : (P : ValueTree → Type 0) (o : Order) → ((v : ValueTree) → P v → IsOf o v) → IsTotal P (compared (Some o))
total_of P o of = record {
  compares = λ a b p q. compares_of o a b (of a p) (of b q);
  equal = equal_of o;
  reversed = reversed_of o;
  chains = chains_of o;
}

-- an order compares the values of a physical type
abbrev Suits : Kind → Order → Type 0
Suits Boolean FalseFirst = Unit {0}
Suits Int32 Signed = Unit {0}
Suits Int32 Unsigned = Unit {0}
Suits Int64 Signed = Unit {0}
Suits Int64 Unsigned = Unit {0}
Suits ByteArray Bytewise = Unit {0}
Suits (FixedLenByteArray n) Bytewise = Unit {0}
Suits _ _ = ⊥

values_of : (k : Kind) (o : Order) → Suits k o → (v : ValueTree) → IsTrue (fits_kind k v) → IsOf o v
values_of Boolean FalseFirst s (boolean a) h = tt
values_of Boolean FalseFirst s _ h = cc
values_of Boolean _ s v h = absurd s
values_of Int32 Signed s (integer a) h = tt
values_of Int32 Signed s _ h = cc
values_of Int32 Unsigned s (integer a) h = tt
values_of Int32 Unsigned s _ h = cc
values_of Int32 _ s v h = absurd s
values_of Int64 Signed s (integer a) h = tt
values_of Int64 Signed s _ h = cc
values_of Int64 Unsigned s (integer a) h = tt
values_of Int64 Unsigned s _ h = cc
values_of Int64 _ s v h = absurd s
values_of ByteArray Bytewise s (bytes a) h = tt
values_of ByteArray Bytewise s _ h = cc
values_of ByteArray _ s v h = absurd s
values_of (FixedLenByteArray n) Bytewise s (bytes a) h = tt
values_of (FixedLenByteArray n) Bytewise s _ h = cc
values_of (FixedLenByteArray n) _ s v h = absurd s

plain_suits : (k : Kind) → Suits k (plain_order k)
plain_suits Boolean = tt
plain_suits Int32 = tt
plain_suits Int64 = tt
plain_suits ByteArray = tt
plain_suits (FixedLenByteArray n) = tt

abbrev StandingSuits : Kind → Standing → Type 0
StandingSuits k Unknown = Unit {0}
StandingSuits k Unordered = Unit {0}
StandingSuits k (Ordered o) = Suits k o

at_twelve : (n : ℕ) (b : Bool) → StandingSuits (FixedLenByteArray n) (if b then Unordered else Unknown)
at_twelve n true = tt
at_twelve n false = tt

standing_suits : (k : Kind) (c : ConvertedType) → StandingSuits k (standing k c)
standing_suits Boolean converted.Decimal = tt
standing_suits Boolean _ = tt
standing_suits Int32 converted.Decimal = tt
standing_suits Int32 _ = tt
standing_suits Int64 converted.Decimal = tt
standing_suits Int64 _ = tt
standing_suits ByteArray converted.Decimal = tt
standing_suits ByteArray _ = tt
standing_suits (FixedLenByteArray n) converted.Interval = at_twelve n (n == 12)
standing_suits (FixedLenByteArray n) _ = tt

standing_total : (P : ValueTree → Type 0) (k : Kind) (s : Standing) → StandingSuits k s → ((v : ValueTree) → P v → IsTrue (fits_kind k v))
    → IsSome (order_by_standing s) → IsTotal P (compared (order_by_standing s))
standing_total P k Unknown s f h = absurd cc
standing_total P k Unordered s f h = absurd cc
standing_total P k (Ordered o) s f h = total_of P o (λ v p. values_of k o s v (f v p))

total_over : (P : ValueTree → Type 0) (k : Kind) (a : Annotation) → ((v : ValueTree) → P v → IsTrue (fits_kind k v))
    → IsSome (order_over k a) → IsTotal P (compared (order_over k a))
total_over P k plain f h = total_of P (plain_order k) (λ v p. values_of k (plain_order k) (plain_suits k) v (f v p))
total_over P k (known c) f h = standing_total P k (standing k c) (standing_suits k c) f h
total_over P k (other_converted z) f h = absurd cc
total_over P k (other_logical s) f h = absurd cc

pub orders_are_total : OrdersAreTotal
orders_are_total t h = total_over _ t.kind t.annotation (λ v p. (and_parts (fits_kind t.kind v) (if is_text t.kind t.annotation then is_valid_text v else true) p).0) h

-- ---- the unsigned order and bits

below_half : (w : Width) (a b : ℕ) → a < 2 ^ hbits w → b < 2 ^ hbits w → a < 2 ^ bits w - suc b
below_half w8 a b f g = omega arith
below_half w16 a b f g = omega arith
below_half w32 a b f g = omega arith
below_half w64 a b f g = omega arith
below_half w128 a b f g = omega arith

below_whole : (w : Width) (a : ℕ) → a < 2 ^ hbits w → suc a ≤ 2 ^ bits w
below_whole w8 a f = omega arith
below_whole w16 a f = omega arith
below_whole w32 a f = omega arith
below_whole w64 a f = omega arith
below_whole w128 a f = omega arith

turned : (n a b : ℕ) (r : Ordering) → suc a ≤ n → suc b ≤ n → MatchOrdering r (b < a) (b ≡ a) (a < b) → MatchOrdering r (n - suc a < n - suc b) (n - suc a ≡ n - suc b) (n - suc b < n - suc a)
turned n a b Less f g h = omega arith
turned n a b Equal f g h = omega arith
turned n a b Greater f g h = omega arith

pub unsigned_order_is_of_bits : UnsignedOrderIsOfBits
unsigned_order_is_of_bits w (pos a) (pos b) f g = refl
unsigned_order_is_of_bits w (pos a) (negsuc b) f g = nat_cmp_is a (2 ^ bits w - suc b) Less (below_half w a b f.sfits g.sfits)
unsigned_order_is_of_bits w (negsuc a) (pos b) f g = nat_cmp_is (2 ^ bits w - suc a) b Greater (below_half w b a g.sfits f.sfits)
unsigned_order_is_of_bits w (negsuc a) (negsuc b) f g = nat_cmp_is (2 ^ bits w - suc a) (2 ^ bits w - suc b) (nat_cmp b a) (turned (2 ^ bits w) a b (nat_cmp b a) (below_whole w a f.sfits) (below_whole w b g.sfits) (ranked b a (nat_cmp b a) refl))
