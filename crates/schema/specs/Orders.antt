-- The orders of values: parquet.thrift, ColumnOrder (TYPE_ORDER), by the annotation of the leaf.
use Rattle.std.specs.Prelude.{◌≡◌, ℤ, pos, negsuc, Bool, Option, Some, None, IsSome, is_some, IsTrue, option_map, FitsSigned, ◌⊎◌}
use Rattle.std.specs.Int.{Width, cast_unsigned}
use Rattle.std.specs.declared.cmp.Ordering.{Ordering}
use Rattle.std.specs.declared.cmp.Ordering.TheVariants.{Less, Equal, Greater}
use Rattle.std.specs.Ordering.{nat_cmp, int_cmp, bool_cmp, ordering_reverse, is_some_and, is_lt, is_le}
use Rattle.std.specs.Cmp.Lexicographic.{slice_cmp}
use Rattle.schema.specs.declared.order.Order.{Order}
use Rattle.schema.specs.declared.order.Order.TheVariants.{Signed, Unsigned, FalseFirst, Bytewise}
use Rattle.schema.specs.Annotations.{LeafType, order_of}
use Rattle.schema.specs.Values.{ValueTree, boolean, integer, bytes}
use Rattle.schema.specs.Fits.{fits_leaf}

-- signed numbers in the order of the unsigned numbers of the same bits: those below 0 come last
abbrev pub unsigned_cmp : ℤ → ℤ → Ordering
unsigned_cmp (pos a) (pos b) = nat_cmp a b
unsigned_cmp (pos a) (negsuc b) = Less
unsigned_cmp (negsuc a) (pos b) = Greater
unsigned_cmp (negsuc a) (negsuc b) = nat_cmp b a

-- How two values compare. Without an order there is no answer, nor for a null or a value of another type.
abbrev pub compared : Option Order → ValueTree → ValueTree → Option Ordering
compared (Some Signed) (integer a) (integer b) = Some (int_cmp a b)
compared (Some Unsigned) (integer a) (integer b) = Some (unsigned_cmp a b)
compared (Some FalseFirst) (boolean a) (boolean b) = Some (bool_cmp a b)
compared (Some Bytewise) (bytes a) (bytes b) = Some (slice_cmp nat_cmp a b)
compared _ _ _ = None

-- `compare` is a total order of the values with P
pub record IsTotal (P : ValueTree → Type 0) (compare : ValueTree → ValueTree → Option Ordering) : Type 0 where
  pub compares : (a b : ValueTree) → P a → P b → IsSome (compare a b)
  pub equal : (a b : ValueTree) → compare a b ≡ Some Equal → a ≡ b
  pub reversed : (a b : ValueTree) → compare a b ≡ option_map ordering_reverse (compare b a)
  pub chains : (a b c : ValueTree) → compare a b ≡ Some Less → compare b c ≡ Some Less → compare a c ≡ Some Less

-- the order of a leaf that has one is total on the leaf's values
abbrev pub OrdersAreTotal : Type 0
OrdersAreTotal = (t : LeafType) → IsSome (order_of t) → IsTotal (λ v. IsTrue (fits_leaf t v)) (compared (order_of t))

-- of signed numbers of w bits, the unsigned order is that of the unsigned numbers of the same bits
abbrev pub UnsignedOrderIsOfBits : Type 0
UnsignedOrderIsOfBits = (w : Width) (a b : ℤ) → FitsSigned w a → FitsSigned w b
    → unsigned_cmp a b ≡ nat_cmp (cast_unsigned w a) (cast_unsigned w b)

-- the order compares two values, and puts the first before the second
abbrev pub IsBelow : Option Order → ValueTree → ValueTree → Type 0
IsBelow order v w = IsTrue (is_some_and is_lt (compared order v w))

-- the order compares two values, and does not put the first after the second
abbrev pub IsAtMost : Option Order → ValueTree → ValueTree → Type 0
IsAtMost order v w = IsTrue (is_some_and is_le (compared order v w))

-- whether the order compares the value with itself
abbrev pub is_compared : Option Order → ValueTree → Bool
is_compared order v = is_some (compared order v v)

-- the laws of `IsAtMost` and `IsBelow` in an order, which bounds and filters rest on
pub record AtMostLaws (order : Option Order) : Type 0 where
  pub itself : (v : ValueTree) → IsTrue (is_compared order v) → IsAtMost order v v
  pub both : (v w : ValueTree) → IsAtMost order v w → IsAtMost order w v → v ≡ w
  pub chains : (u v w : ValueTree) → IsAtMost order u v → IsAtMost order v w → IsAtMost order u w
  pub before : (u v w : ValueTree) → IsAtMost order u v → IsBelow order v w → IsBelow order u w
  pub behind : (u v w : ValueTree) → IsBelow order u v → IsAtMost order v w → IsBelow order u w
  pub not_back : (v w : ValueTree) → IsAtMost order v w → IsBelow order w v → ⊥
  pub total : (v w : ValueTree) → IsTrue (is_compared order v) → IsTrue (is_compared order w) → IsAtMost order v w ⊎ IsBelow order w v

-- the laws of `IsAtMost` and `IsBelow` hold in each order
abbrev pub OrdersHaveAtMost : Type 0
OrdersHaveAtMost = (order : Option Order) → AtMostLaws order
