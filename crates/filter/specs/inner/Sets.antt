-- Sets of the numbers and of the byte strings of a list.
use Rattle.std.specs.Prelude.{◌≡◌, ℕ, ℤ, Bool, List, Vec}
use Rattle.std.specs.declared.alloc.Global.{Global}
use Rattle.std.specs.List.{list_any}
use Rattle.std.specs.Ordering.{int_eq}
use Rattle.std.specs.Str.{bytes_eq}
use Rattle.schema.specs.Values.{ValueTree, integer, bytes}
use Rattle.filter.specs.Same.{is_listed}

-- the keys of a set are the numbers in a list
abbrev pub HasNumbers : List ℤ → ValueTree → Type 0
HasNumbers keys values = (z : ℤ) → list_any (int_eq z) keys ≡ is_listed (integer z) values

-- a key is this byte string
abbrev pub is_text : List ℕ → Vec ℕ Global → Bool
is_text text key = bytes_eq text key.items

-- the keys of a set are the byte strings in a list
abbrev pub HasTexts : List (Vec ℕ Global) → ValueTree → Type 0
HasTexts keys values = (text : List ℕ) → list_any (is_text text) keys ≡ is_listed (bytes text) values
