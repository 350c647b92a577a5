-- Byte values that share prefixes, and what they are checked for.
use Rattle.std.proofs.Common.{◌≡◌, ℕ, suc, Bool, true, false, List, [], ◌∷◌, ◌++◌, length, map, Some, Ok, refl, sym, ap, subst, ◌∙◌, arith}
use Rattle.std.specs.Prelude.{ℤ, pos, IsTrue, Option}
use Rattle.std.specs.Int.{Width, w32}
use Rattle.std.proofs.lemmas.List.{length-map}
use Rattle.std.proofs.lemmas.List.FromFn.{length-map-range_with_len}
use Rattle.delta.specs.Delta.{IsDelta}
use Rattle.delta.specs.ByteDeltas.{AreCompleted, IsPrefixed, IsLengthsOver, IsPrefixesOver, sizes}
use Rattle.delta.specs.ValuesLeft.{values_left, last_taken, Advances}
use Rattle.delta.specs.declared.prefixes.Prefixed.{Prefixed}
use Rattle.schema.specs.declared.value.Kind.{Kind}
use Rattle.schema.specs.declared.value.Kind.TheVariants.{Boolean, Int32, Int64, ByteArray, FixedLenByteArray}
use Rattle.schema.specs.Annotations.{LeafType}
use Rattle.schema.specs.Fits.{fits_leaf}
use Rattle.schema.specs.Values.{bytes}
use Rattle.pages.specs.declared.encoding.Encoding.{Encoding}
use Rattle.pages.specs.declared.encoding.Encoding.TheVariants.{Plain, DeltaLengthByteArray, DeltaByteArray, ByteStreamSplit}
use Rattle.plain.specs.Split.{IsSplitReadOver}
use Rattle.pages.specs.Limits.{IsValueOver}
use Rattle.pages.specs.inner.Reading.{AllFit}

pub none_to_fit : (t : LeafType) (texts : List (List ℕ)) → length texts ≡ 0 → AllFit t (map bytes texts)
none_to_fit t [] size = tt
none_to_fit t (x ∷ texts) size = absurd (omega (arith, size))

-- the value that was taken is the first of those that were left
pub taken_fits : (t : LeafType) (old new : Prefixed) (found : Bool) → found ≡ true → Advances old new (Ok found) → AllFit t (map bytes (values_left old)) → IsTrue (fits_leaf t (bytes (last_taken new)))
taken_fits t old new true is takes fit = (subst (λ (ts : List (List ℕ)). AllFit t (map bytes ts)) takes fit).0
taken_fits t old new false is takes fit = cc

-- ---- how many values there are

pub delta_count : (w : Width) (text : List ℕ) (n : ℕ) (zs : List ℤ) (used : ℕ) → IsDelta w text n zs used → length zs ≡ n
delta_count w text n zs used p = ap length p.stands_for ∙ length-map-range_with_len _ 0 n

completed_count : (before : List ℕ) (prefixes : List ℕ) (suffixes values : List (List ℕ)) → AreCompleted before prefixes suffixes values → length values ≡ length prefixes
completed_count before [] [] [] p = refl
completed_count before (x ∷ prefixes) (s ∷ suffixes) (v ∷ values) p = ap suc (completed_count v prefixes suffixes values p.2)
completed_count before [] (s ∷ suffixes) values p = absurd p
completed_count before [] [] (v ∷ values) p = absurd p
completed_count before (x ∷ prefixes) [] values p = absurd p
completed_count before (x ∷ prefixes) (s ∷ suffixes) [] p = absurd p

pub prefixed_count : (text : List ℕ) (n : ℕ) (values : List (List ℕ)) (used : ℕ) → IsPrefixed text n values used → length values ≡ n
prefixed_count text n values used p = completed_count [] p.prefixes p.suffixes values p.completed ∙ sym (length-map p.prefixes pos) ∙ delta_count w32 text n (map pos p.prefixes) p.at p.shared

-- ---- none of no values is over

no_end : (xs : List ℤ) (before : List ℤ) (z : ℤ) (later : List ℤ) → length xs ≡ 0 → xs ≡ before ++ z ∷ later → ⊥
no_end [] [] z later size is = cc
no_end [] (b ∷ before) z later size is = cc
no_end (x ∷ xs) before z later size is = omega (arith, size)

no_lengths_over : (text : List ℕ) → IsLengthsOver text 0 → ⊥
no_lengths_over text p = no_end p.lengths (sizes p.over.before) (pos p.over.announced) p.over.later (delta_count w32 text 0 p.lengths p.at p.stand) p.over.are

no_prefixes_over : (text : List ℕ) → IsPrefixesOver text 0 → ⊥
no_prefixes_over text p = no_end p.prefixes (map pos p.over.before) (pos p.over.prefix) p.over.later_prefixes (delta_count w32 text 0 p.prefixes p.at p.shared) p.over.prefixes_are

no_split_over : (kind : Kind) (text : List ℕ) (n : ℕ) → n ≡ 0 → IsSplitReadOver kind text n → ⊥
no_split_over Boolean text n none p = p
no_split_over Int32 text n none p = p
no_split_over Int64 text n none p = p
no_split_over ByteArray text n none p = p
no_split_over (FixedLenByteArray size) text n none p = omega (arith, p.0, none)

pub nothing_over : (kind : Kind) (e : Option Encoding) (text : List ℕ) (n : ℕ) → n ≡ 0 → IsValueOver kind e text n → ⊥
nothing_over kind (Some Plain) text n none p = omega (arith, p.few, none)
nothing_over ByteArray (Some DeltaLengthByteArray) text n none p = no_lengths_over text (subst (IsLengthsOver text) none p)
nothing_over ByteArray (Some DeltaByteArray) text n none p = no_prefixes_over text (subst (IsPrefixesOver text) none p)
nothing_over (FixedLenByteArray size) (Some DeltaByteArray) text n none p = no_prefixes_over text (subst (IsPrefixesOver text) none p)
nothing_over kind (Some ByteStreamSplit) text n none p = no_split_over kind text n none p
nothing_over kind e text n none p = absurd p
