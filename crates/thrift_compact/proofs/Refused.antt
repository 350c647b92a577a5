-- A refusal of a part is one of the whole, where nothing stands in the whole.
use Rattle.std.proofs.Common.{◌≡◌, ◌⊎◌, ℕ, ◌-◌, ◌≤◌, List, [], ◌++◌, length, Result, Err, sym, subst, arith, inl, inr}
use Rattle.std.specs.Prelude.{◌↔◌}
use Rattle.std.specs.Result.{IsErrAnd}
use Rattle.std.proofs.lemmas.Bool.{cases_lt}
use Rattle.std.proofs.lemmas.List.{append-nil, get_or_append_left, take-append-le}
use Rattle.bits.specs.declared.refusal.Refusal.{Refusal}
use Rattle.bits.specs.declared.refusal.Refusal.TheVariants.{Truncated, Thrift, Memory}
use Rattle.bits.specs.Refusals.{IsFault, HasCause, RefusedOnly}
use Rattle.bits.specs.Codec.{NothingStands, NothingStandsEver}
use Rattle.bits.specs.Varint.{IsUleb, IsCutUleb}
use Rattle.bits.proofs.Passing.{passes}
use Rattle.thrift_compact.specs.inner.Reading.{IsRefusedFor}

-- what holds whatever follows holds where nothing does
pub with_nothing_more : {Y : Type 0} (Stands : List ℕ → Y → ℕ → Type 0) (bytes : List ℕ) → NothingStands (Stands (bytes ++ [])) → NothingStands (Stands bytes)
with_nothing_more Stands bytes nothing = subst (λ b. NothingStands (Stands b)) (append-nil bytes) nothing

because : {Y Z : Type 0} (Part : List ℕ → Y → ℕ → Type 0) (part : List ℕ) (Whole : List ℕ → Z → ℕ → Type 0) (whole : List ℕ) (e : Refusal) → HasCause (IsRefusedFor Part part) e
    → ((more : List ℕ) → NothingStands (Part (part ++ more)) → NothingStands (Whole (whole ++ more))) → HasCause (IsRefusedFor Whole whole) e
because Part part Whole whole Memory p nothing = p
because Part part Whole whole Truncated p nothing = with_nothing_more Whole whole (nothing [] (subst (λ b. NothingStands (Part b)) (sym (append-nil part)) p))
because Part part Whole whole Thrift p nothing = λ more. nothing more (p more)
because Part part Whole whole e p nothing = absurd p

-- what a `?` passes on
pub refused : {X Y Z : Type 0} (Part : List ℕ → Y → ℕ → Type 0) (part : List ℕ) (Whole : List ℕ → Z → ℕ → Type 0) (whole : List ℕ) (r : Result X Refusal) (e : Refusal) → IsErrAnd r (λ f. f ≡ e) → HasCause (IsRefusedFor Part part) e
    → ((more : List ℕ) → NothingStands (Part (part ++ more)) → NothingStands (Whole (whole ++ more))) → RefusedOnly (IsRefusedFor Whole whole) r
refused Part part Whole whole r e is p nothing = passes (HasCause (IsRefusedFor Whole whole)) r e is (because Part part Whole whole e p nothing)

-- a varint that ends within the first bytes is one of these alone
uleb_within : (bytes more : List ℕ) (n u : ℕ) → u ≤ length bytes → IsUleb (bytes ++ more) n u → IsUleb bytes n u
uleb_within bytes more n u le p = record {
  begins = p.begins;
  within = le;
  ten = p.ten;
  more = λ k lt. rw (sym (get_or_append_left bytes more 0 k (omega (arith, le)))) (p.more k lt);
  last = rw (sym (get_or_append_left bytes more 0 (u - 1) (omega (arith, le, p.begins)))) p.last;
  number = rw (sym (take-append-le u bytes more le)) p.number;
  fits = p.fits;
}

-- where none is there, and the bytes are not cut, there is none whatever follows
none_ever : (bytes : List ℕ) → NothingStands (IsUleb bytes) → (IsCutUleb bytes → ⊥) → NothingStandsEver IsUleb bytes
none_ever bytes nothing whole more n u p = elim (cases_lt (length bytes) u) [
  | inl lt ↦ whole (record { few = omega (arith, lt, p.ten); more = λ k le. rw (sym (get_or_append_left bytes more 0 k le)) (p.more k (omega (arith, lt, le))) })
  | inr le ↦ nothing n u (uleb_within bytes more n u le p)
]

-- a result, with the type of what it holds
abbrev result_of : (X : Type 0) → Result X Refusal → Result X Refusal
result_of X r = r

-- what a number's reader says of its refusal
pub uleb_refused : {X : Type 0} (bytes : List ℕ) (e : Refusal) → (IsFault e → NothingStands (IsUleb bytes)) → (e ≡ Truncated) ⊎ (e ≡ Thrift) → (result_of X (Err e) ≡ Err Truncated) ↔ IsCutUleb bytes
    → HasCause (IsRefusedFor IsUleb bytes) e
uleb_refused bytes Truncated only which cut = only tt
uleb_refused bytes Thrift only which cut = none_ever bytes (only tt) (λ is. absurd (let e = cut.1 is in cc))
uleb_refused bytes e only (inl is) cut = absurd (cc)
uleb_refused bytes e only (inr is) cut = absurd (cc)
