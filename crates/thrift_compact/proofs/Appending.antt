-- Bytes written one behind the other.
use Rattle.std.proofs.Common.{◌≡◌, ℕ, ◌+◌, ◌≤◌, List, [], ◌∷◌, ◌++◌, length, drop, refl, sym, ap, subst, ◌∙◌, arith, append_assoc}
use Rattle.std.proofs.lemmas.List.{length-append, append-nil}
use Rattle.std.proofs.Common.{Result, Ok, Err}
use Rattle.std.specs.Prelude.{OnOk}
use Rattle.lists.proofs.Slices.{drop_front}
use Rattle.bits.specs.declared.refusal.Refusal.{Refusal}
use Rattle.bits.specs.Codec.{Appends}
use Rattle.thrift_compact.specs.Compact.{IsByte}
use Rattle.thrift_compact.specs.inner.Writing.{Keeps}

pub keeps_same : (old : List ℕ) → Keeps old old
keeps_same old = record { text = []; joined = sym (append-nil old) }

pub keeps_then : (old mid new : List ℕ) → Keeps old mid → Keeps mid new → Keeps old new
keeps_then old mid new p q = record { text = p.text ++ q.text; joined = q.joined ∙ ap (λ (b : List ℕ). b ++ q.text) p.joined ∙ append_assoc old p.text q.text }

pub keeps : (Stands : List ℕ → ℕ → Type 0) (most : ℕ) (old new : List ℕ) → Appends Stands most old new → Keeps old new
keeps Stands most old new p = record { text = p.text; joined = p.joined }

-- what stands so stands otherwise too, and is no longer than this
pub appends_as : (Stands Others : List ℕ → ℕ → Type 0) (most other : ℕ) (old new : List ℕ) → ((bytes : List ℕ) (used : ℕ) → Stands bytes used → Others bytes used) → ((bytes : List ℕ) (used : ℕ) → Stands bytes used → used ≤ other)
    → Appends Stands most old new → Appends Others other old new
appends_as Stands Others most other old new then_so least p = record { text = p.text; joined = p.joined; stands = λ more. then_so (p.text ++ more) (length p.text) (p.stands more); short = least (p.text ++ []) (length p.text) (p.stands []) }

-- the same under the same bound
pub appends_so : (Stands Others : List ℕ → ℕ → Type 0) (most : ℕ) (old new : List ℕ) → ((bytes : List ℕ) (used : ℕ) → Stands bytes used → Others bytes used) → Appends Stands most old new → Appends Others most old new
appends_so Stands Others most old new then_so p = record { text = p.text; joined = p.joined; stands = λ more. then_so (p.text ++ more) (length p.text) (p.stands more); short = p.short }

-- one text, and another behind it
pub appends_then : (First Second Both : List ℕ → ℕ → Type 0) (m n : ℕ) (old mid new : List ℕ)
    → ((bytes : List ℕ) (u v : ℕ) → First bytes u → Second (drop u bytes) v → Both bytes (u + v))
    → Appends First m old mid → Appends Second n mid new → Appends Both (m + n) old new
appends_then First Second Both m n old mid new both p q = record {
  text = p.text ++ q.text;
  joined = q.joined ∙ ap (λ (b : List ℕ). b ++ q.text) p.joined ∙ append_assoc old p.text q.text;
  stands = λ more.
      let first = p.stands (q.text ++ more) in
      let second = subst (λ (b : List ℕ). Second b (length q.text)) (sym (drop_front p.text (q.text ++ more))) (q.stands more) in
      let whole = both (p.text ++ (q.text ++ more)) (length p.text) (length q.text) first second in
      let bytes = subst (λ (b : List ℕ). Both b (length p.text + length q.text)) (sym (append_assoc p.text q.text more)) whole in
      subst (λ (u : ℕ). Both ((p.text ++ q.text) ++ more) u) (sym (length-append p.text q.text)) bytes;
  short = omega (arith, p.short, q.short, length-append p.text q.text);
}

pub ok_then : {X : Type 0} {P Q : Type 0} (r : Result X Refusal) → (P → Q) → OnOk r P → OnOk r Q
ok_then (Ok x) f p = f p
ok_then (Err e) f p = p

-- a byte was pushed
pub pushed : (old new : List ℕ) (b : ℕ) → new ≡ old ++ b ∷ [] → Appends (λ bytes. IsByte bytes b) 1 old new
pushed old new b e = record { text = b ∷ []; joined = e; stands = λ more. record { some = omega arith; is = refl; one = refl }; short = omega arith }
