-- A value that is put into a key.
use Rattle.std.proofs.Common.{◌≡◌, ℕ, zero, suc, ◌<◌, ◌≤◌, Bool, true, false, List, [], ◌∷◌, length, get_or, set, take, refl, ap, sym, ◌∙◌, arith}
use Rattle.std.specs.Prelude.{nat_eq, ◌||◌, if◌then◌else◌}
use Rattle.std.specs.List.{All}
use Rattle.std.proofs.lemmas.Bool.{eq-eqb}
use Rattle.std.proofs.lemmas.List.Elements.{All-head, All-tail}
use Rattle.schema.specs.declared.key.KeyColumn.{KeyColumn as CodeKeyColumn}
use Rattle.schema.specs.Cutting.{is_among}
use Rattle.schema.specs.Values.{ValueTree}
use Rattle.schema.specs.Keys.{key_columns_view, places_of}
use Rattle.gather.specs.declared.part.Part.{Part}
use Rattle.gather.specs.Parts.{part_view, parts_view, put_at}

-- the column is at another place
abbrev pub IsElsewhere : ℕ → CodeKeyColumn → Type 0
IsElsewhere place c = nat_eq c.at place ≡ false

abbrev pub places : List CodeKeyColumn → List ℕ
places columns = places_of (key_columns_view columns)

pub among_found : (columns : List CodeKeyColumn) (place i : ℕ) (column : CodeKeyColumn) → i < length columns → column ≡ get_or columns i column → column.at ≡ place → is_among (places columns) place ≡ true
among_found [] place i column h is at = absurd (omega (arith, h))
among_found (c ∷ cs) place zero column h is at = ap (λ (b : Bool). b || is_among (places cs) place) (eq-eqb c.at place (sym (ap (λ (d : CodeKeyColumn). d.at) is) ∙ at))
among_found (c ∷ cs) place (suc i) column h is at = by (nat_eq c.at place) (among_found cs place i column (omega (arith, h)) is at)
  where
    by : (b : Bool) → is_among (places cs) place ≡ true → (b || is_among (places cs) place) ≡ true
    by true e = refl
    by false e = e

pub put_found : (columns : List CodeKeyColumn) (place : ℕ) (v : ValueTree) (i : ℕ) (column : CodeKeyColumn) (key : List ValueTree) → i < length columns → column ≡ get_or columns i column → column.at ≡ place
    → All (IsElsewhere place) (take i columns) → i < length key → put_at (places columns) place v key ≡ set key i v
put_found [] place v i column key h is at other long = absurd (omega (arith, h))
put_found (c ∷ cs) place v i column [] h is at other long = absurd (omega (arith, long))
put_found (c ∷ cs) place v zero column (k ∷ key) h is at other long =
    ap (λ (b : Bool). if b then v ∷ key else k ∷ put_at (places cs) place v key) (eq-eqb c.at place (sym (ap (λ (d : CodeKeyColumn). d.at) is) ∙ at))
put_found (c ∷ cs) place v (suc i) column (k ∷ key) h is at other long =
    ap (λ (b : Bool). if b then v ∷ key else k ∷ put_at (places cs) place v key) (All-head (IsElsewhere place) c (take i cs) other)
    ∙ ap (λ (ks : List ValueTree). k ∷ ks) (put_found cs place v i column key (omega (arith, h)) is at (All-tail (IsElsewhere place) c (take i cs) other) (omega (arith, long)))

-- a key that is too short
pub put_short : (columns : List CodeKeyColumn) (place : ℕ) (v : ValueTree) (i : ℕ) (key : List ValueTree) → All (IsElsewhere place) (take i columns) → length key ≤ i → put_at (places columns) place v key ≡ key
put_short [] place v i key other short = refl
put_short (c ∷ cs) place v i [] other short = refl
put_short (c ∷ cs) place v zero (k ∷ key) other short = absurd (omega (arith, short))
put_short (c ∷ cs) place v (suc i) (k ∷ key) other short =
    ap (λ (b : Bool). if b then v ∷ key else k ∷ put_at (places cs) place v key) (All-head (IsElsewhere place) c (take i cs) other)
    ∙ ap (λ (ks : List ValueTree). k ∷ ks) (put_short cs place v i key (All-tail (IsElsewhere place) c (take i cs) other) (omega (arith, short)))

-- no column is there
pub among_none : (columns : List CodeKeyColumn) (place : ℕ) → All (IsElsewhere place) columns → is_among (places columns) place ≡ false
among_none [] place other = refl
among_none (c ∷ cs) place other =
    ap (λ (b : Bool). b || is_among (places cs) place) (All-head (IsElsewhere place) c cs other) ∙ among_none cs place (All-tail (IsElsewhere place) c cs other)

pub set_part : (parts : List Part) (i : ℕ) (p : Part) → parts_view (set parts i p) ≡ set (parts_view parts) i (part_view p)
set_part [] i p = refl
set_part (x ∷ parts) zero p = refl
set_part (x ∷ parts) (suc i) p = ap (λ (ks : List ValueTree). part_view x ∷ ks) (set_part parts i p)
