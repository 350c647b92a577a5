-- What is taken of a value, by its type.
use Rattle.std.proofs.Common.{◌≡◌, ◌⊎◌, ℕ, ◌+◌, ◌-◌, ◌<◌, ◌≤◌, List, refl, sym, ap, subst, ◌∙◌, arith, inl, inr, Option, Some, None}
use Rattle.std.specs.Prelude.{ℤ, Bool, false, if◌then◌else◌}
use Rattle.std.proofs.lemmas.Bool.Decides.{nat_tests}
use Rattle.bits.specs.Codec.{NothingStands}
use Rattle.thrift_compact.specs.declared.tree.ElementType.{ElementType}
use Rattle.thrift_compact.specs.declared.tree.ElementType.TheVariants.{True, False, Other}
use Rattle.thrift_compact.specs.Tree.{Node, yes, no, flag, list, struct, nest}
use Rattle.thrift_compact.specs.Compact.{IsElement, IsValue, kind}
use Rattle.thrift_compact.specs.View.{code_of, is_type}
use Rattle.thrift_compact.specs.Reading.{IsNamed}
use Rattle.thrift_compact.specs.Values.{ReadAs, fields_by, elements_by}
use Rattle.thrift_compact.specs.inner.Reading.{FieldsTaken, ListTaken, ElementRead}
use Rattle.thrift_compact.proofs.NodeTypes.{is_list, is_struct}

-- ---- structs and lists

pub struct_taken : {S : Type 0} (step : S → ℤ → Node → Option S) (start : S) (code left : ℕ) (bytes : List ℕ) (held : S) (used : ℕ) → code ≡ 12 → ReadAs (fields_by step start) code left bytes held used → FieldsTaken step start (left - 1) bytes held used
struct_taken step start code left bytes held used c (x, v, e) =
    let i = is_struct x (v.0 ∙ c) in
    let n = subst (λ y. nest y ≤ left) i.1 v.1 in
    (i.0, (omega (arith, n), subst (λ y. IsValue y bytes used) i.1 v.2), subst (λ y. fields_by step start y ≡ Some held) i.1 e)

pub taken_struct : {S : Type 0} (step : S → ℤ → Node → Option S) (start : S) (code left : ℕ) (bytes : List ℕ) (held : S) (used : ℕ) → code ≡ 12 → (left ≡ 0 → ⊥) → FieldsTaken step start (left - 1) bytes held used → ReadAs (fields_by step start) code left bytes held used
taken_struct step start code left bytes held used c some (fs, v, e) = (struct fs, (sym c, omega (arith, v.0, some), v.1), e)

pub list_taken : {S : Type 0} (step : S → Node → Option S) (start : S) (code left : ℕ) (bytes : List ℕ) (held : S) (used : ℕ) → code ≡ 9 → ReadAs (elements_by step start) code left bytes held used → ListTaken step start (left - 1) bytes held used
list_taken step start code left bytes held used c (x, v, e) =
    let i = is_list x (v.0 ∙ c) in
    let n = subst (λ y. nest y ≤ left) i.1.1 v.1 in
    ((i.0, i.1.0), (omega (arith, n), subst (λ y. IsValue y bytes used) i.1.1 v.2), subst (λ y. elements_by step start y ≡ Some held) i.1.1 e)

pub taken_list : {S : Type 0} (step : S → Node → Option S) (start : S) (code left : ℕ) (bytes : List ℕ) (held : S) (used : ℕ) → code ≡ 9 → (left ≡ 0 → ⊥) → ListTaken step start (left - 1) bytes held used → ReadAs (elements_by step start) code left bytes held used
taken_list step start code left bytes held used c some (l, v, e) = (list l.0 l.1, (sym c, omega (arith, v.0, some), v.1), e)

-- ---- elements

-- a type of an element that is not boolean
abbrev pub IsPlain : ℕ → Type 0
IsPlain code = (code ≡ 1 → ⊥) × (code ≡ 2 → ⊥) × (code ≡ 16 → ⊥)

as_element : (code : ℕ) (x : Node) → IsPlain code → kind x ≡ code → IsElement code x
as_element code yes p e = absurd (p.0 (sym e))
as_element code no p e = absurd (p.1 (sym e))
as_element code (flag b) p e = absurd (p.2 (sym e))
as_element code x p e = sym e

as_value : (code : ℕ) (x : Node) → IsPlain code → IsElement code x → kind x ≡ code
as_value code yes p e = absurd e
as_value code no p e = absurd e
as_value code (flag b) p (inl e) = absurd (p.0 e)
as_value code (flag b) p (inr e) = absurd (p.1 e)
as_value code x p e = sym e

pub element_of_value : {Y : Type 0} (read : Node → Option Y) (code left : ℕ) (bytes : List ℕ) (y : Y) (used : ℕ) → IsPlain code → ReadAs read code left bytes y used → ElementRead read code left bytes y used
element_of_value read code left bytes y used p (x, v, e) = (x, (as_element code x p v.0, v.1, v.2), e)

pub value_of_element : {Y : Type 0} (read : Node → Option Y) (code left : ℕ) (bytes : List ℕ) (y : Y) (used : ℕ) → IsPlain code → ElementRead read code left bytes y used → ReadAs read code left bytes y used
value_of_element read code left bytes y used p (x, v, e) = (x, (as_value code x p v.0, v.1, v.2), e)

flag_only : (code : ℕ) (x : Node) → (code ≡ 1) ⊎ (code ≡ 2) → IsElement code x → (b : ℕ) × (x ≡ flag b)
flag_only code yes c e = absurd e
flag_only code no c e = absurd e
flag_only code (flag b) c e = (b, refl)
flag_only code x (inl c) e = absurd (omega (arith, c, e))
flag_only code x (inr c) e = absurd (omega (arith, c, e))

pub no_flag : {Y : Type 0} (read : Node → Option Y) (code left : ℕ) (bytes : List ℕ) → (code ≡ 1) ⊎ (code ≡ 2) → ((b : ℕ) → read (flag b) ≡ None) → NothingStands (ElementRead read code left bytes)
no_flag read code left bytes c none y used (x, v, e) =
    let f = flag_only code x c v.0 in
    let n = none f.0 in
    let s = subst (λ z. read z ≡ Some y) f.1 e in
    absurd (cc)

plain_other : (code : ℕ) → (code ≡ 0) ⊎ ((12 < code) × (code < 16)) → IsPlain (code_of (Other code))
plain_other code (inl e) =
    let c : code_of (Other code) ≡ 0 = ap (λ (n : ℕ). code_of (Other n)) e in
    (λ e. omega (arith, e, c), λ e. omega (arith, e, c), λ e. omega (arith, e, c))
plain_other code (inr (low, high)) =
    let t : is_type code ≡ false = grind (arith, nat_tests) in
    let c : code_of (Other code) ≡ code = ap (λ (b : Bool). if b then 16 + code else code) t in
    (λ e. omega (arith, e, c, low), λ e. omega (arith, e, c, low), λ e. omega (arith, e, c, high))

pub plain_type : (k : ElementType) → IsNamed k → (k ≡ True → ⊥) → (k ≡ False → ⊥) → IsPlain (code_of k)
plain_type True named t f = absurd (t refl)
plain_type False named t f = absurd (f refl)
plain_type (Other code) named t f = plain_other code named
plain_type k named t f = (λ e. omega (arith, e), λ e. omega (arith, e), λ e. omega (arith, e))
