-- A page header is read with the header that its type names.
use Rattle.std.proofs.Common.{◌≡◌, ℕ, List, [], ◌++◌, ap, subst, ◌∙◌, Option, Some, None}
use Rattle.std.specs.Prelude.{Bool, true, false, if◌then◌else◌}
use Rattle.std.proofs.lemmas.List.{append-nil}
use Rattle.bits.specs.Codec.{NothingStands, NothingStandsEver, IsFunctional}
use Rattle.thrift_compact.specs.Tree.{Node, struct}
use Rattle.thrift_compact.specs.Law.{ValuesStay}
use Rattle.thrift_compact.specs.Values.{ValueOf, ReadAs}
use Rattle.metadata.specs.FieldValues.{◌>>=◌, record_by}
use Rattle.metadata.specs.Records.{PageHeader}
use Rattle.metadata.specs.FromTree.{any_page_header, has_own_header, page_header}
use Rattle.metadata.specs.Answers.{StandsFor}
use Rattle.metadata.proofs.Own.{has_own}
use Rattle.metadata.proofs.Readings.{none_ever, nothing_for}

own_chosen : (h : PageHeader) (b : Bool) → has_own_header h ≡ b → (o : Option PageHeader) → o ≡ Some h → (o >>= λ x. if has_own_header x then Some x else None) ≡ (if b then Some h else None)
own_chosen h b own o e = ap (λ (p : Option PageHeader). p >>= λ x. if has_own_header x then Some x else None) e ∙ ap (λ (c : Bool). if c then Some h else None) own

pub own_stands : (bytes : List ℕ) (h : PageHeader) (used : ℕ) → has_own_header h ≡ true → StandsFor any_page_header bytes h used → StandsFor page_header bytes h used
own_stands bytes h used own s = record { fields = s.fields; spelled = s.spelled; record_of = own_chosen h true own (any_page_header s.fields) s.record_of }

any_stands : (bytes : List ℕ) (h : PageHeader) (used : ℕ) → StandsFor page_header bytes h used → StandsFor any_page_header bytes h used
any_stands bytes h used s = record { fields = s.fields; spelled = s.spelled; record_of = (has_own s.fields h s.record_of).1 }

pub none_of_any : (bytes : List ℕ) → NothingStands (StandsFor any_page_header bytes) → NothingStands (StandsFor page_header bytes)
none_of_any bytes nothing h used s = nothing h used (any_stands bytes h used s)

not_own : (h : PageHeader) → has_own_header h ≡ false → (x : Node) → record_by any_page_header x ≡ Some h → record_by page_header x ≡ None
not_own h own (struct fs) e = own_chosen h false own (any_page_header fs) e
not_own h own x e = absurd (cc)

-- where the header that its type names is absent, no page header stands whatever follows
pub none_without : (code left : ℕ) (bytes : List ℕ) (h : PageHeader) (used : ℕ) → code ≡ 12 → left ≡ 33 → ((code left : ℕ) → IsFunctional (ValueOf code left)) → ValuesStay → has_own_header h ≡ false → ReadAs (record_by any_page_header) code left bytes h used
    → NothingStandsEver (StandsFor page_header) bytes
none_without code left bytes h used c l one stay own s more =
    nothing_for page_header code left (bytes ++ more) c l (none_ever (record_by any_page_header) (record_by page_header) code left bytes h used one stay (not_own h own) s more)

pub at_once : {Y : Type 0} (Stands : List ℕ → Y → ℕ → Type 0) (bytes : List ℕ) → NothingStandsEver Stands bytes → NothingStands (Stands bytes)
at_once Stands bytes nothing = subst (λ b. NothingStands (Stands b)) (append-nil bytes) (nothing [])
