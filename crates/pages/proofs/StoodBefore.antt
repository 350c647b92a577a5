-- What is known of a page that was read before, down to its values in PLAIN.
use Rattle.std.proofs.Common.{◌≡◌, ℕ, Bool, true, false, List, [], ◌∷◌, length, Option, refl, sym, subst}
use Rattle.std.specs.Prelude.{Result, Ok, Err, IsTrue}
use Rattle.bits.specs.declared.refusal.Refusal.{Refusal}
use Rattle.bits.specs.declared.refusal.Refusal.TheVariants.{Limit, Memory}
use Rattle.bits.specs.Codec.{IsFunctional, NothingStands}
use Rattle.bits.specs.Refusals.{OnFault, RefusedOnly, RefusedMemoryOnly}
use Rattle.metadata.specs.Records.{DataPageHeader, DataPageHeaderV2}
use Rattle.plain.specs.Plain.{IsPlain}
use Rattle.schema.specs.Annotations.{LeafType}
use Rattle.schema.specs.Fits.{fits_leaf}
use Rattle.schema.specs.Stripe.{Leaf}
use Rattle.schema.specs.Values.{ValueTree}
use Rattle.schema.specs.declared.value.Kind.{Kind}
use Rattle.pages.specs.declared.encoding.Encoding.{Encoding}
use Rattle.pages.specs.declared.encoding.Encoding.TheVariants.{Plain}
use Rattle.pages.specs.declared.standing.Standing.{Standing}
use Rattle.pages.specs.declared.standing.Standing.TheVariants.{Unknown, Known}
use Rattle.pages.specs.Encodings.{encoding_of}
use Rattle.pages.specs.Limits.{IsValueOver, IsOfPages, full}
use Rattle.pages.specs.Page.{AreLevelsV1, AreLevelsV2}
use Rattle.pages.specs.inner.Reading.{AllFit, StandInAnyChunk, StandInNoChunk, IsDataOver, IsDataOverV2, RuledOut}

-- what has a ruled out consequence is ruled out
pub rules_out : {P Q : Type 0} (s : Standing) → (P → Q) → RuledOut s Q → RuledOut s P
rules_out Unknown f none = tt
rules_out Known f none = λ p. none (f p)

pub where_known : {P : Type 0} (s : Standing) → s ≡ Known → RuledOut s P → P → ⊥
where_known Unknown is none = absurd cc
where_known Known is none = none

-- where neither a fault nor Limit can come, memory is left
pub memory_only : {X P Over : Type 0} (r : Result X Refusal) → (P → ⊥) → (Over → ⊥) → OnFault r P → (r ≡ Err Limit → Over) → RefusedOnly IsOfPages r → RefusedMemoryOnly r
memory_only (Ok x) stood short only limit which = tt
memory_only (Err Memory) stood short only limit which = tt
memory_only (Err Limit) stood short only limit which = short (limit refl)
memory_only (Err e) stood short only limit which = stood (only tt)

-- ---- the values of a data page

pub data_over_v1 : (leaf : Leaf) (own : DataPageHeader) (e : Option Encoding) (body rs ds text : List ℕ) → e ≡ encoding_of own.encoding → AreLevelsV1 leaf own body rs ds text
    → IsValueOver leaf.leaf_type.kind e text (full leaf ds) → IsDataOver leaf own body
data_over_v1 leaf own e body rs ds text is levels over =
    record { repetitions = rs; definitions = ds; text = text; levels = levels; over = subst (λ (o : Option Encoding). IsValueOver leaf.leaf_type.kind o text (full leaf ds)) is over }

pub data_over_v2 : (leaf : Leaf) (own : DataPageHeaderV2) (e : Option Encoding) (body rs ds text : List ℕ) → e ≡ encoding_of own.encoding → AreLevelsV2 leaf own body rs ds text
    → IsValueOver leaf.leaf_type.kind e text (full leaf ds) → IsDataOverV2 leaf own body
data_over_v2 leaf own e body rs ds text is levels over =
    record { repetitions = rs; definitions = ds; text = text; levels = levels; over = subst (λ (o : Option Encoding). IsValueOver leaf.leaf_type.kind o text (full leaf ds)) is over }

pub over_by_encoding : (kind : Kind) (e f : Option Encoding) (text : List ℕ) (n : ℕ) → e ≡ f → IsValueOver kind f text n → IsValueOver kind e text n
over_by_encoding kind e f text n is over = subst (λ (o : Option Encoding). IsValueOver kind o text n) (sym is) over

pub over_by_count : (kind : Kind) (e : Option Encoding) (text : List ℕ) (m n : ℕ) → m ≡ n → IsValueOver kind e text m → IsValueOver kind e text n
over_by_count kind e text m n is over = subst (λ (k : ℕ). IsValueOver kind e text k) is over

-- ---- values in PLAIN

pub no_plain : (t : LeafType) (text : List ℕ) (n : ℕ) → NothingStands (IsPlain t.kind n text) → StandInNoChunk t Plain text n
no_plain t text n nothing d ws p = nothing ws p.stand.0 (subst (λ (m : ℕ). IsPlain t.kind m text ws p.stand.0) p.count p.stand.1)

-- they are one list: where these do not fit, none stand
other_plain : ((kind : Kind) (n : ℕ) → IsFunctional (IsPlain kind n)) → (t : LeafType) (text : List ℕ) (n : ℕ) (known : List ValueTree) (used : ℕ) → IsPlain t.kind n text known used
    → (AllFit t known → ⊥) → StandInNoChunk t Plain text n
other_plain law t text n known used stands unfit d ws p =
    let here : IsPlain t.kind n text ws p.stand.0 = subst (λ (m : ℕ). IsPlain t.kind m text ws p.stand.0) p.count p.stand.1 in
    unfit (subst (AllFit t) (law t.kind n text ws known p.stand.0 used here stands).0 p.fit)

-- a test that cannot fail succeeds
is_true : (b : Bool) → ((IsTrue b → ⊥) → ⊥) → IsTrue b
is_true true never = refl
is_true false never = absurd (never (λ (e : false ≡ true). cc))

all_fit : (t : LeafType) (vs : List ValueTree) → ((AllFit t vs → ⊥) → ⊥) → AllFit t vs
all_fit t [] never = tt
all_fit t (v ∷ vs) never = (is_true (fits_leaf t v) (λ no. never (λ p. no p.0)), all_fit t vs (λ no. never (λ p. no p.1)))

pub known_plain : ((kind : Kind) (n : ℕ) → IsFunctional (IsPlain kind n)) → (t : LeafType) (text : List ℕ) (n : ℕ) (vs : List ValueTree) → (StandInNoChunk t Plain text n → ⊥)
    → (used : ℕ) × IsPlain t.kind n text vs used → length vs ≡ n → StandInAnyChunk t Plain text n vs
known_plain law t text n vs stood (used, stands) size d = record {
  count = size;
  stand = (used, subst (λ (m : ℕ). IsPlain t.kind m text vs used) (sym size) stands);
  fit = all_fit t vs (λ unfit. stood (other_plain law t text n vs used stands unfit));
}
