use Rattle.std.proofs.Common.{◌≡◌, ◌≤◌, List, length, ap, sym, subst, ◌∙◌, arith}
use Rattle.std.proofs.lemmas.List.{length-map}
use Rattle.bits.specs.declared.refusal.Refusal.TheVariants.{Memory}
use Rattle.bits.proofs.Passing.{passes}
use Rattle.schema.specs.Shape.{Fields}
use Rattle.schema.specs.Stripe.{leaves_of}
use Rattle.schema.specs.Reading.{tallest}
use Rattle.schema.specs.Elements.{Element, elements_view}
use Rattle.schema.specs.Listed.{elements_of}
use Rattle.schema.specs.Listing.{IsSchemaOf}
use Rattle.schema.specs.Views.{leaf_view}
use Rattle.schema.specs.Keys.{key_column_view, key_columns_view, without_keys, IsTableOver}
use Rattle.schema.proofs.Limits.{not_too_large}
use Rattle.schema.proofs.TableLeaves.{filled_made, table_leaves, table_tallest}
use Rattle.schema.proofs.Relisted.{same_fields}
use Rattle.schema.proofs.schema.Schema.with_keys.Goals as goal

pub returns-then-leaves-keys-gt-MOST_LEAVES-clause-only : goal.returns-then-leaves-keys-gt-MOST_LEAVES-clause-only
returns-then-leaves-keys-gt-MOST_LEAVES-clause-only c = λ other fs t.
    let keys = key_columns_view c.args.keys.now in
    let all = table_leaves keys fs t.keyed in
    let own : length (leaves_of (without_keys keys fs)) ≡ length (leaves_of c.args.self.now) = ap (λ (x : Fields). length (leaves_of x)) t.besides in
    let within = t.within.leaves in
    absurd (omega (arith, all, own, within, ap length c.leaves.ensures.leaves_are, length-map c.leaves.result.now leaf_view, length-map c.args.keys.now key_column_view, c.if-leaves-keys-gt-MOST_LEAVES.true))

pub returns-in_err-schema-clause-only : goal.returns-in_err-schema-clause-only
returns-in_err-schema-clause-only c =
    let keys = key_columns_view c.args.keys.now in
    let stored = c.args.self.now in
    let m = rw c.in-Some.is at c.in_ok-found.ensures.made in
    let listed : elements_view c.as_slice.result.now ≡ elements_of m.made = ap elements_view c.as_slice.ensures.value ∙ m.listed in
    passes (λ e. (e ≡ Memory → ⊥) → (fs : Fields) → IsTableOver keys stored fs → ⊥) c.from_residual-in_err-schema.result c.in_err-schema.field-0.0 c.from_residual-in_err-schema.ensures.1
    (λ other fs t.
    let is = m.alone fs t.keyed t.besides in
    let own : IsSchemaOf (elements_view c.as_slice.result.now) fs = subst (λ (es : List Element). IsSchemaOf es fs) (ap elements_of is ∙ sym listed) (c.a_schema_is_its_elements.ensures fs t.schema) in
    let low : tallest (without_keys keys fs) ≤ 32 = subst (λ (x : Fields). tallest x ≤ 32) (sym t.besides) c.leaves.ensures.shallow in
    c.in_err-schema.ensures.only other fs own (not_too_large (elements_view c.as_slice.result.now) fs own (table_tallest keys fs t.keyed low) t.within))

pub returns-then-is_whole-clause-besides : goal.returns-then-is_whole-clause-besides
returns-then-is_whole-clause-besides c =
    let keys = key_columns_view c.args.keys.now in
    let stored = c.args.self.now in
    let m = rw c.in-Some.is at c.in_ok-found.ensures.made in
    let listed : elements_view c.as_slice.result.now ≡ elements_of m.made = ap elements_view c.as_slice.ensures.value ∙ m.listed in
    let valid = c.leaves.ensures.valid in
    let same = same_fields m.made c.in_ok-schema.schema (filled_made keys m.made stored m.besides valid.0.some) (m.valid valid.1) (subst (λ (es : List Element). IsSchemaOf es c.in_ok-schema.schema) listed c.in_ok-schema.ensures.stands) in
    ap (without_keys keys) same ∙ m.besides
