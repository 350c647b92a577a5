use Rattle.std.proofs.Common.{ap, sym, subst, ◌∙◌, arith}
use Rattle.std.proofs.lemmas.Bool.{false≢true}
use Rattle.std.proofs.lemmas.List.{length-map}
use Rattle.std.specs.List.{AllByRecursion}
use Rattle.schema.specs.Shape.{Fields, count}
use Rattle.schema.specs.Keys.{key_column_view, key_columns_view, places_of}
use Rattle.schema.specs.inner.Keyed.{IsKeyOf}
use Rattle.schema.proofs.Few.{count-views}
use Rattle.schema.proofs.KeyChecks.{to_distinct, from_distinct, to_named, to_there, from_both}
use Rattle.schema.proofs.schema.Schema.has_keys.Goals as goal

pub returns-then-keys-gt-MOST_KEY_COLUMNS : goal.returns-then-keys-gt-MOST_KEY_COLUMNS
returns-then-keys-gt-MOST_KEY_COLUMNS c =
    ((λ h. absurd (false≢true h)), (λ h. let few = h.few in let many = length-map c.args.keys.now key_column_view in absurd (omega (arith, few, many, c.if-keys-gt-MOST_KEY_COLUMNS.true))))

pub returns-then-keys-fields : goal.returns-then-keys-fields
returns-then-keys-fields c = (
  (λ h. absurd (false≢true h)),
  (λ h.
      let rest = h.rest in
      let many = length-map c.args.keys.now key_column_view in
      let size = count-views c.fields-fields.result.now in
      let same = ap count c.fields-fields.ensures in
      absurd (omega (arith, rest, many, size, same, c.if-keys-fields.true))),
)

pub returns-then-not-are_distinct : goal.returns-then-not-are_distinct
returns-then-not-are_distinct c = (
  (λ h. absurd (false≢true h)),
  (λ h. absurd (false≢true (sym c.if-not-are_distinct.true ∙ c.are_distinct.ensures ∙ from_distinct (places_of (key_columns_view c.args.keys.now)) h.distinct))),
)

pub returns : goal.returns
returns c =
    let keys = key_columns_view c.args.keys.now in
    let fs = c.args.self.now in
    let many = length-map c.args.keys.now key_column_view in
    let size = count-views c.fields-fields.result.now in
    let same = ap count c.fields-fields.ensures in (
      (λ h.
          let each = subst (λ (x : Fields). AllByRecursion (IsKeyOf x) keys) c.fields-fields.ensures (c.are_there.ensures.0 h) in
          record {
            few = omega (arith, many, c.if-keys-gt-MOST_KEY_COLUMNS.false);
            rest = omega (arith, many, size, same, c.if-keys-fields.false);
            distinct = to_distinct (places_of keys) (sym c.are_distinct.ensures ∙ c.if-not-are_distinct.false);
            named = to_named fs keys each;
            there = to_there fs keys each;
          }),
      (λ h. c.are_there.ensures.1 (subst (λ (x : Fields). AllByRecursion (IsKeyOf x) keys) (sym c.fields-fields.ensures) (from_both fs keys h.named h.there))),
    )
