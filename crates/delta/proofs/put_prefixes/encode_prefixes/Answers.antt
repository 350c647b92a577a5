use Rattle.std.proofs.Common.{◌∙◌, ℕ, List, length, ap, map, sym}
use Rattle.bits.specs.Refusals.{IsFault}
use Rattle.bits.proofs.Passing.{passes}
use Rattle.plain.specs.Plain.{AreBytes}
use Rattle.delta.specs.ByteDeltas.{IsPrefixed, StandForBytes}
use Rattle.delta.proofs.Fitting.{prefixes_fit}
use Rattle.schema.specs.Borrowed.{value_ref_view}
use Rattle.delta.proofs.Sharing.{prefixed_written, prefixed_short, from_ok}
use Rattle.delta.proofs.WrittenBytes.{written_prefixes}
use Rattle.delta.proofs.put_prefixes.encode_prefixes.Goals as goal

pub returns-clause-stands : goal.returns-clause-stands
returns-clause-stands g c =
    prefixed_written (map g.V.Lends.lent c.args.values.now) c.deref.result.now (map value_ref_view c.deref-2.result.now) c.args.out.now.items c.put_parts-done.new.out.items c.in_ok-encoded_size.ensures.of_kind
    (c.deref.ensures.value ∙ c.in_ok-prefixes.ensures.prefixes) (ap (λ t. map value_ref_view t) c.deref-2.ensures.value ∙ c.in_ok-prefixes.ensures.suffixes)
    (from_ok c.put_parts-done.result (sym c.is_err.ensures.value ∙ c.if-is_err.false) c.put_parts-done.ensures.put)

pub returns-clause-short : goal.returns-clause-short
returns-clause-short g c =
    prefixed_short (map g.V.Lends.lent c.args.values.now) c.deref.result.now (map value_ref_view c.deref-2.result.now) c.args.out.now.items c.put_parts-done.new.out.items
    (c.deref.ensures.value ∙ c.in_ok-prefixes.ensures.prefixes) (ap (λ t. map value_ref_view t) c.deref-2.ensures.value ∙ c.in_ok-prefixes.ensures.suffixes)
    (from_ok c.put_parts-done.result (sym c.is_err.ensures.value ∙ c.if-is_err.false) c.put_parts-done.ensures.put)

pub returns-in_err-encoded_size-clause-only : goal.returns-in_err-encoded_size-clause-only
returns-in_err-encoded_size-clause-only g c =
    let seen = map g.V.Lends.lent c.args.values.now in
    passes (λ e. IsFault e → (bytes : List ℕ) (used : ℕ) → AreBytes bytes → StandForBytes (IsPrefixed bytes (length seen)) seen used → ⊥) c.from_residual.result c.in_err-encoded_size.field-0.0 c.from_residual.ensures.1
    (λ fault bytes used are stands. c.in_err-encoded_size.ensures.only fault (prefixes_fit seen bytes used are stands))

pub returns-clause-written : goal.returns-clause-written
returns-clause-written g c =
    written_prefixes (map g.V.Lends.lent c.args.values.now) c.deref.result.now (map value_ref_view c.deref-2.result.now) c.args.out.now.items c.put_parts-done.new.out.items c.in_ok-encoded_size.ensures.of_kind
    (c.deref.ensures.value ∙ c.in_ok-prefixes.ensures.prefixes) (ap (λ t. map value_ref_view t) c.deref-2.ensures.value ∙ c.in_ok-prefixes.ensures.suffixes)
    (from_ok c.put_parts-done.result (sym c.is_err.ensures.value ∙ c.if-is_err.false) c.put_parts-done.ensures.put)
