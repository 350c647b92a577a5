use Rattle.std.proofs.Common.{◌≡◌, ◌≤◌, ℕ, List, length, drop, sym, ◌∙◌, subst, arith}
use Rattle.std.proofs.lemmas.List.{length-drop}
use Rattle.bits.specs.Refusals.{IsFault}
use Rattle.bits.specs.Codec.{NothingStands}
use Rattle.bits.proofs.Passing.{passes}
use Rattle.schema.specs.Values.{bytes}
use Rattle.schema.specs.Views.{leaf_type_view}
use Rattle.schema.specs.declared.value.Kind.TheVariants.{ByteArray}
use Rattle.plain.specs.Plain.{IsSpelled, AnnouncesTooMuch}
use Rattle.pages.specs.declared.encoding.Encoding.TheVariants.{Plain}
use Rattle.pages.specs.inner.Reading.{StandInNoChunk}
use Rattle.pages.proofs.TextValues.{IsCheckedTo, text_kind, text_fits, text_unfit, goes_on, nothing_stands, no_array, no_text, all_stand, the_text}
use Rattle.pages.proofs.plain_values.check_texts.Goals as goal

pub returns-in_err-used-clause-only : goal.returns-in_err-used-clause-only
returns-in_err-used-clause-only c =
    let t = leaf_type_view c.args._leaf_type.now in
    let body = c.args.bytes.now in
    passes (λ e. IsFault e → StandInNoChunk t Plain body c.args.count) c.from_residual.result c.in_err-used.field-0.0 c.from_residual.ensures.1
    (λ fault. nothing_stands t c.args.count body c.loop.counter c.loop.at (text_kind t.kind t.annotation c.requires) c.loop-test.true c.loop.invariant.checked
    (no_array t (drop c.loop.at body) (subst (λ (b : List ℕ). NothingStands (IsSpelled ByteArray b)) c.split_at.ensures.back (c.in_err-used.ensures.only fault))))

pub returns-then-not-is_utf8-clause-only : goal.returns-then-not-is_utf8-clause-only
returns-then-not-is_utf8-clause-only c =
    let t = leaf_type_view c.args._leaf_type.now in
    let body = c.args.bytes.now in
    let rest = c.split_at.result.1.now in
    let text = c.split_at-in-loop-2.result.0.now in
    let here = the_text rest text c.in_ok-used.used c.in_ok-used.ensures.size c.split_at-in-loop.result.1.now c.split_at-in-loop-2.ensures.front c.split_at-in-loop.ensures.back c.in_ok-used.ensures.stands in
    λ fault. nothing_stands t c.args.count body c.loop.counter c.loop.at (text_kind t.kind t.annotation c.requires) c.loop-test.true c.loop.invariant.checked
    (no_text t (drop c.loop.at body) (bytes text) c.in_ok-used.used (subst (λ (b : List ℕ). IsSpelled ByteArray b (bytes text) c.in_ok-used.used) c.split_at.ensures.back here)
    (text_unfit t rest text c.in_ok-used.used c.requires c.what_is_of_a_kind_fits_it.ensures here (sym c.is_utf8.ensures ∙ c.if-not-is_utf8.true)))

pub loop-preserved : goal.loop-preserved
loop-preserved c =
    let t = leaf_type_view c.args._leaf_type.now in
    let body = c.args.bytes.now in
    let rest = c.split_at.result.1.now in
    let text = c.split_at-in-loop-2.result.0.now in
    let used = c.in_ok-used.used in
    let here = the_text rest text used c.in_ok-used.ensures.size c.split_at-in-loop.result.1.now c.split_at-in-loop-2.ensures.front c.split_at-in-loop.ensures.back c.in_ok-used.ensures.stands in
    let within : used ≤ length (drop c.loop.at body) = subst (λ (b : List ℕ). used ≤ length b) c.split_at.ensures.back c.in_ok-used.ensures.within in
    record {
      within = omega (arith, within, length-drop c.loop.at body, c.loop.invariant.within);
      checked = goes_on t c.args.count body c.loop.counter c.loop.at (bytes text) used c.loop-test.true (subst (λ (b : List ℕ). IsSpelled ByteArray b (bytes text) used) c.split_at.ensures.back here) (text_fits t rest text used c.requires c.what_is_of_a_kind_fits_it.ensures here (sym c.is_utf8.ensures ∙ c.if-not-is_utf8.false))
          (subst (λ (b : List ℕ). AnnouncesTooMuch ByteArray b → ⊥) c.split_at.ensures.back c.in_ok-used.ensures.limit) c.loop.invariant.checked;
    }

pub returns-clause-stood : goal.returns-clause-stood
returns-clause-stood c =
    let all : c.loop.counter ≡ c.args.count = omega (arith, c.loop-test.false, c.loop.auto.counter-end) in
    let t = leaf_type_view c.args._leaf_type.now in
    all_stand t c.args.count c.args.bytes.now c.loop.at (text_kind t.kind t.annotation c.requires) (subst (λ (n : ℕ). IsCheckedTo t c.args.count c.args.bytes.now n c.loop.at) all c.loop.invariant.checked)
