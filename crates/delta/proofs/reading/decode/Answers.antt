use Rattle.std.proofs.Common.{◌≡◌, ℕ, List, ◌+◌, ◌-◌, ◌*◌, ◌<◌, ◌∙◌, min, length, map, drop, ap, subst, sym, arith, rules, FitsSigned}
use Rattle.std.specs.Prelude.{ℤ}
use Rattle.std.specs.Int.{w64, int_wrap}
use Rattle.std.proofs.lemmas.Int.{to_z-of_z}
use Rattle.std.proofs.lemmas.List.{length-map}
use Rattle.bits.specs.Refusals.{IsFault}
use Rattle.bits.specs.Codec.{NothingStands}
use Rattle.bits.proofs.Passing.{passes}
use Rattle.delta.specs.Delta.{IsBlock, IsDelta}
use Rattle.delta.specs.inner.Taken.{IsTaken}
use Rattle.delta.proofs.Gathering.{IsGathering, gathering_begins, gathering_goes_on, gathering_fails, gathering_ends, nothing_gathered}
use Rattle.delta.proofs.reading.decode.Goals as goal

pub returns-in_err-header-clause-only : goal.returns-in_err-header-clause-only
returns-in_err-header-clause-only g c =
    passes (λ e. IsFault e → NothingStands (IsDelta g.T.Integer.width c.args.bytes.now c.args.n)) c.from_residual.result c.in_err-header.field-0.0 c.from_residual.ensures.1
    (λ fault values used p. c.in_err-header.ensures.only fault p.miniblocks p.size p.at p.first p.begins)

pub returns-then-n-eq0-clause-stands : goal.returns-then-n-eq0-clause-stands
returns-then-n-eq0-clause-stands g c =
    let h = c.in_ok-header.header in
    rw c.new-values.ensures.items (nothing_gathered g.T.Integer.width h.first h.miniblocks h.size c.args.n h.used c.args.bytes.now c.if-n-eq0.true c.in_ok-header.ensures.stands)

pub blocks-2-init : goal.blocks-2-init
blocks-2-init g c =
    let h = c.in_ok-header.header in
    let fits : FitsSigned w64 h.first = search rules in
    let first : g.T.Integer.seen c.wrapped.result ≡ int_wrap g.T.Integer.width h.first = c.wrapped.ensures ∙ ap (λ (z : ℤ). int_wrap g.T.Integer.width z) (to_z-of_z w64 h.first fits) in
    record {
      some = omega (arith, c.in_ok-push.ensures.len, c.new-values.ensures.len);
      few = omega (arith, c.in_ok-push.ensures.len, c.new-values.ensures.len, c.if-n-eq0.false);
      gathering = rw (c.in_ok-push.ensures.items, c.new-values.ensures.items) (gathering_begins g.T.Integer.width h.first (g.T.Integer.seen c.wrapped.result) h.miniblocks h.size c.needed_miniblocks-needed.result c.args.n c.split_at.result.1.now first);
    }

pub returns-in_err-at-clause-only : goal.returns-in_err-at-clause-only
returns-in_err-at-clause-only g c =
    let w = g.T.Integer.width in
    let h = c.in_ok-header.header in
    let bytes = c.args.bytes.now in
    let m = h.miniblocks in
    let all = c.needed_miniblocks-needed.result in
    let at = c.blocks-2.at in
    let needed = c.blocks-2.needed in
    let mid = map g.T.Integer.seen c.blocks-2.values.items in
    passes (λ e. IsFault e → NothingStands (IsDelta w bytes c.args.n)) c.from_residual-in_err-at.result c.in_err-at.field-0.0 c.from_residual-in_err-at.ensures.1
    (λ fault.
    let none : NothingStands (IsBlock m h.size (min m needed) (drop at (drop h.used bytes))) =
    subst (λ (k : ℕ). NothingStands (IsBlock m h.size k (drop at (drop h.used bytes)))) c.min-here.ensures
    (subst (λ (t : List ℕ). NothingStands (IsBlock m h.size c.min-here.result t)) (c.split_at-in-blocks-2.ensures.back ∙ ap (λ (t : List ℕ). drop at t) c.split_at.ensures.back) (c.in_err-at.ensures.only fault)) in
    let gathering : IsGathering w h.first m h.size all c.args.n (drop h.used bytes) mid needed at = subst (λ (t : List ℕ). IsGathering w h.first m h.size all c.args.n t mid needed at) c.split_at.ensures.back c.blocks-2.invariant.gathering in
    gathering_fails w h.first m h.size all c.args.n needed at h.used bytes mid c.blocks-2-test.true c.in_ok-header.ensures.stands c.needed_miniblocks-needed.ensures none gathering)

some_parts : (m s : ℕ) → 0 < m * s → 0 < m
some_parts m s some = grind arith

pub blocks-2-smaller : goal.blocks-2-smaller
blocks-2-smaller g c =
    let h = c.in_ok-header.header in
    let some : 0 < h.miniblocks = some_parts h.miniblocks h.size c.in_ok-header.ensures.stands.some in
    omega (arith, some, c.min-here.ensures, c.blocks-2-test.true)

pub blocks-2-preserved : goal.blocks-2-preserved
blocks-2-preserved g c =
    let w = g.T.Integer.width in
    let seen = g.T.Integer.seen in
    let h = c.in_ok-header.header in
    let m = h.miniblocks in
    let all = c.needed_miniblocks-needed.result in
    let body = c.split_at.result.1.now in
    let at = c.blocks-2.at in
    let needed = c.blocks-2.needed in
    let here = c.min-here.result in
    let used = c.in_ok-at.field-0 in
    let mid = map seen c.blocks-2.values.items in
    let new = map seen c.take_block.new.values.items in
    let left = c.args.n - c.len.result in
    let size : length mid ≡ c.blocks-2.values.len = length-map c.blocks-2.values.items seen ∙ sym c.blocks-2.values.ok.0 in
    let left_is : left ≡ c.args.n - length mid = omega (arith, size, c.len.ensures) in
    let any : 0 < c.args.n = omega (arith, c.if-n-eq0.false) in
    let fewer : needed - here ≡ needed - m = omega (arith, c.min-here.ensures) in
    let taken : IsTaken (IsBlock m h.size (min m needed) (drop at body)) w left mid new used =
    subst (λ (k : ℕ). IsTaken (IsBlock m h.size k (drop at body)) w left mid new used) c.min-here.ensures
    (subst (λ (t : List ℕ). IsTaken (IsBlock m h.size here t) w left mid new used) c.split_at-in-blocks-2.ensures.back c.in_ok-at.ensures.taken) in
    let gathering = gathering_goes_on w h.first m h.size all c.args.n needed at left used body mid new c.blocks-2-test.true left_is any taken c.blocks-2.invariant.gathering in
    let grown : length new ≡ c.take_block.new.values.len = length-map c.take_block.new.values.items seen ∙ sym c.take_block.new.values.ok.0 in
    record {
      some = c.in_ok-at.ensures.some;
      few = omega (arith, gathering.count, grown, any);
      gathering = subst (λ (k : ℕ). IsGathering w h.first m h.size all c.args.n body new k (at + used)) (sym fewer) gathering;
    }

pub returns-clause-stands : goal.returns-clause-stands
returns-clause-stands g c =
    let w = g.T.Integer.width in
    let h = c.in_ok-header.header in
    let all = c.needed_miniblocks-needed.result in
    let values = map g.T.Integer.seen c.blocks-2.values.items in
    let none : c.blocks-2.needed ≡ 0 = omega (arith, c.blocks-2-test.false) in
    let moved : IsGathering w h.first h.miniblocks h.size all c.args.n (drop h.used c.args.bytes.now) values c.blocks-2.needed c.blocks-2.at =
    subst (λ (t : List ℕ). IsGathering w h.first h.miniblocks h.size all c.args.n t values c.blocks-2.needed c.blocks-2.at) c.split_at.ensures.back c.blocks-2.invariant.gathering in
    (gathering_ends w h.first h.miniblocks h.size all c.args.n c.blocks-2.at h.used c.args.bytes.now values (omega (arith, c.if-n-eq0.false)) c.in_ok-header.ensures.stands c.needed_miniblocks-needed.ensures
    (subst (λ (k : ℕ). IsGathering w h.first h.miniblocks h.size all c.args.n (drop h.used c.args.bytes.now) values k c.blocks-2.at) none moved)).stand

pub returns-clause-count : goal.returns-clause-count
returns-clause-count g c =
    let w = g.T.Integer.width in
    let h = c.in_ok-header.header in
    let all = c.needed_miniblocks-needed.result in
    let values = map g.T.Integer.seen c.blocks-2.values.items in
    let none : c.blocks-2.needed ≡ 0 = omega (arith, c.blocks-2-test.false) in
    let moved : IsGathering w h.first h.miniblocks h.size all c.args.n (drop h.used c.args.bytes.now) values c.blocks-2.needed c.blocks-2.at =
    subst (λ (t : List ℕ). IsGathering w h.first h.miniblocks h.size all c.args.n t values c.blocks-2.needed c.blocks-2.at) c.split_at.ensures.back c.blocks-2.invariant.gathering in
    let ends = gathering_ends w h.first h.miniblocks h.size all c.args.n c.blocks-2.at h.used c.args.bytes.now values (omega (arith, c.if-n-eq0.false)) c.in_ok-header.ensures.stands c.needed_miniblocks-needed.ensures
    (subst (λ (k : ℕ). IsGathering w h.first h.miniblocks h.size all c.args.n (drop h.used c.args.bytes.now) values k c.blocks-2.at) none moved) in
    let size : length values ≡ c.blocks-2.values.len = length-map c.blocks-2.values.items g.T.Integer.seen ∙ sym c.blocks-2.values.ok.0 in
    omega (arith, ends.count, size)
