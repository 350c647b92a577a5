use Rattle.std.proofs.Common.{◌≡◌, ℕ, List, ◌-◌, ◌++◌, ◌∷◌, [], ◌∙◌, get_or, length, map, replicate, ap, subst, sym, arith}
use Rattle.std.specs.Prelude.{pos}
use Rattle.std.specs.Int.{w64, cast_signed, cast_unsigned}
use Rattle.delta.specs.inner.Taken.{Adds, deltas_of}
use Rattle.delta.proofs.Sums.{adds_number, pushed_seen, last_pushed, replicate_push}
use Rattle.delta.proofs.blocks.add_least.Goals as goal

pub loop-preserved : goal.loop-preserved
loop-preserved g c =
    let seen = g.T.Integer.seen in
    let w = g.T.Integer.width in
    let least = cast_signed w64 (cast_unsigned w64 c.args.least) in
    let at = c.loop.counter in
    let values = c.loop.values.items in
    let put : map seen c.push.new.self.items ≡ map seen values ++ seen c.step-sum.result ∷ [] = ap (λ t. map seen t) c.in_ok-push.ensures.items ∙ pushed_seen seen values c.step-sum.result in
    record {
      some = omega (arith, c.in_ok-push.ensures.len, c.loop.invariant.some, ap (λ t. length t) put);
      last = ap (λ t. get_or (map seen t) (length (map seen t) - 1) (pos 0)) c.in_ok-push.ensures.items ∙ last_pushed seen values c.step-sum.result;
      added = subst (λ (t : List ℕ). Adds w (deltas_of least t) (map seen c.args.values.now.items) (map seen c.push.new.self.items)) (sym (replicate_push at 0))
          (adds_number w least (seen c.loop.sum) (seen c.step-sum.result) (replicate at 0) 0 (map seen c.args.values.now.items) (map seen values) (map seen c.push.new.self.items) c.loop.invariant.added c.loop.invariant.last c.step-sum.ensures put);
    }
