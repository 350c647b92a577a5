use Rattle.std.proofs.Common.{◌≡◌, ℕ, List, length, take, drop, refl, sym, ap, subst, ◌∙◌, arith}
use Rattle.std.specs.List.{Any}
use Rattle.plain.specs.Plain.{IsPlain, IsTooLong}
use Rattle.plain.specs.ValuesFrom.{values_from}
use Rattle.plain.proofs.Places.{count_from}
use Rattle.plain.proofs.Whole.{first_values, when_refused, turned_cut}
use Rattle.plain.proofs.cursor.Values.take_bytes.Goals as goal

pub returns-in_err-size-clause-limit : goal.returns-in_err-size-clause-limit
returns-in_err-size-clause-limit c =
    let s = c.args.self.now in
    when_refused _ c.from_residual.result (subst (Any IsTooLong) (sym (first_values s.kind c.args.n c.min-count.result s.left s.at s.bytes.now (omega (arith, c.min-count.ensures)))) c.in_err-size.ensures.long)

pub returns-clause-takes : goal.returns-clause-takes
returns-clause-takes c =
    let s = c.args.self.now in
    let m = c.min-count.result in
    let first = c.in_ok-size.ensures.first in
    let taken = values_from s.kind m s.at s.bytes.now in
    let text : c.split_at-2.result.0.now ≡ take c.in_ok-size.size (drop s.at s.bytes.now) = c.split_at-2.ensures.front ∙ ap (λ (t : List ℕ). take c.in_ok-size.size t) c.split_at.ensures.back in
    record {
      taken = taken;
      joined = first.joined;
      count = count_from s.kind m s.at s.bytes.now ∙ omega (arith, c.min-count.ensures, count_from s.kind s.left s.at s.bytes.now);
      spelled = subst (λ (t : List ℕ). IsPlain s.kind (length taken) t taken (length t)) (sym text) (turned_cut s.kind taken (drop s.at s.bytes.now) c.in_ok-size.size c.requires.whole_bytes first.stand);
      short = c.in_ok-size.ensures.short;
      same_kind = refl;
    }
