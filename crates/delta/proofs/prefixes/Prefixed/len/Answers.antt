use Rattle.std.proofs.Common.{arith, drop}
use Rattle.std.proofs.lemmas.List.{length-drop}
use Rattle.delta.proofs.Completing.{completed_count}
use Rattle.delta.proofs.prefixes.Prefixed.len.Goals as goal

pub returns : goal.returns
returns c =
    let s = c.args.self.now in
    omega (
      arith,
      c.min.ensures,
      c.len.ensures,
      c.saturating_sub-prefixes.ensures,
      c.len-2.ensures,
      c.saturating_sub.ensures,
      length-drop s.index s.prefixes.items,
      length-drop s.index s.lengths.items,
      completed_count s.value.items (drop s.index s.prefixes.items) (drop s.index s.lengths.items) s.rest.now,
    )
