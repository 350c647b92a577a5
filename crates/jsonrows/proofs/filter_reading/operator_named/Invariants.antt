use Rattle.std.proofs.Common.{◌≡◌, drop, map}
use Rattle.jsonrows.specs.Filters.{operator_named}
use Rattle.jsonrows.proofs.filter_reading.operator_named.Given as goal

-- the words that are left give the answer
abbrev pub invariant-loop-known : goal.invariant-loop-known
invariant-loop-known l = operator_named (map (λ w. (w.0.now, w.1)) (drop l.known-index l.words)) l.word ≡ operator_named (map (λ w. (w.0.now, w.1)) l.words) l.word
