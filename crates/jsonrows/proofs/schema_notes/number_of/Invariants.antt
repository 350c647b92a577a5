use Rattle.std.proofs.Common.{◌≡◌, drop, map}
use Rattle.jsonrows.specs.SchemaJson.{number_of}
use Rattle.jsonrows.proofs.schema_notes.number_of.Given as goal

-- the words that are left give the answer
abbrev pub invariant-loop-known : goal.invariant-loop-known
invariant-loop-known l = number_of (map (λ w. (w.0.now, w.1)) (drop l.known-index l.words)) l.word ≡ number_of (map (λ w. (w.0.now, w.1)) l.words) l.word
