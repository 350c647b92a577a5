use Rattle.std.proofs.Common.{◌≡◌, map, take}
use Rattle.metadata.proofs.copies.copied_texts.Given as goal

abbrev pub invariant-loop-text : goal.invariant-loop-text
invariant-loop-text l = map (λ s. s.items) l.copies.items ≡ map (λ s. s.items) (take l.text-index l.texts)
