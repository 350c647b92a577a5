use Rattle.std.proofs.Common.{◌≡◌, take}
use Rattle.std.specs.List.{All}
use Rattle.gather.specs.Parts.{parts_view}
use Rattle.gather.proofs.PutParts.{IsElsewhere}
use Rattle.gather.proofs.part.put_part.Given as goal

-- the columns so far are at other places, and the key is as it was
abbrev pub invariant-loop-i : goal.invariant-loop-i
invariant-loop-i l = record { other : All (IsElsewhere l.place) (take l.i l.columns); same : parts_view l.parts.items ≡ parts_view l.initial.parts.items }
