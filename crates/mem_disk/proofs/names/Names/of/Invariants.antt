use Rattle.std.proofs.Common.{◌≡◌, ℕ, List, take}
use Rattle.std.specs.HashMap.{get_by_text}
use Rattle.mem_disk.specs.Tables.{place_in}
use Rattle.mem_disk.proofs.names.Names.of.Given as goal

abbrev pub invariant-loop-at : goal.invariant-loop-at
invariant-loop-at l = (q : List ℕ) → get_by_text l.places q ≡ place_in (take l.at l.fn.list.items) q
