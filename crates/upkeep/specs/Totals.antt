-- Rows, groups and bytes in all.
use Rattle.std.specs.Prelude.{◌≡◌, ◌+◌, List, length, sum_by}
use Rattle.manifest.specs.Groups.{Group}
use Rattle.manifest.specs.Laid.{bytes_of}
use Rattle.upkeep.specs.declared.counting.Totals.{Totals}

-- the totals of these groups: their rows, how many they are, and the bytes of their pages
pub record Counts (t : Totals) (gs : List Group) : Type 0 where
  pub rows : t.rows ≡ sum_by (λ (g : Group). g.known.rows) gs
  pub groups : t.groups ≡ length gs
  pub bytes : t.bytes ≡ sum_by bytes_of gs

-- totals that count one group more
pub record CountsOneMore (old : Totals) (g : Group) (new : Totals) : Type 0 where
  pub rows : new.rows ≡ old.rows + g.known.rows
  pub groups : new.groups ≡ old.groups + 1
  pub bytes : new.bytes ≡ old.bytes + bytes_of g
