use Rattle.std.proofs.Common.{◌≡◌, length}
use Rattle.schema.specs.Views.{leaf_view}
use Rattle.plain.specs.ValuesLeft.{values_left, kind_of}
use Rattle.row_group.proofs.CopiedPages.{Copied}
use Rattle.row_group.proofs.pages_in_turn.put_plain_pages.Given as goal

-- the pages of the values that are taken are written
abbrev pub invariant-loop-left : goal.invariant-loop-left
invariant-loop-left l = record {
  kind : kind_of l.left ≡ kind_of l.values;
  copied : Copied (leaf_view l.leaf) l.options (values_left l.values) (values_left l.left) l.fn.out.items l.out.items;
}

abbrev pub decreases-loop-left : goal.decreases-loop-left
decreases-loop-left l = length (values_left l.left)
