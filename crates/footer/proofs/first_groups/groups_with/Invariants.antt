use Rattle.std.proofs.Common.{◌≡◌, ℕ, ◌+◌, map, take, drop}
use Rattle.metadata.specs.Views.{group_meta_view}
use Rattle.footer.specs.FirstRows.{first_groups}
use Rattle.footer.proofs.first_groups.groups_with.Given as goal

-- with the first ones of the groups that are left, as many as have the rows that are left, there are the first ones of all groups
abbrev pub invariant-loop-index : goal.invariant-loop-index
invariant-loop-index l = record {
  whole : (n : ℕ) → take n (map group_meta_view (drop l.index l.groups)) ≡ first_groups l.left (map group_meta_view (drop l.index l.groups))
      → take (l.index + n) (map group_meta_view l.groups) ≡ first_groups l.count (map group_meta_view l.groups);
}
