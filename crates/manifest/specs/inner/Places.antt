-- Which blocks have a place, or begin with a greater key.
use Rattle.std.specs.Prelude.{◌≡◌, ℕ, ◌+◌, ◌-◌, ◌<◌, ◌≤◌, Bool, true, false, List, [], ◌∷◌, length, slice_get, IfSome}
use Rattle.std.specs.Ordering.{is_le}
use Rattle.std.specs.Rc.{rc_value}
use Rattle.std.specs.declared.rc.Rc.{Rc}
use Rattle.std.specs.declared.alloc.Global.{Global}
use Rattle.schema.specs.Values.{ValueTree}
use Rattle.schema.specs.Views.{key_view}
use Rattle.partition.specs.Order.{key_cmp}
use Rattle.manifest.specs.declared.block.Block.{Block}
use Rattle.manifest.specs.declared.group.Group.{Group}

-- there are groups, and the first one has at most this key
abbrev pub first_up_to : List ValueTree → List (Rc Group Global) → Bool
first_up_to key [] = false
first_up_to key (g ∷ gs) = is_le (key_cmp (key_view (rc_value g).key) key)

-- the first group of a block has at most this key
abbrev pub begins_up_to : List ValueTree → Block → Bool
begins_up_to key b = first_up_to key b.groups.items

-- the block before this place begins with at most the key, and the block at it does not
pub record IsEdge (key : List ValueTree) (blocks : List (Rc Block Global)) (n : ℕ) : Type 0 where
  pub there : n ≤ length blocks
  pub before : 0 < n → IfSome (slice_get blocks (n - 1)) (λ b. begins_up_to key (rc_value b) ≡ true)
  pub after : IfSome (slice_get blocks n) (λ b. begins_up_to key (rc_value b) ≡ false)

-- of blocks that start at these places, the block `n` is the last one that starts at `place` or before
pub record IsStartAt (starts : List ℕ) (place n : ℕ) : Type 0 where
  pub there : n < length starts
  pub at_most : IfSome (slice_get starts n) (λ start. start ≤ place)
  pub later : IfSome (slice_get starts (n + 1)) (λ start. place < start)
