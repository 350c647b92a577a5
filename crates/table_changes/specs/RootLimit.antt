-- When the root of an append is too much, by the least that its groups weigh.
use Rattle.std.specs.Prelude.{ℕ, ◌+◌, ◌*◌, ◌<◌, length, sum_by}
use Rattle.schema.specs.Stripe.{Leaf, leaves_of}
use Rattle.footer.specs.Greatest.{most_of_footer}
use Rattle.manifest.specs.Groups.{Root}
use Rattle.manifest.specs.Root.{stored_of}

-- what a chunk of the leaf weighs at least: 512, and the names of its path
abbrev pub least_of_leaf : Leaf → ℕ
least_of_leaf l = 512 + sum_by (λ name. length name) l.path

-- what so many groups weigh at least: 64 each, and the chunks of their leaves
abbrev pub least_weight : Root → ℕ → ℕ
least_weight root count = count * (64 + sum_by least_of_leaf (leaves_of (stored_of root)))

-- the groups of the root and so many more weigh more than a footer may
abbrev pub IsOverWith : Root → ℕ → Type 0
IsOverWith root more = most_of_footer < least_weight root (length root.groups + more)
