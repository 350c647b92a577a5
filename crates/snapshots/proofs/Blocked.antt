-- Passes over files that lie in blocks.
use Rattle.std.proofs.Common.{◌≡◌, ℕ, ◌+◌, ◌<◌, Bool, List, ◌++◌, length, get_or, drop, map, Vec, sym, ◌∙◌, ap, append_assoc}
use Rattle.std.specs.Prelude.{filter}
use Rattle.std.specs.Rc.{rc_value}
use Rattle.std.specs.declared.rc.Rc.{Rc}
use Rattle.std.specs.declared.alloc.Global.{Global}
use Rattle.std.proofs.lemmas.List.{drop_more, map-append}
use Rattle.std.proofs.lemmas.List.Concat.{flat_map-cons}
use Rattle.std.proofs.lemmas.List.Elements.{filter-append}
use Rattle.snapshots.specs.State.{File}
use Rattle.snapshots.specs.declared.other.Other.{Other as CodeOther}
use Rattle.snapshots.specs.inner.Spells.{Other, others_view, others_of_blocks}

abbrev Block : Type 0
Block = Rc (Vec CodeOther Global) Global

module _ (bs : List Block) (i : ℕ) (b : Block) (within : i < length bs) (is : b ≡ get_or bs i b) where
  -- the files from a block on are its own and those of the blocks after it
  from_block : others_of_blocks (drop i bs) ≡ others_view (rc_value b).items ++ others_of_blocks (drop (i + 1) bs)
  from_block = rw (drop_more bs i b within) (flat_map-cons (λ (c : Block). others_view (rc_value c).items) (get_or bs i b) (drop (i + 1) bs)
      ∙ ap (λ (c : Block). others_view (rc_value c).items ++ others_of_blocks (drop (i + 1) bs)) (sym is))

  module _ (test : Other → Bool) where
    abbrev rest : List Other
    rest = filter test (others_of_blocks (drop (i + 1) bs))

    filtered : filter test (others_of_blocks (drop i bs)) ≡ filter test (others_view (rc_value b).items) ++ filter test (others_of_blocks (drop (i + 1) bs))
    filtered = ap (filter test) from_block ∙ filter-append test (others_view (rc_value b).items) (others_of_blocks (drop (i + 1) bs))

    -- those that pass a test, one block more
    pub keeps_more : (done more whole : List Other) → more ≡ done ++ filter test (others_view (rc_value b).items) → done ++ filter test (others_of_blocks (drop i bs)) ≡ whole → more ++ filter test (others_of_blocks (drop (i + 1) bs)) ≡ whole
    keeps_more done more whole e k = ap (λ (os : List Other). os ++ rest) e
        ∙ append_assoc done (filter test (others_view (rc_value b).items)) rest
        ∙ ap (λ (os : List Other). done ++ os) (sym filtered) ∙ k

    -- and their files
    pub lists_more : (file : Other → File) (done more whole : List File) → more ≡ done ++ map file (filter test (others_view (rc_value b).items)) → done ++ map file (filter test (others_of_blocks (drop i bs))) ≡ whole
        → more ++ map file (filter test (others_of_blocks (drop (i + 1) bs))) ≡ whole
    lists_more file done more whole e k = ap (λ (fs : List File). fs ++ map file rest) e
        ∙ append_assoc done (map file (filter test (others_view (rc_value b).items))) (map file rest)
        ∙ ap (λ (fs : List File). done ++ fs) (sym (ap (map file) filtered ∙ map-append file (filter test (others_view (rc_value b).items)) rest)) ∙ k
