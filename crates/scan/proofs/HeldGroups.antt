-- What is known of the rows of a group, by a part file that the root can mean.
use Rattle.std.proofs.Common.{◌≡◌, ◌-◌, ℕ, Bool, true, false, List, length, map, sym, subst, ◌∙◌, zero-add}
use Rattle.std.proofs.lemmas.List.{length-map}
use Rattle.schema.specs.Values.{ValueTrees}
use Rattle.schema.specs.Shape.{Fields}
use Rattle.schema.specs.Fits.{RowsFit}
use Rattle.schema.specs.Stripe.{leaves_of, column, columns}
use Rattle.schema.specs.Keys.{KeyColumn, AreKeys, places_of, without_keys}
use Rattle.metadata.specs.Records.{ChunkMeta}
use Rattle.filter.specs.Test.{Test}
use Rattle.schema.specs.Fronts.{padded}
use Rattle.manifest.specs.Groups.{Group}
use Rattle.manifest.specs.Laws.{RowsOfPartsFit}
use Rattle.manifest.specs.Parts.{PartMeans}
use Rattle.manifest.specs.Records.{IsGroup}
use Rattle.scan.specs.declared.leaf_uses.LeafUse.{LeafUse}
use Rattle.scan.specs.Cost.{place_of, keys_before}
use Rattle.scan.specs.inner.Held.{ChunksHoldColumns}
use Rattle.scan.specs.inner.Marks.{HaveCells, HaveFills, MaySelect}
use Rattle.scan.specs.inner.Texts.{HasRange, IsText, AreTexts, HaveRanges, IsHeld, AreHeld}
use Rattle.scan.specs.inner.Uses.{uses_of}
use Rattle.scan.proofs.HeldTexts.{HaveChunks, HoldColumns, have_ranges, are_held, texts_for_filter, texts_for_rows}
use Rattle.scan.proofs.LackedValues.{have_fills, have_cells}
use Rattle.scan.proofs.Pruned.{same_length}

-- the same texts, by lists that are the same
pub texts_at : (b : Bool) (bytes : List ℕ) {cs ds : List ChunkMeta} {us vs : List LeafUse} {ts ss : List (List ℕ)} → cs ≡ ds → us ≡ vs → ts ≡ ss → AreTexts b cs bytes us ts → AreTexts b ds bytes vs ss
texts_at b bytes {cs} {ds} {us} {vs} {ts} {ss} e f k h =
    subst (λ (xs : List (List ℕ)). AreTexts b ds bytes vs xs) k (subst (λ (xs : List LeafUse). AreTexts b ds bytes xs ts) f (subst (λ (xs : List ChunkMeta). AreTexts b xs bytes us ts) e h))

module _ (hold : ChunksHoldColumns) (rows_fit : RowsOfPartsFit) (keys : List KeyColumn) (fs : Fields) (g : Group) (bytes : List ℕ) (rows : List ValueTrees) (are : AreKeys keys fs) (is : IsGroup keys (without_keys keys fs) g) (means : PartMeans keys (without_keys keys fs) g bytes rows) where
  pub size : length rows ≡ g.known.rows
  size =
      sym (same_length keys g.key (map (padded (without_keys keys fs)) means.stored) rows means.keyed)
      ∙ length-map means.stored (padded (without_keys keys fs)) ∙ means.holds.count

  pub fit : RowsFit fs rows
  fit = rows_fit keys fs g bytes rows are is.file is.keyed.values means

  fills : HaveFills (places_of keys) g.key g.width rows
  fills = have_fills keys fs g.width g.key are means.stored rows means.holds.means.fit means.keyed

  pub cells : HaveCells (places_of keys) g.key g.width (leaves_of fs) rows
  cells = have_cells keys fs g.width g.key are rows fills

  module _ (tests : List (List Test)) (places : List ℕ) (us : List LeafUse) (us_are : us ≡ uses_of tests (places_of keys) g.width places 0 (leaves_of fs)) where
    chunks_there : HaveChunks tests (places_of keys) g.width places g.chunks 0 (leaves_of fs)
    chunks_there k l among stored = subst (λ (n : ℕ). HasRange g.chunks (n - keys_before (places_of keys) (place_of l.steps))) (sym (zero-add k)) (hold keys fs g bytes rows are means k l among stored).0

    columns_there : HoldColumns tests (places_of keys) g.width places g.chunks bytes rows 0 (leaves_of fs)
    columns_there k l among stored =
        subst (λ (n : ℕ). (text : List ℕ) → IsText g.chunks bytes (n - keys_before (places_of keys) (place_of l.steps)) text → IsHeld g.chunks (n - keys_before (places_of keys) (place_of l.steps)) l text (column rows l.steps))
        (sym (zero-add k)) (hold keys fs g bytes rows are means k l among stored).1

    pub ranges : (b : Bool) → HaveRanges b g.chunks us
    ranges b = subst (HaveRanges b g.chunks) (sym us_are) (have_ranges tests (places_of keys) g.width places g.chunks b 0 (leaves_of fs) chunks_there)

    pub filter_held : (texts : List (List ℕ)) → AreTexts true g.chunks bytes us texts → AreHeld true g.chunks (leaves_of fs) us texts texts (columns fs rows)
    filter_held texts read =
        subst (λ (xs : List LeafUse). AreHeld true g.chunks (leaves_of fs) xs texts texts (columns fs rows)) (sym us_are)
        (are_held tests (places_of keys) g.width places g.chunks true bytes rows 0 (leaves_of fs) texts texts columns_there
        (texts_for_filter tests (places_of keys) g.width places g.chunks bytes (uses_of tests (places_of keys) g.width places 0 (leaves_of fs)) texts
        (subst (λ (xs : List LeafUse). AreTexts true g.chunks bytes xs texts) us_are read)))

    pub may_select : (first later : List (List ℕ)) → AreTexts true g.chunks bytes us first → AreTexts false g.chunks bytes us later → MaySelect keys fs g us first later rows
    may_select first later read more = record {
      fit = fit;
      held =
          subst (λ (xs : List LeafUse). AreHeld false g.chunks (leaves_of fs) xs first later (columns fs rows)) (sym us_are)
          (are_held tests (places_of keys) g.width places g.chunks false bytes rows 0 (leaves_of fs) first later columns_there
          (texts_for_rows tests (places_of keys) g.width places g.chunks bytes (uses_of tests (places_of keys) g.width places 0 (leaves_of fs)) first later
          (subst (λ (xs : List LeafUse). AreTexts true g.chunks bytes xs first) us_are read)
          (subst (λ (xs : List LeafUse). AreTexts false g.chunks bytes xs later) us_are more)));
      fills = fills;
    }
