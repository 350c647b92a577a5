-- What was read holds the rows, in pieces.
use Rattle.std.proofs.Common.{ℕ, suc, ◌≡◌, Bool, true, false, List, [], ◌∷◌, length, map, inl, inr, refl, ap, sym, subst, ◌∙◌, arith, zero-add}
use Rattle.std.specs.List.{AllByRecursion}
use Rattle.std.proofs.lemmas.Bool.{and_parts, false≢true}
use Rattle.std.proofs.lemmas.List.{length-map}
use Rattle.lists.proofs.Lists.{all_always as all_of, all_weaker as all_map}
use Rattle.schema.specs.Cutting.{is_among, cut_values, cut_rows, cut_to as fields_cut_to}
use Rattle.schema.specs.Fits.{fits, fits_each, RowsFit}
use Rattle.schema.specs.Keys.{KeyColumn, places_of, width as row_width}
use Rattle.schema.specs.Law.{AreValid}
use Rattle.schema.specs.Shape.{Fields, no_fields, field, count}
use Rattle.schema.specs.Stripe.{Leaf, leaves_of, column, columns}
use Rattle.schema.specs.Values.{ValueTree, ValueTrees, no_values, value as item}
use Rattle.schema.specs.Views.{row_view}
use Rattle.schema.proofs.CutFits.{cut_rows_fit}
use Rattle.schema.proofs.Cuts.{cut_rows_have_columns}
use Rattle.metadata.specs.Records.{ChunkMeta}
use Rattle.metadata.specs.Views.{chunk_meta_view}
use Rattle.filter.specs.Test.{Test}
use Rattle.filter.proofs.Columns.{all_zip}
use Rattle.manifest.specs.Groups.{Group}
use Rattle.scan.specs.declared.held.Held.{Held}
use Rattle.scan.specs.declared.parts.Part.{Part}
use Rattle.scan.specs.declared.parts.Part.TheVariants.{Given, Read}
use Rattle.scan.specs.declared.parts.Run.{Run}
use Rattle.scan.specs.declared.leaf_uses.LeafUse.{LeafUse}
use Rattle.scan.specs.Cost.{is_stored}
use Rattle.scan.specs.Left.{piece_at, joined, selected_by, RunHolds, part_holds, PartsHold}
use Rattle.scan.specs.Selected.{cut_to}
use Rattle.scan.specs.inner.Fills.{given, filled, fills_of}
use Rattle.scan.specs.inner.Marks.{MaySelect}
use Rattle.scan.specs.inner.Parts.{wanted_from, AreAlike, Making, IsPartOf, ArePartsOf}
use Rattle.scan.specs.inner.Texts.{AreHeld, texts_view}
use Rattle.scan.specs.inner.Uses.{uses_of, numbers_of}
use Rattle.scan.proofs.Filling.{completed}
use Rattle.scan.proofs.PartsMade.{no_fills, no_numbers, held_fewer, heres, pieces_of, part_here, joined_all}
use Rattle.scan.proofs.Segments.{kept_at, wanted_rise, wanted_only, kept_wanted}
use Rattle.scan.proofs.Selecting.{HasFills, fills_each, none_cut}
use Rattle.scan.proofs.Taking.{taken}
use Rattle.scan.proofs.UseLaws.{uses_length, picked_at}

-- ---- lists

map_twice : {A B C : Type 0} (f : B → C) (g : A → B) (xs : List A) → map f (map g xs) ≡ map (λ x. f (g x)) xs
map_twice f g [] = refl
map_twice {C = C} f g (x ∷ xs) = ap (λ (ys : List C). f (g x) ∷ ys) (map_twice f g xs)

map_same : {A B : Type 0} (f g : A → B) (xs : List A) → AllByRecursion (λ x. f x ≡ g x) xs → map f xs ≡ map g xs
map_same f g [] all = refl
map_same {B = B} f g (x ∷ xs) all = ap (λ (y : B). y ∷ map f xs) all.0 ∙ ap (λ (ys : List B). g x ∷ ys) (map_same f g xs all.1)

all_mapped : {A B : Type 0} (P : B → Type 0) (f : A → B) (xs : List A) → AllByRecursion (λ x. P (f x)) xs → AllByRecursion P (map f xs)
all_mapped P f [] all = tt
all_mapped P f (x ∷ xs) all = (all.0, all_mapped P f xs all.1)

pub selected_map : {A B : Type 0} (f : A → B) (marks : List Bool) (xs : List A) → selected_by marks (map f xs) ≡ map f (selected_by marks xs)
selected_map f [] xs = refl
selected_map f (m ∷ marks) [] = refl
selected_map {B = B} f (true ∷ marks) (x ∷ xs) = ap (λ (ys : List B). f x ∷ ys) (selected_map f marks xs)
selected_map f (false ∷ marks) (x ∷ xs) = selected_map f marks xs

selected_all : {A : Type 0} (P : A → Type 0) (marks : List Bool) (xs : List A) → AllByRecursion P xs → AllByRecursion P (selected_by marks xs)
selected_all P [] xs all = all
selected_all P (m ∷ marks) [] all = tt
selected_all P (true ∷ marks) (x ∷ xs) all = (all.0, selected_all P marks xs all.1)
selected_all P (false ∷ marks) (x ∷ xs) all = selected_all P marks xs all.1

fits_width : (fs : Fields) (row : ValueTrees) → fits_each fs row ≡ true → row_width row ≡ count fs
fits_width no_fields no_values fit = refl
fits_width no_fields (item v vs) fit = absurd (false≢true fit)
fits_width (field f fs) no_values fit = absurd (false≢true fit)
fits_width (field f fs) (item v vs) fit = ap suc (fits_width fs vs (and_parts (fits f v) (fits_each fs vs) fit).1)

-- ---- the pieces of one part

module _ (tests : List (List Test)) (keys : List KeyColumn) (fs : Fields) (g : Group) (places : List ℕ) (first later : List (List ℕ)) (rows : List ValueTrees)
    (valid : AreValid fs) (may : MaySelect keys fs g (uses_of tests (places_of keys) g.width places 0 (leaves_of fs)) first later rows) where
  abbrev pub making : Making
  making = record { tests = tests; keys = places_of keys; fields = fs; key = g.key; width = g.width }

  module _ (here : List ℕ) (us : List LeafUse) (are : us ≡ uses_of tests (places_of keys) g.width here 0 (leaves_of fs)) where
    one_whole : (row : ValueTrees) → fits_each fs row ≡ true → HasFills (places_of keys) g.key g.width row
        → filled (fills_of (places_of keys) g.key g.width here 0 0 (count fs)) (cut_values (is_among (numbers_of false 0 us)) 0 fs row) ≡ kept_at here 0 row
    one_whole row fit has =
        completed (places_of keys) g.key g.width here (is_among (numbers_of false 0 us)) fs valid 0 0 row fit (taken tests (places_of keys) g.key g.width here fs us are)
        (λ q away. has q (ap (λ (n : ℕ). is_stored (places_of keys) g.width n) (sym (zero-add q)) ∙ away) ∙ ap (given (places_of keys) g.key) (sym (zero-add q)))

    pub each_whole : AllByRecursion (λ row. filled (fills_of (places_of keys) g.key g.width here 0 0 (count fs)) (cut_values (is_among (numbers_of false 0 us)) 0 fs row) ≡ kept_at here 0 row) rows
    each_whole = all_zip (λ row. fits_each fs row ≡ true) (HasFills (places_of keys) g.key g.width)
        (λ row. filled (fills_of (places_of keys) g.key g.width here 0 0 (count fs)) (cut_values (is_among (numbers_of false 0 us)) 0 fs row) ≡ kept_at here 0 row)
        one_whole rows may.fit (fills_each (places_of keys) g.key g.width rows may.fills)

  -- values that each row has
  given_pieces : (here : List ℕ) (row0 : ValueTrees) → numbers_of false 0 (uses_of tests (places_of keys) g.width here 0 (leaves_of fs)) ≡ []
      → row0 ≡ filled (fills_of (places_of keys) g.key g.width here 0 0 (count fs)) no_values → AllByRecursion (λ piece. piece ≡ row0) (map (kept_at here 0) rows)
  given_pieces here row0 none is =
      let fills = fills_of (places_of keys) g.key g.width here 0 0 (count fs) in
      let us = uses_of tests (places_of keys) g.width here 0 (leaves_of fs) in
      all_mapped (λ piece. piece ≡ row0) (kept_at here 0) rows
      (all_map (λ row. filled fills (cut_values (is_among (numbers_of false 0 us)) 0 fs row) ≡ kept_at here 0 row) (λ row. kept_at here 0 row ≡ row0)
      (λ row whole. sym whole ∙ ap (filled fills) (none_cut (is_among (numbers_of false 0 us)) (λ n. ap (λ (ns : List ℕ). is_among ns n) none) 0 fs row) ∙ sym is) rows (each_whole here us refl))

  -- columns that are read
  read_pieces : (here : List ℕ) (us : List LeafUse) → us ≡ uses_of tests (places_of keys) g.width here 0 (leaves_of fs) → fills_of (places_of keys) g.key g.width here 0 0 (count fs) ≡ []
      → cut_rows (numbers_of false 0 us) fs rows ≡ map (kept_at here 0) rows
  read_pieces here us are none =
      map_same (cut_values (is_among (numbers_of false 0 us)) 0 fs) (kept_at here 0) rows
      (all_map (λ row. filled (fills_of (places_of keys) g.key g.width here 0 0 (count fs)) (cut_values (is_among (numbers_of false 0 us)) 0 fs row) ≡ kept_at here 0 row)
      (λ row. cut_values (is_among (numbers_of false 0 us)) 0 fs row ≡ kept_at here 0 row)
      (λ row whole. ap (λ (f : List (ℕ × ValueTree)). filled f (cut_values (is_among (numbers_of false 0 us)) 0 fs row)) (sym none) ∙ whole) rows (each_whole here us are))

  module _ (h : Held) (schema_is : h.schema ≡ fs) (chunks_are : map chunk_meta_view h.chunks.items ≡ g.chunks) (first_is : texts_view h.first.items ≡ first) (later_is : texts_view h.later.items ≡ later) where
    run_holds : (here : List ℕ) (run : Run) → ((q : ℕ) → is_among here q ≡ true → is_among places q ≡ true) → IsPartOf making here (Read run) → fills_of (places_of keys) g.key g.width here 0 0 (count fs) ≡ []
        → RunHolds h run (map (kept_at here 0) rows)
    run_holds here run fewer part none =
        let us = run.uses.items in
        let numbers = numbers_of false 0 us in
        let pieces = read_pieces here us part.0 none in
        let schema : fields_cut_to numbers fs ≡ run.schema = sym part.1.is in
        let size : length us ≡ length (columns fs rows) =
        ap length part.0 ∙ uses_length tests (places_of keys) g.width here 0 (leaves_of fs) ∙ sym (length-map (leaves_of fs) (λ (l : Leaf). column rows l.steps)) in
        let held = held_fewer tests (places_of keys) g.width places here fewer g.chunks 0 (leaves_of fs) first later (columns fs rows) may.held in
        record {
          schema = part.2;
          fit = subst (RowsFit run.schema) pieces (subst (λ (gs : Fields). RowsFit gs (cut_rows numbers fs rows)) schema (cut_rows_fit numbers fs rows may.fit));
          cols = columns fs rows;
          held =
              subst (λ (gs : Fields). AreHeld false (map chunk_meta_view h.chunks.items) (leaves_of gs) us (texts_view h.first.items) (texts_view h.later.items) (columns fs rows)) (sym schema_is)
              (subst (λ (x : List (List ℕ)). AreHeld false (map chunk_meta_view h.chunks.items) (leaves_of fs) us (texts_view h.first.items) x (columns fs rows)) (sym later_is)
              (subst (λ (x : List (List ℕ)). AreHeld false (map chunk_meta_view h.chunks.items) (leaves_of fs) us x later (columns fs rows)) (sym first_is)
              (subst (λ (x : List ChunkMeta). AreHeld false x (leaves_of fs) us first later (columns fs rows)) (sym chunks_are)
              (subst (λ (xs : List LeafUse). AreHeld false g.chunks (leaves_of fs) xs first later (columns fs rows)) (sym part.0) held))));
          same =
              sym (cut_rows_have_columns numbers fs rows ∙ picked_at false us (columns fs rows) size)
              ∙ ap (λ (gs : Fields). columns gs (cut_rows numbers fs rows)) schema ∙ ap (columns run.schema) pieces;
        }

    one_part : (here : List ℕ) (p : Part) → ((q : ℕ) → is_among here q ≡ true → is_among places q ≡ true) → AreAlike (places_of keys) g.width here → IsPartOf making here p → part_holds h p (map (kept_at here 0) rows)
    one_part here (Given row) fewer alike part = given_pieces here (row_view row) part.0 part.1
    one_part here (Read run) fewer (inl stored) part = run_holds here run fewer part (no_fills (places_of keys) g.key g.width here stored 0 0 (count fs))
    one_part here (Read run) fewer (inr lacked) part =
        let none = no_numbers tests (places_of keys) g.width here lacked 0 0 (leaves_of fs) in
        let are : numbers_of false 0 run.uses.items ≡ [] = ap (numbers_of false 0) part.0 ∙ none in
        let some = part.1.places_are.some in
        let size = ap length are in
        absurd (omega (arith, some, size))

    module _ (parts : List Part) (made : ArePartsOf making (wanted_from places 0 (count fs)) parts) where
      abbrev pub wanted : List ℕ
      wanted = wanted_from places 0 (count fs)

      abbrev pub all_pieces : List (List ValueTrees)
      all_pieces = map (pieces_of (heres making wanted parts made)) rows

      pub pieces_count : length all_pieces ≡ length rows
      pieces_count = length-map rows (pieces_of (heres making wanted parts made))

      pub parts_hold : PartsHold h parts all_pieces
      parts_hold k p there =
          let part = part_here making wanted parts made k p there in
          let pieces : map (kept_at part.here 0) rows ≡ map (piece_at k) all_pieces =
          sym (map_twice (piece_at k) (pieces_of (heres making wanted parts made)) rows
          ∙ map_same (λ row. piece_at k (pieces_of (heres making wanted parts made) row)) (kept_at part.here 0) rows (all_of _ part.piece rows)) in
          subst (part_holds h p) pieces (one_part part.here p (λ q in_here. wanted_only places 0 (count fs) q (part.within q in_here)) part.alike part.part)

      one_row : (row : ValueTrees) → fits_each fs row ≡ true → cut_to places row ≡ joined (length parts) (pieces_of (heres making wanted parts made) row)
      one_row row fit = sym (joined_all making wanted parts made (wanted_rise places 0 (count fs)) row ∙ kept_wanted places (count fs) row (fits_width fs row fit))

      pub rows_selected : (marks : List Bool) → map (cut_to places) (selected_by marks rows) ≡ map (joined (length parts)) (selected_by marks all_pieces)
      rows_selected marks =
          let split = pieces_of (heres making wanted parts made) in
          map_same (cut_to places) (λ row. joined (length parts) (split row)) (selected_by marks rows)
          (selected_all (λ row. cut_to places row ≡ joined (length parts) (split row)) marks rows (all_map (λ row. fits_each fs row ≡ true) (λ row. cut_to places row ≡ joined (length parts) (split row)) one_row rows may.fit))
          ∙ sym (map_twice (joined (length parts)) split (selected_by marks rows))
          ∙ ap (map (joined (length parts))) (sym (selected_map split marks rows))
