use Rattle.std.proofs.Common.{◌≡◌, ◌∙◌, List, map, length, refl, sym, subst}
use Rattle.lists.proofs.Lists.{map_empty as none_mapped}
use Rattle.schema.specs.Keys.{key_columns_view, places_of}
use Rattle.schema.specs.Shape.{Fields, count}
use Rattle.filter.specs.Test.{tests_in}
use Rattle.manifest.specs.Groups.{group_view}
use Rattle.scan.specs.declared.held.Held.{Held}
use Rattle.scan.specs.declared.parts.Part.{Part}
use Rattle.scan.specs.Left.{joined, selected_by, turned, PartsHold}
use Rattle.scan.specs.inner.Parts.{wanted_from, Making, AreCutParts}
use Rattle.scan.specs.inner.Texts.{texts_view}
use Rattle.scan.proofs.Chosen.{some_chosen}
use Rattle.scan.proofs.FlatRuns.{parts_cut}
use Rattle.scan.proofs.RowsMade.{all_pieces, pieces_count, parts_hold, rows_selected}
use Rattle.scan.proofs.Passages.{only_on}
use Rattle.scan.proofs.group_rows.rows_in.Goals as goal

pub returns-in_err-check_parts-clause-only : goal.returns-in_err-check_parts-clause-only
returns-in_err-check_parts-clause-only c rows may =
    let tests = tests_in c.args.filter.now in
    let keys = key_columns_view c.args.keys.now in
    let fs = c.args.schema.now in
    let gr = group_view c.args.group.now in
    let places = c.args.places.now in
    let first = texts_view c.args.marked.first.items in
    let later = texts_view c.args.marked.later.items in
    let h : Held = record { schema = c.in_ok-copy.copy; chunks = c.in_ok-chunks.chunks; first = c.args.marked.first; later = c.args.marked.later } in
    let chunks_are = c.in_ok-chunks.ensures.are in
    let parts = c.in_ok-parts.parts.items in
    let made = c.in_ok-parts.ensures.stands in
    let pieces = all_pieces tests keys fs gr places first later rows c.leaves.ensures.valid.1 may.select h c.in_ok-copy.ensures.same chunks_are refl refl parts made in
    let hold = parts_hold tests keys fs gr places first later rows c.leaves.ensures.valid.1 may.select h c.in_ok-copy.ensures.same chunks_are refl refl parts made in
    let size : length pieces ≡ gr.known.rows = pieces_count tests keys fs gr places first later rows c.leaves.ensures.valid.1 may.select h c.in_ok-copy.ensures.same chunks_are refl refl parts made ∙ may.count in
    only_on (λ _. ⊥) c.from_residual-in_err-check_parts.result c.in_err-check_parts.field-0.0 c.from_residual-in_err-check_parts.ensures.1
    (c.in_err-check_parts.ensures.only pieces (subst (λ (ps : List Part). PartsHold h ps pieces) (sym c.as_slice.ensures.value) hold) size)

pub returns-clause-stands : goal.returns-clause-stands
returns-clause-stands c rows may =
    let tests = tests_in c.args.filter.now in
    let keys = key_columns_view c.args.keys.now in
    let fs = c.args.schema.now in
    let gr = group_view c.args.group.now in
    let places = c.args.places.now in
    let first = texts_view c.args.marked.first.items in
    let later = texts_view c.args.marked.later.items in
    let h : Held = record { schema = c.in_ok-copy.copy; chunks = c.in_ok-chunks.chunks; first = c.args.marked.first; later = c.args.marked.later } in
    let chunks_are = c.in_ok-chunks.ensures.are in
    let parts = c.in_ok-parts.parts.items in
    let made = c.in_ok-parts.ensures.stands in
    let valid = c.leaves.ensures.valid.1 in
    let copy_is = c.in_ok-copy.ensures.same in
    record {
      pieces = all_pieces tests keys fs gr places first later rows valid may.select h copy_is chunks_are refl refl parts made;
      count = pieces_count tests keys fs gr places first later rows valid may.select h copy_is chunks_are refl refl parts made ∙ may.count;
      many = c.requires.some.many;
      parts = parts_hold tests keys fs gr places first later rows valid may.select h copy_is chunks_are refl refl parts made;
      selected = rows_selected tests keys fs gr places first later rows valid may.select h copy_is chunks_are refl refl parts made c.args.marked.marks.items;
    }

pub returns-clause-others : goal.returns-clause-others
returns-clause-others c rows may =
    let tests = tests_in c.args.filter.now in
    let keys = key_columns_view c.args.keys.now in
    let fs = c.args.schema.now in
    let gr = group_view c.args.group.now in
    let places = c.args.places.now in
    let first = texts_view c.args.marked.first.items in
    let later = texts_view c.args.marked.later.items in
    let h : Held = record { schema = c.in_ok-copy.copy; chunks = c.in_ok-chunks.chunks; first = c.args.marked.first; later = c.args.marked.later } in
    let chunks_are = c.in_ok-chunks.ensures.are in
    let parts = c.in_ok-parts.parts.items in
    let made = c.in_ok-parts.ensures.stands in
    let valid = c.leaves.ensures.valid.1 in
    let copy_is = c.in_ok-copy.ensures.same in
    record {
      pieces = all_pieces tests keys fs gr places first later rows valid may.select h copy_is chunks_are refl refl parts made;
      count = pieces_count tests keys fs gr places first later rows valid may.select h copy_is chunks_are refl refl parts made ∙ may.count;
      many = c.requires.some.many;
      parts = parts_hold tests keys fs gr places first later rows valid may.select h copy_is chunks_are refl refl parts made;
      others = rows_selected tests keys fs gr places first later rows valid may.select h copy_is chunks_are refl refl parts made (turned gr.known.rows c.args.marked.marks.items);
    }

pub returns-clause-accepted : goal.returns-clause-accepted
returns-clause-accepted c =
    let h : Held = record { schema = c.in_ok-copy.copy; chunks = c.in_ok-chunks.chunks; first = c.args.marked.first; later = c.args.marked.later } in
    let parts = c.in_ok-parts.parts.items in
    let accepts = c.in_ok-check_parts.ensures.accepts in (
      map (joined (length parts)) (selected_by c.args.marked.marks.items accepts.0),
      record {
        pieces = accepts.0;
        count = accepts.2;
        many = c.requires.some.many;
        parts = subst (λ (ps : List Part). PartsHold h ps accepts.0) c.as_slice.ensures.value accepts.1;
        selected = refl;
      },
      (λ none. some_chosen c.args.marked.marks.items c.args.group.now.stats.rows c.requires.some accepts.0 accepts.2 (none_mapped (joined (length parts)) (selected_by c.args.marked.marks.items accepts.0) none)),
    )

pub check_parts-requires : goal.check_parts-requires
check_parts-requires c =
    let fs = c.args.schema.now in
    let gr = group_view c.args.group.now in
    let parts = c.in_ok-parts.parts.items in
    let m : Making = record { tests = tests_in c.args.filter.now; keys = places_of (key_columns_view c.args.keys.now); fields = fs; key = gr.key; width = gr.width } in
    let cut : AreCutParts fs parts = parts_cut m (wanted_from c.args.places.now 0 (count fs)) parts c.in_ok-parts.ensures.stands in
    record {
      cut =
          subst (λ (ps : List Part). AreCutParts c.in_ok-copy.copy ps) (sym c.as_slice.ensures.value)
          (subst (λ (gs : Fields). AreCutParts gs parts) (sym c.in_ok-copy.ensures.same) cut);
    }
