use Rattle.std.proofs.Common.{◌≡◌, ◌+◌, ℕ, Bool, true, false, List, map, Vec, Global, ap, sym, subst, ◌∙◌, arith}
use Rattle.std.proofs.lemmas.Bool.{false≢true}
use Rattle.std.proofs.lemmas.List.{length-map}
use Rattle.schema.specs.Keys.{key_columns_view, places_of}
use Rattle.schema.specs.Stripe.{leaves_of, columns}
use Rattle.metadata.specs.Records.{ChunkMeta}
use Rattle.metadata.specs.Views.{chunk_meta_view}
use Rattle.vault.specs.Views.{IsKept, IsNoFile}
use Rattle.filter.specs.Test.{tests_in}
use Rattle.filter.specs.Deciding.{satisfies as all_satisfied}
use Rattle.table.proofs.Deciding.{tests_decide}
use Rattle.manifest.specs.Groups.{group_view}
use Rattle.scan.specs.Cost.{chunks_read}
use Rattle.scan.specs.Faults.{IsOfParts, IsDevice}
use Rattle.scan.specs.Selected.{cut_to}
use Rattle.scan.specs.inner.Marked.{has_selected}
use Rattle.scan.specs.inner.Texts.{AreHeld, HaveRanges, texts_view}
use Rattle.scan.specs.inner.Uses.{uses_of, count_due}
use Rattle.scan.proofs.ChunkPassages.{no_texts}
use Rattle.scan.proofs.Chosen.{none_chosen, unmarked_chosen}
use Rattle.scan.proofs.HeldGroups.{size, fit, cells, ranges, filter_held, may_select, texts_at}
use Rattle.scan.proofs.Passages.{only_on, kept_still, absent_still}
use Rattle.scan.proofs.Reading.{nothing_read, first_stops, after_first, second_stops, after_both, chunk_total, memory_passed, none_satisfies}
use Rattle.scan.proofs.group_rows.read_marked.Goals as goal

pub returns-in_err-kept-clause-effect : goal.returns-in_err-kept-clause-effect
returns-in_err-kept-clause-effect g c =
    let s0 = g.D.Disk.state c.args.vault.now.disk in
    let keys = key_columns_view c.args.keys.now in
    let fs = c.args.schema.now in
    let gr = group_view c.args.group.now in
    let places = c.args.places.now in
    let tests = tests_in c.args.filter.now in
    nothing_read (chunks_read tests keys fs gr places) s0 c.from_residual-in_err-kept.result (memory_passed IsOfParts c.from_residual-in_err-kept.result c.in_err-kept.field-0.0 c.from_residual-in_err-kept.ensures.1 c.in_err-kept.ensures.which)

pub returns-in_err-uses-clause-effect : goal.returns-in_err-uses-clause-effect
returns-in_err-uses-clause-effect g c =
    let s0 = g.D.Disk.state c.args.vault.now.disk in
    let keys = key_columns_view c.args.keys.now in
    let fs = c.args.schema.now in
    let gr = group_view c.args.group.now in
    let places = c.args.places.now in
    let tests = tests_in c.args.filter.now in
    nothing_read (chunks_read tests keys fs gr places) s0 c.from_residual-in_err-uses.result (memory_passed IsOfParts c.from_residual-in_err-uses.result c.in_err-uses.field-0.0 c.from_residual-in_err-uses.ensures.1 c.in_err-uses.ensures.which)

pub returns-in_err-first-clause-only : goal.returns-in_err-first-clause-only
returns-in_err-first-clause-only g c honest are rows h =
    let s0 = g.D.Disk.state c.args.vault.now.disk in
    let keys = key_columns_view c.args.keys.now in
    let fs = c.args.schema.now in
    let gr = group_view c.args.group.now in
    let places = c.args.places.now in
    let tests = tests_in c.args.filter.now in
    let us1 = c.as_slice.result.now in
    let us1_are : us1 ≡ uses_of tests (places_of keys) gr.width places 0 (leaves_of fs) = c.as_slice.ensures.value ∙ c.in_ok-uses.ensures.stands in
    let kept : IsKept s0 c.as_str.result.now h.bytes = subst (λ (path : List ℕ). IsKept s0 path h.bytes) (sym (c.as_str.ensures.value ∙ c.in_ok-path.ensures.stands)) h.kept in
    only_on IsDevice c.from_residual-in_err-first.result c.in_err-first.field-0.0 c.from_residual-in_err-first.ensures.1
    (c.in_err-first.ensures.only honest h.bytes kept (subst (λ (ms : List ChunkMeta). HaveRanges true ms us1) (sym (ap (map chunk_meta_view) c.as_slice-chunks.ensures.value ∙ c.in_ok-kept.ensures.are)) (ranges c.chunks_hold_columns.ensures c.rows_of_parts_fit.ensures keys fs gr h.bytes rows are h.is h.means tests places us1 us1_are true)))

pub returns-in_err-first-clause-effect : goal.returns-in_err-first-clause-effect
returns-in_err-first-clause-effect g c =
    let s0 = g.D.Disk.state c.args.vault.now.disk in
    let s1 = g.D.Disk.state c.read_chunks.new.vault.disk in
    let keys = key_columns_view c.args.keys.now in
    let fs = c.args.schema.now in
    let gr = group_view c.args.group.now in
    let places = c.args.places.now in
    let tests = tests_in c.args.filter.now in
    let us1 = c.as_slice.result.now in
    let us1_are : us1 ≡ uses_of tests (places_of keys) gr.width places 0 (leaves_of fs) = c.as_slice.ensures.value ∙ c.in_ok-uses.ensures.stands in
    let m = count_due true us1 in
    let n = count_due false us1 in
    let all = chunks_read tests keys fs gr places in
    let total : m + n ≡ all = chunk_total tests keys fs gr places us1 us1 us1_are (λ _. us1) in
    first_stops m n all total s0 s1 s1 c.from_residual-in_err-first.result {X = Vec (Vec ℕ Global) Global} c.in_err-first.field-0.0 c.from_residual-in_err-first.ensures.1 c.in_err-first.ensures.effect

pub returns-in_err-marks-clause-only : goal.returns-in_err-marks-clause-only
returns-in_err-marks-clause-only g c honest are rows h =
    let s0 = g.D.Disk.state c.args.vault.now.disk in
    let keys = key_columns_view c.args.keys.now in
    let fs = c.args.schema.now in
    let gr = group_view c.args.group.now in
    let places = c.args.places.now in
    let tests = tests_in c.args.filter.now in
    let kept : IsKept s0 c.as_str.result.now h.bytes = subst (λ (path : List ℕ). IsKept s0 path h.bytes) (sym (c.as_str.ensures.value ∙ c.in_ok-path.ensures.stands)) h.kept in
    let chunks_are = ap (map chunk_meta_view) c.as_slice-chunks.ensures.value ∙ c.in_ok-kept.ensures.are in
    let us2 = c.as_slice-2.result.now in
    let us2_are : us2 ≡ uses_of tests (places_of keys) gr.width places 0 (leaves_of fs) = c.as_slice-2.ensures.value ∙ c.in_ok-uses.ensures.stands in
    let texts = texts_view c.as_slice-3.result.now in
    let read = texts_at true h.bytes chunks_are (c.as_slice.ensures.value ∙ sym c.as_slice-2.ensures.value) (ap texts_view (sym c.as_slice-3.ensures.value)) (c.in_ok-first.ensures.stands honest h.bytes kept) in
    let held : AreHeld true gr.chunks (leaves_of fs) us2 texts texts (columns fs rows) = filter_held c.chunks_hold_columns.ensures c.rows_of_parts_fit.ensures keys fs gr h.bytes rows are h.is h.means tests places us2 us2_are texts read in
    memory_passed IsDevice c.from_residual-in_err-marks.result c.in_err-marks.field-0.0 c.from_residual-in_err-marks.ensures.1 (c.in_err-marks.ensures.only rows (fit c.chunks_hold_columns.ensures c.rows_of_parts_fit.ensures keys fs gr h.bytes rows are h.is h.means) (size c.chunks_hold_columns.ensures c.rows_of_parts_fit.ensures keys fs gr h.bytes rows are h.is h.means) held)

pub returns-in_err-marks-clause-effect : goal.returns-in_err-marks-clause-effect
returns-in_err-marks-clause-effect g c =
    let s0 = g.D.Disk.state c.args.vault.now.disk in
    let s1 = g.D.Disk.state c.read_chunks.new.vault.disk in
    let keys = key_columns_view c.args.keys.now in
    let fs = c.args.schema.now in
    let gr = group_view c.args.group.now in
    let places = c.args.places.now in
    let tests = tests_in c.args.filter.now in
    let us1 = c.as_slice.result.now in
    let us1_are : us1 ≡ uses_of tests (places_of keys) gr.width places 0 (leaves_of fs) = c.as_slice.ensures.value ∙ c.in_ok-uses.ensures.stands in
    let m = count_due true us1 in
    let n = count_due false us1 in
    let all = chunks_read tests keys fs gr places in
    let total : m + n ≡ all = chunk_total tests keys fs gr places us1 us1 us1_are (λ _. us1) in
    after_first m n all total s0 s1 s1 c.from_residual-in_err-marks.result c.in_ok-first.first c.in_ok-first.ensures.effect (only_on IsOfParts c.from_residual-in_err-marks.result c.in_err-marks.field-0.0 c.from_residual-in_err-marks.ensures.1 c.in_err-marks.ensures.which)

pub returns-then-not-has_selected-clause-stands : goal.returns-then-not-has_selected-clause-stands
returns-then-not-has_selected-clause-stands g c honest over are rows h =
    let s0 = g.D.Disk.state c.args.vault.now.disk in
    let keys = key_columns_view c.args.keys.now in
    let fs = c.args.schema.now in
    let gr = group_view c.args.group.now in
    let places = c.args.places.now in
    let tests = tests_in c.args.filter.now in
    let kept : IsKept s0 c.as_str.result.now h.bytes = subst (λ (path : List ℕ). IsKept s0 path h.bytes) (sym (c.as_str.ensures.value ∙ c.in_ok-path.ensures.stands)) h.kept in
    let chunks_are = ap (map chunk_meta_view) c.as_slice-chunks.ensures.value ∙ c.in_ok-kept.ensures.are in
    let us2 = c.as_slice-2.result.now in
    let us2_are : us2 ≡ uses_of tests (places_of keys) gr.width places 0 (leaves_of fs) = c.as_slice-2.ensures.value ∙ c.in_ok-uses.ensures.stands in
    let texts = texts_view c.as_slice-3.result.now in
    let read = texts_at true h.bytes chunks_are (c.as_slice.ensures.value ∙ sym c.as_slice-2.ensures.value) (ap texts_view (sym c.as_slice-3.ensures.value)) (c.in_ok-first.ensures.stands honest h.bytes kept) in
    let held : AreHeld true gr.chunks (leaves_of fs) us2 texts texts (columns fs rows) = filter_held c.chunks_hold_columns.ensures c.rows_of_parts_fit.ensures keys fs gr h.bytes rows are h.is h.means tests places us2 us2_are texts read in
    let decided = c.in_ok-marks.ensures.stands over rows (size c.chunks_hold_columns.ensures c.rows_of_parts_fit.ensures keys fs gr h.bytes rows are h.is h.means) held (cells c.chunks_hold_columns.ensures c.rows_of_parts_fit.ensures keys fs gr h.bytes rows are h.is h.means) in
    let count = size c.chunks_hold_columns.ensures c.rows_of_parts_fit.ensures keys fs gr h.bytes rows are h.is h.means in
    let ms = c.in_ok-marks.marks.items in
    let away = ap (λ (xs : List Bool). has_selected xs gr.known.rows) (sym c.as_slice-4.ensures.value) ∙ sym c.has_selected.ensures ∙ c.if-not-has_selected.true in
    let none = none_chosen ms gr.known.rows c.in_ok-marks.ensures.many away rows count in
    λ p decides. sym (ap (map (cut_to places)) (sym (decided p decides).0 ∙ none))

pub returns-then-not-has_selected-clause-absent : goal.returns-then-not-has_selected-clause-absent
returns-then-not-has_selected-clause-absent g c honest over are lacks =
    let s0 = g.D.Disk.state c.args.vault.now.disk in
    let keys = key_columns_view c.args.keys.now in
    let fs = c.args.schema.now in
    let gr = group_view c.args.group.now in
    let places = c.args.places.now in
    let tests = tests_in c.args.filter.now in
    let gone : IsNoFile s0 c.as_str.result.now = subst (IsNoFile s0) (sym (c.as_str.ensures.value ∙ c.in_ok-path.ensures.stands)) lacks.absent in
    let ms = c.in_ok-marks.marks.items in
    let away = ap (λ (xs : List Bool). has_selected xs gr.known.rows) (sym c.as_slice-4.ensures.value) ∙ sym c.has_selected.ensures ∙ c.if-not-has_selected.true in
    let chunks_are = ap (map chunk_meta_view) c.as_slice-chunks.ensures.value ∙ c.in_ok-kept.ensures.are in
    let us2 = c.as_slice-2.result.now in
    let us2_are : us2 ≡ uses_of tests (places_of keys) gr.width places 0 (leaves_of fs) = c.as_slice-2.ensures.value ∙ c.in_ok-uses.ensures.stands in
    let texts = texts_view c.as_slice-3.result.now in
    let many = length-map c.in_ok-first.first.items (λ (t : Vec ℕ Global). t.items) ∙ c.in_ok-first.ensures.as_many in
    let none_due = c.in_ok-first.ensures.absent honest gone in record {
      filtered = λ empty. false≢true (sym away ∙ unmarked_chosen ms gr.known.rows (c.in_ok-marks.ensures.unmarked empty) lacks.is.some);
      none = λ bytes rows means.
          let count = size c.chunks_hold_columns.ensures c.rows_of_parts_fit.ensures keys fs gr bytes rows are lacks.is means in
          let read = texts_at true bytes chunks_are (c.as_slice.ensures.value ∙ sym c.as_slice-2.ensures.value) (ap texts_view (sym c.as_slice-3.ensures.value))
          (no_texts true (map chunk_meta_view c.as_slice-chunks.result.now) bytes c.as_slice.result.now (texts_view c.in_ok-first.first.items) many none_due) in
          let held : AreHeld true gr.chunks (leaves_of fs) us2 texts texts (columns fs rows) = filter_held c.chunks_hold_columns.ensures c.rows_of_parts_fit.ensures keys fs gr bytes rows are lacks.is means tests places us2 us2_are texts read in
          let decided = c.in_ok-marks.ensures.stands over rows count held (cells c.chunks_hold_columns.ensures c.rows_of_parts_fit.ensures keys fs gr bytes rows are lacks.is means) in
          let chosen = none_chosen ms gr.known.rows c.in_ok-marks.ensures.many away rows count in
          none_satisfies tests places rows (all_satisfied tests) (tests_decide tests) rows (sym (decided (all_satisfied tests) (tests_decide tests)).0 ∙ chosen);
    }

pub returns-then-not-has_selected-clause-effect : goal.returns-then-not-has_selected-clause-effect
returns-then-not-has_selected-clause-effect g c =
    let s0 = g.D.Disk.state c.args.vault.now.disk in
    let s1 = g.D.Disk.state c.read_chunks.new.vault.disk in
    let keys = key_columns_view c.args.keys.now in
    let fs = c.args.schema.now in
    let gr = group_view c.args.group.now in
    let places = c.args.places.now in
    let tests = tests_in c.args.filter.now in
    let us1 = c.as_slice.result.now in
    let us1_are : us1 ≡ uses_of tests (places_of keys) gr.width places 0 (leaves_of fs) = c.as_slice.ensures.value ∙ c.in_ok-uses.ensures.stands in
    let m = count_due true us1 in
    let n = count_due false us1 in
    let all = chunks_read tests keys fs gr places in
    let total : m + n ≡ all = chunk_total tests keys fs gr places us1 us1 us1_are (λ _. us1) in
    after_first m n all total s0 s1 s1 _ c.in_ok-first.first c.in_ok-first.ensures.effect tt

pub returns-in_err-later-clause-only : goal.returns-in_err-later-clause-only
returns-in_err-later-clause-only g c honest are rows h =
    let s0 = g.D.Disk.state c.args.vault.now.disk in
    let s1 = g.D.Disk.state c.read_chunks.new.vault.disk in
    let keys = key_columns_view c.args.keys.now in
    let fs = c.args.schema.now in
    let gr = group_view c.args.group.now in
    let places = c.args.places.now in
    let tests = tests_in c.args.filter.now in
    let run = c.in_ok-first.ensures.effect in
    let honest1 = run.honest.0 honest in
    let kept1 : IsKept s1 c.as_str-2.result.now h.bytes =
    kept_still s0 s1 (run.unchanged honest) c.as_str-2.result.now h.bytes (subst (λ (path : List ℕ). IsKept s0 path h.bytes) (sym (c.as_str-2.ensures.value ∙ c.in_ok-path.ensures.stands)) h.kept) in
    let us5 = c.as_slice-5.result.now in
    let us5_are : us5 ≡ uses_of tests (places_of keys) gr.width places 0 (leaves_of fs) = c.as_slice-5.ensures.value ∙ c.in_ok-uses.ensures.stands in
    only_on IsDevice c.from_residual-in_err-later.result c.in_err-later.field-0.0 c.from_residual-in_err-later.ensures.1
    (c.in_err-later.ensures.only honest1 h.bytes kept1 (subst (λ (ms : List ChunkMeta). HaveRanges false ms us5) (sym (ap (map chunk_meta_view) c.as_slice-chunks.ensures.value ∙ c.in_ok-kept.ensures.are)) (ranges c.chunks_hold_columns.ensures c.rows_of_parts_fit.ensures keys fs gr h.bytes rows are h.is h.means tests places us5 us5_are false)))

pub returns-in_err-later-clause-effect : goal.returns-in_err-later-clause-effect
returns-in_err-later-clause-effect g c =
    let s0 = g.D.Disk.state c.args.vault.now.disk in
    let s1 = g.D.Disk.state c.read_chunks.new.vault.disk in
    let s2 = g.D.Disk.state c.read_chunks-2.new.vault.disk in
    let keys = key_columns_view c.args.keys.now in
    let fs = c.args.schema.now in
    let gr = group_view c.args.group.now in
    let places = c.args.places.now in
    let tests = tests_in c.args.filter.now in
    let us1 = c.as_slice.result.now in
    let us1_are : us1 ≡ uses_of tests (places_of keys) gr.width places 0 (leaves_of fs) = c.as_slice.ensures.value ∙ c.in_ok-uses.ensures.stands in
    let us5 = c.as_slice-5.result.now in
    let us5_same : us5 ≡ us1 = c.as_slice-5.ensures.value ∙ sym c.as_slice.ensures.value in
    let m = count_due true us1 in
    let n = count_due false us5 in
    let all = chunks_read tests keys fs gr places in
    let total : m + n ≡ all = chunk_total tests keys fs gr places us1 us5 us1_are us5_same in
    second_stops m n all total s0 s1 s2 c.from_residual-in_err-later.result {Y = Vec (Vec ℕ Global) Global} c.in_ok-first.first c.in_err-later.field-0.0 c.from_residual-in_err-later.ensures.1 c.in_ok-first.ensures.effect c.in_err-later.ensures.effect

pub returns-clause-stands : goal.returns-clause-stands
returns-clause-stands g c honest over are rows h =
    let s0 = g.D.Disk.state c.args.vault.now.disk in
    let s1 = g.D.Disk.state c.read_chunks.new.vault.disk in
    let keys = key_columns_view c.args.keys.now in
    let fs = c.args.schema.now in
    let gr = group_view c.args.group.now in
    let places = c.args.places.now in
    let tests = tests_in c.args.filter.now in
    let kept : IsKept s0 c.as_str.result.now h.bytes = subst (λ (path : List ℕ). IsKept s0 path h.bytes) (sym (c.as_str.ensures.value ∙ c.in_ok-path.ensures.stands)) h.kept in
    let chunks_are = ap (map chunk_meta_view) c.as_slice-chunks.ensures.value ∙ c.in_ok-kept.ensures.are in
    let us2 = c.as_slice-2.result.now in
    let us2_are : us2 ≡ uses_of tests (places_of keys) gr.width places 0 (leaves_of fs) = c.as_slice-2.ensures.value ∙ c.in_ok-uses.ensures.stands in
    let texts = texts_view c.as_slice-3.result.now in
    let read = texts_at true h.bytes chunks_are (c.as_slice.ensures.value ∙ sym c.as_slice-2.ensures.value) (ap texts_view (sym c.as_slice-3.ensures.value)) (c.in_ok-first.ensures.stands honest h.bytes kept) in
    let held : AreHeld true gr.chunks (leaves_of fs) us2 texts texts (columns fs rows) = filter_held c.chunks_hold_columns.ensures c.rows_of_parts_fit.ensures keys fs gr h.bytes rows are h.is h.means tests places us2 us2_are texts read in
    let decided = c.in_ok-marks.ensures.stands over rows (size c.chunks_hold_columns.ensures c.rows_of_parts_fit.ensures keys fs gr h.bytes rows are h.is h.means) held (cells c.chunks_hold_columns.ensures c.rows_of_parts_fit.ensures keys fs gr h.bytes rows are h.is h.means) in
    decided

pub returns-clause-some : goal.returns-clause-some
returns-clause-some g c = record {
  many = c.in_ok-marks.ensures.many;
  some = ap (λ (xs : List Bool). has_selected xs (group_view c.args.group.now).known.rows) (sym c.as_slice-4.ensures.value) ∙ sym c.has_selected.ensures ∙ c.if-not-has_selected.false;
}

pub returns-clause-may : goal.returns-clause-may
returns-clause-may g c honest are rows h =
    let s0 = g.D.Disk.state c.args.vault.now.disk in
    let s1 = g.D.Disk.state c.read_chunks.new.vault.disk in
    let keys = key_columns_view c.args.keys.now in
    let fs = c.args.schema.now in
    let gr = group_view c.args.group.now in
    let places = c.args.places.now in
    let tests = tests_in c.args.filter.now in
    let us = uses_of tests (places_of keys) gr.width places 0 (leaves_of fs) in
    let kept : IsKept s0 c.as_str.result.now h.bytes = subst (λ (path : List ℕ). IsKept s0 path h.bytes) (sym (c.as_str.ensures.value ∙ c.in_ok-path.ensures.stands)) h.kept in
    let chunks_are = ap (map chunk_meta_view) c.as_slice-chunks.ensures.value ∙ c.in_ok-kept.ensures.are in
    let run = c.in_ok-first.ensures.effect in
    let honest1 = run.honest.0 honest in
    let kept1 : IsKept s1 c.as_str-2.result.now h.bytes =
    kept_still s0 s1 (run.unchanged honest) c.as_str-2.result.now h.bytes (subst (λ (path : List ℕ). IsKept s0 path h.bytes) (sym (c.as_str-2.ensures.value ∙ c.in_ok-path.ensures.stands)) h.kept) in
    let read_first = texts_at true h.bytes chunks_are (c.as_slice.ensures.value ∙ c.in_ok-uses.ensures.stands) (λ _. texts_view c.in_ok-first.first.items) (c.in_ok-first.ensures.stands honest h.bytes kept) in
    let read_later = texts_at false h.bytes chunks_are (c.as_slice-5.ensures.value ∙ c.in_ok-uses.ensures.stands) (λ _. texts_view c.in_ok-later.later.items) (c.in_ok-later.ensures.stands honest1 h.bytes kept1) in
    record {
      count = size c.chunks_hold_columns.ensures c.rows_of_parts_fit.ensures keys fs gr h.bytes rows are h.is h.means;
      select = may_select c.chunks_hold_columns.ensures c.rows_of_parts_fit.ensures keys fs gr h.bytes rows are h.is h.means tests places us (λ _. us) (texts_view c.in_ok-first.first.items) (texts_view c.in_ok-later.later.items) read_first read_later;
    }

pub returns-clause-absent : goal.returns-clause-absent
returns-clause-absent g c honest over are lacks =
    let s0 = g.D.Disk.state c.args.vault.now.disk in
    let s1 = g.D.Disk.state c.read_chunks.new.vault.disk in
    let keys = key_columns_view c.args.keys.now in
    let fs = c.args.schema.now in
    let gr = group_view c.args.group.now in
    let places = c.args.places.now in
    let tests = tests_in c.args.filter.now in
    let run = c.in_ok-first.ensures.effect in
    let gone : IsNoFile s0 c.as_str.result.now = subst (IsNoFile s0) (sym (c.as_str.ensures.value ∙ c.in_ok-path.ensures.stands)) lacks.absent in
    let gone1 : IsNoFile s1 c.as_str-2.result.now =
    absent_still s0 s1 (run.unchanged honest) c.as_str-2.result.now (subst (IsNoFile s0) (sym (c.as_str-2.ensures.value ∙ c.in_ok-path.ensures.stands)) lacks.absent) in
    let us1 = c.as_slice.result.now in
    let us1_are : us1 ≡ uses_of tests (places_of keys) gr.width places 0 (leaves_of fs) = c.as_slice.ensures.value ∙ c.in_ok-uses.ensures.stands in
    let us5 = c.as_slice-5.result.now in
    let us5_same : us5 ≡ us1 = c.as_slice-5.ensures.value ∙ sym c.as_slice.ensures.value in
    let m = count_due true us1 in
    let n = count_due false us5 in
    let all = chunks_read tests keys fs gr places in
    let total : m + n ≡ all = chunk_total tests keys fs gr places us1 us5 us1_are us5_same in
    let first : m ≡ 0 = c.in_ok-first.ensures.absent honest gone in
    let later : n ≡ 0 = c.in_ok-later.ensures.absent (run.honest.0 honest) gone1 in
    omega (arith, total, first, later)

pub returns-clause-effect : goal.returns-clause-effect
returns-clause-effect g c =
    let s0 = g.D.Disk.state c.args.vault.now.disk in
    let s1 = g.D.Disk.state c.read_chunks.new.vault.disk in
    let s2 = g.D.Disk.state c.read_chunks-2.new.vault.disk in
    let keys = key_columns_view c.args.keys.now in
    let fs = c.args.schema.now in
    let gr = group_view c.args.group.now in
    let places = c.args.places.now in
    let tests = tests_in c.args.filter.now in
    let us1 = c.as_slice.result.now in
    let us1_are : us1 ≡ uses_of tests (places_of keys) gr.width places 0 (leaves_of fs) = c.as_slice.ensures.value ∙ c.in_ok-uses.ensures.stands in
    let us5 = c.as_slice-5.result.now in
    let us5_same : us5 ≡ us1 = c.as_slice-5.ensures.value ∙ sym c.as_slice.ensures.value in
    let m = count_due true us1 in
    let n = count_due false us5 in
    let all = chunks_read tests keys fs gr places in
    let total : m + n ≡ all = chunk_total tests keys fs gr places us1 us5 us1_are us5_same in
    after_both m n all total s0 s1 s2 _ c.in_ok-first.first c.in_ok-later.later c.in_ok-first.ensures.effect c.in_ok-later.ensures.effect tt
