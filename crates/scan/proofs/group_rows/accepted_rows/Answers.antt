use Rattle.std.proofs.Common.{◌≡◌, ◌+◌, ℕ, Option, map, ap, sym, subst, ◌∙◌, arith}
use Rattle.std.specs.Prelude.{IfSome}
use Rattle.lists.proofs.Lists.{map_empty as none_mapped}
use Rattle.schema.specs.Keys.{key_columns_view}
use Rattle.filter.specs.Test.{tests_in}
use Rattle.manifest.specs.Groups.{group_view}
use Rattle.scan.specs.declared.group_rows.Marked.{Marked}
use Rattle.scan.specs.Absent.{MayLack}
use Rattle.scan.specs.Cost.{chunks_read}
use Rattle.scan.specs.Faults.{IsOfParts, IsDevice}
use Rattle.scan.specs.Left.{selected_by, turned, others_held}
use Rattle.scan.specs.Selected.{cut_to}
use Rattle.scan.specs.inner.Marked.{HaveSelected, AreMarked, MayRead}
use Rattle.scan.proofs.Chosen.{some_chosen}
use Rattle.scan.proofs.Passages.{only_on}
use Rattle.scan.proofs.Reading.{first_stops, after_first, memory_passed}
use Rattle.scan.proofs.group_rows.accepted_rows.Goals as goal

pub returns-in_err-read_marked-clause-only : goal.returns-in_err-read_marked-clause-only
returns-in_err-read_marked-clause-only g c honest are rows h =
    only_on IsDevice c.from_residual.result c.in_err-read_marked.field-0.0 c.from_residual.ensures.1 (c.in_err-read_marked.ensures.only honest are rows h)

pub returns-in_err-read_marked-clause-effect : goal.returns-in_err-read_marked-clause-effect
returns-in_err-read_marked-clause-effect g c =
    let s0 = g.D.Disk.state c.args.vault.now.disk in
    let s1 = g.D.Disk.state c.read_marked.new.vault.disk in
    let all = chunks_read (tests_in c.args.filter.now) (key_columns_view c.args.keys.now) c.args.schema.now (group_view c.args.group.now) c.args.places.now in
    let total : all + 0 ≡ all = omega arith in
    first_stops all 0 all total s0 s1 s1 c.from_residual.result {X = Option Marked} c.in_err-read_marked.field-0.0 c.from_residual.ensures.1 c.in_err-read_marked.ensures.effect

pub returns-in-None-clause-stands : goal.returns-in-None-clause-stands
returns-in-None-clause-stands g c honest over are rows h = subst (AreMarked (tests_in c.args.filter.now) c.args.places.now rows) c.in-None.is (c.in_ok-read_marked.ensures.stands honest over are rows h)

pub returns-in-None-clause-absent : goal.returns-in-None-clause-absent
returns-in-None-clause-absent g c honest over are lacks =
    subst (MayLack (tests_in c.args.filter.now) (key_columns_view c.args.keys.now) c.args.schema.now (group_view c.args.group.now) c.args.places.now) c.in-None.is (c.in_ok-read_marked.ensures.absent honest over are lacks)

pub returns-in-None-clause-effect : goal.returns-in-None-clause-effect
returns-in-None-clause-effect g c =
    let s0 = g.D.Disk.state c.args.vault.now.disk in
    let s1 = g.D.Disk.state c.read_marked.new.vault.disk in
    let all = chunks_read (tests_in c.args.filter.now) (key_columns_view c.args.keys.now) c.args.schema.now (group_view c.args.group.now) c.args.places.now in
    let total : all + 0 ≡ all = omega arith in
    after_first all 0 all total s0 s1 s1 _ c.in_ok-read_marked.field-0 c.in_ok-read_marked.ensures.effect tt

pub returns-in_err-rows_in-in-Some-clause-only : goal.returns-in_err-rows_in-in-Some-clause-only
returns-in_err-rows_in-in-Some-clause-only g c honest are rows h =
    let may =
    subst (MayRead (tests_in c.args.filter.now) (key_columns_view c.args.keys.now) c.args.schema.now (group_view c.args.group.now) c.args.places.now rows) c.in-Some.is
    (c.in_ok-read_marked.ensures.may honest are rows h) in
    memory_passed IsDevice c.from_residual-in_err-rows_in-in-Some.result c.in_err-rows_in-in-Some.field-0.0 c.from_residual-in_err-rows_in-in-Some.ensures.1 (c.in_err-rows_in-in-Some.ensures.only rows may)

pub returns-in_err-rows_in-in-Some-clause-effect : goal.returns-in_err-rows_in-in-Some-clause-effect
returns-in_err-rows_in-in-Some-clause-effect g c =
    let s0 = g.D.Disk.state c.args.vault.now.disk in
    let s1 = g.D.Disk.state c.read_marked.new.vault.disk in
    let all = chunks_read (tests_in c.args.filter.now) (key_columns_view c.args.keys.now) c.args.schema.now (group_view c.args.group.now) c.args.places.now in
    let total : all + 0 ≡ all = omega arith in
    after_first all 0 all total s0 s1 s1 c.from_residual-in_err-rows_in-in-Some.result c.in_ok-read_marked.field-0 c.in_ok-read_marked.ensures.effect
    (only_on IsOfParts c.from_residual-in_err-rows_in-in-Some.result c.in_err-rows_in-in-Some.field-0.0 c.from_residual-in_err-rows_in-in-Some.ensures.1 c.in_err-rows_in-in-Some.ensures.which)

pub returns-in_ok-rows_in-in-Some-clause-stands : goal.returns-in_ok-rows_in-in-Some-clause-stands
returns-in_ok-rows_in-in-Some-clause-stands g c honest over are rows h =
    let tests = tests_in c.args.filter.now in
    let places = c.args.places.now in
    let marks = c.in-Some.marked.marks.items in
    let may =
    subst (MayRead tests (key_columns_view c.args.keys.now) c.args.schema.now (group_view c.args.group.now) places rows) c.in-Some.is
    (c.in_ok-read_marked.ensures.may honest are rows h) in
    let chosen = subst (AreMarked tests places rows) c.in-Some.is (c.in_ok-read_marked.ensures.stands honest over are rows h) in
    let have = subst (λ (o : Option Marked). IfSome o (λ m. HaveSelected m.marks.items (group_view c.args.group.now).known.rows)) c.in-Some.is c.in_ok-read_marked.ensures.some in (
      map (cut_to places) (selected_by marks rows),
      (λ p decides. ap (map (cut_to places)) (chosen p decides).0),
      c.in_ok-rows_in-in-Some.ensures.stands rows may,
      (λ none. some_chosen marks (group_view c.args.group.now).known.rows have rows may.count (none_mapped (cut_to places) (selected_by marks rows) none)),
    )

pub returns-in_ok-rows_in-in-Some-clause-others : goal.returns-in_ok-rows_in-in-Some-clause-others
returns-in_ok-rows_in-in-Some-clause-others g c honest over are rows h p decides =
    let tests = tests_in c.args.filter.now in
    let places = c.args.places.now in
    let marks = c.in-Some.marked.marks.items in
    let may =
    subst (MayRead tests (key_columns_view c.args.keys.now) c.args.schema.now (group_view c.args.group.now) places rows) c.in-Some.is
    (c.in_ok-read_marked.ensures.may honest are rows h) in
    let chosen = subst (AreMarked tests places rows) c.in-Some.is (c.in_ok-read_marked.ensures.stands honest over are rows h) in
    subst (others_held c.in_ok-rows_in-in-Some.field-0) (ap (map (cut_to places)) (ap (λ (n : ℕ). selected_by (turned n marks) rows) (sym may.count) ∙ (chosen p decides).1))
    (c.in_ok-rows_in-in-Some.ensures.others rows may)

pub returns-in_ok-rows_in-in-Some-clause-absent : goal.returns-in_ok-rows_in-in-Some-clause-absent
returns-in_ok-rows_in-in-Some-clause-absent g c honest over are lacks =
    subst (MayLack (tests_in c.args.filter.now) (key_columns_view c.args.keys.now) c.args.schema.now (group_view c.args.group.now) c.args.places.now) c.in-Some.is (c.in_ok-read_marked.ensures.absent honest over are lacks)

pub returns-in_ok-rows_in-in-Some-clause-effect : goal.returns-in_ok-rows_in-in-Some-clause-effect
returns-in_ok-rows_in-in-Some-clause-effect g c =
    let s0 = g.D.Disk.state c.args.vault.now.disk in
    let s1 = g.D.Disk.state c.read_marked.new.vault.disk in
    let all = chunks_read (tests_in c.args.filter.now) (key_columns_view c.args.keys.now) c.args.schema.now (group_view c.args.group.now) c.args.places.now in
    let total : all + 0 ≡ all = omega arith in
    after_first all 0 all total s0 s1 s1 _ c.in_ok-read_marked.field-0 c.in_ok-read_marked.ensures.effect tt
