use Rattle.std.proofs.Common.{◌∙◌, ap, sym, subst}
use Rattle.std.specs.Prelude.{Option}
use Rattle.schema.specs.Views.{rows_view}
use Rattle.scan.specs.declared.group_rows.GroupRows.{GroupRows}
use Rattle.schema.specs.Keys.{key_columns_view}
use Rattle.filter.specs.Test.{tests_in}
use Rattle.manifest.specs.Groups.{group_view}
use Rattle.scan.specs.Absent.{MayLack, MayLackRows}
use Rattle.scan.specs.Left.{AreReadFor, AreAccepted}
use Rattle.scan.specs.Faults.{IsPartRefusal, IsDevice}
use Rattle.scan.proofs.Passages.{only_on, ok_weaker, which_map, counts_passed, counts_then}
use Rattle.scan.proofs.Reading.{memory_only, some_rows}
use Rattle.scan.proofs.rows.rows_of.Goals as goal

pub returns-in_err-read-clause-only : goal.returns-in_err-read-clause-only
returns-in_err-read-clause-only g c honest are rows h = only_on IsDevice c.from_residual.result c.in_err-read.field-0.0 c.from_residual.ensures.1 (c.in_err-read.ensures.only honest are rows h)

pub returns-in_err-read-clause-which : goal.returns-in_err-read-clause-which
returns-in_err-read-clause-which g c =
    only_on (IsPartRefusal (g.D.Disk.state c.args.vault.now.disk) (g.D.Disk.state c.read.new.vault.disk)) c.from_residual.result c.in_err-read.field-0.0 c.from_residual.ensures.1 c.in_err-read.ensures.which

pub returns-in_err-read-clause-counts : goal.returns-in_err-read-clause-counts
returns-in_err-read-clause-counts g c =
    counts_passed {S = Option GroupRows} c.from_residual.result c.in_err-read.field-0.0 (g.D.Disk.state c.args.vault.now.disk) (g.D.Disk.state c.read.new.vault.disk) c.from_residual.ensures.1 c.in_err-read.ensures.counts

pub returns-in-None-clause-stands : goal.returns-in-None-clause-stands
returns-in-None-clause-stands g c honest over are rows h p decides =
    ap rows_view c.new.ensures.items ∙ subst (AreReadFor (tests_in c.args.filter.now) c.args.places.now rows) c.in-None.is (c.in_ok-read.ensures.stands honest over are rows h) p decides

pub returns-in-None-clause-absent : goal.returns-in-None-clause-absent
returns-in-None-clause-absent g c honest over are lacks =
    let tests = tests_in c.args.filter.now in
    let keys = key_columns_view c.args.keys.now in
    let group = group_view c.args.group.now in
    subst (MayLackRows tests keys c.args.schema.now group c.args.places.now) (sym (ap rows_view c.new.ensures.items))
    (subst (MayLack tests keys c.args.schema.now group c.args.places.now) c.in-None.is (c.in_ok-read.ensures.absent honest over are lacks))

pub returns-in-None-clause-counts : goal.returns-in-None-clause-counts
returns-in-None-clause-counts g c = counts_then c.in_ok-read.field-0 _ (g.D.Disk.state c.args.vault.now.disk) (g.D.Disk.state c.read.new.vault.disk) c.in_ok-read.ensures.counts

pub returns-in-Some-clause-stands : goal.returns-in-Some-clause-stands
returns-in-Some-clause-stands g c honest over are rows h =
    let read = subst (AreReadFor (tests_in c.args.filter.now) c.args.places.now rows) c.in-Some.is (c.in_ok-read.ensures.stands honest over are rows h) in
    ok_weaker c.collected.result (λ out is p decides. sym (is read.0 read.2) ∙ read.1 p decides) c.collected.ensures.rows_are

pub returns-in-Some-clause-absent : goal.returns-in-Some-clause-absent
returns-in-Some-clause-absent g c honest over are lacks =
    let tests = tests_in c.args.filter.now in
    let keys = key_columns_view c.args.keys.now in
    let group = group_view c.args.group.now in
    let held = subst AreAccepted c.in-Some.is c.in_ok-read.ensures.accepted in
    let unread = subst (MayLack tests keys c.args.schema.now group c.args.places.now) c.in-Some.is (c.in_ok-read.ensures.absent honest over are lacks) in
    ok_weaker c.collected.result (λ out is. some_rows tests keys c.args.schema.now group c.args.places.now (rows_view out.items) (λ none. held.2 (is held.0 held.1 ∙ none)) unread) c.collected.ensures.rows_are

pub returns-in-Some-clause-only : goal.returns-in-Some-clause-only
returns-in-Some-clause-only g c honest are rows h =
    let held = subst AreAccepted c.in-Some.is c.in_ok-read.ensures.accepted in
    memory_only c.collected.result (c.collected.ensures.only held.0 held.1)

pub returns-in-Some-clause-which : goal.returns-in-Some-clause-which
returns-in-Some-clause-which g c =
    let held = subst AreAccepted c.in-Some.is c.in_ok-read.ensures.accepted in
    which_map (λ _. ⊥) (IsPartRefusal (g.D.Disk.state c.args.vault.now.disk) (g.D.Disk.state c.read.new.vault.disk)) (λ e none. absurd none) c.collected.result (c.collected.ensures.only held.0 held.1)

pub returns-in-Some-clause-counts : goal.returns-in-Some-clause-counts
returns-in-Some-clause-counts g c = counts_then c.in_ok-read.field-0 c.collected.result (g.D.Disk.state c.args.vault.now.disk) (g.D.Disk.state c.read.new.vault.disk) c.in_ok-read.ensures.counts
