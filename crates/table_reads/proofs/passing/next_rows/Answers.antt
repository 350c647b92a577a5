use Rattle.std.proofs.Common.{◌≡◌, ◌<◌, ◌≤◌, ◌+◌, ℕ, true, false, List, [], length, Result, refl, sym, ◌∙◌, subst, arith}
use Rattle.bits.specs.declared.refusal.Refusal.{Refusal}
use Rattle.bits.specs.Refusals.{RefusedOnly}
use Rattle.vault.proofs.Chained.{refused}
use Rattle.manifest.specs.Groups.{Group as FileGroup, root_of}
use Rattle.scan.specs.Faults.{IsDevice}
use Rattle.snapshots.specs.Views.{state_of}
use Rattle.table_reads.specs.declared.passing.Reached.{Reached}
use Rattle.table_reads.specs.Passing.{Goes, GoesTo}
use Rattle.table_reads.specs.Reading.{OnlyReads}
use Rattle.table_reads.proofs.AbsentFiles.{passed_none, passes_one, comes_to_rows, comes_to_end, not_some}
use Rattle.table_reads.proofs.ReadsOfPassedGroups.{reading_ends, reading_done}
use Rattle.table_reads.proofs.CursorsGoOn.{going_here, can, file, group, is_there, held, went_or_not, goes_past, held_one, unheld_here, read_on, passes_over, comes_to, none_left, none_reached, some_reached}
use Rattle.table_reads.proofs.passing.next_rows.Goals as goal

pub loop-place-init : goal.loop-place-init
loop-place-init g c = record { at = refl; going = going_here (g.D.Disk.state c.args.vault.now.disk) (state_of c.args.snapshots.now) c.args.cursor.now; absent = passed_none (g.D.Disk.state c.args.vault.now.disk) (state_of c.args.snapshots.now) c.args.cursor.now }

pub returns-in_err-rows-clause-only : goal.returns-in_err-rows-clause-only
returns-in_err-rows-clause-only g c honest keys count d z =
    let old = g.D.Disk.state c.args.vault.now.disk in
    let mid = g.D.Disk.state c.loop-place.vault.disk in
    let new = g.D.Disk.state c.rows_at.new.vault.disk in
    let versions = state_of c.args.snapshots.now in
    let cursor = c.args.cursor.now in
    let p = c.loop-place.place in
    let so_far = c.loop-place.invariant.going in
    let low : p < length (root_of cursor.table).groups = subst (λ (gs : List FileGroup). p < length gs) c.groups.ensures.are (omega (arith, c.loop-place-test.true, c.len-count.ensures)) in
    refused (λ (r : Result Reached Refusal). RefusedOnly IsDevice r) c.from_residual.result c.in_err-rows.field-0.0 c.from_residual.ensures.1
    (c.in_err-rows.ensures.only (so_far.read.honest.0 honest) (can old versions cursor p mid new so_far honest keys count d z low) (file old versions cursor p mid new so_far honest keys count d z low)
    (group old versions cursor p mid new so_far honest keys count d z low).rows (is_there old versions cursor p mid new so_far honest keys count d z low) (held old versions cursor p mid new so_far honest keys count d z low))

pub returns-in_err-rows-clause-goes : goal.returns-in_err-rows-clause-goes
returns-in_err-rows-clause-goes g c version e =
    let old = g.D.Disk.state c.args.vault.now.disk in
    let mid = g.D.Disk.state c.loop-place.vault.disk in
    let new = g.D.Disk.state c.rows_at.new.vault.disk in
    refused (λ (r : Result Reached Refusal). Goes c.args.cursor.now version old new r) c.from_residual.result c.in_err-rows.field-0.0 c.from_residual.ensures.1
    (went_or_not old (state_of c.args.snapshots.now) c.args.cursor.now c.loop-place.place mid new c.loop-place.invariant.going c.in_err-rows.ensures.reads (λ n. (c.in_err-rows.ensures.missing n).1) version e)

pub returns-in_err-rows-clause-unheld : goal.returns-in_err-rows-clause-unheld
returns-in_err-rows-clause-unheld g c =
    unheld_here (g.D.Disk.state c.args.vault.now.disk) (state_of c.args.snapshots.now) c.args.cursor.now c.loop-place.place (g.D.Disk.state c.loop-place.vault.disk) (g.D.Disk.state c.rows_at.new.vault.disk)
    c.loop-place.invariant.going (λ n. (c.in_err-rows.ensures.missing n).1)

pub returns-in_err-rows-clause-effect : goal.returns-in_err-rows-clause-effect
returns-in_err-rows-clause-effect g c =
    let old = g.D.Disk.state c.args.vault.now.disk in
    let mid = g.D.Disk.state c.loop-place.vault.disk in
    let new = g.D.Disk.state c.rows_at.new.vault.disk in
    refused (λ (r : Result Reached Refusal). OnlyReads old new r) c.from_residual.result c.in_err-rows.field-0.0 c.from_residual.ensures.1
    (reading_ends old mid new c.in_err-rows.field-0.0 c.loop-place.invariant.going.read c.in_err-rows.ensures.effect)

pub returns-then-is_some-clause-stands : goal.returns-then-is_some-clause-stands
returns-then-is_some-clause-stands g c honest keys count d z rows reached =
    let p = c.loop-place.place in
    let cursor = c.args.cursor.now in
    let low : p < length (root_of cursor.table).groups = subst (λ (gs : List FileGroup). p < length gs) c.groups.ensures.are (omega (arith, c.loop-place-test.true, c.len-count.ensures)) in
    comes_to (g.D.Disk.state c.args.vault.now.disk) (state_of c.args.snapshots.now) cursor p (g.D.Disk.state c.loop-place.vault.disk) (g.D.Disk.state c.rows_at.new.vault.disk) c.loop-place.invariant.going
    (p + 1) (omega arith) c.in_ok-rows.rows rows c.in_ok-rows.ensures.reads (λ n. let f : false ≡ true = (c.in_ok-rows.ensures.missing n).0 in cc) c.in_ok-rows.ensures.effect (λ h o k f rs t hs. c.in_ok-rows.ensures.stands h o k f rs t hs rows reached) low
    (some_reached c.in_ok-rows.rows rows (sym c.is_some.ensures ∙ c.if-is_some.true) reached) honest keys count d z

pub returns-then-is_some-clause-absent : goal.returns-then-is_some-clause-absent
returns-then-is_some-clause-absent g c honest opened =
    let p = c.loop-place.place in
    comes_to_rows (g.D.Disk.state c.args.vault.now.disk) (state_of c.args.snapshots.now) c.args.cursor.now p (g.D.Disk.state c.loop-place.vault.disk) c.loop-place.invariant.going.read c.loop-place.invariant.absent (p + 1) (omega arith) c.in_ok-rows.rows
    (λ fine can f there lacks. c.in_ok-rows.ensures.absent fine can f there lacks) (sym c.is_some.ensures ∙ c.if-is_some.true) honest opened

pub returns-then-is_some-clause-goes : goal.returns-then-is_some-clause-goes
returns-then-is_some-clause-goes g c version e =
    let p = c.loop-place.place in
    let cursor = c.args.cursor.now in
    let low : p < length (root_of cursor.table).groups = subst (λ (gs : List FileGroup). p < length gs) c.groups.ensures.are (omega (arith, c.loop-place-test.true, c.len-count.ensures)) in
    goes_past (g.D.Disk.state c.args.vault.now.disk) (state_of c.args.snapshots.now) cursor p (g.D.Disk.state c.loop-place.vault.disk) (g.D.Disk.state c.rows_at.new.vault.disk) c.loop-place.invariant.going
    (p + 1) (omega arith) c.in_ok-rows.rows c.in_ok-rows.ensures.accepted.0 c.in_ok-rows.ensures.reads (λ n. let f : false ≡ true = (c.in_ok-rows.ensures.missing n).0 in cc) c.in_ok-rows.ensures.effect (λ h o k f rs t hs. c.in_ok-rows.ensures.stands h o k f rs t hs c.in_ok-rows.ensures.accepted.0 c.in_ok-rows.ensures.accepted.1) low version e

pub returns-then-is_some-clause-unheld : goal.returns-then-is_some-clause-unheld
returns-then-is_some-clause-unheld g c =
    let p = c.loop-place.place in
    let cursor = c.args.cursor.now in
    let low : p < length (root_of cursor.table).groups = subst (λ (gs : List FileGroup). p < length gs) c.groups.ensures.are (omega (arith, c.loop-place-test.true, c.len-count.ensures)) in
    held_one (g.D.Disk.state c.args.vault.now.disk) (state_of c.args.snapshots.now) cursor p (g.D.Disk.state c.loop-place.vault.disk) (g.D.Disk.state c.rows_at.new.vault.disk) c.loop-place.invariant.going
    (p + 1) (omega arith) c.in_ok-rows.rows c.in_ok-rows.ensures.accepted.0 c.in_ok-rows.ensures.reads (λ n. let f : false ≡ true = (c.in_ok-rows.ensures.missing n).0 in cc) c.in_ok-rows.ensures.effect (λ h o k f rs t hs. c.in_ok-rows.ensures.stands h o k f rs t hs c.in_ok-rows.ensures.accepted.0 c.in_ok-rows.ensures.accepted.1) low

pub returns-then-is_some-clause-effect : goal.returns-then-is_some-clause-effect
returns-then-is_some-clause-effect g c =
    let p = c.loop-place.place in
    let cursor = c.args.cursor.now in
    let low : p < length (root_of cursor.table).groups = subst (λ (gs : List FileGroup). p < length gs) c.groups.ensures.are (omega (arith, c.loop-place-test.true, c.len-count.ensures)) in
    reading_done (g.D.Disk.state c.args.vault.now.disk) (g.D.Disk.state c.rows_at.new.vault.disk) _ (
    read_on (g.D.Disk.state c.args.vault.now.disk) (state_of c.args.snapshots.now) cursor p (g.D.Disk.state c.loop-place.vault.disk) (g.D.Disk.state c.rows_at.new.vault.disk) c.loop-place.invariant.going
    (p + 1) (omega arith) c.in_ok-rows.rows c.in_ok-rows.ensures.accepted.0 c.in_ok-rows.ensures.reads (λ n. let f : false ≡ true = (c.in_ok-rows.ensures.missing n).0 in cc) c.in_ok-rows.ensures.effect (λ h o k f rs t hs. c.in_ok-rows.ensures.stands h o k f rs t hs c.in_ok-rows.ensures.accepted.0 c.in_ok-rows.ensures.accepted.1) low)

pub loop-place-preserved : goal.loop-place-preserved
loop-place-preserved g c =
    let p = c.loop-place.place in
    let cursor = c.args.cursor.now in
    let low : p < length (root_of cursor.table).groups = subst (λ (gs : List FileGroup). p < length gs) c.groups.ensures.are (omega (arith, c.loop-place-test.true, c.len-count.ensures)) in
    record {
      at = refl;
      going = passes_over (g.D.Disk.state c.args.vault.now.disk) (state_of c.args.snapshots.now) cursor p (g.D.Disk.state c.loop-place.vault.disk) (g.D.Disk.state c.rows_at.new.vault.disk) c.loop-place.invariant.going
          (p + 1) (omega arith) c.in_ok-rows.rows c.in_ok-rows.ensures.accepted.0 c.in_ok-rows.ensures.reads (λ n. let f : false ≡ true = (c.in_ok-rows.ensures.missing n).0 in cc) c.in_ok-rows.ensures.effect (λ h o k f rs t hs. c.in_ok-rows.ensures.stands h o k f rs t hs c.in_ok-rows.ensures.accepted.0 c.in_ok-rows.ensures.accepted.1) low
          (none_reached c.in_ok-rows.rows c.in_ok-rows.ensures.accepted.0 (sym c.is_some.ensures ∙ c.if-is_some.false) c.in_ok-rows.ensures.accepted.1);
      absent = passes_one (g.D.Disk.state c.args.vault.now.disk) (state_of c.args.snapshots.now) cursor p (g.D.Disk.state c.loop-place.vault.disk) c.loop-place.invariant.going.read c.loop-place.invariant.absent (p + 1) (omega arith) c.in_ok-rows.rows
          (λ fine can f there lacks. c.in_ok-rows.ensures.absent fine can f there lacks) (not_some c.in_ok-rows.rows (sym c.is_some.ensures ∙ c.if-is_some.false));
    }

pub returns-clause-stands : goal.returns-clause-stands
returns-clause-stands g c honest keys count d z rows none =
    let p = c.loop-place.place in
    let le : length (root_of c.args.cursor.now.table).groups ≤ p = subst (λ (gs : List FileGroup). length gs ≤ p) c.groups.ensures.are (omega (arith, c.loop-place-test.false, c.len-count.ensures)) in
    none_left (g.D.Disk.state c.args.vault.now.disk) (state_of c.args.snapshots.now) c.args.cursor.now p (g.D.Disk.state c.loop-place.vault.disk) c.loop-place.invariant.going honest keys count d z le c.loop-place.passed rows none c.loop-place.invariant.at

pub returns-clause-absent : goal.returns-clause-absent
returns-clause-absent g c honest opened =
    let p = c.loop-place.place in
    let le : length (root_of c.args.cursor.now.table).groups ≤ p = subst (λ (gs : List FileGroup). length gs ≤ p) c.groups.ensures.are (omega (arith, c.loop-place-test.false, c.len-count.ensures)) in
    comes_to_end (g.D.Disk.state c.args.vault.now.disk) (state_of c.args.snapshots.now) c.args.cursor.now p c.loop-place.invariant.absent le c.loop-place.passed honest opened

pub returns-clause-goes : goal.returns-clause-goes
returns-clause-goes g c version e = subst (λ (n : ℕ). GoesTo c.args.cursor.now version n (g.D.Disk.state c.args.vault.now.disk) (g.D.Disk.state c.loop-place.vault.disk)) (sym c.loop-place.invariant.at) (c.loop-place.invariant.going.goes version e)

pub returns-clause-unheld : goal.returns-clause-unheld
returns-clause-unheld g c = c.loop-place.invariant.going.unheld

pub returns-clause-effect : goal.returns-clause-effect
returns-clause-effect g c = reading_done (g.D.Disk.state c.args.vault.now.disk) (g.D.Disk.state c.loop-place.vault.disk) _ c.loop-place.invariant.going.read

pub returns-then-is_some-clause-accepted : goal.returns-then-is_some-clause-accepted
returns-then-is_some-clause-accepted g c = c.in_ok-rows.ensures.accepted

pub returns-clause-accepted : goal.returns-clause-accepted
returns-clause-accepted g c = ([], refl)
