use Rattle.std.proofs.Common.{sym, ◌∙◌, subst}
use Rattle.std.proofs.lemmas.Bool.{false≢true}
use Rattle.vault.specs.Calls.{LeavesAll}
use Rattle.table_openings.specs.Opening.{HasRoomForAll, LeavesTables}
use Rattle.table_commits.proofs.DisksLeftAlone.{all_here}
use Rattle.table_openings.proofs.AfterOpenings.{leaves_tables, room_for_all, moments_at, clear_at, found_so, nothing_left}
use Rattle.table_openings.proofs.opening.open_to_read.Goals as goal

pub returns-then-is_out_of_range-clause-moments : goal.returns-then-is_out_of_range-clause-moments
returns-then-is_out_of_range-clause-moments g c honest sound room = nothing_left (g.D.Disk.state c.args.disk) sound room

pub returns-then-is_out_of_range-clause-unchanged : goal.returns-then-is_out_of_range-clause-unchanged
returns-then-is_out_of_range-clause-unchanged g c honest = all_here (g.D.Disk.state c.args.disk)

pub returns-in-Ok-first_versions-clause-found : goal.returns-in-Ok-first_versions-clause-found
returns-in-Ok-first_versions-clause-found g c honest sound room =
    let opened = c.in-Ok.ensures in
    let disk = c.started.result.vault.disk in
    let now = subst (λ v. (g.D.Disk.state v.disk).honest) (sym c.started.ensures.vault) (opened.honest.0 honest) in
    found_so g.D.Disk.state (g.D.Disk.state c.args.disk) c.started.result c.in-Ok.vault c.in-Ok.manifest c.started.ensures.vault c.started.ensures.manifest
    (opened.moments honest sound) sound room (opened.unchanged honest).clear c.tables_are_one.ensures c.args.options (c.started.ensures.started c.in-Ok-first_versions.ensures.are)
    c.paths_are_apart.ensures.apart c.a_root_means_one_table.ensures c.rows_of_parts_fit.ensures (c.is_out_of_range.ensures.within c.if-is_out_of_range.false)
    (opened.sound honest sound) (opened.describes honest sound) ((g.met.D.Disk.lawful disk).seen_may_stay now) (λ clean. absurd (false≢true (sym c.started.ensures.clean ∙ clean)))

pub returns-in-Ok-first_versions-clause-moments : goal.returns-in-Ok-first_versions-clause-moments
returns-in-Ok-first_versions-clause-moments g c honest sound room =
    let s0 = g.D.Disk.state c.args.disk in
    let opened = c.in-Ok.ensures in
    leaves_tables s0 (g.D.Disk.state c.started.result.vault.disk)
    (moments_at g.D.Disk.state s0 c.started.result c.in-Ok.vault c.in-Ok.manifest c.started.ensures.vault c.started.ensures.manifest (opened.moments honest sound) sound room (opened.unchanged honest).clear) sound
    (clear_at g.D.Disk.state s0 c.started.result c.in-Ok.vault c.in-Ok.manifest c.started.ensures.vault c.started.ensures.manifest (opened.moments honest sound) sound room (opened.unchanged honest).clear) room

pub returns-in-Ok-first_versions-clause-room : goal.returns-in-Ok-first_versions-clause-room
returns-in-Ok-first_versions-clause-room g c honest sound room =
    let s0 = g.D.Disk.state c.args.disk in
    let opened = c.in-Ok.ensures in
    room_for_all s0 (g.D.Disk.state c.started.result.vault.disk)
    (moments_at g.D.Disk.state s0 c.started.result c.in-Ok.vault c.in-Ok.manifest c.started.ensures.vault c.started.ensures.manifest (opened.moments honest sound) sound room (opened.unchanged honest).clear) sound
    (clear_at g.D.Disk.state s0 c.started.result c.in-Ok.vault c.in-Ok.manifest c.started.ensures.vault c.started.ensures.manifest (opened.moments honest sound) sound room (opened.unchanged honest).clear) room c.tables_are_one.ensures

pub returns-in-Ok-first_versions-clause-unchanged : goal.returns-in-Ok-first_versions-clause-unchanged
returns-in-Ok-first_versions-clause-unchanged g c honest =
    let s0 = g.D.Disk.state c.args.disk in
    subst (λ v. LeavesAll s0 (g.D.Disk.state v.disk)) (sym c.started.ensures.vault) (c.in-Ok.ensures.unchanged honest)

pub returns-in-Err-first_versions-clause-moments : goal.returns-in-Err-first_versions-clause-moments
returns-in-Err-first_versions-clause-moments g c honest sound room =
    let s0 = g.D.Disk.state c.args.disk in
    subst (λ d. LeavesTables s0 (g.D.Disk.state d)) (sym c.into_disk.ensures) (leaves_tables s0 (g.D.Disk.state c.in-Ok.vault.disk) (c.in-Ok.ensures.moments honest sound) sound (c.in-Ok.ensures.unchanged honest).clear room)

pub returns-in-Err-first_versions-clause-room : goal.returns-in-Err-first_versions-clause-room
returns-in-Err-first_versions-clause-room g c honest sound room =
    let s0 = g.D.Disk.state c.args.disk in
    subst (λ d. HasRoomForAll (g.D.Disk.state d)) (sym c.into_disk.ensures)
    (room_for_all s0 (g.D.Disk.state c.in-Ok.vault.disk) (c.in-Ok.ensures.moments honest sound) sound (c.in-Ok.ensures.unchanged honest).clear room c.tables_are_one.ensures)

pub returns-in-Err-first_versions-clause-unchanged : goal.returns-in-Err-first_versions-clause-unchanged
returns-in-Err-first_versions-clause-unchanged g c honest =
    let s0 = g.D.Disk.state c.args.disk in
    subst (λ d. LeavesAll s0 (g.D.Disk.state d)) (sym c.into_disk.ensures) (c.in-Ok.ensures.unchanged honest)

pub returns-in-Err-clause-moments : goal.returns-in-Err-clause-moments
returns-in-Err-clause-moments g c honest sound room = leaves_tables (g.D.Disk.state c.args.disk) (g.D.Disk.state c.in-Err.refused.0) (c.in-Err.ensures.moments honest sound) sound (c.in-Err.ensures.unchanged honest).clear room

pub returns-in-Err-clause-room : goal.returns-in-Err-clause-room
returns-in-Err-clause-room g c honest sound room =
    room_for_all (g.D.Disk.state c.args.disk) (g.D.Disk.state c.in-Err.refused.0) (c.in-Err.ensures.moments honest sound) sound (c.in-Err.ensures.unchanged honest).clear room c.tables_are_one.ensures
