use Rattle.std.proofs.Common.{refl, sym, subst, inl}
use Rattle.bits.specs.declared.refusal.Refusal.TheVariants.{Limit}
use Rattle.table_openings.specs.Opening.{HasRoomForAll, LeavesTables}
use Rattle.table_commits.proofs.NeededFiles.{clean_is_tidy}
use Rattle.table_openings.proofs.AfterOpenings.{leaves_tables, room_for_all, moments_at, clear_at, found_so, cleans_at, is_clean, nothing_left, nothing_changed, cleaned_poor}
use Rattle.table_openings.proofs.opening.open.Goals as goal

pub returns-then-is_out_of_range-clause-moments : goal.returns-then-is_out_of_range-clause-moments
returns-then-is_out_of_range-clause-moments g c honest sound room = nothing_left (g.D.Disk.state c.args.disk) sound room

pub returns-in-Ok-first_versions-clause-found : goal.returns-in-Ok-first_versions-clause-found
returns-in-Ok-first_versions-clause-found g c honest sound room =
    let opened = c.in-Ok.ensures in
    let disk = c.started.result.vault.disk in
    let now = subst (λ v. (g.D.Disk.state v.disk).honest) (sym c.started.ensures.vault) (opened.honest.0 honest) in
    found_so g.D.Disk.state (g.D.Disk.state c.args.disk) c.started.result c.in-Ok.vault c.in-Ok.manifest c.started.ensures.vault c.started.ensures.manifest
    (opened.moments honest sound) sound room (opened.clear honest) c.tables_are_one.ensures c.args.options (c.started.ensures.started c.in-Ok-first_versions.ensures.are)
    c.paths_are_apart.ensures.apart c.a_root_means_one_table.ensures c.rows_of_parts_fit.ensures (c.is_out_of_range.ensures.within c.if-is_out_of_range.false)
    (opened.sound honest sound) (opened.describes honest sound) ((g.met.D.Disk.lawful disk).seen_may_stay now)
    (is_clean g.D.Disk.state c.started.result c.in-Ok.vault c.in-Ok.manifest c.in-Ok.has_fault c.started.ensures.vault c.started.ensures.manifest c.started.ensures.clean (opened.clean honest))

pub returns-in-Ok-first_versions-clause-tidy : goal.returns-in-Ok-first_versions-clause-tidy
returns-in-Ok-first_versions-clause-tidy g c honest sound room clean =
    let opened = c.in-Ok.ensures in
    let disk = c.started.result.vault.disk in
    let now = subst (λ v. (g.D.Disk.state v.disk).honest) (sym c.started.ensures.vault) (opened.honest.0 honest) in
    let cleaned = is_clean g.D.Disk.state c.started.result c.in-Ok.vault c.in-Ok.manifest c.in-Ok.has_fault c.started.ensures.vault c.started.ensures.manifest c.started.ensures.clean (opened.clean honest) in
    let is = found_so g.D.Disk.state (g.D.Disk.state c.args.disk) c.started.result c.in-Ok.vault c.in-Ok.manifest c.started.ensures.vault c.started.ensures.manifest
    (opened.moments honest sound) sound room (opened.clear honest) c.tables_are_one.ensures c.args.options (c.started.ensures.started c.in-Ok-first_versions.ensures.are)
    c.paths_are_apart.ensures.apart c.a_root_means_one_table.ensures c.rows_of_parts_fit.ensures (c.is_out_of_range.ensures.within c.if-is_out_of_range.false)
    (opened.sound honest sound) (opened.describes honest sound) ((g.met.D.Disk.lawful disk).seen_may_stay now) cleaned in
    clean_is_tidy g.D.Disk.state c.started.result _ is.stands.shows refl (cleaned clean)

pub returns-in-Ok-first_versions-clause-moments : goal.returns-in-Ok-first_versions-clause-moments
returns-in-Ok-first_versions-clause-moments g c honest sound room =
    let s0 = g.D.Disk.state c.args.disk in
    let opened = c.in-Ok.ensures in
    leaves_tables s0 (g.D.Disk.state c.started.result.vault.disk)
    (moments_at g.D.Disk.state s0 c.started.result c.in-Ok.vault c.in-Ok.manifest c.started.ensures.vault c.started.ensures.manifest (opened.moments honest sound) sound room (opened.clear honest)) sound
    (clear_at g.D.Disk.state s0 c.started.result c.in-Ok.vault c.in-Ok.manifest c.started.ensures.vault c.started.ensures.manifest (opened.moments honest sound) sound room (opened.clear honest)) room

pub returns-in-Ok-first_versions-clause-room : goal.returns-in-Ok-first_versions-clause-room
returns-in-Ok-first_versions-clause-room g c honest sound room =
    let s0 = g.D.Disk.state c.args.disk in
    let opened = c.in-Ok.ensures in
    room_for_all s0 (g.D.Disk.state c.started.result.vault.disk)
    (moments_at g.D.Disk.state s0 c.started.result c.in-Ok.vault c.in-Ok.manifest c.started.ensures.vault c.started.ensures.manifest (opened.moments honest sound) sound room (opened.clear honest)) sound
    (clear_at g.D.Disk.state s0 c.started.result c.in-Ok.vault c.in-Ok.manifest c.started.ensures.vault c.started.ensures.manifest (opened.moments honest sound) sound room (opened.clear honest)) room c.tables_are_one.ensures

pub returns-in-Ok-first_versions-clause-clean : goal.returns-in-Ok-first_versions-clause-clean
returns-in-Ok-first_versions-clause-clean g c honest =
    is_clean g.D.Disk.state c.started.result c.in-Ok.vault c.in-Ok.manifest c.in-Ok.has_fault c.started.ensures.vault c.started.ensures.manifest c.started.ensures.clean (c.in-Ok.ensures.clean honest)

pub returns-in-Err-first_versions-clause-moments : goal.returns-in-Err-first_versions-clause-moments
returns-in-Err-first_versions-clause-moments g c honest sound room =
    let s0 = g.D.Disk.state c.args.disk in
    subst (λ d. LeavesTables s0 (g.D.Disk.state d)) (sym c.into_disk.ensures) (leaves_tables s0 (g.D.Disk.state c.in-Ok.vault.disk) (c.in-Ok.ensures.moments honest sound) sound (c.in-Ok.ensures.clear honest) room)

pub returns-in-Err-first_versions-clause-room : goal.returns-in-Err-first_versions-clause-room
returns-in-Err-first_versions-clause-room g c honest sound room =
    let s0 = g.D.Disk.state c.args.disk in
    subst (λ d. HasRoomForAll (g.D.Disk.state d)) (sym c.into_disk.ensures)
    (room_for_all s0 (g.D.Disk.state c.in-Ok.vault.disk) (c.in-Ok.ensures.moments honest sound) sound (c.in-Ok.ensures.clear honest) room c.tables_are_one.ensures)

pub returns-in-Err-clause-moments : goal.returns-in-Err-clause-moments
returns-in-Err-clause-moments g c honest sound room = leaves_tables (g.D.Disk.state c.args.disk) (g.D.Disk.state c.in-Err.e.0) (c.in-Err.ensures.moments honest sound) sound (c.in-Err.ensures.unchanged honest).clear room

pub returns-in-Err-clause-room : goal.returns-in-Err-clause-room
returns-in-Err-clause-room g c honest sound room =
    room_for_all (g.D.Disk.state c.args.disk) (g.D.Disk.state c.in-Err.e.0) (c.in-Err.ensures.moments honest sound) sound (c.in-Err.ensures.unchanged honest).clear room c.tables_are_one.ensures

pub returns-in-Ok-first_versions-clause-removes : goal.returns-in-Ok-first_versions-clause-removes
returns-in-Ok-first_versions-clause-removes g c honest =
    cleans_at g.D.Disk.state (g.D.Disk.state c.args.disk) c.started.result c.in-Ok.vault c.in-Ok.manifest c.started.ensures.vault c.started.ensures.manifest (c.in-Ok.ensures.removes honest)

pub returns-then-is_out_of_range-clause-unchanged : goal.returns-then-is_out_of_range-clause-unchanged
returns-then-is_out_of_range-clause-unchanged g c honest = nothing_changed (g.D.Disk.state c.args.disk) Limit

pub returns-in-Err-first_versions-clause-unchanged : goal.returns-in-Err-first_versions-clause-unchanged
returns-in-Err-first_versions-clause-unchanged g c honest =
    cleaned_poor g.D.Disk.state (g.D.Disk.state c.args.disk) c.in-Ok.vault c.in-Ok.manifest (c.in-Ok.ensures.reads_root honest) (c.in-Ok.ensures.removes honest) c.into_disk.result c.into_disk.ensures
    c.in-Err-first_versions.e c.in-Err-first_versions.ensures.which

pub returns-in-Err-clause-unchanged : goal.returns-in-Err-clause-unchanged
returns-in-Err-clause-unchanged g c honest = inl (c.in-Err.ensures.unchanged honest)
