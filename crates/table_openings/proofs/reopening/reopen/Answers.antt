use Rattle.std.proofs.Common.{◌≡◌, true, not, refl, inl}
use Rattle.std.proofs.lemmas.Bool.{not-true as was_clean}
use Rattle.table_openings.proofs.AfterReopenings.{anew, tidy_anew, refused_so}
use Rattle.table_openings.proofs.AfterOpenings.{anew_left, anew_cleans, anew_shut}
use Rattle.table_openings.proofs.reopening.reopen.Goals as goal

pub returns-in-Ok-clause-acts : goal.returns-in-Ok-clause-acts
returns-in-Ok-clause-acts g c honest s stands =
    let sound = stands.shows.sound.sound in
    let now = (c.in-Ok.ensures.honest).0 honest in
    anew g.D.Disk.state c.args.store.now s stands c.read_again.new.vault (c.in-Ok.ensures.moments honest sound) (c.in-Ok.ensures.sound honest sound) (c.in-Ok.ensures.clear honest) (λ keeps. c.in-Ok.ensures.kept keeps honest)
    c.in-Ok.manifest (not c.in-Ok.has_fault) (λ clean. c.in-Ok.ensures.clean honest (was_clean c.in-Ok.has_fault clean)) (c.in-Ok.ensures.describes honest sound) ((g.met.D.Disk.lawful c.read_again.new.vault.disk).seen_may_stay now) c.tables_are_one.ensures c.rows_of_parts_fit.ensures
    c.start_anew.result c.start_anew.new.self c.start_anew.ensures.started c.start_anew.ensures.vault c.start_anew.ensures.manifest c.start_anew.ensures.clean c.start_anew.ensures.keeps c.start_anew.ensures.unchanged c.start_anew.ensures.which

pub returns-in-Ok-clause-tidy : goal.returns-in-Ok-clause-tidy
returns-in-Ok-clause-tidy g c honest s stands =
    let sound = stands.shows.sound.sound in
    let now = (c.in-Ok.ensures.honest).0 honest in
    let clean = λ (e : not c.in-Ok.has_fault ≡ true). c.in-Ok.ensures.clean honest (was_clean c.in-Ok.has_fault e) in
    tidy_anew g.D.Disk.state c.args.store.now s stands c.read_again.new.vault (c.in-Ok.ensures.moments honest sound) (c.in-Ok.ensures.sound honest sound) (c.in-Ok.ensures.clear honest) (λ keeps. c.in-Ok.ensures.kept keeps honest)
    c.in-Ok.manifest (not c.in-Ok.has_fault) clean c.start_anew.result c.start_anew.new.self c.start_anew.ensures.started c.start_anew.ensures.vault c.start_anew.ensures.manifest c.start_anew.ensures.clean
    (anew g.D.Disk.state c.args.store.now s stands c.read_again.new.vault (c.in-Ok.ensures.moments honest sound) (c.in-Ok.ensures.sound honest sound) (c.in-Ok.ensures.clear honest) (λ keeps. c.in-Ok.ensures.kept keeps honest)
    c.in-Ok.manifest (not c.in-Ok.has_fault) clean (c.in-Ok.ensures.describes honest sound) ((g.met.D.Disk.lawful c.read_again.new.vault.disk).seen_may_stay now) c.tables_are_one.ensures c.rows_of_parts_fit.ensures
    c.start_anew.result c.start_anew.new.self c.start_anew.ensures.started c.start_anew.ensures.vault c.start_anew.ensures.manifest c.start_anew.ensures.clean c.start_anew.ensures.keeps c.start_anew.ensures.unchanged c.start_anew.ensures.which)

pub returns-in-Err-clause-acts : goal.returns-in-Err-clause-acts
returns-in-Err-clause-acts g c honest s stands =
    let sound = stands.shows.sound.sound in
    refused_so g.D.Disk.state c.args.store.now s stands c.read_again.new.vault (c.in-Err.ensures.moments honest sound) (c.in-Err.ensures.sound honest sound) (c.in-Err.ensures.clear honest) (λ keeps. c.in-Err.ensures.kept keeps honest)
    c.in-Err.e (c.in-Err.ensures.only honest sound)

pub returns-in-Ok-clause-closed : goal.returns-in-Ok-clause-closed
returns-in-Ok-clause-closed g c = anew_shut (record c.args.store.now { vault = c.read_again.new.vault; closed = true }) c.start_anew.new.self c.start_anew.result c.start_anew.ensures.unchanged refl

pub returns-in-Ok-clause-unchanged : goal.returns-in-Ok-clause-unchanged
returns-in-Ok-clause-unchanged g c honest =
    anew_left g.D.Disk.state (g.D.Disk.state c.args.store.now.vault.disk) c.read_again.new.vault c.in-Ok.manifest (c.in-Ok.ensures.reads_root honest) (c.in-Ok.ensures.removes honest) c.start_anew.new.self c.start_anew.ensures.vault
    c.start_anew.result c.start_anew.ensures.which

pub returns-in-Ok-clause-removes : goal.returns-in-Ok-clause-removes
returns-in-Ok-clause-removes g c honest =
    anew_cleans g.D.Disk.state (g.D.Disk.state c.args.store.now.vault.disk) c.read_again.new.vault c.in-Ok.manifest (c.in-Ok.ensures.reads_root honest) (c.in-Ok.ensures.removes honest) c.start_anew.new.self c.start_anew.ensures.vault
    c.start_anew.result c.start_anew.ensures.manifest

pub returns-in-Err-clause-unchanged : goal.returns-in-Err-clause-unchanged
returns-in-Err-clause-unchanged g c honest = inl (c.in-Err.ensures.unchanged honest)
