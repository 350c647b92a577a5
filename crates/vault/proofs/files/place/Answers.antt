use Rattle.vault.specs.inner.Files.{Placed}
use Rattle.vault.proofs.Answering.{exit}
use Rattle.vault.proofs.Writing.{clear_refused, still_open, make_refused, still_gone, write_refused, placed_file}
use Rattle.vault.proofs.files.place.Goals as goal

pub returns-in_err-clear-clause-effect : goal.returns-in_err-clear-clause-effect
returns-in_err-clear-clause-effect g c honest way =
    let path = c.args.path.now in
    let bytes = c.args.bytes.now in
    let s0 = g.D.Disk.state c.args.disk.now in
    let s1 = g.D.Disk.state c.clear.new.disk in
    exit (Placed path bytes s0 s1) c.from_residual.result _ c.from_residual.ensures.1
    (clear_refused path bytes s0 s1 _ (c.in_err-clear.ensures.effect honest))

pub returns-in_err-make_folders-clause-effect : goal.returns-in_err-make_folders-clause-effect
returns-in_err-make_folders-clause-effect g c honest way =
    let path = c.args.path.now in
    let bytes = c.args.bytes.now in
    let s0 = g.D.Disk.state c.args.disk.now in
    let s1 = g.D.Disk.state c.clear.new.disk in
    let s2 = g.D.Disk.state c.make_folders.new.disk in
    let h1 = c.clear.ensures.honest.0 honest in
    let first = c.in_ok-clear.ensures.effect honest in
    exit (Placed path bytes s0 s2) c.from_residual-in_err-make_folders.result _ c.from_residual-in_err-make_folders.ensures.1
    (make_refused path bytes s0 s1 first s2 _ (c.in_err-make_folders.ensures.effect h1 (still_open path bytes s0 s1 first way)))

pub returns-in_err-write_new-clause-effect : goal.returns-in_err-write_new-clause-effect
returns-in_err-write_new-clause-effect g c honest way =
    let path = c.args.path.now in
    let bytes = c.args.bytes.now in
    let s0 = g.D.Disk.state c.args.disk.now in
    let s1 = g.D.Disk.state c.clear.new.disk in
    let s2 = g.D.Disk.state c.make_folders.new.disk in
    let s3 = g.D.Disk.state c.write_new.new.disk in
    let h1 = c.clear.ensures.honest.0 honest in
    let h2 = c.make_folders.ensures.honest.0 h1 in
    let first = c.in_ok-clear.ensures.effect honest in
    let made = c.in_ok-make_folders.ensures.effect h1 (still_open path bytes s0 s1 first way) in
    exit (Placed path bytes s0 s3) c.from_residual-in_err-write_new.result _ c.from_residual-in_err-write_new.ensures.1
    (write_refused path bytes s0 s1 first s2 made s3 _ (c.in_err-write_new.ensures.effect h2 (still_gone path bytes s0 s1 first s2 made, made.housed)))

pub returns-clause-effect : goal.returns-clause-effect
returns-clause-effect g c honest way =
    let path = c.args.path.now in
    let bytes = c.args.bytes.now in
    let s0 = g.D.Disk.state c.args.disk.now in
    let s1 = g.D.Disk.state c.clear.new.disk in
    let s2 = g.D.Disk.state c.make_folders.new.disk in
    let s3 = g.D.Disk.state c.write_new.new.disk in
    let s4 = g.D.Disk.state c.make_firm.new.disk in
    let h1 = c.clear.ensures.honest.0 honest in
    let h2 = c.make_folders.ensures.honest.0 h1 in
    let h3 = c.write_new.ensures.honest.0 h2 in
    let first = c.in_ok-clear.ensures.effect honest in
    let made = c.in_ok-make_folders.ensures.effect h1 (still_open path bytes s0 s1 first way) in
    let written = c.in_ok-write_new.ensures.effect h2 (still_gone path bytes s0 s1 first s2 made, made.housed) in
    placed_file path bytes s0 s1 first s2 made s3 s4 c.make_firm.result written (c.make_firm.ensures.effect h3 written.written.1)
