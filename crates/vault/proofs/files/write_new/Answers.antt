use Rattle.std.proofs.Common.{Ok, Err}
use Rattle.vault.specs.inner.Files.{Written}
use Rattle.vault.proofs.Answering.{exit}
use Rattle.vault.proofs.Writing.{create_fails, create_refused, append_refused, written_file}
use Rattle.vault.proofs.files.write_new.Goals as goal

pub returns-in_err-create-clause-effect : goal.returns-in_err-create-clause-effect
returns-in_err-create-clause-effect g c honest vacant =
    let path = c.args.path.now in
    let s0 = g.D.Disk.state c.args.disk.now in
    let s1 = g.D.Disk.state c.create.new.self in
    let made = c.in_err-create.ensures.effect honest in
    let lawful = g.met.D.Disk.lawful c.args.disk.now in
    exit (Written path c.args.bytes.now s0 s1) c.from_residual.result _ c.from_residual.ensures.1
    (create_refused path c.args.bytes.now s0 s1 (Err c.in_err-create.field-0.0) c.requires lawful honest vacant.0 vacant.1 made _ (create_fails path c.args.bytes.now s0 s1 (Err c.in_err-create.field-0.0) c.requires lawful honest vacant.0 vacant.1 made))

pub returns-in_err-append-clause-effect : goal.returns-in_err-append-clause-effect
returns-in_err-append-clause-effect g c honest vacant =
    let path = c.args.path.now in
    let s0 = g.D.Disk.state c.args.disk.now in
    let s1 = g.D.Disk.state c.create.new.self in
    let s2 = g.D.Disk.state c.append.new.self in
    let h1 = c.create.ensures.honest.0 honest in
    let made = c.in_ok-create.ensures.effect honest in
    exit (Written path c.args.bytes.now s0 s2) c.from_residual-in_err-append.result _ c.from_residual-in_err-append.ensures.1
    (append_refused path c.args.bytes.now s0 s1 (Ok c.in_ok-create.field-0) c.requires (g.met.D.Disk.lawful c.args.disk.now) honest vacant.0 vacant.1 made s2 c.append.result (g.met.D.Disk.lawful c.create.new.self) h1 made.done
    (c.append.ensures.effect h1) _ c.in_err-append.was c.append.ensures.which)

pub returns-clause-effect : goal.returns-clause-effect
returns-clause-effect g c honest vacant =
    let path = c.args.path.now in
    let s0 = g.D.Disk.state c.args.disk.now in
    let s1 = g.D.Disk.state c.create.new.self in
    let s2 = g.D.Disk.state c.append.new.self in
    let s3 = g.D.Disk.state c.sync_once.new.disk in
    let h1 = c.create.ensures.honest.0 honest in
    let h2 = c.append.ensures.honest.0 h1 in
    let made = c.in_ok-create.ensures.effect honest in
    written_file path c.args.bytes.now s0 s1 (Ok c.in_ok-create.field-0) c.requires (g.met.D.Disk.lawful c.args.disk.now) honest vacant.0 vacant.1 made s2 c.append.result (g.met.D.Disk.lawful c.create.new.self) h1 made.done
    (c.append.ensures.effect h1) s3 c.sync_once.result c.in_ok-append.was c.sync_once.ensures.which (c.sync_once.ensures.effect h2)
