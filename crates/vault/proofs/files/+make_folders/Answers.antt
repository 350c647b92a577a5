use Rattle.std.proofs.Common.{rules, ◌≡◌, ◌≢◌, []}
use Rattle.disk.specs.Paths.{folder_of}
use Rattle.vault.specs.inner.Files.{FoldersMade}
use Rattle.vault.proofs.Answering.{exit}
use Rattle.vault.proofs.Writing.{open_above, folders_refused, folders_more}
use Rattle.vault.proofs.files.+make_folders.Goals as goal

pub returns-in_err-make_folders-clause-effect : goal.returns-in_err-make_folders-clause-effect
returns-in_err-make_folders-clause-effect g t c honest clear =
    let path = c.args.path.now in
    let folder = c.folder_of-folder.result.now in
    let s0 = g.D.Disk.state c.args.disk.now in
    let s1 = g.D.Disk.state c.make_folders.new.disk in
    let is : folder ≡ folder_of path = c.folder_of-folder.ensures.value in
    exit (FoldersMade path s0 s1) c.from_residual.result _ c.from_residual.ensures.1
    (folders_refused path folder s0 s1 _ is (c.in_err-make_folders.ensures.effect honest (open_above path folder s0 is clear)))

pub returns-clause-effect : goal.returns-clause-effect
returns-clause-effect g t c honest clear =
    let path = c.args.path.now in
    let folder = c.folder_of-folder.result.now in
    let s0 = g.D.Disk.state c.args.disk.now in
    let s1 = g.D.Disk.state c.make_folders.new.disk in
    let s2 = g.D.Disk.state c.make_folder.new.self in
    let is : folder ≡ folder_of path = c.folder_of-folder.ensures.value in
    let some : folder ≢ [] = search rules in
    let h1 = c.make_folders.ensures.honest.0 honest in
    folders_more path folder s0 s1 s2 c.make_folder.result (g.met.D.Disk.lawful c.make_folders.new.disk) h1 is some clear
    (c.in_ok-make_folders.ensures.effect honest (open_above path folder s0 is clear)) (c.make_folder.ensures.effect h1)
