use Rattle.std.proofs.Common.{◌∙◌, ℕ, List, refl, sym, subst}
use Rattle.std.specs.Borrow.{Bor}
use Rattle.dataset_words.specs.declared.call.Task.{Task}
use Rattle.answers.specs.Importing.{files_view}
use Rattle.commands.specs.Looking.{LooksInFolder}
use Rattle.commands.specs.Calls.{OnFolder, state_within, disk_within}
use Rattle.commands.specs.Creating.{Creates}
use Rattle.commands.specs.Tasks.{first_file, lent_texts}
use Rattle.commands.proofs.TasksMade.{first_at}
use Rattle.commands.proofs.making.Making.make_on_folder.Goals as goal

pub returns-in-Ask-clause-comes : goal.returns-in-Ask-clause-comes
returns-in-Ask-clause-comes g c =
    let known = g.P.Places.known in
    let contents = g.W.Write.contents in
    subst (λ (t : Task). OnFolder g.row.S.Denot g.P.Disk.Disk.state (known c.args.places.now) (known c.read.new.places) c.args.self.now.call.now t (files_view c.args.files.now)
    (contents c.args.out.now) (contents c.read.new.out) c.read.result) (sym c.in-Ask.is) c.read.ensures.comes

pub returns-in-Look-clause-comes : goal.returns-in-Look-clause-comes
returns-in-Look-clause-comes g c =
    let state = g.P.Disk.Disk.state in
    let known = g.P.Places.known in
    let contents = g.W.Write.contents in
    let call = c.args.self.now.call.now in
    let files = files_view c.args.files.now in
    subst (λ (t : Task). OnFolder g.row.S.Denot state (known c.args.places.now) (known c.look.new.places) call t files (contents c.args.out.now) (contents c.look.new.out) c.look.result)
    (sym c.in-Look.is)
    (subst (λ (file : List ℕ). LooksInFolder (state_within {S = g.row.S.Denot} state) (disk_within {D = g.row.P-Disk.Denot} {S = g.row.S.Denot}) (known c.args.places.now) (known c.look.new.places)
    call.folder.now call.texts c.in-Look.look file (contents c.args.out.now) (contents c.look.new.out) c.look.result) (c.bytes_at-bytes.ensures ∙ first_at files) c.look.ensures.looks)

pub returns-in-Change-clause-comes : goal.returns-in-Change-clause-comes
returns-in-Change-clause-comes g c =
    let known = g.P.Places.known in
    let contents = g.W.Write.contents in
    subst (λ (t : Task). OnFolder g.row.S.Denot g.P.Disk.Disk.state (known c.args.places.now) (known c.change.new.places) c.args.self.now.call.now t (files_view c.args.files.now)
    (contents c.args.out.now) (contents c.change.new.out) c.change.result) (sym c.in-Change.is) c.change.ensures.comes

pub returns-in-Run-clause-comes : goal.returns-in-Run-clause-comes
returns-in-Run-clause-comes g c =
    let known = g.P.Places.known in
    let contents = g.W.Write.contents in
    subst (λ (t : Task). OnFolder g.row.S.Denot g.P.Disk.Disk.state (known c.args.places.now) (known c.change-in-Run.new.places) c.args.self.now.call.now t (files_view c.args.files.now)
    (contents c.args.out.now) (contents c.change-in-Run.new.out) c.change-in-Run.result) (sym c.in-Run.is) c.change-in-Run.ensures.comes

pub returns-in-Create-clause-comes : goal.returns-in-Create-clause-comes
returns-in-Create-clause-comes g c =
    let known = g.P.Places.known in
    let contents = g.W.Write.contents in
    let call = c.args.self.now.call.now in
    let files = files_view c.args.files.now in
    let made = c.make_table.ensures.creates in
    let of_first = subst (λ (bytes : List ℕ). Creates (state_within {D = g.row.P-Disk.Denot} {S = g.row.S.Denot} g.P.Disk.Disk.state) (disk_within {D = g.row.P-Disk.Denot} {S = g.row.S.Denot})
    (known c.args.places.now) (known c.make_table.new.places) call.folder.now call.options bytes (lent_texts c.as_slice.result.now) c.make_table.result) (c.bytes_at-bytes.ensures ∙ first_at files) made in
    let of_keys = subst (λ (keys : List (Bor (List ℕ))). Creates (state_within {D = g.row.P-Disk.Denot} {S = g.row.S.Denot} g.P.Disk.Disk.state) (disk_within {D = g.row.P-Disk.Denot} {S = g.row.S.Denot})
    (known c.args.places.now) (known c.make_table.new.places) call.folder.now call.options (first_file files) (lent_texts keys) c.make_table.result) c.as_slice.ensures.value of_first in
    subst (λ (t : Task). OnFolder g.row.S.Denot g.P.Disk.Disk.state (known c.args.places.now) (known c.make_table.new.places) call t files
    (contents c.args.out.now) (contents c.args.out.now) c.make_table.result) (sym c.in-Create.is) (of_keys, refl)
