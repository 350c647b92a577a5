use Rattle.std.proofs.Common.{ℕ, List, Option, sym, subst}
use Rattle.commands.specs.Calls.{OnFilesBy}
use Rattle.commands.proofs.making.Making.make_on_files.Goals as goal

pub returns-in-Some-clause-comes : goal.returns-in-Some-clause-comes
returns-in-Some-clause-comes g c =
    let known = g.P.Places.known in
    let contents = g.W.Write.contents in
    subst (λ (asked : Option (List ℕ × Option (List ℕ))). OnFilesBy g.row.S.Denot g.P.Disk.Disk.state known (known c.args.places.now) (known c.append.new.places) c.args.self.now.call.now asked
    (contents c.args.out.now) (contents c.append.new.out) c.append.result) (sym c.in-Some.ensures.asked) c.append.ensures.comes

pub returns-in-None-clause-comes : goal.returns-in-None-clause-comes
returns-in-None-clause-comes g c =
    let known = g.P.Places.known in
    let contents = g.W.Write.contents in
    subst (λ (asked : Option (List ℕ × Option (List ℕ))). OnFilesBy g.row.S.Denot g.P.Disk.Disk.state known (known c.args.places.now) (known c.make_with_files.new.places) c.args.self.now.call.now asked
    (contents c.args.out.now) (contents c.make_with_files.new.out) c.make_with_files.result) (sym c.in-None.ensures.asked) c.make_with_files.ensures.comes
