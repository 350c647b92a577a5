use Rattle.std.proofs.Common.{take}
use Rattle.places.specs.Places.{StaysKnown, AreFilesAt}
use Rattle.answers.specs.Importing.{files_view}
use Rattle.commands.specs.Tasks.{lent_texts}
use Rattle.commands.proofs.making.Making.bytes_at.Given as goal

-- the files so far have these bytes
abbrev pub invariant-loop-place : goal.invariant-loop-place
invariant-loop-place g l =
    let known = g.P.Places.known in
    record {
      read : AreFilesAt (known l.fn.places) (lent_texts (take l.place l.paths)) (files_view l.files.items);
      same : StaysKnown (known l.fn.places) (known l.places);
    }
