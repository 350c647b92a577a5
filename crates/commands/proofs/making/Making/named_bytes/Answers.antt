use Rattle.std.proofs.Common.{◌∙◌, ℕ, List, IfOk, IfErr, ap, subst}
use Rattle.bits.proofs.Passing.{passes}
use Rattle.commands.specs.Tasks.{lent_texts}
use Rattle.answers.specs.Importing.{files_view}
use Rattle.places.specs.Places.{AreFilesAt, AreKeptAmong}
use Rattle.commands.specs.Calls.{named_paths}
use Rattle.commands.proofs.FilesRead.{memory_among}
use Rattle.commands.proofs.making.Making.named_bytes.Goals as goal

pub returns-in_err-paths-clause-refused : goal.returns-in_err-paths-clause-refused
returns-in_err-paths-clause-refused g c =
    let known = g.P.Places.known c.args.places.now in
    let paths = named_paths c.args.self.now.call.now.task in
    passes (AreKeptAmong known paths) c.from_residual.result c.in_err-paths.field-0.0 c.from_residual.ensures.1 (memory_among known paths c.in_err-paths.field-0.0 c.in_err-paths.ensures.memory)

pub returns-clause-read : goal.returns-clause-read
returns-clause-read g c =
    let known = g.P.Places.known c.args.places.now in
    let same = ap lent_texts c.as_slice.ensures.value ∙ c.in_ok-paths.ensures.paths in
    subst (λ (paths : List (List ℕ)). IfOk c.bytes_at.result (λ files. AreFilesAt known paths (files_view files.items))) same c.bytes_at.ensures.read

pub returns-clause-refused : goal.returns-clause-refused
returns-clause-refused g c =
    let known = g.P.Places.known c.args.places.now in
    let same = ap lent_texts c.as_slice.ensures.value ∙ c.in_ok-paths.ensures.paths in
    subst (λ (paths : List (List ℕ)). IfErr c.bytes_at.result (AreKeptAmong known paths)) same c.bytes_at.ensures.refused
