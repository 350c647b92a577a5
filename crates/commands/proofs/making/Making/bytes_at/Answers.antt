use Rattle.std.proofs.Common.{◌≡◌, ◌++◌, ◌∷◌, ◌∙◌, [], ℕ, List, Vec, Global, take, ap, sym, subst}
use Rattle.std.proofs.lemmas.List.{map_push}
use Rattle.bits.proofs.Passing.{passes}
use Rattle.places.specs.Places.{AreFilesAt, AreKeptAmong}
use Rattle.answers.specs.Importing.{files_view}
use Rattle.commands.specs.Tasks.{lent_texts}
use Rattle.places.proofs.PlacesKept.{among_before, stays_then}
use Rattle.commands.proofs.FilesRead.{one_more_read, one_more_text, kept_at}
use Rattle.commands.proofs.making.Making.bytes_at.Goals as goal

pub returns-in_err-bytes-clause-refused : goal.returns-in_err-bytes-clause-refused
returns-in_err-bytes-clause-refused g c =
    let all = c.args.paths.now in
    let l = c.loop-place in
    let e = c.in_err-bytes.field-0.0 in
    let mid = g.P.Places.known l.places in
    let kept = kept_at mid all l.place c.path_at-path.result.now c.loop-place-test.true c.path_at-path.ensures e c.in_err-bytes.ensures.refused in
    passes (AreKeptAmong (g.P.Places.known c.args.places.now) (lent_texts all)) c.from_residual.result e c.from_residual.ensures.1 (among_before l.invariant.same (lent_texts all) e kept)

pub loop-place-preserved : goal.loop-place-preserved
loop-place-preserved g c =
    let first = g.P.Places.known c.args.places.now in
    let l = c.loop-place in
    let all = c.args.paths.now in
    let path = c.path_at-path.result in
    let bytes = c.in_ok-bytes.bytes in
    let one = one_more_read first (lent_texts (take l.place all)) (files_view l.files.items) path.now bytes.items l.invariant.read ((l.invariant.same.files path.now bytes.items).1 c.in_ok-bytes.ensures.read) in
    let paths = one_more_text all l.place path.now c.loop-place-test.true c.path_at-path.ensures in
    let files : files_view c.push.new.self.items ≡ files_view l.files.items ++ bytes.items ∷ [] = ap files_view c.in_ok-push.ensures.items ∙ map_push (λ (f : Vec ℕ Global). f.items) l.files.items bytes in
    record {
      read = subst (λ (ps : List (List ℕ)). AreFilesAt first ps (files_view c.push.new.self.items)) (sym paths)
          (subst (λ (fs : List (List ℕ)). AreFilesAt first (lent_texts (take l.place all) ++ path.now ∷ []) fs) (sym files) one);
      same = stays_then l.invariant.same c.bytes.ensures.same;
    }
