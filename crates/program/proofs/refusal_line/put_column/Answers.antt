use Rattle.std.proofs.Common.{◌∷◌, [], List, ℕ, subst}
use Rattle.std.specs.Io.KnownBytes.{Appends}
use Rattle.std.proofs.KnownBytes.{Appends-trans}
use Rattle.std.proofs.lemmas.Result.{on_ok_weaker}
use Rattle.program.proofs.refusal_line.put_column.Goals as goal

pub returns : goal.returns
returns g c =
    let old = g.E.Write.contents c.args.err.now in
    let mid = g.E.Write.contents c.write_all.new.self in
    let new = g.E.Write.contents c.write_all-in-Err.new.self in
    let words : Appends old mid c.args.words.now = subst (Appends old mid) c.as_bytes.ensures.value c.in_ok-write_all.ensures.bytes in
    on_ok_weaker c.write_all-in-Err.result (λ line. (10 ∷ [], Appends-trans old mid new c.args.words.now (10 ∷ []) words line)) c.write_all-in-Err.ensures.bytes
