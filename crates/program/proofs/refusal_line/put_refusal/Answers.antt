use Rattle.std.proofs.Common.{◌≡◌, List, ℕ, codes, refl, sym, subst, arith}
use Rattle.std.specs.Prelude.{OnOk, ◌++◌}
use Rattle.std.specs.Io.KnownBytes.{Appends}
use Rattle.std.proofs.lemmas.Result.{on_ok_weaker}
use Rattle.clap.proofs.CountText.{decimal-count_text}
use Rattle.bits.specs.declared.refusal.Refusal.{Refusal}
use Rattle.bits.specs.declared.refusal.Refusal.TheVariants.{Float, Int96}
use Rattle.program.specs.RefusalLine.{WritesRefusal, refusal_words}
use Rattle.program.proofs.refusal_line.put_refusal.Goals as goal

pub returns-in-Float : goal.returns-in-Float
returns-in-Float g c =
    let old = g.E.Write.contents c.args.err.now in
    let new = g.E.Write.contents c.put_column.new.err in
    let same : refusal_words (Float c.in-Float.path) ≡ codes "refused 6 Float" = rw (decimal-count_text 6 (omega arith)) refl in
    subst (λ (e : Refusal). OnOk c.put_column.result (WritesRefusal e old new)) (sym c.in-Float.is)
    (on_ok_weaker c.put_column.result (λ w. (w.0, subst (λ (words : List ℕ). Appends old new (words ++ w.0)) (sym same) w.1)) c.put_column.ensures)

pub returns-in-Int96 : goal.returns-in-Int96
returns-in-Int96 g c =
    let old = g.E.Write.contents c.args.err.now in
    let new = g.E.Write.contents c.put_column-in-Int96.new.err in
    let same : refusal_words (Int96 c.in-Int96.path) ≡ codes "refused 7 Int96" = rw (decimal-count_text 7 (omega arith)) refl in
    subst (λ (e : Refusal). OnOk c.put_column-in-Int96.result (WritesRefusal e old new)) (sym c.in-Int96.is)
    (on_ok_weaker c.put_column-in-Int96.result (λ w. (w.0, subst (λ (words : List ℕ). Appends old new (words ++ w.0)) (sym same) w.1)) c.put_column-in-Int96.ensures)
