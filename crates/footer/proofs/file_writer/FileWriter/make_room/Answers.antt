use Rattle.std.proofs.Common.{◌≡◌, ◌++◌, List, length, arith, Result, Ok, Err}
use Rattle.std.proofs.lemmas.Bool.Decides.{nat_tests}
use Rattle.std.specs.Prelude.{IfErr}
use Rattle.bits.specs.declared.refusal.Refusal.{Refusal}
use Rattle.schema.specs.Values.{ValueTrees}
use Rattle.shred.specs.Buffer.{holds}
use Rattle.footer.specs.Writer.{options_of}
use Rattle.footer.proofs.Written.{full_next, none_waits_in, has_same}
use Rattle.footer.proofs.file_writer.FileWriter.make_room.Goals as goal

-- one fact of a refusal follows from another
on_refusal : {X : Type 0} (r : Result X Refusal) (P Q : Refusal → Type 0) → ((e : Refusal) → P e → Q e) → IfErr r P → IfErr r Q
on_refusal (Ok x) P Q f h = tt
on_refusal (Err e) P Q f h = f e h

pub returns-then-len-self-clause-stands : goal.returns-then-len-self-clause-stands
returns-then-len-self-clause-stands c =
    let w = c.args.self.now in
    let full : (waiting : List ValueTrees) → holds w.waiting waiting → length waiting ≡ (options_of w).group_rows = λ waiting held.
    let counted = c.len.ensures.counted waiting held in
    grind (arith, nat_tests, counted) in
    none_waits_in w c.write_waiting.new.self c.write_waiting.result full c.write_waiting.ensures.stands c.write_waiting.ensures.emptied c.write_waiting.ensures.counted c.write_waiting.ensures.same_schema c.write_waiting.ensures.same_options

pub returns-then-len-self-clause-only : goal.returns-then-len-self-clause-only
returns-then-len-self-clause-only c = on_refusal c.write_waiting.result _ _ (λ e none fault rows so. none fault so.waiting so.held) c.write_waiting.ensures.only

pub returns-then-len-self-clause-limit : goal.returns-then-len-self-clause-limit
returns-then-len-self-clause-limit c = λ is rows later so.
    let w = c.args.self.now in
    let counted = c.len.ensures.counted so.waiting so.held in
    let full : length so.waiting ≡ (options_of w).group_rows = grind (arith, nat_tests, counted) in
    c.write_waiting.ensures.limit is so.waiting (rows ++ later) later (full_next w rows later so full)

pub returns-then-len-self-clause-unchanged : goal.returns-then-len-self-clause-unchanged
returns-then-len-self-clause-unchanged c =
    let w = c.args.self.now in
    on_refusal c.write_waiting.result _ _ (λ e same rows so. has_same w c.write_waiting.new.self rows (same so.waiting so.held) c.write_waiting.ensures.same_schema c.write_waiting.ensures.same_options so) c.write_waiting.ensures.unchanged

pub returns-else-len-self-clause-stands : goal.returns-else-len-self-clause-stands
returns-else-len-self-clause-stands c = λ rows so.
    let counted = c.len.ensures.counted so.waiting so.held in
    let few = so.given.few in
    record { has = so; few = grind (arith, nat_tests, counted, few) }
