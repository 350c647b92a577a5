use Rattle.std.proofs.Common.{◌≡◌, ◌≤◌, ℕ, zero, suc, List, [], ◌∷◌, length, Option, refl, ap, sym, ◌∙◌, arith}
use Rattle.std.specs.Prelude.{Some, None, Vec, option_map, slice_get}
use Rattle.std.specs.declared.alloc.Global.{Global}
use Rattle.std.proofs.lemmas.Option.{slice_get_read}
use Rattle.schema.specs.declared.row.Row.{Row as CodeRow}
use Rattle.schema.specs.Views.{rows_view}
use Rattle.table.specs.Table.{Row}
use Rattle.table_jobs.specs.Completing.{completed_rows}
use Rattle.table_jobs.proofs.run_sources.completed_at.Goals as goal

none_past : {A : Type 0} (xs : List A) (i : ℕ) → length xs ≤ i → slice_get xs i ≡ None
none_past [] i h = refl
none_past (x ∷ xs) zero h = absurd (omega (arith, h))
none_past (x ∷ xs) (suc i) h = none_past xs i (omega (arith, h))

pub returns-then-place-read-clause-told : goal.returns-then-place-read-clause-told
returns-then-place-read-clause-told c =
    ap (λ (o : Option (Vec CodeRow Global)). option_map (completed_rows c.args.schema.now) (option_map (λ (v : Vec CodeRow Global). rows_view v.items) o)) (sym (none_past c.args.read.now c.args.place (omega (arith, c.if-place-read.true))))

pub returns-clause-told : goal.returns-clause-told
returns-clause-told c =
    let there = slice_get_read c.args.read.now (length c.args.read.now) c.args.place c.index-read-place.result refl (omega (arith, c.if-place-read.false)) c.index-read-place.is in
    ap (λ (rs : List Row). Some rs) (c.in_ok-copies.ensures.completes ∙ ap (λ (xs : List CodeRow). completed_rows c.args.schema.now (rows_view xs)) c.as_slice.ensures.value)
    ∙ ap (λ (o : Option (Vec CodeRow Global)). option_map (completed_rows c.args.schema.now) (option_map (λ (v : Vec CodeRow Global). rows_view v.items) o)) (sym there)
