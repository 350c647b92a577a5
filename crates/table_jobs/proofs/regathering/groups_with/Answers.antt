use Rattle.std.proofs.Common.{◌≡◌, ◌++◌, [], List, map, refl, ap, sym, ◌∙◌, subst}
use Rattle.lists.proofs.Lists.{all_append}
use Rattle.bits.specs.Refusals.{HasCause}
use Rattle.bits.proofs.Passing.{passes}
use Rattle.schema.specs.Fits.{RowsFit}
use Rattle.schema.specs.Keys.{KeyColumn, key_of_row}
use Rattle.schema.specs.Shape.{Fields}
use Rattle.schema.specs.Views.{rows_view}
use Rattle.partition.specs.Folders.{CanPartition}
use Rattle.partition.specs.Splitting.{HaveKeys, key_rows_view}
use Rattle.manifest.specs.Groups.{root_of}
use Rattle.table.specs.Table.{Row}
use Rattle.table_commits.specs.Filling.{rows_waiting}
use Rattle.table_commits.specs.Gathering.{AreGatheredFor}
use Rattle.table_commits.proofs.RowsGathered.{keeps_on, kept_table}
use Rattle.table_jobs.specs.Regathering.{AreWhole}
use Rattle.table_jobs.proofs.RowsRegathered.{are_whole, fit_whole, keys_whole, key_else, groups_of}
use Rattle.table_jobs.proofs.regathering.groups_with.Goals as goal

pub returns-in_err-gathered-clause-only : goal.returns-in_err-gathered-clause-only
returns-in_err-gathered-clause-only c = λ whole are fit keyed.
    passes (HasCause (λ _. ⊥)) c.from_residual.result c.in_err-gathered.field-0.0 c.from_residual.ensures.1 c.in_err-gathered.ensures.which

pub returns-in_err-gather_waiting-clause-only : goal.returns-in_err-gather_waiting-clause-only
returns-in_err-gather_waiting-clause-only c = λ whole are fit keyed.
    let root = root_of c.args.table.now in
    let table = c.in_ok-gathered.ensures.table in
    let ws = map key_rows_view c.args.waiting.now in
    let there = subst (λ (ks : List KeyColumn). AreWhole ks ws whole) (sym table.columns) (are_whole root.schema root.keys ws whole are) in
    let fits = subst (λ (fs : Fields). RowsFit fs (rows_waiting whole)) (sym table.schema) (fit_whole root.schema root.keys ws whole are) in
    passes (HasCause (λ _. ⊥)) c.from_residual-in_err-gather_waiting.result c.in_err-gather_waiting.field-0.0 c.from_residual-in_err-gather_waiting.ensures.1 (c.in_err-gather_waiting.ensures.only whole there fits)

pub returns-in_err-push_rows-clause-only : goal.returns-in_err-push_rows-clause-only
returns-in_err-push_rows-clause-only c = λ whole are fit keyed.
    let table = kept_table c.in_ok-gathered.ensures.table c.in_ok-gather_waiting.ensures.table in
    let fits = subst (λ (fs : Fields). RowsFit fs (rows_view c.args.rows.now)) (sym table.schema) fit in
    passes (HasCause (λ _. ⊥)) c.from_residual-in_err-push_rows.result c.in_err-push_rows.field-0.0 c.from_residual-in_err-push_rows.ensures.1 (c.in_err-push_rows.ensures.only fits)

pub returns-in_err-groups-clause-only : goal.returns-in_err-groups-clause-only
returns-in_err-groups-clause-only c = λ whole are fit keyed.
    let root = root_of c.args.table.now in
    let begun = c.in_ok-gathered.ensures in
    let table = kept_table (kept_table begun.table c.in_ok-gather_waiting.ensures.table) c.in_ok-push_rows.ensures.table in
    let ws = map key_rows_view c.args.waiting.now in
    let there = subst (λ (ks : List KeyColumn). AreWhole ks ws whole) (sym begun.table.columns) (are_whole root.schema root.keys ws whole are) in
    let held = c.in_ok-push_rows.ensures.held (rows_waiting whole) (c.in_ok-gather_waiting.ensures.held [] whole begun.begins there) in
    let all = subst (λ (ks : List KeyColumn). HaveKeys ks (rows_waiting whole ++ rows_view c.args.rows.now)) (sym table.columns)
    (all_append (λ (r : Row). CanPartition root.keys (key_of_row root.keys r)) (rows_waiting whole) (rows_view c.args.rows.now) (keys_whole root.schema root.keys ws whole are) keyed) in
    let e = c.in_err-groups.field-0.0 in
    passes (HasCause (λ _. ⊥)) c.from_residual-in_err-groups.result e c.from_residual-in_err-groups.ensures.1
    (key_else e c.in_err-groups.ensures.which (λ fault. c.in_err-groups.ensures.only fault (rows_waiting whole ++ rows_view c.args.rows.now) held all))

pub returns-clause-groups : goal.returns-clause-groups
returns-clause-groups c = λ whole are.
    let root = root_of c.args.table.now in
    let begun = c.in_ok-gathered.ensures in
    let table = kept_table (kept_table begun.table c.in_ok-gather_waiting.ensures.table) c.in_ok-push_rows.ensures.table in
    let ws = map key_rows_view c.args.waiting.now in
    let there = subst (λ (ks : List KeyColumn). AreWhole ks ws whole) (sym begun.table.columns) (are_whole root.schema root.keys ws whole are) in
    let held = c.in_ok-push_rows.ensures.held (rows_waiting whole) (c.in_ok-gather_waiting.ensures.held [] whole begun.begins there) in
    groups_of root c.args.options.now c.push_rows.new.gathered (rows_waiting whole ++ rows_view c.args.rows.now) c.in_ok-groups.groups.items table held (c.in_ok-groups.ensures.groups (rows_waiting whole ++ rows_view c.args.rows.now) held)
