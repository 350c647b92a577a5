use Rattle.std.proofs.Common.{◌≡◌, ◌∙◌, option_map, ap, Some, Err, ℕ}
use Rattle.std.specs.List.{AllByRecursion}
use Rattle.bits.specs.declared.refusal.Refusal.TheVariants.{Value}
use Rattle.bits.specs.Refusals.{IsFault, HasCause}
use Rattle.bits.proofs.Passing.{passes}
use Rattle.schema.specs.Law.{IsEntryOf}
use Rattle.schema.specs.Views.{leaf_view, leaf_order}
use Rattle.statistics.specs.Bounds.{statistics_of}
use Rattle.row_group.specs.Spelled.{written_statistics}
use Rattle.row_group.proofs.ChunkStatistics.{min_kept, max_kept, min_of_kind, max_of_kind, short_bound, only_value}
use Rattle.pages.proofs.WrittenPages.{kinds_in}
use Rattle.row_group.proofs.chunk_statistics.written.Goals as goal

pub returns-in_err-bounds-clause-only : goal.returns-in_err-bounds-clause-only
returns-in_err-bounds-clause-only c = λ es are.
    let leaf = leaf_view c.args.leaf.now in
    let order = leaf_order c.args.leaf.now in
    let found = statistics_of c.args.found.now in
    passes (λ e. IsFault e → AllByRecursion (IsEntryOf leaf) es → ⊥) c.from_residual.result c.in_err-bounds.field-0.0 c.from_residual.ensures.1
    (λ fault each.
    let kinds = kinds_in leaf es c.what_is_of_a_kind_fits_it.ensures each in
    c.in_err-bounds.ensures.only fault (min_of_kind leaf.leaf_type.kind order es found kinds are) (max_of_kind leaf.leaf_type.kind order es found kinds are))

pub returns-in_err-bounds-clause-which : goal.returns-in_err-bounds-clause-which
returns-in_err-bounds-clause-which c =
    let order = leaf_order c.args.leaf.now in
    let found = statistics_of c.args.found.now in
    let es = c.requires.are.0 in
    let are = c.requires.are.1 in
    let e = c.in_err-bounds.field-0.0 in
    passes (HasCause (λ f. f ≡ Value)) c.from_residual.result e c.from_residual.ensures.1
    (only_value found.min found.max e (min_kept order es found are) (max_kept order es found are) (λ same. c.in_err-bounds.ensures.limit (ap Err same)) c.in_err-bounds.ensures.which)

pub returns-clause-stands : goal.returns-clause-stands
returns-clause-stands c = λ es are nulls.
    let kind = c.args.leaf.now.leaf_type.kind in
    let order = leaf_order c.args.leaf.now in
    let found = statistics_of c.args.found.now in
    let least = c.in_ok-bounds.ensures.min in
    let greatest = c.in_ok-bounds.ensures.max in
    let law = c.kept_bounds_are_short.ensures in
    let min = option_map (λ x. x.items) c.in_ok-bounds.bounds.min in
    let max = option_map (λ x. x.items) c.in_ok-bounds.bounds.max in
    record {
      bounds = found;
      min = min;
      max = max;
      of_entries = are;
      min_bytes = least;
      max_bytes = greatest;
      short_min = short_bound law kind min found.min (min_kept order es found are) least;
      short_max = short_bound law kind max found.max (max_kept order es found are) greatest;
      spelled = ap Some c.record_of.ensures ∙ ap (λ (n : ℕ). Some (written_statistics n min max)) nulls;
    }
