use Rattle.std.proofs.Common.{◌≡◌, ◌+◌, ◌<◌, ℕ, List, [], drop, length, get_or, ap, subst, ◌∙◌, arith}
use Rattle.std.specs.Prelude.{sum_by}
use Rattle.std.proofs.lemmas.List.{drop_all, drop_more}
use Rattle.std.proofs.lemmas.List.Sums.{sum_by-cons}
use Rattle.std.proofs.lemmas.Option.{slice_get-get_or}
use Rattle.manifest.specs.Groups.{Group, groups_in, root_of}
use Rattle.manifest.specs.Laid.{bytes_of}
use Rattle.upkeep.specs.Totals.{Counts}
use Rattle.upkeep.proofs.counting.totals_of.Goals as goal

abbrev blank : Group
blank = record { number = 0; key = []; width = 0; chunks = []; known = record { rows = 0; leaves = [] } }

more_of : (f : Group → ℕ) (gs : List Group) (i : ℕ) → i < length gs → sum_by f (drop i gs) ≡ f (get_or gs i blank) + sum_by f (drop (i + 1) gs)
more_of f gs i lt = ap (sum_by f) (drop_more gs i blank lt) ∙ sum_by-cons f (get_or gs i blank) (drop (i + 1) gs)

pub loop-i-preserved : goal.loop-i-preserved
loop-i-preserved c =
    let gs = groups_in c.groups-groups.result.now in
    let i = c.loop-i.i in
    let lt : i < length gs = omega (arith, c.len-i-end.ensures) in
    let one = c.in_ok-more.ensures.counts (get_or gs i blank) (slice_get-get_or gs i blank lt) in
    let r = more_of (λ (g : Group). g.known.rows) gs i lt in
    let b = more_of bytes_of gs i lt in
    record {
      rows = omega (arith, c.loop-i.invariant.rows, r, one.rows);
      groups = omega (arith, c.loop-i.invariant.groups, one.groups);
      bytes = omega (arith, c.loop-i.invariant.bytes, b, one.bytes);
    }

pub returns-clause-counts : goal.returns-clause-counts
returns-clause-counts c =
    let gs = groups_in c.groups-groups.result.now in
    let i = c.loop-i.i in
    let none : drop i gs ≡ [] = drop_all i gs (omega (arith, c.len-i-end.ensures)) in
    let r = ap (sum_by (λ (g : Group). g.known.rows)) none in
    let b = ap (sum_by bytes_of) none in
    subst (Counts c.loop-i.totals) c.groups-groups.ensures.are
    (record {
      rows = omega (arith, c.loop-i.invariant.rows, r);
      groups = omega (arith, c.loop-i.invariant.groups, c.len-i-end.ensures);
      bytes = omega (arith, c.loop-i.invariant.bytes, b);
    })
