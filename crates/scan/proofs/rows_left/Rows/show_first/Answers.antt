use Rattle.std.proofs.Common.{◌≡◌, ◌∙◌, ◌∷◌, List, ℕ, length, refl, ap, sym, subst}
use Rattle.std.proofs.lemmas.List.{with_items_is}
use Rattle.assemble.specs.Sinks.{Adds, tokens_each}
use Rattle.scan.specs.declared.part_reader.PartReader.{PartReader}
use Rattle.scan.specs.Left.{PartsStand, joined}
use Rattle.scan.proofs.rows_left.Rows.show_first.Goals as goal

pub returns-in-Ok-clause-shows : goal.returns-in-Ok-clause-shows
returns-in-Ok-clause-shows g c =
    let shows = g.K.RowSink.shows in
    let old = c.args.self.now in
    let later = c.show_parts.new.parts in
    let same : c.as_mut_slice.result.now ≡ old.parts.items = c.as_mut_slice.ensures.value in
    let items = with_items_is old.parts later (c.show_parts.auto.parts ∙ c.as_mut_slice.ensures.len) in (
      record {
        whole = refl;
        left = refl;
        marks = c.without_first-self.ensures;
        as_many = ap length items ∙ c.in-Ok.ensures.as_many ∙ ap length same;
      },
      λ x rest stand.
          let took = c.in-Ok.ensures.shows x rest (subst (λ (ps : List PartReader). PartsStand ps (x ∷ rest)) (sym same) stand) in (
            subst (λ (ps : List PartReader). PartsStand ps rest) (sym items) took.0,
            subst (λ (n : ℕ). Adds (shows c.args.sink.now) (shows c.show_parts.new.sink) (tokens_each (joined n x))) (ap length same) took.1,
          ),
    )

pub returns-in-Err-clause-only : goal.returns-in-Err-clause-only
returns-in-Err-clause-only g c =
    let same : c.as_mut_slice.result.now ≡ c.args.self.now.parts.items = c.as_mut_slice.ensures.value in
    λ x rest stand. c.in-Err.ensures.only x rest (subst (λ (ps : List PartReader). PartsStand ps (x ∷ rest)) (sym same) stand)
