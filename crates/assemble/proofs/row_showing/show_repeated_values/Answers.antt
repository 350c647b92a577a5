use Rattle.std.proofs.Common.{◌+◌, ◌≡◌, ◌∷◌, ◌++◌, [], take, ap, sym, subst, ◌∙◌, arith}
use Rattle.std.proofs.lemmas.List.{take_more}
use Rattle.schema.specs.Values.{view, views}
use Rattle.assemble.specs.Sinks.{Adds, tokens, tokens_each}
use Rattle.assemble.proofs.Items.{views-push}
use Rattle.assemble.proofs.Showing.{adds_then, tokens_snoc}
use Rattle.assemble.proofs.row_showing.show_repeated_values.Goals as goal

pub loop-value-preserved : goal.loop-value-preserved
loop-value-preserved g c =
    let K = g.K.RowSink.shows in
    let vs = c.args.values.now in
    let i = c.loop-value.value-index in
    let v = c.value-item.result in
    let next : tokens_each (views (take (i + 1) vs)) ≡ tokens_each (views (take i vs)) ++ tokens (view v) =
    ap (λ xs. tokens_each (views xs)) (take_more vs i v (omega arith) ∙ ap (λ x. take i vs ++ x ∷ []) (sym c.value-item.is))
    ∙ ap tokens_each (views-push (take i vs) v) ∙ tokens_snoc (views (take i vs)) (view v) in
    record {
      shown = subst (Adds (K c.args.sink.now) (K c.show_repeated_value.new.sink)) (sym next)
          (adds_then (K c.args.sink.now) (K c.loop-value.sink) (K c.show_repeated_value.new.sink) (tokens_each (views (take i vs))) (tokens (view v)) c.loop-value.invariant.shown c.in_ok-show_repeated_value.ensures.shown);
      base = c.show_repeated_value.ensures.base_stays ∙ c.loop-value.invariant.base;
    }
