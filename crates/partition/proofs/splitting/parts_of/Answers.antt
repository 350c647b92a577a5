use Rattle.std.proofs.Common.{◌≡◌, ap, ◌∙◌, sym, subst, ◌++◌, ◌∷◌, [], arith}
use Rattle.std.proofs.lemmas.List.{map_push}
use Rattle.schema.specs.Values.{view, member_at}
use Rattle.schema.specs.Views.{row_view}
use Rattle.partition.specs.inner.Parts.{part_view, parts_view, IsNoKeyValue}
use Rattle.partition.proofs.Partitioning.{member_is}
use Rattle.partition.proofs.KeyParts.{key_more, no_key_at, no_value}
use Rattle.partition.proofs.splitting.parts_of.Goals as goal

pub returns-then-column-len-clause-stands : goal.returns-then-column-len-clause-stands
returns-then-column-len-clause-stands c =
    no_key_at c.args.columns.now (row_view c.args.row.now) c.loop-column.column-index c.column-item.result (omega arith) c.column-item.is (no_value c.args.row.now.values.items c.column-item.result.at (omega (arith, c.len.ensures)))

pub returns-in-None-clause-stands : goal.returns-in-None-clause-stands
returns-in-None-clause-stands c =
    let e : member_at c.column-item.result.at (row_view c.args.row.now) ≡ view c.index.result.now
    = member_is c.args.row.now.values.items c.column-item.result.at c.index.result.now (omega (arith, c.len.ensures)) ∙ sym (ap view c.index.ensures) in
    no_key_at c.args.columns.now (row_view c.args.row.now) c.loop-column.column-index c.column-item.result (omega arith) c.column-item.is (subst IsNoKeyValue (sym e) (rw c.in-None.is at c.in_ok-part.ensures.stands))

pub loop-column-preserved : goal.loop-column-preserved
loop-column-preserved c =
    let e : member_at c.column-item.result.at (row_view c.args.row.now) ≡ view c.index.result.now
    = member_is c.args.row.now.values.items c.column-item.result.at c.index.result.now (omega (arith, c.len.ensures)) ∙ sym (ap view c.index.ensures) in
    let same : part_view c.in-Some.part ≡ view c.index.result.now = rw c.in-Some.is at c.in_ok-part.ensures.stands in
    let items : parts_view c.push.new.self.items ≡ parts_view c.loop-column.parts.items ++ part_view c.in-Some.part ∷ []
    = ap parts_view c.in_ok-push-in-Some.ensures.items ∙ map_push part_view c.loop-column.parts.items c.in-Some.part in
    rw items (key_more (parts_view c.loop-column.parts.items) _ (part_view c.in-Some.part) c.args.columns.now (row_view c.args.row.now) c.loop-column.column-index c.column-item.result (omega arith) c.column-item.is (same ∙ sym e) c.loop-column.invariant)
