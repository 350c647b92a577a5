use Rattle.std.proofs.Common.{◌≡◌, pos, arith}
use Rattle.std.proofs.lemmas.Int.{ints}
use Rattle.lists.proofs.Slices.{slice_get_map as gets_here}
use Rattle.metadata.specs.Views.{chunk_meta_view}
use Rattle.scan.proofs.checking.is_counted.Goals as goal

pub returns : goal.returns
returns c holds picked =
    let record_is = c.from.ensures in
    let count_is = c.from-2.ensures in
    let same = c.if-from.false in
    let counted : c.index-chunks-usage.result.meta_data.num_values ≡ pos c.args.count = grind (arith, ints, record_is, count_is, same) in
    (chunk_meta_view c.index-chunks-usage.result, gets_here chunk_meta_view c.args.chunks.now c.args.usage.chunk c.index-chunks-usage.result c.if-usage-chunks.false c.index-chunks-usage.is, counted)
