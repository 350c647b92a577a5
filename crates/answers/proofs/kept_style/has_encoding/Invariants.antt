use Rattle.std.proofs.Common.{◌≡◌, drop, map}
use Rattle.std.specs.List.{list_any}
use Rattle.metadata.specs.Views.{chunk_meta_view}
use Rattle.answers.specs.Kept.{is_encoded}
use Rattle.answers.proofs.kept_style.has_encoding.Given as goal

abbrev pub invariant-loop-chunk : goal.invariant-loop-chunk
invariant-loop-chunk l = list_any (is_encoded l.number) (map chunk_meta_view (drop l.chunk-index l.chunks)) ≡ list_any (is_encoded l.number) (map chunk_meta_view l.chunks)
