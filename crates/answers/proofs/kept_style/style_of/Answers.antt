use Rattle.std.proofs.Common.{map, ap, ◌∙◌}
use Rattle.metadata.specs.Views.{chunk_meta_view}
use Rattle.answers.specs.Kept.{style_in}
use Rattle.answers.proofs.kept_style.style_of.Goals as goal

pub returns-clause-style : goal.returns-clause-style
returns-clause-style c = c.style_in.ensures ∙ ap style_in (ap (map chunk_meta_view) c.as_slice.ensures.value ∙ c.in_ok-chunks.ensures.are)
