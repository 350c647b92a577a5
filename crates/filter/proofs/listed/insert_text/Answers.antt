use Rattle.std.proofs.Common.{◌∙◌, ◌||◌, List, ℕ, ap}
use Rattle.std.specs.List.{list_any}
use Rattle.std.specs.Str.{bytes_eq}
use Rattle.filter.specs.inner.Sets.{is_text}
use Rattle.filter.proofs.Texts.{put_text}
use Rattle.filter.proofs.listed.insert_text.Goals as goal

pub returns-clause-inserted : goal.returns-clause-inserted
returns-clause-inserted c = λ q.
    put_text c.args.texts.now.keys c.insert.new.self.keys c.in_ok-copy.copy c.in_ok-insert.field-0 q c.in_ok-insert.ensures.added c.in_ok-insert.ensures.keys
    ∙ ap (λ (text : List ℕ). bytes_eq q text || list_any (is_text q) c.args.texts.now.keys) c.in_ok-copy.ensures.items
