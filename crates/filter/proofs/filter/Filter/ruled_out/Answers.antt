use Rattle.std.proofs.Common.{◌≡◌, ℕ, vec_len, ◌==◌, ap, ◌∙◌}
use Rattle.std.proofs.lemmas.Bool.{false≢true}
use Rattle.schema.specs.Keys.{places_of, key_columns_view}
use Rattle.schema.specs.Views.{key_view}
use Rattle.statistics.specs.Bounds.{known_of}
use Rattle.filter.specs.Test.{tests_in}
use Rattle.filter.proofs.Relations.{ruled_out_when, no_ands}
use Rattle.filter.proofs.filter.Filter.ruled_out.Goals as goal

pub returns-then-not-is_empty : goal.returns-then-not-is_empty
returns-then-not-is_empty c = ruled_out_when (tests_in c.args.self.now) (places_of (key_columns_view c.args.keys.now)) (key_view c.args.key.now) (known_of c.args.known.now) c.all_out.result
    (λ e. let none = no_ands c.args.self.now.ands.items e in
    let zero : vec_len c.args.self.now.ands ≡ 0 = cc in
    false≢true (c.if-not-is_empty.ensures ∙ ap (λ (n : ℕ). n == 0) zero))
    (rw (c.as_slice.ensures.value, c.as_slice-then-not-is_empty.ensures.value) at c.all_out.ensures)
