use Rattle.std.proofs.Common.{◌≡◌, ℕ, List, [], ◌++◌, length, map, ap, subst, ◌∙◌}
use Rattle.std.proofs.lemmas.List.{append-nil, length-map}
use Rattle.value_tests.proofs.codecs.reread.Goals as goal

pub returns : goal.returns
returns g c =
    let shown = g.C.ValueCodec.shown in
    let seen = map shown c.args.values.now in
    let written = c.in_ok-encode.ensures.stands in
    let text = written.text in
    let size : length seen ≡ length c.args.values.now = length-map c.args.values.now shown in
    let there = subst (λ n. g.C.ValueCodec.stands c.args.codec.now n text seen (length text)) size (subst (λ t. g.C.ValueCodec.stands c.args.codec.now (length seen) t seen (length text)) (append-nil text) (written.stands [])) in
    let back = subst (λ t. g.C.ValueCodec.stands c.args.codec.now (length c.args.values.now) t (map shown c.in_ok-read.read.items) c.in_ok-read.field-0-1) (c.as_slice.ensures.value ∙ written.joined ∙ ap (λ (t : List ℕ). t ++ text) c.new-out.ensures.items) c.in_ok-read.ensures.stands in
    (c.one_meaning.ensures (length c.args.values.now) text (map shown c.in_ok-read.read.items) seen c.in_ok-read.field-0-1 (length text) back there).0
