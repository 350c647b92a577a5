use Rattle.std.proofs.Common.{map}
use Rattle.std.specs.Prelude.{All}
use Rattle.std.proofs.lemmas.List.{length-map}
use Rattle.std.proofs.lemmas.List.Elements.{All-weaker}
use Rattle.plain.specs.Plain.{IsOfKind, IsTooLong}
use Rattle.plain.proofs.Seen.{none_any}
use Rattle.plain.proofs.Written.{only_long}
use Rattle.plain.proofs.writing.fitting_size.Goals as goal

pub returns-clause-which : goal.returns-clause-which
returns-clause-which g c = only_long (All (IsOfKind c.args.kind) (map g.V.Lends.lent c.args.values.now)) c.encoded_size.result c.requires.of_kind c.encoded_size.ensures.which c.encoded_size.ensures.only

pub returns-then-is_never_long-clause-size : goal.returns-then-is_never_long-clause-size
returns-then-is_never_long-clause-size g c =
    c.size_together.ensures (map g.V.Lends.lent c.args.values.now) (length-map c.args.values.now g.V.Lends.lent) (λ array. absurd (c.is_never_long.ensures.other c.if-is_never_long.true array))

pub returns-then-is_never_long-clause-within_limits : goal.returns-then-is_never_long-clause-within_limits
returns-then-is_never_long-clause-within_limits g c =
    All-weaker (IsOfKind c.args.kind) (λ v. IsTooLong v → ⊥) (c.is_never_long.ensures.short c.if-is_never_long.true) (map g.V.Lends.lent c.args.values.now) c.requires.of_kind

pub returns-then-is_never_long-clause-limit : goal.returns-then-is_never_long-clause-limit
returns-then-is_never_long-clause-limit g c =
    let short = All-weaker (IsOfKind c.args.kind) (λ v. IsTooLong v → ⊥) (c.is_never_long.ensures.short c.if-is_never_long.true) (map g.V.Lends.lent c.args.values.now) c.requires.of_kind in
    λ over. none_any IsTooLong (map g.V.Lends.lent c.args.values.now) short over.1
