use Rattle.std.proofs.Common.{ℕ, List, [], ◌∷◌, subst}
use Rattle.bits.specs.Codec.{Appends}
use Rattle.schema.specs.Values.{view}
use Rattle.plain.specs.Plain.{IsPlain, HasZeroPadding, plain_size}
use Rattle.statistics.proofs.OneBound.{all_of_it}
use Rattle.statistics.proofs.bytes.plain_to_bytes.Goals as goal

pub returns-clause-stands : goal.returns-clause-stands
returns-clause-stands c =
    let seen = view c.args.value.now ∷ [] in
    all_of_it (λ (bytes : List ℕ) (used : ℕ). IsPlain c.args.kind 1 bytes seen used) (plain_size c.args.kind seen) c.encode.new.out.items
    (subst (λ (old : List ℕ). Appends (λ (bytes : List ℕ) (used : ℕ). IsPlain c.args.kind 1 bytes seen used) (plain_size c.args.kind seen) old c.encode.new.out.items) c.new-text.ensures.items c.in_ok-encode.ensures.stands)

pub returns-clause-padding : goal.returns-clause-padding
returns-clause-padding c =
    let seen = view c.args.value.now ∷ [] in
    all_of_it (HasZeroPadding c.args.kind 1) (plain_size c.args.kind seen) c.encode.new.out.items
    (subst (λ (old : List ℕ). Appends (HasZeroPadding c.args.kind 1) (plain_size c.args.kind seen) old c.encode.new.out.items) c.new-text.ensures.items c.in_ok-encode.ensures.padding)
