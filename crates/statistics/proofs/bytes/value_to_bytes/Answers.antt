use Rattle.std.proofs.Common.{length, ℕ, [], ◌∷◌, Vec, Global}
use Rattle.schema.specs.Values.{view}
use Rattle.plain.specs.Plain.{IsPlain, HasZeroPadding, IsTooLong}
use Rattle.statistics.specs.Bytes.{IsBound}
use Rattle.statistics.proofs.OneBound.{ok_map, ok_both, fault_map, plain_is_bound, one_of_kind, any_one}
use Rattle.statistics.proofs.bytes.value_to_bytes.Goals as goal

pub returns-in_default : goal.returns-in_default
returns-in_default c =
    let v = view c.args.value.now in record {
      stands = ok_both (λ (t : Vec ℕ Global). IsBound c.args.kind t.items v) (λ (t : Vec ℕ Global). HasZeroPadding c.args.kind 1 t.items (length t.items)) c.plain_to_bytes.result
          (ok_map (λ (t : Vec ℕ Global). IsPlain c.args.kind 1 t.items (v ∷ []) (length t.items)) (λ (t : Vec ℕ Global). IsBound c.args.kind t.items v) c.plain_to_bytes.result (λ t h. plain_is_bound c.args.kind t.items v c.in_default.not-ByteArray-0 h) c.plain_to_bytes.ensures.stands)
          c.plain_to_bytes.ensures.padding;
      only = fault_map _ _ c.plain_to_bytes.result (λ none h. none (one_of_kind c.args.kind v h)) c.plain_to_bytes.ensures.only;
      limit = λ e. any_one IsTooLong v (c.plain_to_bytes.ensures.limit e).1;
      which = c.plain_to_bytes.ensures.which;
    }
