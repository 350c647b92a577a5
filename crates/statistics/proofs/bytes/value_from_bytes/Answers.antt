use Rattle.std.proofs.Common.{length, [], ◌∷◌}
use Rattle.schema.specs.declared.value.Value.{Value}
use Rattle.schema.specs.Values.{view}
use Rattle.plain.specs.Plain.{IsPlain}
use Rattle.statistics.specs.Bytes.{IsBound}
use Rattle.statistics.proofs.OneBound.{ok_map, fault_map, plain_is_bound, bound_is_plain, over_length}
use Rattle.statistics.proofs.bytes.value_from_bytes.Goals as goal

pub returns-in_default : goal.returns-in_default
returns-in_default c = record {
  stands = ok_map (λ (v : Value). IsPlain c.args.kind 1 c.args.text.now (view v ∷ []) (length c.args.text.now)) (λ (v : Value). IsBound c.args.kind c.args.text.now (view v)) c.plain_from_bytes.result
      (λ v h. plain_is_bound c.args.kind c.args.text.now (view v) c.in_default.not-ByteArray h) c.plain_from_bytes.ensures.stands;
  only = fault_map _ _ c.plain_from_bytes.result (λ none v h. none v (bound_is_plain c.args.kind c.args.text.now v c.in_default.not-ByteArray h)) c.plain_from_bytes.ensures.only;
  limit = λ e. over_length c.args.kind c.args.text.now c.in_default.not-ByteArray (c.plain_from_bytes.ensures.limit e);
  which = c.plain_from_bytes.ensures.which;
}
