use Rattle.std.proofs.Common.{◌≡◌, ◌∙◌, List, Vec, Global, sym, ap, subst}
use Rattle.std.specs.List.{AllByRecursion}
use Rattle.std.specs.Prelude.{◌<◌}
use Rattle.std.specs.Rc.{rc_value}
use Rattle.schema.specs.Shape.{Fields}
use Rattle.schema.specs.Keys.{AreKeys, AreDistinct, key_columns_view, without_keys}
use Rattle.schema.specs.declared.key.KeyColumn.{KeyColumn as CodeKeyColumn}
use Rattle.partition.specs.Order.{AreInTableOrder}
use Rattle.manifest.specs.Groups.{Group, keys_of, numbers_of}
use Rattle.manifest.specs.Records.{IsGroup}
use Rattle.manifest.proofs.description.Manifest.new.Goals as goal

pub invariant_of-result : goal.invariant_of-result
invariant_of-result c =
    let items = ap (λ (v : Vec CodeKeyColumn Global). v.items) (sym c.in_ok-keys.ensures.same) in
    let keys : c.as_slice.result.now ≡ (rc_value c.in_ok-keys.keys).items = c.as_slice.ensures.value ∙ items in
    let schema = sym c.in_ok-schema.ensures.same in
    let none = sym c.in_ok-groups.ensures.none in
    record {
      besides_keys = c.in_ok-stored-2.ensures.same ∙ c.in_ok-stored.ensures.stands ∙ (λ i. without_keys (key_columns_view (keys i)) (schema i));
      keyed = subst (λ (fs : Fields). AreKeys (key_columns_view (rc_value c.in_ok-keys.keys).items) fs) schema (subst (λ (ks : List CodeKeyColumn). AreKeys (key_columns_view ks) c.args.schema) items c.requires);
      in_order = subst (λ (gs : List Group). AreInTableOrder (keys_of gs)) none tt;
      distinct = subst (λ (gs : List Group). AreDistinct (numbers_of gs)) none tt;
      below = subst (λ (gs : List Group). AllByRecursion (λ (g : Group). g.number < 0) gs) none tt;
      each = subst (λ (gs : List Group). AllByRecursion (IsGroup (key_columns_view (rc_value c.in_ok-keys.keys).items) (without_keys (key_columns_view (rc_value c.in_ok-keys.keys).items) (rc_value c.in_ok-schema.schema))) gs) none tt;
    }
