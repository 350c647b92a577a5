use Rattle.std.proofs.Common.{◌≡◌, ◌∙◌, List, Vec, Global, sym, ap, subst, rules}
use Rattle.std.specs.List.{AllByRecursion}
use Rattle.std.specs.Prelude.{◌<◌}
use Rattle.std.specs.Rc.{rc_value}
use Rattle.schema.specs.Shape.{Fields}
use Rattle.schema.specs.declared.key.KeyColumn.{KeyColumn as CodeKeyColumn}
use Rattle.schema.specs.Keys.{AreKeys, AreDistinct, key_columns_view, without_keys}
use Rattle.partition.specs.Order.{AreInTableOrder}
use Rattle.manifest.specs.Groups.{Group, root_of, groups_in, keys_of, numbers_of}
use Rattle.manifest.specs.Records.{IsGroup}
use Rattle.manifest.proofs.description.Manifest.with_schema.Goals as goal

pub invariant_of-result : goal.invariant_of-result
invariant_of-result c =
    let same = sym c.in_ok-groups.ensures.same in
    let keys : c.as_slice.result.now ≡ (rc_value c.in_ok-keys.keys).items = search rules in
    let schema = sym c.in_ok-schema.ensures.same in
    let given = sym (c.as_slice.ensures.value ∙ ap (λ (v : Vec CodeKeyColumn Global). v.items) c.deref.ensures) ∙ keys in
    record {
      besides_keys = c.in_ok-stored-2.ensures.same ∙ c.in_ok-stored.ensures.stands ∙ (λ i. without_keys (key_columns_view (keys i)) (schema i));
      keyed = subst (λ (fs : Fields). AreKeys (key_columns_view (rc_value c.in_ok-keys.keys).items) fs) schema (subst (λ (ks : List CodeKeyColumn). AreKeys (key_columns_view ks) c.args.schema) given c.requires.keyed);
      in_order = subst (λ (gs : List Group). AreInTableOrder (keys_of gs)) same c.args.self.now.in_order;
      distinct = subst (λ (gs : List Group). AreDistinct (numbers_of gs)) same c.args.self.now.distinct;
      below = subst (λ (gs : List Group). AllByRecursion (λ (g : Group). g.number < c.args.self.now.next) gs) same c.args.self.now.below;
      each = subst (λ (fs : Fields). AllByRecursion (IsGroup (key_columns_view (rc_value c.in_ok-keys.keys).items) (without_keys (key_columns_view (rc_value c.in_ok-keys.keys).items) fs)) (groups_in c.in_ok-groups.groups)) schema
          (subst (λ (ks : List CodeKeyColumn). AllByRecursion (IsGroup (key_columns_view ks) (without_keys (key_columns_view ks) c.args.schema)) (groups_in c.in_ok-groups.groups)) given
          (subst (λ (gs : List Group). AllByRecursion (IsGroup (root_of c.args.self.now).keys (without_keys (root_of c.args.self.now).keys c.args.schema)) gs) same c.requires.each));
    }
