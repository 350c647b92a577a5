use Rattle.std.proofs.Common.{◌≡◌, ◌∙◌, Vec, Global, List, sym, ap, subst}
use Rattle.bits.specs.declared.refusal.Refusal.TheVariants.{Memory}
use Rattle.bits.specs.Refusals.{HasCause}
use Rattle.bits.proofs.Passing.{passes}
use Rattle.std.specs.Prelude.{◌<◌}
use Rattle.std.specs.List.{AllByRecursion}
use Rattle.std.specs.Rc.{rc_value}
use Rattle.schema.specs.Shape.{Fields}
use Rattle.schema.specs.Keys.{AreKeys, AreDistinct, key_columns_view, without_keys}
use Rattle.partition.specs.Order.{AreInTableOrder}
use Rattle.schema.specs.declared.key.KeyColumn.{KeyColumn as CodeKeyColumn}
use Rattle.manifest.specs.Groups.{Group, Root, groups_in, handles_view, keys_of, numbers_of}
use Rattle.manifest.specs.Records.{IsGroup}
use Rattle.manifest.specs.Root.{RootMeans, stored_of}
use Rattle.manifest.specs.Faults.{HasRootFault}
use Rattle.manifest.specs.inner.Heads.{root_in}
use Rattle.manifest.proofs.OnlyRoot.{memory_only, memory_cause}
use Rattle.manifest.proofs.description.Manifest.from_bytes.Goals as goal

pub returns-in_err-groups-clause-only : goal.returns-in_err-groups-clause-only
returns-in_err-groups-clause-only c =
    passes (λ e. (e ≡ Memory → ⊥) → (root : Root) → RootMeans c.args.bytes.now root → ⊥) c.from_residual-in_err-groups.result c.in_err-groups.field-0.0 c.from_residual-in_err-groups.ensures.1
    (λ other root r. memory_only c.in_err-groups.field-0.0 c.in_err-groups.ensures.which other)

pub returns-in_err-groups-clause-which : goal.returns-in_err-groups-clause-which
returns-in_err-groups-clause-which c =
    passes (HasCause (HasRootFault c.args.bytes.now)) c.from_residual-in_err-groups.result c.in_err-groups.field-0.0 c.from_residual-in_err-groups.ensures.1
    (memory_cause (HasRootFault c.args.bytes.now) c.in_err-groups.field-0.0 c.in_err-groups.ensures.which)

pub returns-in_err-schema-clause-only : goal.returns-in_err-schema-clause-only
returns-in_err-schema-clause-only c =
    passes (λ e. (e ≡ Memory → ⊥) → (root : Root) → RootMeans c.args.bytes.now root → ⊥) c.from_residual-in_err-schema.result c.in_err-schema.field-0.0 c.from_residual-in_err-schema.ensures.1
    (λ other root r. memory_only c.in_err-schema.field-0.0 c.in_err-schema.ensures.which other)

pub returns-in_err-stored-clause-only : goal.returns-in_err-stored-clause-only
returns-in_err-stored-clause-only c =
    passes (λ e. (e ≡ Memory → ⊥) → (root : Root) → RootMeans c.args.bytes.now root → ⊥) c.from_residual-in_err-stored.result c.in_err-stored.field-0.0 c.from_residual-in_err-stored.ensures.1
    (λ other root r. memory_only c.in_err-stored.field-0.0 c.in_err-stored.ensures.which other)

pub returns-in_err-keys-clause-only : goal.returns-in_err-keys-clause-only
returns-in_err-keys-clause-only c =
    passes (λ e. (e ≡ Memory → ⊥) → (root : Root) → RootMeans c.args.bytes.now root → ⊥) c.from_residual-in_err-keys.result c.in_err-keys.field-0.0 c.from_residual-in_err-keys.ensures.1
    (λ other root r. memory_only c.in_err-keys.field-0.0 c.in_err-keys.ensures.which other)

pub returns-clause-alone : goal.returns-clause-alone
returns-clause-alone c = λ other r.
    let read = root_in c.in_ok-read.read in
    let groups : groups_in c.in_ok-groups.groups ≡ read.groups = c.in_ok-groups.ensures.all ∙ ap handles_view c.as_slice.ensures.value in
    c.a_root_means_one_table.ensures c.args.bytes.now other read r c.in_ok-read.ensures.stands
    ∙ (λ i. record {
      schema = sym c.in_ok-schema.ensures.same i;
      keys = ap (λ (v : Vec CodeKeyColumn Global). key_columns_view v.items) (sym c.in_ok-keys.ensures.same) i;
      next = read.next;
      groups = sym groups i;
    })

pub invariant_of-result : goal.invariant_of-result
invariant_of-result c =
    let read = root_in c.in_ok-read.read in
    let groups : groups_in c.in_ok-groups.groups ≡ read.groups = c.in_ok-groups.ensures.all ∙ ap handles_view c.as_slice.ensures.value in
    let described = c.in_ok-read.ensures.stands.described in
    let keys = ap (λ (v : Vec CodeKeyColumn Global). v.items) (sym c.in_ok-keys.ensures.same) in
    let schema = sym c.in_ok-schema.ensures.same in
    record {
      besides_keys = c.in_ok-stored.ensures.same ∙ c.in_ok-read.ensures.besides ∙ (λ i. without_keys (key_columns_view (keys i)) (schema i));
      keyed = subst (λ (fs : Fields). AreKeys (key_columns_view (rc_value c.in_ok-keys.keys).items) fs) schema (subst (λ (ks : List CodeKeyColumn). AreKeys (key_columns_view ks) read.schema) keys described.keys);
      in_order = subst (λ (gs : List Group). AreInTableOrder (keys_of gs)) (sym groups) described.in_order;
      distinct = subst (λ (gs : List Group). AreDistinct (numbers_of gs)) (sym groups) described.distinct;
      below = subst (λ (gs : List Group). AllByRecursion (λ (g : Group). g.number < read.next) gs) (sym groups) described.below;
      each = subst (λ (fs : Fields). AllByRecursion (IsGroup (key_columns_view (rc_value c.in_ok-keys.keys).items) (without_keys (key_columns_view (rc_value c.in_ok-keys.keys).items) fs)) (groups_in c.in_ok-groups.groups)) schema
          (subst (λ (ks : List CodeKeyColumn). AllByRecursion (IsGroup (key_columns_view ks) (without_keys (key_columns_view ks) read.schema)) (groups_in c.in_ok-groups.groups)) keys
          (subst (λ (gs : List Group). AllByRecursion (IsGroup read.keys (stored_of read)) gs) (sym groups) described.each));
    }
