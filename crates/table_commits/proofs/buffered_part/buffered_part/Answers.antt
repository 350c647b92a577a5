use Rattle.std.proofs.Common.{◌≡◌, ◌<◌, ◌^◌, ◌⊎◌, ℕ, List, Err, refl, sym, ◌∙◌, ap, subst, arith, inl, inr, ⊎_elim}
use Rattle.schema.specs.Keys.{KeyColumn, key_columns_view}
use Rattle.schema.specs.Shape.{Fields}
use Rattle.schema.specs.Views.{key_view}
use Rattle.shred.specs.Buffer.{schema_of, holds}
use Rattle.vault.specs.Views.{root_path, next_path}
use Rattle.vault.proofs.Chained.{refused}
use Rattle.partition.specs.Folders.{CanPartition, part_path_of}
use Rattle.row_group.specs.Writing.{IsOfRows}
use Rattle.footer.specs.Faults.{IsOverLimit, long as too_long}
use Rattle.footer.specs.Own.{IsLaidOut}
use Rattle.footer.specs.Writing.{IsOutOfRange, IsTooMuch}
use Rattle.footer.specs.declared.options.WriteOptions.{WriteOptions}
use Rattle.gather.specs.declared.key_buffer.KeyBuffer.{KeyBuffer}
use Rattle.manifest.specs.declared.group.Group.{Group as CodeGroup}
use Rattle.manifest.specs.Groups.{Root, group_view, root_of}
use Rattle.manifest.specs.Root.{stored_of}
use Rattle.manifest.specs.Records.{IsGroup}
use Rattle.manifest.specs.Parts.{PartMeans}
use Rattle.manifest.specs.Written.{IsPartOf}
use Rattle.bits.specs.declared.refusal.Refusal.{Refusal}
use Rattle.bits.specs.declared.refusal.Refusal.TheVariants.{Limit, Memory, RowShape, InDoubt}
use Rattle.bits.specs.Refusals.{HasCause, IsFault, RefusedOnly}
use Rattle.table.specs.Table.{Row, Key}
use Rattle.table_commits.specs.Gathering.{HoldsPart}
use Rattle.table_state.specs.Promises.{IsSure}
use Rattle.table_commits.specs.Writing.{IsUnfit}
use Rattle.table_commits.proofs.buffered_part.buffered_part.Goals as goal

-- what was written is the part of these rows
written_here : (root : Root) (o : WriteOptions) (buffer : KeyBuffer) (stored : List Row) (bytes : List ℕ) (fs : Fields) → HoldsPart root o buffer stored → fs ≡ stored_of root
    → ((held : List Row) → holds buffer.rows held → IsLaidOut o (schema_of buffer.rows) held bytes) → ((held : List Row) → holds buffer.rows held → IsOverLimit bytes → ⊥) → IsPartOf o fs stored bytes
written_here root o buffer stored bytes fs part is laid within = record {
  laid_out = subst (λ (gs : Fields). IsLaidOut o gs stored bytes) (part.rows.schema ∙ sym is) (laid stored part.rows.held);
  short = λ long. within stored part.rows.held (too_long long);
  some = part.some;
  few = part.few;
}

pub returns-clause-no_root : goal.returns-clause-no_root
returns-clause-no_root c =
    let keys = key_columns_view c.keys.result.now in
    let key = key_view c.args.buffer.key in
    let number = c.args.number in
    let is = c.in_ok-path.ensures.stands in
    let fits : number < 2 ^ 64 = let r = c.requires.counter in omega (arith, r) in
    ((λ e. (c.part_paths_are_not_roots.ensures keys key number root_path fits (inl refl)).0 (sym is ∙ e)), (λ e. (c.part_paths_are_not_roots.ensures keys key number next_path fits (inr refl)).0 (sym is ∙ e)))

pub returns-clause-made : goal.returns-clause-made
returns-clause-made c stored held part are =
    let root = root_of c.args.table.now in
    let key = key_view c.args.buffer.key in
    let o = c.args.options.now in
    let fs = c.stored.result.now in
    let same = c.in_ok-group.ensures.ok in
    let keys = c.keys.ensures.are in
    let can = subst (λ (ks : List KeyColumn). CanPartition ks key) keys c.in_ok-path.ensures.can in
    let written = written_here root o c.args.buffer stored c.in_ok-bytes.bytes.items fs part c.stored.ensures c.in_ok-bytes.ensures.laid_out c.in_ok-bytes.ensures.within_limits in
    let means = c.in-Ok.ensures.means c.in_ok-bytes.bytes.items (c.in_ok-bytes.ensures.record_is stored part.rows.held) o stored written root.keys held are in
    record {
      number_is = ap (λ (x : CodeGroup). x.number) same ∙ c.in-Ok.ensures.number;
      key_is = ap (λ (x : CodeGroup). key_view x.key) same ∙ c.in-Ok.ensures.key;
      can = can;
      described = subst (λ (x : CodeGroup). IsGroup root.keys (stored_of root) (group_view x)) (sym same) (subst (λ (gs : Fields). IsGroup root.keys gs (group_view c.in-Ok.group)) c.stored.ensures (c.in-Ok.ensures.is root.keys can));
      path_is = c.in_ok-path.ensures.stands ∙ ap (λ (ks : List KeyColumn). part_path_of ks key c.args.number) keys;
      means = subst (λ (x : CodeGroup). PartMeans root.keys (stored_of root) (group_view x) c.in_ok-bytes.bytes.items held) (sym same) (subst (λ (gs : Fields). PartMeans root.keys gs (group_view c.in-Ok.group) c.in_ok-bytes.bytes.items held) c.stored.ensures means);
    }

pub returns-clause-is : goal.returns-clause-is
returns-clause-is c =
    let root = root_of c.args.table.now in
    let key = key_view c.args.buffer.key in
    let can = subst (λ (ks : List KeyColumn). CanPartition ks key) c.keys.ensures.are c.in_ok-path.ensures.can in
    subst (λ (x : CodeGroup). IsGroup root.keys (stored_of root) (group_view x)) (sym c.in_ok-group.ensures.ok) (subst (λ (gs : Fields). IsGroup root.keys gs (group_view c.in-Ok.group)) c.stored.ensures (c.in-Ok.ensures.is root.keys can))

-- why the bytes of rows that are held were not made
of_bytes : (root : Root) (options : WriteOptions) (key : Key) (stored : List Row) (e : Refusal) → HasCause IsOfRows e → (IsFault e → ⊥) → (e ≡ Limit → IsOutOfRange options ⊎ IsTooMuch (stored_of root) options stored) → HasCause (IsUnfit root options key stored) e
of_bytes root options key stored RowShape which only limit = absurd (only tt)
of_bytes root options key stored Limit which only limit = limit refl
of_bytes root options key stored Memory which only limit = tt
of_bytes root options key stored e which only limit = absurd which

pub returns-in_err-bytes-clause-which : goal.returns-in_err-bytes-clause-which
returns-in_err-bytes-clause-which c stored part =
    let root = root_of c.args.table.now in
    let options = c.args.options.now in
    let key = key_view c.args.buffer.key in
    let held = part.rows.held in
    refused (λ r. RefusedOnly (IsUnfit root options key stored) r) c.from_residual-in_err-bytes.result _ c.from_residual-in_err-bytes.ensures.1
    (of_bytes root options key stored c.in_err-bytes.field-0.0 c.in_err-bytes.ensures.which (λ fault. c.in_err-bytes.ensures.only fault stored held)
    (λ is. subst (λ (fs : Fields). IsOutOfRange options ⊎ IsTooMuch fs options stored) part.rows.schema (c.in_err-bytes.ensures.limit (ap (λ (e : Refusal). Err e) is) stored held part.few)))

sure_bytes : (e : Refusal) → HasCause IsOfRows e → e ≡ InDoubt → ⊥
sure_bytes e which is = subst (λ (x : Refusal). HasCause IsOfRows x) is which

pub returns-in_err-bytes-clause-sure : goal.returns-in_err-bytes-clause-sure
returns-in_err-bytes-clause-sure c =
    refused (λ r. IsSure r) c.from_residual-in_err-bytes.result _ c.from_residual-in_err-bytes.ensures.1
    (λ is. sure_bytes c.in_err-bytes.field-0.0 c.in_err-bytes.ensures.which (cc))

-- a refusal of the group that its part file records
of_group : (root : Root) (options : WriteOptions) (key : Key) (stored : List Row) (r e : Refusal) → (r ≡ Limit) ⊎ (r ≡ Memory) → (r ≡ Limit → e ≡ Limit) → ((e ≡ Memory → ⊥) → (e ≡ Limit) × IsTooMuch (stored_of root) options stored) → HasCause (IsUnfit root options key stored) r
of_group root options key stored r e which limit only = ⊎_elim
    (λ is. subst (λ (x : Refusal). HasCause (IsUnfit root options key stored) x) (sym is) (inr (only (λ memory. let l = limit is in cc)).1))
    (λ is. subst (λ (x : Refusal). HasCause (IsUnfit root options key stored) x) (sym is) tt)
    which

pub returns-in-Err-clause-which : goal.returns-in-Err-clause-which
returns-in-Err-clause-which c stored part =
    let root = root_of c.args.table.now in
    let options = c.args.options.now in
    let key = key_view c.args.buffer.key in
    let written = written_here root options c.args.buffer stored c.in_ok-bytes.bytes.items c.stored.result.now part c.stored.ensures c.in_ok-bytes.ensures.laid_out c.in_ok-bytes.ensures.within_limits in
    of_group root options key stored c.limit_or_memory.result c.in-Err.e c.limit_or_memory.ensures.which c.limit_or_memory.ensures.limit
    (subst (λ (fs : Fields). (c.in-Err.e ≡ Memory → ⊥) → (c.in-Err.e ≡ Limit) × IsTooMuch fs options stored) c.stored.ensures (λ other. c.in-Err.ensures.only other c.in_ok-bytes.bytes.items (c.in_ok-bytes.ensures.record_is stored part.rows.held) options stored written))

sure_group : (r : Refusal) → (r ≡ Limit) ⊎ (r ≡ Memory) → r ≡ InDoubt → ⊥
sure_group r which is = ⊎_elim (λ l. let e : Limit ≡ InDoubt = sym l ∙ is in cc) (λ m. let e : Memory ≡ InDoubt = sym m ∙ is in cc) which

pub returns-in-Err-clause-sure : goal.returns-in-Err-clause-sure
returns-in-Err-clause-sure c = λ is. sure_group c.limit_or_memory.result c.limit_or_memory.ensures.which (cc)
