use Rattle.std.proofs.Common.{◌≡◌, ◌<◌, ◌^◌, ◌∙◌, ◌∷◌, [], ℕ, pos, List, Some, length, map, replicate, ap, sym, subst, arith}
use Rattle.std.specs.Prelude.{sum_by, codes}
use Rattle.std.specs.List.{AllByRecursion}
use Rattle.std.specs.Fmt.{decimal}
use Rattle.std.proofs.lemmas.List.{length-map}
use Rattle.serde_json.specs.Written.{compact_text}
use Rattle.schema.specs.Elements.{Element}
use Rattle.schema.specs.Listed.{elements_of}
use Rattle.schema.specs.Stripe.{Leaf, leaves_of}
use Rattle.schema.specs.Views.{leaf_view}
use Rattle.schema.specs.Keys.{KeyColumn, key_columns_view}
use Rattle.metadata.specs.Kept.{KeepsWritten}
use Rattle.metadata.specs.Records.{type_order}
use Rattle.footer.proofs.Writable.{elements_writable}
use Rattle.manifest.specs.Groups.{Group, groups_in}
use Rattle.manifest.specs.Root.{IsKeysText, keys_data, stored_of}
use Rattle.manifest.specs.Laid.{group_record}
use Rattle.manifest.proofs.Summed.{signed_back, as_signed}
use Rattle.manifest.proofs.WithinBits.{rows_within}
use Rattle.manifest.proofs.writing.record_of.Goals as goal

pub returns-clause-writable : goal.returns-clause-writable
returns-clause-writable c =
    subst (λ (es : List Element). AllByRecursion KeepsWritten es) (sym (c.in_ok-schema.ensures.copies ∙ c.elements.ensures)) (elements_writable c.args.stored.now c.leaves.ensures.valid)

pub returns-clause-keys_are : goal.returns-clause-keys_are
returns-clause-keys_are c =
    let text = c.in_ok-pairs.ensures.pairs.1 in
    subst (λ (t : List ℕ). IsKeysText t (key_columns_view c.args.keys.now)) text.compact text

pub returns-clause-record_is : goal.returns-clause-record_is
returns-clause-record_is c = λ root d few parts.
    let within = rows_within root.keys (stored_of root) root.groups d.each in
    let total = sum_by (λ (g : Group). g.known.rows) root.groups in
    let small : total < 2 ^ 63 = omega (arith, within, few) in
    let seen : sum_by (λ (g : Group). g.known.rows) (groups_in c.args.groups.now) ≡ total = ap (λ (gs : List Group). sum_by (λ (g : Group). g.known.rows) gs) (sym parts.groups_are) in
    let rows : c.rows_of-rows.result ≡ total = c.rows_of-rows.ensures (omega (arith, seen, small)) ∙ seen in
    let number : c.signed.result ≡ pos total = signed_back c.signed.result c.rows_of-rows.result total rows small c.signed.ensures in
    let elements = c.in_ok-schema.ensures.copies ∙ c.elements.ensures ∙ ap elements_of (sym parts.stored_is) in
    let written = c.in_ok-pairs.ensures.pairs in
    let text = written.1.compact ∙ ap (λ (ks : List KeyColumn). compact_text (keys_data ks)) (sym parts.keys_are) in
    let leaves = sym (length-map c.leaves.result.now leaf_view) ∙ ap (λ (ls : List Leaf). length ls) (c.leaves.ensures.leaves_are ∙ ap leaves_of (sym parts.stored_is)) in
    let orders = c.in_ok-column_orders.ensures.orders_are ∙ ap (λ (n : ℕ). replicate n type_order) leaves in
    λ i. record {
      version = Some (pos 1);
      schema = elements i;
      num_rows = Some (as_signed c.signed.result total number small i);
      row_groups = map (group_record root.keys) root.groups;
      key_value_metadata = Some ((written.2 ∙ (λ j. record { key = codes "pqds.keys"; value = Some (text j) } ∷ record { key = codes "pqds.next"; value = Some (decimal (sym parts.next_is j)) } ∷ [])) i);
      created_by = Some (c.in_ok-created_by.ensures.items i);
      column_orders = Some (orders i);
    }
