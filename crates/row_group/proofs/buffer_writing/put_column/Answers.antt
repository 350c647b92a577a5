use Rattle.std.proofs.Common.{◌++◌, ◌∙◌, [], ℕ, List, Result, Ok, Err, length, map, drop, get_or, ap, sym, subst}
use Rattle.std.specs.List.{AllByRecursion}
use Rattle.std.proofs.lemmas.List.{take-append-drop}
use Rattle.bits.specs.declared.refusal.Refusal.{Refusal}
use Rattle.bits.specs.Refusals.{OnFault}
use Rattle.schema.specs.Values.{ValueTrees}
use Rattle.schema.specs.Borrowed.{entry_ref_view}
use Rattle.schema.specs.Law.{IsEntryOf}
use Rattle.schema.specs.Stripe.{columns}
use Rattle.schema.specs.Views.{leaf_view}
use Rattle.shred.specs.Buffer.{schema_of, holds}
use Rattle.row_group.specs.Writing.{IsChunkTooMuch}
use Rattle.row_group.proofs.buffer_writing.put_column.Goals as goal

fault_so : {X : Type 0} (r : Result X Refusal) (P Q : Type 0) → (P → Q) → OnFault r P → OnFault r Q
fault_so (Ok x) P Q so p = tt
fault_so (Err e) P Q so p = λ fault. so (p fault)

pub returns-in-Some-clause-limit : goal.returns-in-Some-clause-limit
returns-in-Some-clause-limit c = λ limit all held each.
    let same = c.in-Some.ensures.stands all held in
    subst (IsChunkTooMuch (leaf_view c.args.leaf.now) c.args.options (length c.args.out.now.items)) (sym same) (c.write_plain_chunk.ensures.limit limit (subst (AllByRecursion (IsEntryOf (leaf_view c.args.leaf.now))) same each))

pub returns-in-Some-clause-extends : goal.returns-in-Some-clause-extends
returns-in-Some-clause-extends c =
    let old = c.args.out.now.items in
    let new = c.write_plain_chunk.new.out.items in
    (drop (length old) new, sym (take-append-drop (length old) new) ∙ ap (λ (t : List ℕ). t ++ drop (length old) new) c.write_plain_chunk.ensures.front)

pub returns-in_ok-entries-in_default-clause-only : goal.returns-in_ok-entries-in_default-clause-only
returns-in_ok-entries-in_default-clause-only c =
    let P = IsEntryOf (leaf_view c.args.leaf.now) in
    let b = c.args.rows.now in
    fault_so c.write_chunk.result _ ((all : List ValueTrees) → holds b all → AllByRecursion P (get_or (columns (schema_of b) all) c.args.index []) → ⊥)
    (λ only all held each. only (subst (AllByRecursion P) (sym (ap (map entry_ref_view) c.as_slice.ensures.value ∙ c.in_ok-entries-in_default.ensures.stands all held)) each)) c.write_chunk.ensures.only

pub returns-in_ok-entries-in_default-clause-limit : goal.returns-in_ok-entries-in_default-clause-limit
returns-in_ok-entries-in_default-clause-limit c = λ limit all held each.
    let same = ap (map entry_ref_view) c.as_slice.ensures.value ∙ c.in_ok-entries-in_default.ensures.stands all held in
    subst (IsChunkTooMuch (leaf_view c.args.leaf.now) c.args.options (length c.args.out.now.items)) same (c.write_chunk.ensures.limit limit)
