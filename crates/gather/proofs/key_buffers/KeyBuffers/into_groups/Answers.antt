use Rattle.std.proofs.Common.{rules, sym, subst, ◌∙◌}
use Rattle.std.proofs.lemmas.List.Sorted.{ranks_by, answers_always}
use Rattle.schema.specs.Views.{key_view}
use Rattle.partition.proofs.SameKeys.{key_total}
use Rattle.gather.specs.declared.key_buffer.KeyBuffer.{KeyBuffer}
use Rattle.gather.specs.Groups.{waiting_rows}
use Rattle.gather.specs.KeyBuffers.{HoldGroups}
use Rattle.gather.proofs.BufferRows.{have_keys}
use Rattle.gather.proofs.FirstFaults.{fault_not, split_when}
use Rattle.gather.proofs.GroupOrder.{before, rows_left, groups_are}
use Rattle.gather.proofs.key_buffers.KeyBuffers.into_groups.Goals as goal

pub returns-then-is_some-clause-only : goal.returns-then-is_some-clause-only
returns-then-is_some-clause-only c = λ u columns rows taken have.
    let k = c.args.self in
    fault_not columns k rows k.fault (sym c.is_some.ensures ∙ c.if-is_some.true) taken.split have

pub returns-clause-groups : goal.returns-clause-groups
returns-clause-groups c = λ columns rows taken.
    let k = c.args.self in
    let split = split_when columns k rows k.fault (sym c.is_some.ensures ∙ c.if-is_some.false) taken.split in
    subst (HoldGroups columns k.size k.stored.now rows) (sym c.in_ok-append.ensures.items)
    (groups_are columns k.size k.stored.now rows k.full.items k.waiting.items c.retain.new.self.items c.sort_by.new.self.items split.full split.waiting
    (rows_left _ (λ p b t q r rs held. search rules) k.stored.now (λ key. waiting_rows columns k.size key rows) _ k.waiting.items c.retain.new.self.items split.waiting.each c.retain.ensures.filtered)
    c.in_ok-sort_by.ensures.permutation
    (c.in_ok-sort_by.ensures.sorted before (ranks_by key_total (λ (x : KeyBuffer). key_view x.key)) (answers_always _ _ _ (λ f a r q k. search rules))))

pub returns-clause-fine : goal.returns-clause-fine
returns-clause-fine c = λ columns rows taken.
    let k = c.args.self in
    have_keys columns k.size k.stored.now rows k.waiting.items (split_when columns k rows k.fault (sym c.is_some.ensures ∙ c.if-is_some.false) taken.split).waiting
