use Rattle.std.proofs.Common.{ap, sym, subst, ◌∙◌}
use Rattle.std.proofs.lemmas.Option.{MatchOption-at_none}
use Rattle.schema.specs.Keys.{key_columns_view}
use Rattle.partition.specs.Folders.{CanPartition}
use Rattle.gather.specs.Parts.{parts_view}
use Rattle.gather.proofs.BufferRows.{have_keys}
use Rattle.gather.proofs.FirstFaults.{fault_comes, no_fault}
use Rattle.gather.proofs.key_buffers.KeyBuffers.put.Goals as goal

pub returns-in_ok-key-in-None-clause-put : goal.returns-in_ok-key-in-None-clause-put
returns-in_ok-key-in-None-clause-put c = λ rows values taken cut.
    let keys = key_columns_view c.args.columns.now in
    let old = c.args.self.now in
    let split = no_fault keys old rows old.fault c.requires.fine taken.split in
    let cannot = MatchOption-at_none _ _ c.in-None.is (c.in_ok-at.ensures.placed rows split) in
    fault_comes keys rows _ _ values (c.in_ok-at.ensures.same.count ∙ taken.counted) (c.in_ok-key-in-None.ensures.stands ∙ ap parts_view c.as_slice.ensures.value ∙ cut.key)
    (λ can. cannot (subst (CanPartition keys) (sym cut.key) can)) (have_keys keys old.size old.stored.now rows old.waiting.items split.waiting)
