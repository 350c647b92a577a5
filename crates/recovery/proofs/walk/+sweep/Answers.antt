use Rattle.std.proofs.Common.{◌≡◌, ◌<◌, ◌+◌, List, ℕ, length, true, sym, ◌∙◌, subst, arith}
use Rattle.std.proofs.lemmas.Bool.{false≢true}
use Rattle.std.proofs.lemmas.Option.{MatchOption-at_some, MatchOption-at_none}
use Rattle.schema.specs.Keys.{key_columns_view, KeyColumn}
use Rattle.manifest.specs.Groups.{root_of}
use Rattle.folders.specs.Entries.{IsNoneBelow, IsBelow}
use Rattle.recovery.specs.inner.Sweeps.{IsSwept, LeavesSwept}
use Rattle.recovery.proofs.Sweeping.{read_step, steps_on}
use Rattle.recovery.proofs.Walking.{swept_after, listed_after, count_columns, columns_front, none_swept, below_swept, below_lasts, more_so_far, IsBelowSwept}
use Rattle.recovery.proofs.walk.+sweep.Goals as goal
use Rattle.recovery.proofs.walk.+sweep.Goals.{sweep-then-clean, sweep-else-clean}

pub sweep-returns-in_default-clause-effect : goal.sweep-returns-in_default-clause-effect
sweep-returns-in_default-clause-effect g t c =
    read_step (root_of c.args.manifest.now) (g.D.Disk.state c.args.vault.now.disk) (g.D.Disk.state c.list.new.self.disk) c.list.ensures.unchanged c.list.ensures.counts.later c.list.ensures.reads c.list.ensures.honest

pub sweep-returns-then-depth-keys-clause-effect : goal.sweep-returns-then-depth-keys-clause-effect
sweep-returns-then-depth-keys-clause-effect g t c =
    let root = root_of c.args.manifest.now in
    let s0 = g.D.Disk.state c.args.vault.now.disk in
    let s1 = g.D.Disk.state c.list.new.self.disk in
    steps_on root s0 s1 (g.D.Disk.state c.sweep_files.new.vault.disk) (read_step root s0 s1 c.list.ensures.unchanged c.list.ensures.counts.later c.list.ensures.reads c.list.ensures.honest) c.sweep_files.ensures.effect

pub sweep-returns-then-depth-keys-clause-swept : goal.sweep-returns-then-depth-keys-clause-swept
sweep-returns-then-depth-keys-clause-swept g t c = λ honest clean.
    let root = root_of c.args.manifest.now in
    let folder = c.args.folder.now in
    let s0 = g.D.Disk.state c.args.vault.now.disk in
    let s1 = g.D.Disk.state c.list.new.self.disk in
    let s2 = g.D.Disk.state c.sweep_files.new.vault.disk in
    let all = c.list.ensures.unchanged honest in
    let listed = listed_after s0 s1 folder c.in-Ok.entries.items c.as_slice.result.now all c.as_slice.ensures.value (c.in-Ok.ensures.stands honest) in
    let swept = c.sweep_files.ensures.swept (c.list.ensures.honest.0 honest) listed clean in
    let count = count_columns c.keys.result.now root.keys c.keys.ensures.are in
    let deep : length root.keys ≡ c.args.depth = omega (arith, count, c.if-depth-keys.true) in
    subst (λ (d : ℕ). LeavesSwept root d folder s0 s2) deep (swept_after root (length root.keys) folder s0 s1 s2 all swept)

pub sweep-loop-entry-preserved : goal.sweep-loop-entry-preserved
sweep-loop-entry-preserved g t c =
    let root = root_of c.args.manifest.now in
    let folder = c.args.folder.now in
    let entry = c.entry-item.result in
    let s0 = g.D.Disk.state c.list.new.self.disk in
    let s1 = g.D.Disk.state c.loop-entry.vault.disk in
    let s2 = g.D.Disk.state c.sweep_below-swept.new.vault.disk in
    record {
      step = steps_on root s0 s1 s2 c.loop-entry.invariant.step c.sweep_below-swept.ensures.effect;
      told = λ clean.
          let both : (c.loop-entry.clean ≡ true) × (c.sweep_below-swept.result ≡ true)
          = elim c.if-clean.branch [ sweep-then-clean w ↦ (w.if-clean.true, sym w.clean-is ∙ clean) | sweep-else-clean w ↦ absurd (false≢true (sym w.if-clean.false ∙ sym w.clean-is ∙ clean)) ] in
          c.sweep_below-swept.ensures.told both.1 ∙ c.loop-entry.invariant.told both.0;
      swept = λ honest clean.
          let both : (c.loop-entry.clean ≡ true) × (c.sweep_below-swept.result ≡ true)
          = elim c.if-clean.branch [ sweep-then-clean w ↦ (w.if-clean.true, sym w.clean-is ∙ clean) | sweep-else-clean w ↦ absurd (false≢true (sym w.if-clean.false ∙ sym w.clean-is ∙ clean)) ] in
          let one = c.sweep_below-swept.ensures.swept (c.loop-entry.invariant.step.honest.0 honest) both.1 in
          more_so_far (IsBelowSwept root (c.args.depth + 1) folder) c.deref-entry-items.result.now c.loop-entry.entry-index entry c.loop-entry-test.true c.entry-item.is s0 s1 s2
          (below_lasts root (c.args.depth + 1) folder s1 s2 one.files) (c.loop-entry.invariant.swept honest both.0) one.files one.parts;
    }

pub sweep-returns-clause-effect : goal.sweep-returns-clause-effect
sweep-returns-clause-effect g t c =
    let root = root_of c.args.manifest.now in
    let s0 = g.D.Disk.state c.args.vault.now.disk in
    let s1 = g.D.Disk.state c.list.new.self.disk in
    steps_on root s0 s1 (g.D.Disk.state c.loop-entry.vault.disk) (read_step root s0 s1 c.list.ensures.unchanged c.list.ensures.counts.later c.list.ensures.reads c.list.ensures.honest) c.loop-entry.invariant.step

pub sweep-returns-clause-swept : goal.sweep-returns-clause-swept
sweep-returns-clause-swept g t c = λ honest clean.
    let root = root_of c.args.manifest.now in
    let folder = c.args.folder.now in
    let entries = c.deref-entry-items.result.now in
    let s0 = g.D.Disk.state c.args.vault.now.disk in
    let s1 = g.D.Disk.state c.list.new.self.disk in
    let s2 = g.D.Disk.state c.loop-entry.vault.disk in
    let all = c.list.ensures.unchanged honest in
    let h1 = c.list.ensures.honest.0 honest in
    let listed = listed_after s0 s1 folder c.in-Ok.entries.items entries all c.deref-entry-items.ensures.value (c.in-Ok.ensures.stands honest) in
    let count = count_columns c.keys.result.now root.keys c.keys.ensures.are in
    let deep : c.args.depth < length root.keys = omega (arith, count, c.if-depth-keys.false) in
    swept_after root c.args.depth folder s0 s1 s2 all
    (below_swept root folder entries s1 s2 (g.met.D.Disk.lawful c.list.new.self.disk) h1 listed c.args.depth c.loop-entry.entry-index deep (omega arith) (c.loop-entry.invariant.swept h1 clean))

pub sweep_below-returns-in-Ok-Some-clause-swept : goal.sweep_below-returns-in-Ok-Some-clause-swept
sweep_below-returns-in-Ok-Some-clause-swept g t c = λ honest clean.
    let root = root_of c.args.manifest.now in
    let folder = c.args.folder.now in
    let entry = c.args.entry.now in
    let keys = key_columns_view c.split_at.result.0.now in
    let s2 = g.D.Disk.state c.sweep.new.vault.disk in
    let swept = c.sweep.ensures.swept honest clean in
    let below = MatchOption-at_some (IsNoneBelow keys folder entry) (IsBelow keys folder entry) c.in-Ok-Some.below c.in-Ok-Some.field-0-is c.in-Ok-Some.ensures.stands in
    record {
      files = swept.files;
      parts = λ is_folder. subst (λ (f : List ℕ). IsSwept root (c.args.depth + 1) f s2) (c.as_str.ensures.value ∙ below.0) swept.parts;
    }

pub sweep_below-returns-in-Ok-None-clause-swept : goal.sweep_below-returns-in-Ok-None-clause-swept
sweep_below-returns-in-Ok-None-clause-swept g t c = λ honest clean.
    let root = root_of c.args.manifest.now in
    let folder = c.args.folder.now in
    let entry = c.args.entry.now in
    let keys = key_columns_view c.split_at.result.0.now in
    let none = MatchOption-at_none (IsNoneBelow keys folder entry) (IsBelow keys folder entry) c.in-Ok-None.field-0-is c.in-Ok-None.ensures.stands in
    none_swept root (c.args.depth + 1) folder entry (g.D.Disk.state c.args.vault.now.disk)
    (subst (λ (ks : List KeyColumn). IsNoneBelow ks folder entry) (columns_front (c.args.depth + 1) c.keys.result.now c.split_at.result.0.now root.keys c.split_at.ensures.front c.keys.ensures.are) none)
