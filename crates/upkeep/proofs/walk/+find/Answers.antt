use Rattle.std.proofs.Common.{◌≡◌, ◌<◌, ◌+◌, List, ℕ, length, take, string_bytes, refl, sym, ◌∙◌, ap, subst, arith}
use Rattle.std.proofs.lemmas.Option.{MatchOption-at_some, MatchOption-at_none}
use Rattle.lists.proofs.Options.{on_ok_weaker as ok_map}
use Rattle.lists.proofs.Lists.{length_map as count_map}
use Rattle.schema.specs.Keys.{key_columns_view, KeyColumn, key_column_view}
use Rattle.folders.specs.Named.{IsIn}
use Rattle.folders.specs.Entries.{IsNoneBelow, IsBelow, IsKeyFolder}
use Rattle.upkeep.specs.inner.Walk.{Finds, FindsFiles, FindsBelow, paths_of}
use Rattle.upkeep.proofs.Looking.{looks_here, looks_then}
use Rattle.upkeep.proofs.Walking.{names_in, files_are, finds_before, below_before, nothing_so_far, more_so_far, below_are, none_below, folder_below, columns_front}
use Rattle.upkeep.proofs.walk.+find.Goals as goal

pub find-returns-then-depth-keys-clause-finds : goal.find-returns-then-depth-keys-clause-finds
find-returns-then-depth-keys-clause-finds g t c = λ honest.
    let keys = key_columns_view c.args.keys.now in
    let Named = IsIn c.args.named.now in
    let folder = c.args.folder.now in
    let s0 = g.D.Disk.state c.args.vault.now.disk in
    let old = paths_of c.args.found.now in
    let new = paths_of c.find_files.new.found in
    let entries = c.as_slice.result.now in
    let lawful = g.met.D.Disk.lawful c.args.vault.now.disk in
    let whole = lawful.whole honest s0.moment s0.seen (lawful.seen_may_stay honest) in
    let deep : length keys ≡ c.args.depth = count_map key_column_view c.args.keys.now ∙ sym (let e : c.args.depth ≡ length c.args.keys.now = omega arith in e) in
    let listed = names_in s0.seen s0.seen folder c.in_ok-entries.entries.items entries (λ q. refl) c.as_slice.ensures.value (c.in_ok-entries.ensures.stands honest) in
    ok_map (FindsFiles Named folder entries old new) (Finds keys Named c.args.depth folder s0.seen old new) c.find_files.result
    (λ finds. subst (λ (d : ℕ). Finds keys Named d folder s0.seen old new) deep (files_are keys Named s0.seen whole folder entries listed c.find_files.ensures.key old new finds)) c.find_files.ensures.finds

pub find-loop-entry-init : goal.find-loop-entry-init
find-loop-entry-init g t c =
    let s = g.D.Disk.state c.listed.new.vault.disk in
    record {
      looks = looks_here s;
      found = λ honest. nothing_so_far (key_columns_view c.args.keys.now) (IsIn c.args.named.now) (c.args.depth + 1) c.args.folder.now c.deref-entry-items.result.now s.seen (paths_of c.args.found.now);
    }

pub find-returns-in_err-find_below-clause-effect : goal.find-returns-in_err-find_below-clause-effect
find-returns-in_err-find_below-clause-effect g t c =
    let s0 = g.D.Disk.state c.args.vault.now.disk in
    let s1 = g.D.Disk.state c.listed.new.vault.disk in
    let s2 = g.D.Disk.state c.loop-entry.vault.disk in
    looks_then 0 0 s0 s1 (g.D.Disk.state c.find_below.new.vault.disk) c.listed.ensures.effect
    (looks_then 0 0 s1 s2 (g.D.Disk.state c.find_below.new.vault.disk) c.loop-entry.invariant.looks c.find_below.ensures.effect)

pub find-loop-entry-preserved : goal.find-loop-entry-preserved
find-loop-entry-preserved g t c =
    let keys = key_columns_view c.args.keys.now in
    let Named = IsIn c.args.named.now in
    let folder = c.args.folder.now in
    let entry = c.entry-item.result in
    let s0 = g.D.Disk.state c.listed.new.vault.disk in
    let s1 = g.D.Disk.state c.loop-entry.vault.disk in
    let s2 = g.D.Disk.state c.find_below.new.vault.disk in
    let old = paths_of c.args.found.now in
    let mid = paths_of c.loop-entry.found in
    let new = paths_of c.find_below.new.found in
    record {
      looks = looks_then 0 0 s0 s1 s2 c.loop-entry.invariant.looks c.find_below.ensures.effect;
      found = λ honest.
          let same = (c.loop-entry.invariant.looks.unchanged honest).names in
          let one = below_before keys Named s0.seen s1.seen same (c.args.depth + 1) folder entry mid new (c.in_ok-find_below.ensures.finds (c.loop-entry.invariant.looks.honest.0 honest)) in
          more_so_far keys Named (c.args.depth + 1) folder c.deref-entry-items.result.now c.loop-entry.entry-index entry c.loop-entry-test.true c.entry-item.is s0.seen old mid new (c.loop-entry.invariant.found honest) one;
    }

pub find-returns-clause-effect : goal.find-returns-clause-effect
find-returns-clause-effect g t c =
    looks_then 0 0 (g.D.Disk.state c.args.vault.now.disk) (g.D.Disk.state c.listed.new.vault.disk) (g.D.Disk.state c.loop-entry.vault.disk) c.listed.ensures.effect c.loop-entry.invariant.looks

pub find-returns-clause-finds : goal.find-returns-clause-finds
find-returns-clause-finds g t c = λ honest.
    let keys = key_columns_view c.args.keys.now in
    let Named = IsIn c.args.named.now in
    let folder = c.args.folder.now in
    let entries = c.deref-entry-items.result.now in
    let s0 = g.D.Disk.state c.args.vault.now.disk in
    let s1 = g.D.Disk.state c.listed.new.vault.disk in
    let old = paths_of c.args.found.now in
    let new = paths_of c.loop-entry.found in
    let same = (c.listed.ensures.effect.unchanged honest).names in
    let h1 = c.listed.ensures.effect.honest.0 honest in
    let lawful = g.met.D.Disk.lawful c.listed.new.vault.disk in
    let whole = lawful.whole h1 s1.moment s1.seen (lawful.seen_may_stay h1) in
    let count = count_map key_column_view c.args.keys.now in
    let listed = names_in s0.seen s1.seen folder c.in_ok-entries.entries.items entries same c.deref-entry-items.ensures.value (c.in_ok-entries.ensures.stands honest) in
    finds_before keys Named s0.seen s1.seen same c.args.depth folder old new
    (below_are keys Named s1.seen whole c.args.depth folder entries c.loop-entry.entry-index (omega (arith, count, c.if-depth-keys.false)) (omega arith) listed old new (c.loop-entry.invariant.found h1))

pub find_below-returns-in-Some-clause-finds : goal.find_below-returns-in-Some-clause-finds
find_below-returns-in-Some-clause-finds g t c = λ honest.
    let keys = key_columns_view c.args.keys.now in
    let Named = IsIn c.args.named.now in
    let folder = c.args.folder.now in
    let entry = c.args.entry.now in
    let cut = key_columns_view c.split_at.result.0.now in
    let image = (g.D.Disk.state c.args.vault.now.disk).seen in
    let old = paths_of c.args.found.now in
    let new = paths_of c.find.new.found in
    let below = MatchOption-at_some (IsNoneBelow cut folder entry) (IsBelow cut folder entry) c.in-Some.below c.in-Some.is c.in_ok-below.ensures.stands in
    ok_map (Finds keys Named (c.args.depth + 1) c.as_str.result.now image old new) (FindsBelow keys Named (c.args.depth + 1) folder entry image old new) c.find.result
    (folder_below keys Named (c.args.depth + 1) folder entry image old new c.as_str.result.now (c.as_str.ensures.value ∙ below.0)) (c.find.ensures.finds honest)

pub find_below-returns-in-None-clause-finds : goal.find_below-returns-in-None-clause-finds
find_below-returns-in-None-clause-finds g t c = λ honest.
    let keys = key_columns_view c.args.keys.now in
    let folder = c.args.folder.now in
    let entry = c.args.entry.now in
    let cut = key_columns_view c.split_at.result.0.now in
    let none = MatchOption-at_none (IsNoneBelow cut folder entry) (IsBelow cut folder entry) c.in-None.is c.in_ok-below.ensures.stands in
    none_below keys (IsIn c.args.named.now) (c.args.depth + 1) folder entry (g.D.Disk.state c.args.vault.now.disk).seen (paths_of c.args.found.now)
    (subst (λ (ks : List KeyColumn). IsNoneBelow ks folder entry) (columns_front (c.args.depth + 1) c.args.keys.now c.split_at.result.0.now c.split_at.ensures.front) none)
