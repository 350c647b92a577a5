use Rattle.std.proofs.Common.{◌≡◌, ◌++◌, ◌∷◌, ◌⊎◌, [], List, length, refl, ap, sym, ◌∙◌, subst, arith, inr}
use Rattle.std.proofs.lemmas.List.{nil_from_length, append-nil}
use Rattle.std.specs.Vec.Iter.{into_iter_items}
use Rattle.lists.proofs.Booleans.{iff_through as both}
use Rattle.bits.specs.Refusals.{HasCause}
use Rattle.schema.specs.Keys.{AreRowsOf}
use Rattle.vault.proofs.Chained.{refused}
use Rattle.partition.specs.Splitting.{KeyRows}
use Rattle.gather.specs.declared.key_buffer.KeyBuffer.{KeyBuffer}
use Rattle.gather.specs.Groups.{full_groups}
use Rattle.gather.specs.KeyBuffers.{HoldsRows, Hold}
use Rattle.manifest.specs.Groups.{Group as FileGroup, Root, root_of, handles_view}
use Rattle.manifest.specs.Root.{CanHave, stored_of}
use Rattle.table.specs.Table.{Key}
use Rattle.table_state.specs.declared.standing.Core.{Core}
use Rattle.table_commits.specs.Filling.{HasWritten, EndsWith, TakesWith, written_group}
use Rattle.table_commits.specs.Writing.{IsPartRefusal}
use Rattle.table_commits.proofs.GatheredGroupsWritten.{IsAtTheRest, IsOnTheWay, at_first, next_of, next_of_full, none_left, no_full_left, held_next, none_held}
use Rattle.table_commits.proofs.gathered_groups.write_groups.Goals as goal

pub loop-group-init : goal.loop-group-init
loop-group-init g c =
    let given = c.into_iter-group-iterator.ensures.into_iter_gives in
    let old = c.args.store.now in
    let fields = stored_of (root_of old.manifest) in
    let none = sym (ap handles_view c.new-written.ensures.items) in
    record {
      many = given.1 ∙ (c.args.groups.ok.0 ∙ ap length (sym given.0));
      rises = let all = ap length given.0 in omega (arith, all);
      same = refl;
      failures = omega arith;
      honest = (λ h. h, λ h. h);
      fit = subst (λ (fs : List FileGroup). CanHave (root_of old.manifest) fs) none tt;
      fills = λ honest start s rows is_open fine holds has same. (
        holds.groups,
        subst (λ (bs : List KeyBuffer). Hold fields bs holds.groups) (sym given.0) holds.held,
        inr (at_first g.D.Disk.state start old s c.args.job (handles_view c.new-written.result.items) rows holds.are.rests holds.groups
            (subst (λ (fs : List FileGroup). HasWritten g.D.Disk.state start old s c.args.job fs []) none has) same holds.are.parts),
      );
      takes = λ honest start s rows is_open fine held has same. (
        full_groups s.table.keys s.options.group_rows rows,
        subst (λ (bs : List KeyBuffer). Hold fields bs (full_groups s.table.keys s.options.group_rows rows)) (sym given.0) held,
        at_first g.D.Disk.state start old s c.args.job (handles_view c.new-written.result.items) rows [] (full_groups s.table.keys s.options.group_rows rows)
            (subst (λ (fs : List FileGroup). HasWritten g.D.Disk.state start old s c.args.job fs []) none has) same (sym (append-nil (full_groups s.table.keys s.options.group_rows rows))),
      );
    }

pub returns-in_err-write_gathered-clause-writes : goal.returns-in_err-write_gathered-clause-writes
returns-in_err-write_gathered-clause-writes g c honest start s rows is_open fine holds has same =
    let at = c.loop-group in
    let so_far = at.invariant in
    let mid = at.store in
    let new = c.write_gathered.new.store in
    let fields = stored_of (root_of c.args.store.now.manifest) in
    let files = handles_view at.written.items in
    let rests = holds.are.rests in
    let x = c.in-Some.group in
    let now = so_far.fills honest start s rows is_open fine holds has same in
    let left = held_next fields x (into_iter_items c.next.new.self) now.0 (subst (λ (bs : List KeyBuffer). Hold fields bs now.0) c.in-Some.ensures.steps.0 now.1) in
    let group = left.group in
    let way = subst (λ (gs : List KeyRows). IsAtTheRest g.D.Disk.state start mid s c.args.job files rows gs ⊎ IsOnTheWay g.D.Disk.state start mid s c.args.job files rows rests gs) left.is now.2 in
    let next = next_of g.D.Disk.state start mid s c.args.job files rows group rests left.later holds.are.are fine way in
    let held = subst (λ (st : Core g.row.D.Denot). HoldsRows (stored_of (root_of st.manifest)) group.rows x) (sym so_far.same) left.here.rows in
    let are = subst (λ (k : Key). AreRowsOf s.table.keys k group.rows next.mine) (sym left.here.key) next.are in
    let failed = c.in_err-write_gathered in
    let adds = failed.ensures.adds (so_far.honest.0 honest) start s next.groups group.rows next.mine is_open next.has held are in
    let cause = subst (λ (k : Key). HasCause (IsPartRefusal mid c.args.job k group.rows) failed.field-0.0) left.here.key (failed.ensures.which group.rows held) in
    refused (λ r. EndsWith g.D.Disk.state start new s c.args.job rows r) c.from_residual.result _ c.from_residual.ensures.1 (next.refused new failed.field-0.0 cause adds.0 adds.1 adds.2)

pub returns-in_err-write_gathered-clause-takes : goal.returns-in_err-write_gathered-clause-takes
returns-in_err-write_gathered-clause-takes g c honest start s rows is_open fine holds has same =
    let at = c.loop-group in
    let so_far = at.invariant in
    let mid = at.store in
    let new = c.write_gathered.new.store in
    let fields = stored_of (root_of c.args.store.now.manifest) in
    let files = handles_view at.written.items in
    let x = c.in-Some.group in
    let now = so_far.takes honest start s rows is_open fine holds has same in
    let left = held_next fields x (into_iter_items c.next.new.self) now.0 (subst (λ (bs : List KeyBuffer). Hold fields bs now.0) c.in-Some.ensures.steps.0 now.1) in
    let group = left.group in
    let way = subst (λ (gs : List KeyRows). IsOnTheWay g.D.Disk.state start mid s c.args.job files rows [] gs) left.is now.2 in
    let next = next_of_full g.D.Disk.state start mid s c.args.job files rows group left.later fine way in
    let held = subst (λ (st : Core g.row.D.Denot). HoldsRows (stored_of (root_of st.manifest)) group.rows x) (sym so_far.same) left.here.rows in
    let are = subst (λ (k : Key). AreRowsOf s.table.keys k group.rows next.mine) (sym left.here.key) next.are in
    let failed = c.in_err-write_gathered in
    let adds = failed.ensures.adds (so_far.honest.0 honest) start s next.groups group.rows next.mine is_open next.has held are in
    let cause = subst (λ (k : Key). HasCause (IsPartRefusal mid c.args.job k group.rows) failed.field-0.0) left.here.key (failed.ensures.which group.rows held) in
    refused (λ r. TakesWith g.D.Disk.state start new s c.args.job rows r) c.from_residual.result _ c.from_residual.ensures.1 (next.refused new failed.field-0.0 cause adds.0 adds.1 adds.2)

pub loop-group-preserved : goal.loop-group-preserved
loop-group-preserved g c =
    let at = c.loop-group in
    let so_far = at.invariant in
    let mid = at.store in
    let new = c.write_gathered.new.store in
    let done = c.in_ok-write_gathered in
    let fields = stored_of (root_of c.args.store.now.manifest) in
    let files = handles_view at.written.items in
    let more = handles_view c.write_gathered.new.written.items in
    let x = c.in-Some.group in
    record {
      many = let gone = c.in-Some.ensures.steps.1 in let short = ap length c.in-Some.ensures.steps.0 in let was = so_far.many in omega (arith, gone, short, was);
      rises = let short = ap length c.in-Some.ensures.steps.0 in let was = so_far.rises in let up = done.ensures.rises in omega (arith, short, was, up);
      same = done.ensures.same ∙ ap (λ (st : Core g.row.D.Denot). record st { vault = new.vault; snapshots = new.snapshots; next_group = new.next_group }) so_far.same;
      failures = omega (arith, so_far.failures, done.ensures.counts);
      honest = both so_far.honest done.ensures.honest;
      fit = subst (λ (r : Root). CanHave r files → CanHave r more) (ap (λ (st : Core g.row.D.Denot). root_of st.manifest) so_far.same) done.ensures.fit so_far.fit;
      fills = λ honest start s rows is_open fine holds has same.
          let rests = holds.are.rests in
          let now = so_far.fills honest start s rows is_open fine holds has same in
          let left = held_next fields x (into_iter_items c.next.new.self) now.0 (subst (λ (bs : List KeyBuffer). Hold fields bs now.0) c.in-Some.ensures.steps.0 now.1) in
          let group = left.group in
          let way = subst (λ (gs : List KeyRows). IsAtTheRest g.D.Disk.state start mid s c.args.job files rows gs ⊎ IsOnTheWay g.D.Disk.state start mid s c.args.job files rows rests gs) left.is now.2 in
          let next = next_of g.D.Disk.state start mid s c.args.job files rows group rests left.later holds.are.are fine way in
          let held = subst (λ (st : Core g.row.D.Denot). HoldsRows (stored_of (root_of st.manifest)) group.rows x) (sym so_far.same) left.here.rows in
          let are = subst (λ (k : Key). AreRowsOf s.table.keys k group.rows next.mine) (sym left.here.key) next.are in
          let adds = done.ensures.adds (so_far.honest.0 honest) start s next.groups group.rows next.mine is_open next.has held are in
          let wrote = subst (λ (k : Key). HasWritten g.D.Disk.state start new s c.args.job more (next.groups ++ written_group mid.next_group k next.mine ∷ [])) left.here.key adds.0 in
          (left.later, left.others, next.written new more wrote adds.1);
      takes = λ honest start s rows is_open fine holds has same.
          let now = so_far.takes honest start s rows is_open fine holds has same in
          let left = held_next fields x (into_iter_items c.next.new.self) now.0 (subst (λ (bs : List KeyBuffer). Hold fields bs now.0) c.in-Some.ensures.steps.0 now.1) in
          let group = left.group in
          let way = subst (λ (gs : List KeyRows). IsOnTheWay g.D.Disk.state start mid s c.args.job files rows [] gs) left.is now.2 in
          let next = next_of_full g.D.Disk.state start mid s c.args.job files rows group left.later fine way in
          let held = subst (λ (st : Core g.row.D.Denot). HoldsRows (stored_of (root_of st.manifest)) group.rows x) (sym so_far.same) left.here.rows in
          let are = subst (λ (k : Key). AreRowsOf s.table.keys k group.rows next.mine) (sym left.here.key) next.are in
          let adds = done.ensures.adds (so_far.honest.0 honest) start s next.groups group.rows next.mine is_open next.has held are in
          let wrote = subst (λ (k : Key). HasWritten g.D.Disk.state start new s c.args.job more (next.groups ++ written_group mid.next_group k next.mine ∷ [])) left.here.key adds.0 in
          (left.later, left.others, next.written new more wrote adds.1);
    }

pub returns-clause-writes : goal.returns-clause-writes
returns-clause-writes g c honest start s rows is_open fine holds has same =
    let at = c.loop-group in
    let fields = stored_of (root_of c.args.store.now.manifest) in
    let files = handles_view at.written.items in
    let rests = holds.are.rests in
    let now = at.invariant.fills honest start s rows is_open fine holds has same in
    let empty : into_iter_items at.group-iterator ≡ [] = nil_from_length (into_iter_items at.group-iterator) (sym at.invariant.many ∙ c.in-None.ensures.steps.0) in
    let none = none_held fields now.0 (subst (λ (bs : List KeyBuffer). Hold fields bs now.0) empty now.1) in
    none_left g.D.Disk.state start at.store s c.args.job files rows rests holds.are.are fine
    (subst (λ (gs : List KeyRows). IsAtTheRest g.D.Disk.state start at.store s c.args.job files rows gs ⊎ IsOnTheWay g.D.Disk.state start at.store s c.args.job files rows rests gs) none now.2)

pub returns-clause-takes : goal.returns-clause-takes
returns-clause-takes g c honest start s rows is_open fine holds has same =
    let at = c.loop-group in
    let fields = stored_of (root_of c.args.store.now.manifest) in
    let files = handles_view at.written.items in
    let now = at.invariant.takes honest start s rows is_open fine holds has same in
    let empty : into_iter_items at.group-iterator ≡ [] = nil_from_length (into_iter_items at.group-iterator) (sym at.invariant.many ∙ c.in-None.ensures.steps.0) in
    let none = none_held fields now.0 (subst (λ (bs : List KeyBuffer). Hold fields bs now.0) empty now.1) in
    no_full_left g.D.Disk.state start at.store s c.args.job files rows fine
    (subst (λ (gs : List KeyRows). IsOnTheWay g.D.Disk.state start at.store s c.args.job files rows [] gs) none now.2)
