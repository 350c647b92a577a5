use Rattle.std.proofs.Common.{◌≡◌, List, Result, length, drop, ap, sym, ◌∙◌, subst, arith}
use Rattle.std.specs.Prelude.{Some, IfOk}
use Rattle.std.specs.Rc.{rc_value}
use Rattle.std.specs.declared.rc.Rc.{Rc}
use Rattle.std.specs.declared.alloc.Global.{Global}
use Rattle.std.proofs.lemmas.List.{length-map, length-append}
use Rattle.lists.proofs.Options.{on_ok_always}
use Rattle.bits.specs.declared.refusal.Refusal.{Refusal}
use Rattle.vault.proofs.Chained.{refused}
use Rattle.manifest.specs.declared.group.Group.{Group as CodeGroup}
use Rattle.manifest.specs.Groups.{Group as FileGroup, root_of, group_view, handles_view, numbers_of}
use Rattle.manifest.specs.Root.{CanHave}
use Rattle.planning.specs.declared.change.Run.{Run as CodeRun}
use Rattle.planning.specs.Replaced.{run_view}
use Rattle.table_state.specs.Lookups.{job_at}
use Rattle.table_jobs.specs.Rewritten.{AreSources, RewritesOne}
use Rattle.table_jobs.proofs.RunByRun.{one_made, come_told, behind_first}
use Rattle.table_jobs.proofs.rewritten.rewrite_one.Goals as goal

pub split_at-requires : goal.split_at-requires
split_at-requires g c =
    let goes = c.in_ok-write_sources.ensures.goes in
    let now = c.write_sources.new.written.items in
    let a = ap (λ (gs : List FileGroup). length gs) goes.1 in
    let b = length-append (handles_view c.args.written.now.items) goes.0 in
    let d = length-map c.args.written.now.items (λ (h : Rc CodeGroup Global). group_view (rc_value h)) in
    let e = length-map now (λ (h : Rc CodeGroup Global). group_view (rc_value h)) in
    let f = ap (λ (xs : List (Rc CodeGroup Global)). length xs) c.as_slice-first.ensures.value in
    let h = ap (λ (xs : List (Rc CodeGroup Global)). length xs) c.as_slice-2.ensures.value in
    omega (arith, a, b, d, e, f, h)

pub returns-in_err-write_sources-clause-rewrites : goal.returns-in_err-write_sources-clause-rewrites
returns-in_err-write_sources-clause-rewrites g c honest start s groups given is_open same described has are is =
    let state = g.D.Disk.state in
    let n = c.args.job in
    let old = c.args.store.now in
    let new = c.write_sources.new.store in
    let was = handles_view c.args.written.now.items in
    let sources = subst (λ (xs : List (Rc CodeGroup Global)). AreSources (state start.vault.disk) s (job_at n start.jobs.items) c.args.place (handles_view xs) given) (sym c.as_slice.ensures.value) are in
    refused (λ (o : Result CodeRun Refusal). RewritesOne state start new s (Some n) was (handles_view c.write_sources.new.written.items) groups given old.next_group o) c.from_residual.result _ c.from_residual.ensures.1
    (c.in_err-write_sources.ensures.writes honest start s groups given is_open same described has sources is)

pub returns-clause-rewrites : goal.returns-clause-rewrites
returns-clause-rewrites g c honest start s groups given is_open same described has are is =
    let state = g.D.Disk.state in
    let n = c.args.job in
    let old = c.args.store.now in
    let new = c.write_sources.new.store in
    let was = handles_view c.args.written.now.items in
    let files = handles_view c.write_sources.new.written.items in
    let fs = handles_view c.args.run.now.groups.items in
    let sources = subst (λ (xs : List (Rc CodeGroup Global)). AreSources (state start.vault.disk) s (job_at n start.jobs.items) c.args.place (handles_view xs) given) (sym c.as_slice.ensures.value) are in
    let added = c.in_ok-write_sources.ensures.writes honest start s groups given is_open same described has sources is in
    let come = behind_first (length c.as_slice-first.result.now) c.args.written.now.items c.write_sources.new.written.items c.split_at.result.1.now (ap (λ (xs : List (Rc CodeGroup Global)). length xs) c.as_slice-first.ensures.value)
    (c.split_at.ensures.back ∙ ap (λ (xs : List (Rc CodeGroup Global)). drop (length c.as_slice-first.result.now) xs) c.as_slice-2.ensures.value) in
    let made = subst (λ (gs : List FileGroup). IfOk c.made_run.result (λ r. run_view r ≡ record { sources = numbers_of fs; come = gs })) come
    (subst (λ (xs : List (Rc CodeGroup Global)). IfOk c.made_run.result (λ r. run_view r ≡ record { sources = numbers_of (handles_view xs); come = handles_view c.split_at.result.1.now })) c.as_slice-3.ensures.value c.made_run.ensures.made) in
    one_made state start s n old new was files groups given fs c.args.place has are is old.next_group added c.made_run.result made c.made_run.ensures.which

pub returns-clause-come : goal.returns-clause-come
returns-clause-come g c =
    let was = handles_view c.args.written.now.items in
    let files = handles_view c.write_sources.new.written.items in
    let fs = handles_view c.as_slice-3.result.now in
    let come = behind_first (length c.as_slice-first.result.now) c.args.written.now.items c.write_sources.new.written.items c.split_at.result.1.now (ap (λ (xs : List (Rc CodeGroup Global)). length xs) c.as_slice-first.ensures.value)
    (c.split_at.ensures.back ∙ ap (λ (xs : List (Rc CodeGroup Global)). drop (length c.as_slice-first.result.now) xs) c.as_slice-2.ensures.value) in
    come_told was files (numbers_of fs) c.made_run.result (subst (λ (gs : List FileGroup). IfOk c.made_run.result (λ r. run_view r ≡ record { sources = numbers_of fs; come = gs })) come c.made_run.ensures.made) c.in_ok-write_sources.ensures.goes

pub returns-clause-fit : goal.returns-clause-fit
returns-clause-fit g c =
    let root = root_of c.args.store.now.manifest in
    on_ok_always (CanHave root (handles_view c.args.written.now.items) → CanHave root (handles_view c.write_sources.new.written.items)) c.made_run.result c.in_ok-write_sources.ensures.fit
