use Rattle.std.proofs.Common.{◌≡◌, ◌+◌, ◌++◌, ◌∷◌, [], List, Vec, Global, ℕ, suc, take, drop, refl, sym, subst, ◌∙◌, arith}
use Rattle.std.proofs.lemmas.List.{take_all}
use Rattle.lists.proofs.Slices.{map_take_next as taken}
use Rattle.vault.proofs.Chained.{refused as passed}
use Rattle.schema.specs.Keys.{KeyColumn}
use Rattle.partition.specs.Splitting.{HaveKeys}
use Rattle.gather.specs.GatheredRows.{schema_of, columns_of}
use Rattle.answers.specs.Importing.{files_view, joined, StopsAtFile}
use Rattle.answers.specs.inner.GatheredFiles.{HoldsFiles, GathersFiles}
use Rattle.answers.proofs.FilesGathered.{split_files, holds_more, stops_here, gathered_for, refused_for}
use Rattle.answers.proofs.importing.gather_files.Goals as goal

pub loop-place-init : goal.loop-place-init
loop-place-init c = record {
  gathers = λ held. record { rows = []; mean = tt; held = held; keyed = tt };
  table = record { schema = refl; columns = refl; size = refl };
}

pub loop-place-preserved : goal.loop-place-preserved
loop-place-preserved c =
    let l = c.loop-place in
    let fs = schema_of c.args.gathered.now in
    let keys = columns_of c.args.gathered.now in
    let all = c.args.files.now in
    let file = c.index-files-place.result in
    let new = c.gather_at.new.gathered in
    let table = l.invariant.table in
    let grown : files_view (take (l.place + 1) all) ≡ files_view (take l.place all) ++ file.items ∷ [] = taken (λ (f : Vec ℕ Global). f.items) all l.place file c.loop-place-test.true c.index-files-place.is in
    record {
      gathers = λ held.
          let has = l.invariant.gathers held in
          let before = joined has.rows in
          let one = c.in_ok-gather_at.ensures.gathers before has.held (subst (λ (ks : List KeyColumn). HaveKeys ks before) (sym table.columns) has.keyed) in
          let here = gathered_for fs (schema_of l.gathered) keys (columns_of l.gathered) table.schema table.columns before _ file.items new c.as_slice.ensures.value one in
          subst (λ (files : List (List ℕ)). HoldsFiles fs keys files new) (sym grown) (holds_more fs keys (files_view (take l.place all)) file.items l.gathered new has here);
      table = let kept = c.in_ok-gather_at.ensures.table in record { schema = kept.schema ∙ table.schema; columns = kept.columns ∙ table.columns; size = kept.size ∙ table.size };
    }

pub returns-in_err-gather_at-clause-gathers : goal.returns-in_err-gather_at-clause-gathers
returns-in_err-gather_at-clause-gathers c = λ held.
    let l = c.loop-place in
    let fs = schema_of c.args.gathered.now in
    let keys = columns_of c.args.gathered.now in
    let all = c.args.files.now in
    let file = c.index-files-place.result in
    let new = c.gather_at.new.gathered in
    let e = c.in_err-gather_at.field-0.0 in
    let table = l.invariant.table in
    let has = l.invariant.gathers held in
    let before = joined has.rows in
    let one = c.in_err-gather_at.ensures.gathers before has.held (subst (λ (ks : List KeyColumn). HaveKeys ks before) (sym table.columns) has.keyed) in
    let why = refused_for fs (schema_of l.gathered) keys (columns_of l.gathered) table.schema table.columns _ file.items e c.as_slice.ensures.value one in
    let stops = stops_here fs keys (files_view (take l.place all)) file.items (files_view (drop (suc l.place) all)) e l.gathered has why in
    passed (λ r. GathersFiles fs keys (files_view all) new r) c.from_residual.result e c.from_residual.ensures.1
    (subst (λ (files : List (List ℕ)). StopsAtFile fs keys files e) (sym (split_files all l.place file c.loop-place-test.true c.index-files-place.is)) stops)

pub returns-in_err-gather_at-clause-table : goal.returns-in_err-gather_at-clause-table
returns-in_err-gather_at-clause-table c =
    let table = c.loop-place.invariant.table in
    let kept = c.in_err-gather_at.ensures.table in
    record { schema = kept.schema ∙ table.schema; columns = kept.columns ∙ table.columns; size = kept.size ∙ table.size }

pub returns-clause-gathers : goal.returns-clause-gathers
returns-clause-gathers c = λ held.
    let l = c.loop-place in
    let all = c.args.files.now in
    subst (λ (files : List (Vec ℕ Global)). HoldsFiles (schema_of c.args.gathered.now) (columns_of c.args.gathered.now) (files_view files) l.gathered) (take_all l.place all (omega (arith, c.loop-place-test.false)))
    (l.invariant.gathers held)
