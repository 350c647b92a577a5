use Rattle.std.proofs.Common.{◌∙◌, Err, refl, ap}
use Rattle.vault.proofs.Chained.{refused as passed}
use Rattle.gather.specs.GatheredRows.{schema_of, columns_of}
use Rattle.manifest.specs.Groups.{Root, root_of}
use Rattle.table_commits.specs.Gathering.{AreGatheredFor}
use Rattle.answers.specs.Importing.{files_view, joined, ImportsFrom, all_in, none_in, no_memory}
use Rattle.answers.proofs.FilesGathered.{is_memory, stops_for, means_for}
use Rattle.answers.proofs.importing.import_files.Goals as goal

pub returns-in_err-table : goal.returns-in_err-table
returns-in_err-table g c = record {
  imports = λ honest s stands.
      let old = c.args.store.now in
      let e = c.in_err-table.field-0.0 in
      passed (λ r. ImportsFrom g.D.Disk.state old old (files_view c.args.files.now) r s) c.from_residual.result e c.from_residual.ensures.1
      (no_memory (ap Err (is_memory e c.in_err-table.ensures.which)) refl);
}

pub returns-in_err-gathered : goal.returns-in_err-gathered
returns-in_err-gathered g c = record {
  imports = λ honest s stands.
      let old = c.args.store.now in
      let e = c.in_err-gathered.field-0.0 in
      passed (λ r. ImportsFrom g.D.Disk.state old old (files_view c.args.files.now) r s) c.from_residual-in_err-gathered.result e c.from_residual-in_err-gathered.ensures.1
      (no_memory (ap Err (is_memory e c.in_err-gathered.ensures.which)) refl);
}

pub returns-in_err-gather_files : goal.returns-in_err-gather_files
returns-in_err-gather_files g c = record {
  imports = λ honest s stands.
      let old = c.args.store.now in
      let files = files_view c.args.files.now in
      let e = c.in_err-gather_files.field-0.0 in
      let begun = c.in_ok-gathered.gathered in
      let table = c.in_ok-gathered.ensures.table in
      let same = c.in_ok-table.ensures.same in
      let schema = table.schema ∙ ap (λ (r : Root). r.schema) same ∙ stands.shows.schema in
      let columns = table.columns ∙ ap (λ (r : Root). r.keys) same ∙ stands.shows.keys in
      let stops = c.in_err-gather_files.ensures.gathers c.in_ok-gathered.ensures.begins in
      passed (λ r. ImportsFrom g.D.Disk.state old old files r s) c.from_residual-in_err-gather_files.result e c.from_residual-in_err-gather_files.ensures.1
      (none_in e refl refl (stops_for s.table.schema (schema_of begun) s.table.keys (columns_of begun) schema columns files e stops));
}

pub returns : goal.returns
returns g c = record {
  imports = λ honest s stands.
      let files = files_view c.args.files.now in
      let begun = c.in_ok-gathered.gathered in
      let table = c.in_ok-gathered.ensures.table in
      let same = c.in_ok-table.ensures.same in
      let has = c.in_ok-gather_files.ensures.gathers c.in_ok-gathered.ensures.begins in
      let kept = c.in_ok-gather_files.ensures.table in
      let schema = table.schema ∙ ap (λ (r : Root). r.schema) same ∙ stands.shows.schema in
      let columns = table.columns ∙ ap (λ (r : Root). r.keys) same ∙ stands.shows.keys in
      let for_it : AreGatheredFor (root_of c.args.store.now.manifest) c.args.store.now.options c.gather_files.new.gathered = record {
        schema = kept.schema ∙ table.schema ∙ ap (λ (r : Root). r.schema) same;
        columns = kept.columns ∙ table.columns ∙ ap (λ (r : Root). r.keys) same;
        size = kept.size ∙ table.size ∙ ap (λ o. o.group_rows) c.options.ensures;
      } in
      all_in has.rows (means_for s.table.schema (schema_of begun) s.table.keys (columns_of begun) schema columns files has.rows has.mean)
      (c.append_gathered.ensures.acts (joined has.rows) has.held for_it honest s stands);
}
