use Rattle.std.proofs.Common.{◌++◌, List, sym, subst, refl, ◌∙◌}
use Rattle.vault.proofs.Chained.{refused as passed}
use Rattle.lists.proofs.Lists.{all_append}
use Rattle.schema.specs.Keys.{KeyColumn, key_of_row}
use Rattle.schema.specs.Values.{ValueTrees}
use Rattle.partition.specs.Folders.{CanPartition}
use Rattle.partition.specs.Splitting.{HaveKeys}
use Rattle.gather.specs.GatheredRows.{schema_of, columns_of}
use Rattle.answers.specs.Importing.{not_read, no_folder}
use Rattle.answers.specs.inner.GatheredFiles.{TakesFile}
use Rattle.answers.proofs.FilesGathered.{no_fault, a_fault}
use Rattle.answers.proofs.importing.gather_next.Goals as goal

pub returns-in_err-gather_file-clause-gathers : goal.returns-in_err-gather_file-clause-gathers
returns-in_err-gather_file-clause-gathers c = λ before held keyed.
    let g = c.args.gathered.now in
    passed (λ r. TakesFile (schema_of g) (columns_of g) before c.args.bytes.now c.gather_file.new.gathered r) c.from_residual.result c.in_err-gather_file.field-0.0 c.from_residual.ensures.1
    (not_read c.in_err-gather_file.ensures.which)

pub returns-then-is_some-clause-gathers : goal.returns-then-is_some-clause-gathers
returns-then-is_some-clause-gathers c = λ before held keyed.
    let keys = columns_of c.args.gathered.now in
    let new = c.gather_file.new.gathered in
    let got = c.in_ok-gather_file.ensures.read before held in
    let all = before ++ got.rows in
    let same = c.in_ok-gather_file.ensures.table.columns in
    let faulty = a_fault new all c.fault.result (c.fault.ensures.first all got.held) (sym c.is_some.ensures ∙ c.if-is_some.true) in
    no_folder got.rows got.means
    (λ fine. faulty (subst (λ (ks : List KeyColumn). HaveKeys ks all) (sym same)
    (all_append (λ (row : ValueTrees). CanPartition keys (key_of_row keys row)) before got.rows keyed fine))) refl

pub returns-clause-gathers : goal.returns-clause-gathers
returns-clause-gathers c = λ before held keyed.
    let new = c.gather_file.new.gathered in
    let got = c.in_ok-gather_file.ensures.read before held in
    let all = before ++ got.rows in
    let fine = no_fault new all c.fault.result (c.fault.ensures.first all got.held) (sym c.is_some.ensures ∙ c.if-is_some.false) in
    (got.rows, got.means, got.held, subst (λ (ks : List KeyColumn). HaveKeys ks all) c.in_ok-gather_file.ensures.table.columns fine)
