use Rattle.std.proofs.Common.{◌≡◌, ◌∙◌, refl, sym, subst, inl, inr}
use Rattle.std.proofs.lemmas.Bool.{false≢true}
use Rattle.bits.specs.declared.refusal.Refusal.{Refusal}
use Rattle.bits.specs.declared.refusal.Refusal.TheVariants.{Memory}
use Rattle.bits.specs.Refusals.{IsFault}
use Rattle.bits.proofs.Passing.{passes}
use Rattle.schema.specs.Shape.{Fields}
use Rattle.footer.specs.File.{FileMeans}
use Rattle.gather.specs.GatheredRows.{schema_of}
use Rattle.table_commits.specs.Gathering.{IsNotRead}
use Rattle.table_commits.proofs.RowsGathered.{is_memory}
use Rattle.table_changes.proofs.ImportEnds.{file_fits}
use Rattle.table_changes.proofs.gathered_rows.gather_file.Goals as goal

pub returns-in_err-file-clause-which : goal.returns-in_err-file-clause-which
returns-in_err-file-clause-which c =
    passes (IsNotRead (schema_of c.args.gathered.now) c.args.bytes.now) c.from_residual.result c.in_err-file.field-0.0 c.from_residual.ensures.1 (inl (c.in_err-file.ensures.which, c.in_err-file.ensures.only))

pub returns-then-not-same_schema-clause-which : goal.returns-then-not-same_schema-clause-which
returns-then-not-same_schema-clause-which c =
    inr (inl (refl, λ rows means. false≢true (sym c.if-not-same_schema.true ∙ c.same_schema.ensures.1 (c.schema.ensures ∙ sym (c.in_ok-file.ensures.alone (schema_of c.args.gathered.now) rows means).0 ∙ sym c.schema-2.ensures))))

-- the rows of the file are accepted, so that only memory can run out
pub returns-in_err-gather_accepted-clause-which : goal.returns-in_err-gather_accepted-clause-which
returns-in_err-gather_accepted-clause-which c =
    let read = c.in_ok-file.ensures.stands in
    let e = c.in_err-gather_accepted.field-0.0 in
    passes (IsNotRead (schema_of c.args.gathered.now) c.args.bytes.now) c.from_residual-in_err-gather_accepted.result e c.from_residual-in_err-gather_accepted.ensures.1
    (inr (inr (is_memory e (c.in_err-gather_accepted.ensures.only read.0 read.2))))

pub returns-in_err-gather_accepted-clause-same : goal.returns-in_err-gather_accepted-clause-same
returns-in_err-gather_accepted-clause-same c =
    let read = c.in_ok-file.ensures.stands in
    let e = c.in_err-gather_accepted.field-0.0 in
    let memory : e ≡ Memory = is_memory e (c.in_err-gather_accepted.ensures.only read.0 read.2) in
    passes (λ (f : Refusal). IsFault f → c.gather_accepted.new.gathered ≡ c.args.gathered.now) c.from_residual-in_err-gather_accepted.result e c.from_residual-in_err-gather_accepted.ensures.1
    (λ fault. absurd (subst IsFault memory fault))

pub returns-clause-read : goal.returns-clause-read
returns-clause-read c = λ before held.
    let fs = schema_of c.args.gathered.now in
    let read = c.in_ok-file.ensures.stands in
    let here = sym c.schema.ensures ∙ c.same_schema.ensures.0 c.if-not-same_schema.false ∙ c.schema-2.ensures in
    let means = subst (λ (gs : Fields). FileMeans c.args.bytes.now gs read.0) here read.1 in
    record { rows = read.0; means = means; held = c.in_ok-gather_accepted.ensures.held before read.0 held read.2 (file_fits c.args.bytes.now fs read.0 means) }
