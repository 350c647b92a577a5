use Rattle.std.proofs.Common.{◌≡◌, ℕ, length, subst, arith}
use Rattle.std.proofs.lemmas.List.{length-map}
use Rattle.bits.specs.Refusals.{IsFault}
use Rattle.bits.specs.Codec.{NothingStands}
use Rattle.bits.proofs.Passing.{passes}
use Rattle.schema.specs.Values.{view}
use Rattle.dictionary.specs.Entries.{entries_of}
use Rattle.dictionary.specs.IndexPages.{IsIndexPage, AreIndexed}
use Rattle.dictionary.proofs.Pages.{no_values}
use Rattle.dictionary.proofs.dictionary.Dictionary.decode_refs.Goals as goal

pub returns-in_err-indexes-clause-only : goal.returns-in_err-indexes-clause-only
returns-in_err-indexes-clause-only c =
    let d = c.args.self.now in
    let size : c.len.result ≡ length (entries_of d) = omega (arith, length-map d.entries.items view, c.len.ensures, d.entries.ok.0) in
    passes (λ e. IsFault e → NothingStands (AreIndexed (entries_of d) c.args.bytes.now c.args.n)) c.from_residual.result c.in_err-indexes.field-0.0 c.from_residual.ensures.1
    (λ fault. no_values (entries_of d) c.args.n c.args.bytes.now (subst (λ (k : ℕ). NothingStands (IsIndexPage k c.args.bytes.now c.args.n)) size (c.in_err-indexes.ensures.only fault)))
