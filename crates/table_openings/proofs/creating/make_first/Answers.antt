use Rattle.std.proofs.Common.{◌≡◌}
use Rattle.bits.specs.Refusals.{HasCause, RefusedOnly}
use Rattle.bits.specs.declared.refusal.Refusal.TheVariants.{Limit}
use Rattle.vault.proofs.Chained.{refused}
use Rattle.table_commits.proofs.GroupRemovals.{memory_so}
use Rattle.table_openings.proofs.AfterCreations.{is_first}
use Rattle.table_openings.proofs.creating.make_first.Goals as goal

pub returns-clause-made : goal.returns-clause-made
returns-clause-made c =
    is_first c.args.schema _ (record { manifest = c.in_ok-manifest.manifest; root = c.in_ok-root.root; versions = c.in_ok-versions.versions })
    c.in_ok-manifest.ensures.made c.in_ok-manifest.ensures.described c.in_ok-root.ensures.means c.in_ok-versions.ensures.are

pub returns-in_err-versions-clause-which : goal.returns-in_err-versions-clause-which
returns-in_err-versions-clause-which c =
    let e = c.in_err-versions.field-0.0 in
    refused (λ r. RefusedOnly (λ f. f ≡ Limit) r) c.from_residual-in_err-versions.result e c.from_residual-in_err-versions.ensures.1
    (memory_so e c.in_err-versions.ensures.which (λ f. HasCause (λ g. g ≡ Limit) f) tt)
