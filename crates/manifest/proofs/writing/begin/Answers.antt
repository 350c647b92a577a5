use Rattle.std.proofs.Common.{◌≡◌}
use Rattle.bits.specs.declared.refusal.Refusal.TheVariants.{Thrift}
use Rattle.metadata.specs.Kept.{EachKeepsWritten}
use Rattle.metadata.specs.Views.{file_meta_view}
use Rattle.footer.proofs.Ends.{never}
use Rattle.manifest.proofs.writing.begin.Goals as goal

pub returns-clause-which : goal.returns-clause-which
returns-clause-which c = never (λ e. e ≡ Thrift) (EachKeepsWritten (file_meta_view c.args.meta.now)) c.begin.result c.requires c.begin.ensures.which
