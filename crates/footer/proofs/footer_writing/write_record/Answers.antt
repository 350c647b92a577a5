use Rattle.std.proofs.Common.{◌≡◌}
use Rattle.bits.specs.declared.refusal.Refusal.TheVariants.{Thrift}
use Rattle.metadata.specs.Views.{file_meta_view}
use Rattle.metadata.specs.Kept.{EachKeepsWritten}
use Rattle.thrift_compact.specs.Compact.{IsThrift}
use Rattle.thrift_compact.specs.Length.{size_struct}
use Rattle.metadata.specs.ToTree.{file_meta_fields}
use Rattle.footer.proofs.Ends.{never, appends_at_most}
use Rattle.footer.proofs.footer_writing.write_record.Goals as goal

-- each kept struct can be written, so that Thrift does not come
pub returns-clause-which : goal.returns-clause-which
returns-clause-which c = never (λ e. e ≡ Thrift) (EachKeepsWritten (file_meta_view c.args.meta.now)) c.write.result c.requires c.write.ensures.which

pub returns-clause-size : goal.returns-clause-size
returns-clause-size c =
    let fields = file_meta_fields (file_meta_view c.args.meta.now) in
    appends_at_most c.write.result (λ bytes used. IsThrift bytes fields used) (size_struct fields) c.args.out.now.items c.write.new.out.items c.write.ensures.stands
