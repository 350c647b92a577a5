use Rattle.std.proofs.Common.{arith}
use Rattle.thrift_compact.specs.Length.{size_struct}
use Rattle.metadata.specs.ToTree.{file_meta_fields}
use Rattle.footer.proofs.Ends.{ends, footer_is, size_at}
use Rattle.footer.proofs.Frames.{not_long}
use Rattle.footer.proofs.footer_writing.close_file.Goals as goal

pub returns-clause-stands : goal.returns-clause-stands
returns-clause-stands c = λ front meta begins added.
    ends front c.args.out.items c.write_length.new.out.items meta (size_struct (file_meta_fields meta)) c.saturating_sub-size.result
    (c.footer_again.ensures meta) added (omega (arith, begins)) (omega arith) c.in_ok-write_length.ensures.stands

pub returns-clause-footer_size : goal.returns-clause-footer_size
returns-clause-footer_size c = λ before footer framed.
    let is = footer_is c.args.out.items c.write_length.new.out.items before footer c.saturating_sub-size.result (omega arith) c.in_ok-write_length.ensures.stands framed in
    omega (arith, is)

pub returns-clause-within_limits : goal.returns-clause-within_limits
returns-clause-within_limits c =
    let mid = c.args.out.items in
    let new = c.write_length.new.out.items in
    let size = c.saturating_sub-size.result in
    let at = size_at mid new size (omega arith) c.in_ok-write_length.ensures.stands in
    not_long new size (omega (arith, at.0)) at.1 (omega arith)
