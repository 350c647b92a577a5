use Rattle.std.proofs.Common.{◌+◌, ◌<◌, length, arith, ⊎_elim, inl, inr}
use Rattle.thrift_compact.specs.Length.{size_struct}
use Rattle.metadata.specs.ToTree.{file_meta_fields}
use Rattle.metadata.specs.Views.{file_meta_view}
use Rattle.metadata.specs.Weight.{footer_weight}
use Rattle.footer.specs.Greatest.{most_of_file, most_of_footer}
use Rattle.footer.proofs.Ends.{closed}
use Rattle.footer.proofs.footer_writing.with_footer.Goals as goal

pub returns-clause-stands : goal.returns-clause-stands
returns-clause-stands c = closed c.args.front.items c.write_record.new.out.items c.len-start.result (file_meta_view c.args.meta.now) c.close_file.result (omega arith) c.in_ok-write_record.ensures.stands c.close_file.ensures.stands

pub returns-clause-too_long : goal.returns-clause-too_long
returns-clause-too_long c = λ is.
    let size = size_struct (file_meta_fields (file_meta_view c.args.meta.now)) in
    let front = length c.args.front.items in
    let most = c.in_ok-write_record.ensures.size in
    ⊎_elim (λ h. let g : most_of_footer < size = omega (arith, h, most) in inl g) (λ h. let g : most_of_file < front + 8 + size = omega (arith, h, most) in inr g) (c.close_file.ensures.limit is)

pub returns-clause-limit : goal.returns-clause-limit
returns-clause-limit c = λ is keys own.
    let weight = footer_weight keys (file_meta_view c.args.meta.now) in
    let front = length c.args.front.items in
    let most = c.in_ok-write_record.ensures.weight keys own in
    ⊎_elim (λ h. let g : most_of_footer < weight = omega (arith, h, most) in inl g) (λ h. let g : most_of_file < front + 8 + weight = omega (arith, h, most) in inr g) (c.close_file.ensures.limit is)
