use Rattle.std.proofs.Common.{◌≡◌, ◌∙◌, ℕ, [], List, length, map, ap, sym, subst, Err}
use Rattle.std.proofs.lemmas.List.{length-map}
use Rattle.bits.specs.declared.refusal.Refusal.TheVariants.{Limit}
use Rattle.schema.specs.Keys.{key_columns_view}
use Rattle.metadata.specs.Begun.{BeginsFooter}
use Rattle.metadata.specs.Records.{GroupMeta, FileMeta}
use Rattle.metadata.specs.Views.{file_meta_view}
use Rattle.footer.specs.File.{magic}
use Rattle.manifest.specs.Groups.{groups_in}
use Rattle.manifest.specs.Laid.{group_record}
use Rattle.manifest.proofs.GroupLists.{same_refusal}
use Rattle.manifest.proofs.writing.record_bytes.Goals as goal

pub returns-in_err-put_groups-clause-limit : goal.returns-in_err-put_groups-clause-limit
returns-in_err-put_groups-clause-limit c = λ is.
    c.in_err-put_groups.ensures.limit (ap Err (same_refusal c.from_residual-in_err-put_groups.result c.in_err-put_groups.field-0.0 Limit c.from_residual-in_err-put_groups.ensures.1 is))

pub returns-clause-stands : goal.returns-clause-stands
returns-clause-stands c = λ sized.
    let keys = key_columns_view c.args.keys.now in
    let gs = groups_in c.args.groups.now in
    let ms : List GroupMeta = map (group_record keys) gs in
    let m : FileMeta = record (file_meta_view c.args.meta.now) { row_groups = ms } in
    let size : length ms ≡ c.len.result = length-map gs (group_record keys) ∙ sym c.len.ensures in
    let begun : BeginsFooter m [] magic c.begin.new.out.items = subst (λ (front : List ℕ). BeginsFooter m [] front c.begin.new.out.items) c.in_ok-bytes.ensures.items (c.in_ok-begin.ensures.stands ms size) in
    c.in_ok-end.ensures.stands ms magic (c.in_ok-put_groups.ensures.written sized m [] magic begun)
