use Rattle.std.proofs.Common.{◌≡◌, ◌∙◌, ◌++◌, ◌∷◌, [], ℕ, ℤ, pos, List, Some, map, ap, subst}
use Rattle.schema.specs.Keys.{key_columns_view}
use Rattle.metadata.specs.Records.{GroupMeta, FileMeta}
use Rattle.metadata.specs.Begun.{BeginsFooter}
use Rattle.partition.specs.Folders.{part_path_of}
use Rattle.manifest.specs.Groups.{group_view}
use Rattle.manifest.specs.Records.{placed}
use Rattle.manifest.specs.Laid.{bytes_of, group_record}
use Rattle.manifest.proofs.Summed.{signed_back, as_signed}
use Rattle.manifest.proofs.group_writing.put_group.Goals as goal

pub returns-clause-written : goal.returns-clause-written
returns-clause-written c = λ sized.
    let g = group_view c.args.group.now in
    let keys = key_columns_view c.args.keys.now in
    let path : c.as_bytes.result.now ≡ part_path_of keys g.key g.number = c.as_bytes.ensures.value ∙ c.in-Ok.ensures.stands in
    let size : c.signed-size.result ≡ pos (bytes_of g) = signed_back c.signed-size.result c.size.result (bytes_of g) c.size.ensures sized.bytes c.signed-size.ensures in
    let rows : c.signed-rows.result ≡ pos g.known.rows = c.signed-rows.ensures sized.rows in
    λ m done start begun. subst (λ (r : GroupMeta). BeginsFooter m (done ++ r ∷ []) start c.put_group.new.out.items)
    (λ i. record { columns = map (placed (path i)) g.chunks; total_byte_size = Some (as_signed c.signed-size.result (bytes_of g) size sized.bytes i); num_rows = as_signed c.signed-rows.result g.known.rows rows sized.rows i })
    (c.in_ok-put_group.ensures.stands m done start begun)
