use Rattle.std.proofs.Common.{◌≡◌, ◌++◌, ℤ, List, Option, ap, map, option_map, subst}
use Rattle.std.proofs.lemmas.Iterator.Adapters.{option_map_id}
use Rattle.thrift_compact.specs.Tree.{i32}
use Rattle.thrift_compact.specs.View.{field_view, fields_of}
use Rattle.metadata.specs.Ids.{column_encodings}
use Rattle.metadata.specs.ToTree.{present, many, INT32}
use Rattle.metadata.proofs.Numbers.{numbers_shown}
use Rattle.metadata.proofs.Written.{put_by_ten}
use Rattle.metadata.proofs.column_meta.fields_of_column_meta.Goals as goal

-- what was put, one behind the other
pub returns-clause-stands : goal.returns-clause-stands
returns-clause-stands c =
    let before = map field_view c.put.new.fields.items in
    let encodings = subst (λ (o : Option (List ℤ)). map field_view c.put_given.new.fields.items ≡ before ++ present column_encodings (option_map (many INT32 i32) o)) (numbers_shown c.args.column_meta.now.encodings) c.in_ok-put_given.ensures.stands in
    let uncompressed = rw option_map_id at c.in_ok-put_given-2.ensures.stands in
    let compressed = rw option_map_id at c.in_ok-put_given-3.ensures.stands in
    let dictionary = rw option_map_id at c.in_ok-put_given-4.ensures.stands in
    ap fields_of
    (put_by_ten _ _ _ _ _ _ _ _ _ _ (ap (map field_view) c.in_ok-fields.ensures.items) c.in_ok-put.ensures.stands encodings c.in_ok-put-2.ensures.stands c.in_ok-put-3.ensures.stands c.in_ok-put-4.ensures.stands uncompressed compressed c.in_ok-put-5.ensures.stands dictionary c.in_ok-put_given-5.ensures.stands)
