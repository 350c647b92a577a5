use Rattle.std.proofs.Common.{length, map}
use Rattle.std.proofs.lemmas.Result.{on_ok_weaker}
use Rattle.schema.specs.Borrowed.{value_ref_view}
use Rattle.plain.specs.Plain.{plain_size}
use Rattle.plain.specs.Split.{IsSplit}
use Rattle.pages.specs.declared.encoding.Encoding.TheVariants.{ByteStreamSplit}
use Rattle.pages.specs.WrittenValues.{AreWritten}
use Rattle.pages.specs.inner.Put.{most_of_values}
use Rattle.pages.proofs.WrittenValues.{appends_within, plain_light}
use Rattle.pages.proofs.split_values.put_split.Goals as goal

pub returns-clause-stands : goal.returns-clause-stands
returns-clause-stands c =
    let a = c.args in
    let vs = map value_ref_view a.values.now in
    on_ok_weaker c.split_encode.result
    (λ p. appends_within (λ bytes. IsSplit a.kind (length vs) bytes vs) (AreWritten a.kind ByteStreamSplit vs) (plain_size a.kind vs) (most_of_values vs) a.out.now.items c.split_encode.new.out.items (λ bytes used x. x) (plain_light a.kind vs c.requires) p)
    c.split_encode.ensures.stands
