use Rattle.schema.specs.Borrowed.{value_ref_view}
use Rattle.schema.specs.declared.value.Kind.TheVariants.{Int32}
use Rattle.plain.specs.Plain.{IsOfKind}
use Rattle.plain.proofs.Seen.{seen_all}
use Rattle.pages.proofs.value_writing.int32_values.Goals as goal

pub int32_of-requires : goal.int32_of-requires
int32_of-requires c = seen_all (IsOfKind Int32) value_ref_view c.args.values.now c.loop-value.value-index c.value-item.result c.loop-value-test.true c.value-item.is c.requires
