use Rattle.std.proofs.lemmas.Iterator.Adapters.{option_map_id}
use Rattle.metadata.proofs.element.element_of.Goals as goal

pub returns : goal.returns
returns c = record {
  stands = rw (c.in_ok-kind.ensures.stands, c.in_ok-type_length.ensures.stands, c.in_ok-repetition_type.ensures.stands, c.in_ok-name.ensures.stands, c.in_ok-num_children.ensures.stands, c.in_ok-converted_type.ensures.stands, c.in_ok-scale.ensures.stands, c.in_ok-precision.ensures.stands, c.in_ok-field_id.ensures.stands, c.in_ok-logical_type.ensures.stands) (simp option_map_id);
}
