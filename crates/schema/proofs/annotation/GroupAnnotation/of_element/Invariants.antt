use Rattle.std.proofs.Common.{◌≡◌, drop}
use Rattle.schema.specs.Annotations.{group_number_of, group_annotations, numbered}
use Rattle.schema.proofs.annotation.GroupAnnotation.of_element.Given as goal

-- what is left of the table gives the answer
abbrev pub invariant-loop-annotation : goal.invariant-loop-annotation
invariant-loop-annotation l = numbered group_number_of l.number (drop l.annotation-index l.annotation-items) ≡ numbered group_number_of l.number group_annotations
