-- The worked examples compute.
use Rattle.std.proofs.Common.{refl}
use Rattle.schema.specs.Worked.{DocumentExample, ListExample}

pub document_example : DocumentExample
document_example = record { fits = (refl, (refl, tt)); repetitions = refl; definitions = refl; columns = refl }

pub list_example : ListExample
list_example = record { null_list = refl; empty_list = refl; null_element = refl; seven = refl }
