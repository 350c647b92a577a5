use Rattle.places.proofs.FileEnds.{one_footer}
use Rattle.places.proofs.laws.a_file_has_the_footer_of_its_ends.Goals as goal

pub returns : goal.returns
returns c = one_footer
