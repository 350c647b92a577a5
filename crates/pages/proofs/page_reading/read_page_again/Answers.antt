use Rattle.pages.proofs.StoodBefore.{memory_only}
use Rattle.pages.proofs.page_reading.read_page_again.Goals as goal

pub returns-clause-which : goal.returns-clause-which
returns-clause-which c =
    memory_only c.read_page_by_standing.result c.requires.stood c.requires.within_limits c.read_page_by_standing.ensures.only c.read_page_by_standing.ensures.limit c.read_page_by_standing.ensures.which
