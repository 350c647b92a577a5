use Rattle.manifest.proofs.FilesAreTables.{files_are_tables}
use Rattle.manifest.proofs.laws.files_are_tables.Goals as goal

pub returns : goal.returns
returns c = files_are_tables
