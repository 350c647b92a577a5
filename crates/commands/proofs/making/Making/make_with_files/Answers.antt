use Rattle.std.proofs.Common.{refl}
use Rattle.commands.proofs.FilesRead.{read_of, unread_of}
use Rattle.commands.proofs.making.Making.make_with_files.Goals as goal

pub returns-in_err-files-clause-comes : goal.returns-in_err-files-clause-comes
returns-in_err-files-clause-comes g c =
    unread_of c.from_residual.result c.in_err-files.field-0.0 c.from_residual.ensures.1 c.in_err-files.ensures.refused c.named_bytes.ensures.same refl

pub returns-clause-comes : goal.returns-clause-comes
returns-clause-comes g c =
    read_of c.named_bytes.ensures.same c.in_ok-files.files.items c.as_slice.result.now c.as_slice.ensures.value c.in_ok-files.ensures.read c.make_on_folder.ensures.comes
