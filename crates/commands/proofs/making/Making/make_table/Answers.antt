use Rattle.std.proofs.Common.{ℕ, List, map, refl, ap, subst, ◌∙◌}
use Rattle.std.specs.Prelude.{string_bytes}
use Rattle.commands.specs.Creating.{Creates, of_schema, not_begun}
use Rattle.commands.specs.Calls.{state_within, disk_within}
use Rattle.places.proofs.PlacesKept.{stays_so}
use Rattle.commands.proofs.NewFolders.{not_begun_of}
use Rattle.commands.proofs.making.Making.make_table.Goals as goal

pub returns-in-Err-clause-creates : goal.returns-in-Err-clause-creates
returns-in-Err-clause-creates g c = not_begun c.in-Err.refusal (stays_so _) refl

pub returns-in_err-texts-clause-creates : goal.returns-in_err-texts-clause-creates
returns-in_err-texts-clause-creates g c = not_begun_of c.from_residual.result c.in_err-texts.field-0.0 c.from_residual.ensures.1 (stays_so _)

pub returns-in-Ok-key_columns-clause-creates : goal.returns-in-Ok-key_columns-clause-creates
returns-in-Ok-key_columns-clause-creates g c =
    let known = g.P.Places.known in
    let call = c.args.self.now.call.now in
    subst (λ (names : List (List ℕ)). Creates (state_within {D = g.row.P-Disk.Denot} {S = g.row.S.Denot} g.P.Disk.Disk.state) (disk_within {D = g.row.P-Disk.Denot} {S = g.row.S.Denot})
    (known c.args.places.now) (known c.make_table_of.new.places) call.folder.now call.options c.args.bytes.now names c.make_table_of.result)
    (ap (map string_bytes) c.as_slice-names.ensures.value ∙ c.in_ok-texts.ensures.same)
    (of_schema c.in-Ok.schema c.in-Ok.ensures.text c.in-Ok.ensures.says (_, record { keys_are = c.in-Ok-key_columns.ensures.stands; named = c.in-Ok-key_columns.ensures.named }) c.make_table_of.ensures.comes)

pub returns-clause-creates : goal.returns-clause-creates
returns-clause-creates g c = not_begun c.in-Err-key_columns.refusal (stays_so _) refl
