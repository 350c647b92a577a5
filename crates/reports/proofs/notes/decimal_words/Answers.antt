use Rattle.std.proofs.Common.{◌≡◌, string_bytes, ap, ◌∙◌, to_z, of_z}
use Rattle.std.specs.Int.{w32}
use Rattle.std.proofs.Math.Facts.{to_z-of_z}
use Rattle.reports.specs.Notes.{decimal_words}
use Rattle.reports.proofs.notes.decimal_words.Goals as goal

pub returns : goal.returns
returns c =
    let name = c.args.name.now in
    let precision = to_z-of_z {w = w32} {z = c.args.precision} (record { sfits = c.ranges.precision.sfits }) in
    let scale = to_z-of_z {w = w32} {z = c.args.scale} (record { sfits = c.ranges.scale.sfits }) in
    let said : string_bytes c.in_ok-format.field-0 ≡ decimal_words name (to_z w32 (of_z w32 c.args.precision)) (to_z w32 (of_z w32 c.args.scale)) = c.in_ok-format.ensures.ok in
    said ∙ ap (λ z. decimal_words name z (to_z w32 (of_z w32 c.args.scale))) precision ∙ ap (λ z. decimal_words name c.args.precision z) scale
