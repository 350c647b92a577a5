use Rattle.std.proofs.Common.{ℤ, w64, ◌∷◌, [], refl, subst}
use Rattle.std.proofs.Math.Facts.{to_z-of_z}
use Rattle.std.proofs.lemmas.Result.{on_ok_weaker}
use Rattle.schema.specs.Values.{integer}
use Rattle.assemble.specs.Sinks.{Adds, single}
use Rattle.shred.specs.Buffer.{buffer_shows}
use Rattle.footer.proofs.ShownWriter.{shown_more}
use Rattle.footer.proofs.DroppedRow.{same_base}
use Rattle.footer.proofs.file_writer.FileWriterRowSink.int.Goals as goal

pub returns : goal.returns
returns c =
    let number = to_z-of_z {w = w64} {z = c.args.number} (record { sfits = c.ranges.number.sfits }) in
    record {
      shown = on_ok_weaker c.int.result (λ adds. shown_more c.args.self.now _ (single (integer c.args.number)) refl refl refl refl
          (subst (λ (z : ℤ). Adds (buffer_shows c.args.self.now.waiting) (buffer_shows c.int.new.self) (single (integer z) ∷ [])) number adds)) c.int.ensures.shown;
      base_stays = same_base c.args.self.now _ _ c.int.ensures.base_stays;
    }
