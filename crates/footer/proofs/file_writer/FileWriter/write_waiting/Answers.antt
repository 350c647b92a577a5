use Rattle.std.proofs.Common.{◌≡◌, ◌<◌, List, [], ◌∷◌, ◌++◌, length, map, take, refl, ap, sym, subst, ◌∙◌, arith, Err}
use Rattle.std.specs.Prelude.{if◌then◌else◌}
use Rattle.std.specs.Result.{is_ok}
use Rattle.std.proofs.lemmas.Bool.Decides.{nat_tests}
use Rattle.std.proofs.Math.Seq.{take-append_seam}
use Rattle.std.proofs.lemmas.List.{map-append}
use Rattle.schema.specs.Values.{ValueTrees}
use Rattle.schema.specs.Shape.{Fields}
use Rattle.shred.specs.Buffer as buffer
use Rattle.metadata.specs.Records.{GroupMeta}
use Rattle.metadata.specs.Views.{group_meta_view}
use Rattle.row_group.specs.declared.options.ChunkOptions.{ChunkOptions}
use Rattle.row_group.specs.Writing.{AppendsGroup, AreTaken, IsGroupTooMuch}
use Rattle.footer.specs.Writing.{chunk_options, IsTooMuch}
use Rattle.footer.specs.Writer.{IsBegun, schema_of, options_of}
use Rattle.footer.specs.inner.Waiting.{IsNextGroup}
use Rattle.footer.proofs.Whole.{passes_limit}
use Rattle.footer.proofs.Written.{group_written, group_too_much}
use Rattle.footer.proofs.file_writer.FileWriter.write_waiting.Goals as goal
use Rattle.footer.proofs.file_writer.FileWriter.write_waiting.Goals.{in-Ok, in-Err}

pub returns-in_err-meta-clause-limit : goal.returns-in_err-meta-clause-limit
returns-in_err-meta-clause-limit c =
    let w = c.args.self.now in
    let fs = schema_of w in
    let o = options_of w in
    let out = w.bytes.items in
    passes_limit ((waiting rows later : List ValueTrees) → IsNextGroup w waiting rows later → IsTooMuch fs o rows) c.from_residual.result c.in_err-meta.field-0.0 c.from_residual.ensures.1
    (λ is waiting rows later next.
    let counted = c.len-count.ensures.counted waiting next.held in
    let some : 0 < length waiting = grind (arith, nat_tests, counted) in
    group_too_much fs o out (map group_meta_view w.groups.items) waiting rows later some
    (subst (λ (k : ChunkOptions). IsGroupTooMuch fs k (length out) waiting) c.of_chunks-options.ensures (c.in_err-meta.ensures.limit (ap Err is) waiting next.held)) next.next)

pub returns-clause-stands : goal.returns-clause-stands
returns-clause-stands c =
    let w = c.args.self.now in
    let fs = schema_of w in
    let o = options_of w in
    let out = w.bytes.items in
    let new = c.write_buffered_group.new.out.items in
    let metas = map group_meta_view w.groups.items in
    let g = group_meta_view c.in_ok-meta.meta in
    elim c.match-push.branch [
      | in-Ok b ↦ rw (b.result-is, b.self-is) (λ waiting rows later next.
          let counted = c.len-count.ensures.counted waiting next.held in
          let some : 0 < length waiting = grind (arith, nat_tests, counted) in
          let written : AppendsGroup fs (chunk_options o) out new g waiting = subst (λ (k : ChunkOptions). AppendsGroup fs k out new g waiting) c.of_chunks-options.ensures (c.in_ok-meta.ensures.stands waiting next.held) in
          let taken : AreTaken fs waiting = c.in_ok-meta.ensures.readable waiting next.held in
          let items : c.push.new.self.items ≡ w.groups.items ++ c.in_ok-meta.meta ∷ [] = subst (λ r. c.push.new.self.items ≡ (if is_ok r then w.groups.items ++ c.in_ok-meta.meta ∷ [] else w.groups.items)) b.in-Ok.is c.push.ensures.items in
          let pushed : map group_meta_view c.push.new.self.items ≡ metas ++ g ∷ [] = ap (map group_meta_view) items ∙ map-append group_meta_view w.groups.items (c.in_ok-meta.meta ∷ []) in
          let begun : IsBegun fs o rows later new (metas ++ g ∷ []) = group_written fs o out new metas g waiting rows later some written taken next.next in
          let same : buffer.schema_of b.clear.new.self ≡ fs = b.clear.ensures.same_schema in
          subst (λ (f : Fields). IsBegun f o rows later new (map group_meta_view c.push.new.self.items)) (sym same)
          (subst (λ (ms : List GroupMeta). IsBegun fs o rows later new ms) (sym pushed) begun))
      | in-Err b ↦ rw (b.result-is) tt
    ]

pub returns-clause-unchanged : goal.returns-clause-unchanged
returns-clause-unchanged c =
    let w = c.args.self.now in
    let old = w.bytes in
    let kept = c.len-kept.result in
    let kept_is : kept ≡ length old.items = omega (arith, c.len-kept.ensures, old.ok.0) in
    elim c.match-push.branch [
      | in-Ok b ↦ rw (b.result-is) tt
      | in-Err b ↦ rw (b.result-is, b.self-is) (λ waiting held.
          let more = c.in_ok-meta.ensures.stands waiting held in
          let cut : take kept c.write_buffered_group.new.out.items ≡ old.items = ap (λ n. take n c.write_buffered_group.new.out.items) kept_is ∙ ap (take (length old.items)) more.joined ∙ take-append_seam old.items more.text in
          let bytes : b.truncate.new.self.items ≡ old.items = b.truncate.ensures.items ∙ cut in
          let groups : c.push.new.self.items ≡ w.groups.items = subst (λ r. c.push.new.self.items ≡ (if is_ok r then w.groups.items ++ c.in_ok-meta.meta ∷ [] else w.groups.items)) b.in-Err.is c.push.ensures.items in
          record { bytes = bytes; groups = groups; waiting = λ rows h. h; written = refl })
    ]
