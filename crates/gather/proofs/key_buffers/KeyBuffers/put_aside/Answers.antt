use Rattle.std.proofs.Common.{[], refl, ap, sym, subst, ◌∙◌}
use Rattle.schema.specs.Views.{key_view}
use Rattle.shred.specs.declared.row_buffer.RowBuffer.{RowBuffer}
use Rattle.shred.specs.Buffer.{schema_of, holds}
use Rattle.gather.specs.declared.key_buffer.KeyBuffer.{KeyBuffer}
use Rattle.gather.proofs.Adding.{same_here}
use Rattle.gather.proofs.key_buffers.KeyBuffers.put_aside.Goals as goal

pub returns-clause-aside : goal.returns-clause-aside
returns-clause-aside c =
    let old = c.index_mut.result.now in
    let same = same_here c.args.self.now.waiting.items c.args.at c.index.result.now old c.requires.within c.index.ensures c.index_mut.ensures.value in
    record {
      old = old;
      was = c.index_mut.ensures.value;
      fresh = record { key = old.key; rows = c.replace-rows.new.dest };
      aside = record { key = c.in_ok-key.key; rows = c.replace-rows.result };
      waits = refl;
      grows = c.in_ok-push.ensures.items;
      fresh_key = refl;
      fresh_rows = record {
        schema = ap schema_of c.replace-rows.ensures.after ∙ c.in_ok-empty.ensures.of;
        held = subst (λ (b : RowBuffer). holds b []) (sym c.replace-rows.ensures.after) c.in_ok-empty.ensures.begins;
      };
      aside_key = c.in_ok-key.ensures.copies ∙ ap (λ (b : KeyBuffer). key_view b.key) same;
      aside_rows = c.replace-rows.ensures.value;
    }
