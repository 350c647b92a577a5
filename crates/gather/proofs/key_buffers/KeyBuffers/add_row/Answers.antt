use Rattle.std.proofs.Common.{◌≡◌, ◌<◌, [], ◌∷◌, length, map, refl, ap, sym, subst, ◌∙◌, arith}
use Rattle.std.proofs.lemmas.List.{get_or-set_same}
use Rattle.std.proofs.lemmas.Result.{on_ok_weaker}
use Rattle.schema.specs.Keys.{row_without_keys}
use Rattle.shred.specs.Buffer.{holds}
use Rattle.gather.specs.declared.key_buffer.KeyBuffer.{KeyBuffer}
use Rattle.gather.specs.Parts.{parts_view}
use Rattle.gather.proofs.Adding.{IsLonger, added_short, added_full}
use Rattle.gather.proofs.key_buffers.KeyBuffers.add_row.Goals as goal

pub returns-then-len-self-clause-added : goal.returns-then-len-self-clause-added
returns-then-len-self-clause-added c = λ columns rows row placed rest.
    let old = c.args.self.now in
    let was = c.index_mut.result.now in
    let b : KeyBuffer = record { key = was.key; rows = c.take_over.new.self } in
    let within : c.args.at < length old.waiting.items = omega (arith, c.if-at-len.false, c.len.ensures) in
    let read : c.index.result.now ≡ b = c.index.ensures ∙ get_or-set_same old.waiting.items c.args.at b c.index.result.now within in
    let longer : IsLonger columns old rows row c.args.at was b = record {
      within = within;
      read = c.index_mut.ensures.value;
      key = refl;
      schema = c.in_ok-take_over.ensures.same_schema;
      more = λ rs held. c.in_ok-take_over.ensures.stands rs (row_without_keys columns row ∷ []) held rest;
    } in
    added_short columns old _ rows row c.args.at was b c.len-2.result refl refl refl refl refl longer
    (λ rs held. c.len-2.ensures.counted rs (subst (λ (x : KeyBuffer). holds x.rows rs) (sym read) held)) c.if-len-self.true placed

pub returns-clause-added : goal.returns-clause-added
returns-clause-added c = on_ok_weaker c.put_aside.result (λ puts. λ columns rows row placed rest.
    let old = c.args.self.now in
    let new = c.put_aside.new.self in
    let was = c.index_mut.result.now in
    let b : KeyBuffer = record { key = was.key; rows = c.take_over.new.self } in
    let within : c.args.at < length old.waiting.items = omega (arith, c.if-at-len.false, c.len.ensures) in
    let read : c.index.result.now ≡ b = c.index.ensures ∙ get_or-set_same old.waiting.items c.args.at b c.index.result.now within in
    let longer : IsLonger columns old rows row c.args.at was b = record {
      within = within;
      read = c.index_mut.ensures.value;
      key = refl;
      schema = c.in_ok-take_over.ensures.same_schema;
      more = λ rs held. c.in_ok-take_over.ensures.stands rs (row_without_keys columns row ∷ []) held rest;
    } in
    let same = c.put_aside.ensures.same in
    added_full columns old new rows row c.args.at was b c.len-2.result same.stored same.size (ap (λ ps. map (λ parts. parts_view parts.items) ps.keys) same.places) puts longer
    (λ rs held. c.len-2.ensures.counted rs (subst (λ (x : KeyBuffer). holds x.rows rs) (sym read) held)) c.if-len-self.false placed) c.put_aside.ensures.aside
