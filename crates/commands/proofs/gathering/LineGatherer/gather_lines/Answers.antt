use Rattle.std.proofs.Common.{◌≡◌, ◌∙◌, List, ℕ, [], ◌∷◌, ◌++◌, length, map, refl, sym, ap, drop, suc, append_assoc, append-nil}
use Rattle.std.specs.Borrow.{Bor}
use Rattle.std.specs.Str.Lines.{lines}
use Rattle.std.proofs.lemmas.List.{map_push}
use Rattle.std.proofs.lemmas.Iterator.Consumers.{YieldsList-at, YieldsList-so_far, YieldsList-turn, YieldsList-end}
use Rattle.std.proofs.lemmas.Iterator.Splits.{YieldsList-from_lines}
use Rattle.vault.proofs.Chained.{refused}
use Rattle.std.specs.Prelude.{MatchResult}
use Rattle.lists.proofs.Slices.{parts_around as split_there}
use Rattle.commands.specs.FileLines.{AreRefusedIn}
use Rattle.commands.specs.inner.GatheredRows.{HoldsLines}
use Rattle.commands.proofs.BlocksRead.{held_by, held_of, refused_with}
use Rattle.commands.proofs.gathering.LineGatherer.gather_lines.Goals as goal

pub loop-line-init : goal.loop-line-init
loop-line-init g c = record {
  held = λ texts root options all held. held_of texts root options all (all ++ []) c.args.self.now (sym (append-nil all)) held;
  quiet = λ hidden. refl;
  hidden = refl;
}

pub returns-clause-gathers : goal.returns-clause-gathers
returns-clause-gathers g c = λ texts root options all held.
    let each = YieldsList-at c.into_iter-line-iterator.ensures.into_iter_gives (YieldsList-from_lines c.args.text.now c.lines-line-items.ensures.rest) in
    let whole = YieldsList-end each c.loop-line.yielded _ c.loop-line.yielded_by _ _ c.in-None.is c.next.ensures.steps in
    held_of texts root options _ (all ++ lines c.args.text.now) c.loop-line.self (ap (λ (t : List (List ℕ)). all ++ t) whole.0) (c.loop-line.invariant.held texts root options all held)

pub returns-in_err-gather_line-clause-gathers : goal.returns-in_err-gather_line-clause-gathers
returns-in_err-gather_line-clause-gathers g c = λ texts root options all held.
    let each = YieldsList-at c.into_iter-line-iterator.ensures.into_iter_gives (YieldsList-from_lines c.args.text.now c.lines-line-items.ensures.rest) in
    let so_far = YieldsList-so_far each c.loop-line.yielded _ c.loop-line.yielded_by in
    let here = YieldsList-turn each c.loop-line.yielded _ c.loop-line.yielded_by _ _ c.in-Some.line c.in-Some.is c.next.ensures.steps in
    let text = lines c.args.text.now in
    let passed = map (λ (t : Bor (List ℕ)). t.now) c.loop-line.yielded in
    let line = c.in-Some.line.now in
    let e = c.in_err-gather_line.field-0.0 in
    let after = drop (suc (length c.loop-line.yielded)) text in
    let split : text ≡ passed ++ line ∷ after = split_there text (length c.loop-line.yielded) line here.0 here.1 ∙ ap (λ (t : List (List ℕ)). t ++ line ∷ after) (sym so_far) in
    let joined : all ++ text ≡ ((all ++ passed) ++ line ∷ []) ++ after =
    ap (λ (t : List (List ℕ)). all ++ t) split ∙ (sym (append_assoc all passed (line ∷ after)) ∙ sym (append_assoc (all ++ passed) (line ∷ []) after)) in
    refused (λ r. MatchResult r (λ _. HoldsLines texts root options (all ++ text) c.gather_line.new.self) (AreRefusedIn texts root.schema (all ++ text)))
    c.from_residual.result e c.from_residual.ensures.1
    (refused_with texts root.schema ((all ++ passed) ++ line ∷ []) after (all ++ text) joined e
    (c.in_err-gather_line.ensures.gathers texts root options (all ++ passed) (c.loop-line.invariant.held texts root options all held)))

pub loop-line-preserved : goal.loop-line-preserved
loop-line-preserved g c =
    let l = c.loop-line in
    let passed = map (λ (t : Bor (List ℕ)). t.now) l.yielded in
    let line = c.in-Some.line in
    record {
      held = λ texts root options all held.
          held_by texts root options _ c.gather_line.new.self _ refl refl refl
          (held_of texts root options ((all ++ passed) ++ line.now ∷ []) (all ++ map (λ (t : Bor (List ℕ)). t.now) (l.yielded ++ line ∷ [])) c.gather_line.new.self
          (append_assoc all passed (line.now ∷ []) ∙ ap (λ (t : List (List ℕ)). all ++ t) (sym (map_push (λ (t : Bor (List ℕ)). t.now) l.yielded line)))
          (c.in_ok-gather_line.ensures.gathers texts root options (all ++ passed) (l.invariant.held texts root options all held)));
      quiet = λ hidden. c.count_row.ensures.quiet (c.gather_line.ensures.hidden ∙ (l.invariant.hidden ∙ hidden)) ∙ l.invariant.quiet hidden;
      hidden = c.count_row.ensures.same ∙ (c.gather_line.ensures.hidden ∙ l.invariant.hidden);
    }
