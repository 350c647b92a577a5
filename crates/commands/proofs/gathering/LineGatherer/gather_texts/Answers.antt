use Rattle.std.proofs.Common.{◌≡◌, ◌∙◌, ◌<◌, ◌+◌, ◌⊎◌, inl, inr, ℕ, List, ◌++◌, [], take, drop, length, refl, sym, ap, subst, arith, append-nil, append_assoc, take-add, take_all, length-take, length-drop}
use Rattle.std.specs.Prelude.{IsUtf8, MatchResult}
use Rattle.std.specs.Str.Lines.{lines}
use Rattle.std.proofs.lemmas.Str.{IsUtf8-append, IsUtf8-nil}
use Rattle.vault.proofs.Chained.{refused}
use Rattle.commands.specs.FileLines.{AreWholeLines, AreRefusedIn}
use Rattle.commands.specs.inner.GatheredRows.{HoldsLines}
use Rattle.commands.proofs.WholeLines.{line_itself, lines_more, whole_more, lines_around}
use Rattle.commands.proofs.BlocksRead.{held_of, refused_with}
use Rattle.commands.proofs.gathering.LineGatherer.gather_texts.Goals as goal

-- before the end all lines are whole
still_whole : (bytes : List ℕ) (i : ℕ) → i < length bytes → AreWholeLines (take i bytes) ⊎ (i ≡ length bytes) → AreWholeLines (take i bytes)
still_whole bytes i within (inl whole) = whole
still_whole bytes i within (inr over) = absurd (omega (arith, within, over))

-- the bytes up to the end of the next line
joined : (bytes line : List ℕ) (i : ℕ) → line ≡ take (length line) (drop i bytes) → take (i + length line) bytes ≡ take i bytes ++ line
joined bytes line i same = take-add i (length line) bytes ∙ ap (λ (t : List ℕ). take i bytes ++ t) (sym same)

pub gather_text-requires : goal.gather_text-requires
gather_text-requires g c = line_itself (drop c.loop-place.place c.args.bytes.now) c.line_at-line.result.now c.line_at-line.ensures.is c.line_at-line.ensures.front

pub returns-in_err-gather_text-clause-gathers : goal.returns-in_err-gather_text-clause-gathers
returns-in_err-gather_text-clause-gathers g c = λ texts root options all held.
    let bytes = c.args.bytes.now in
    let i = c.loop-place.place in
    let line = c.line_at-line.result.now in
    let e = c.in_err-gather_text.field-0.0 in
    let whole = still_whole bytes i (omega (arith, c.loop-place-test.true)) c.loop-place.invariant.whole in
    let so_far = c.loop-place.invariant.held texts root options all held in
    let after = lines (drop (length line) (drop i bytes)) in
    let around : all ++ lines bytes ≡ ((all ++ lines (take i bytes)) ++ lines line) ++ after =
    ap (λ (t : List (List ℕ)). all ++ t) (lines_around bytes line i whole c.line_at-line.ensures.is c.line_at-line.ensures.front)
    ∙ (sym (append_assoc all (lines (take i bytes) ++ lines line) after) ∙ ap (λ (t : List (List ℕ)). t ++ after) (sym (append_assoc all (lines (take i bytes)) (lines line)))) in
    refused (λ r. MatchResult r (λ _. IsUtf8 bytes × HoldsLines texts root options (all ++ lines bytes) c.gather_text.new.self) (AreRefusedIn texts root.schema (all ++ lines bytes)))
    c.from_residual.result e c.from_residual.ensures.1
    (refused_with texts root.schema ((all ++ lines (take i bytes)) ++ lines line) after (all ++ lines bytes) around e
    (c.in_err-gather_text.ensures.gathers texts root options (all ++ lines (take i bytes)) so_far.1))

pub loop-place-init : goal.loop-place-init
loop-place-init g c = record {
  within = omega arith;
  whole = inl (inl refl);
  held = λ texts root options all held. (IsUtf8-nil, held_of texts root options all (all ++ []) c.args.self.now (sym (append-nil all)) held);
  quiet = λ hidden. refl;
  hidden = refl;
}

pub loop-place-preserved : goal.loop-place-preserved
loop-place-preserved g c =
    let l = c.loop-place in
    let bytes = c.args.bytes.now in
    let i = l.place in
    let line = c.line_at-line.result.now in
    let front = c.line_at-line.ensures.front in
    let more = joined bytes line i front in
    let whole = still_whole bytes i (omega (arith, c.loop-place-test.true)) l.invariant.whole in
    record {
      within = omega (arith, l.invariant.within, ap length front, length-take (length line) (drop i bytes), length-drop i bytes);
      whole = whole_more bytes line i l.invariant.within whole c.line_at-line.ensures.is front more;
      held = λ texts root options all held.
          let so_far = l.invariant.held texts root options all held in
          let got = c.in_ok-gather_text.ensures.gathers texts root options (all ++ lines (take i bytes)) so_far.1 in (
            subst IsUtf8 (sym more) (IsUtf8-append (take i bytes) line so_far.0 got.0),
            held_of texts root options ((all ++ lines (take i bytes)) ++ lines line) (all ++ lines (take (i + length line) bytes)) c.gather_text.new.self
                (append_assoc all (lines (take i bytes)) (lines line) ∙ ap (λ (t : List (List ℕ)). all ++ t) (sym (lines_more bytes line i whole front more))) got.1,
          );
      quiet = λ hidden. c.gather_text.ensures.quiet (l.invariant.hidden ∙ hidden) ∙ l.invariant.quiet hidden;
      hidden = c.gather_text.ensures.hidden ∙ l.invariant.hidden;
    }

pub returns-clause-gathers : goal.returns-clause-gathers
returns-clause-gathers g c = λ texts root options all held.
    let bytes = c.args.bytes.now in
    let so_far = c.loop-place.invariant.held texts root options all held in
    let whole : take c.loop-place.place bytes ≡ bytes = take_all c.loop-place.place bytes (omega (arith, c.loop-place-test.false)) in
    (subst IsUtf8 whole so_far.0, held_of texts root options (all ++ lines (take c.loop-place.place bytes)) (all ++ lines bytes) c.loop-place.self (ap (λ (t : List ℕ). all ++ lines t) whole) so_far.1)
