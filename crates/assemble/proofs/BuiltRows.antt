-- What a row's builder makes of what it is shown.
use Rattle.std.proofs.Common.{◌≡◌, ℕ, ℤ, ◌+◌, ◌≤◌, List, [], ◌∷◌, ◌++◌, length, take, drop, reverse, Some, None, refl, ap, sym, subst, ◌∙◌, arith}
use Rattle.std.proofs.lemmas.List.{length-append, reverse-reverse, take-append-le, drop-append-le}
use Rattle.std.specs.Global.{Vec}
use Rattle.schema.specs.declared.value.Value.{Value, Int as value_int, Bytes as value_bytes}
use Rattle.schema.specs.declared.value.Value.TheVariants.{rolls-Int, rolls-Bytes}
use Rattle.schema.specs.declared.value.Value.TheOpen.{Value-F}
use Rattle.schema.specs.declared.value.Value.TheFolds.{fold-roll-Value}
use Rattle.schema.specs.Values.{ValueTree, null, boolean, integer, bytes, group, list, ValueTrees, no_values, value as item, view, views, view_step}
use Rattle.assemble.specs.declared.row_builder.RowBuilder.{RowBuilder}
use Rattle.assemble.specs.Sinks.{Token, single, group_ends, list_ends, tokens, tokens_each, Adds}
use Rattle.assemble.specs.inner.Building.{snoc, Frames, no_frames, more, closed, step, run, AreBegun, here_in, outer_in, frames_in, frames_of, Turns, Gains, TakesOff, builder_shows}
use Rattle.assemble.proofs.Items.{views-push}
use Rattle.assemble.proofs.Each.{join, join_snoc, join_none}

run_append : (f : Frames) (ts us : List Token) → run f (ts ++ us) ≡ run (run f ts) us
run_append f [] us = refl
run_append f (t ∷ ts) us = run_append (step f t) ts us

abbrev pub frames : ValueTrees → List ValueTrees → Frames
frames here outer = record { here = here; outer = outer }

mutual
  run_value : (v : ValueTree) (here : ValueTrees) (outer : List ValueTrees) → run (frames here outer) (tokens v) ≡ frames (snoc here v) outer
  run_value null here outer = refl
  run_value (boolean b) here outer = refl
  run_value (integer z) here outer = refl
  run_value (bytes s) here outer = refl
  run_value (group vs) here outer =
      run_append (frames no_values (here ∷ outer)) (tokens_each vs) (group_ends ∷ [])
      ∙ ap (λ f. step f group_ends) (run_values vs no_values (here ∷ outer))
  run_value (list vs) here outer =
      run_append (frames no_values (here ∷ outer)) (tokens_each vs) (list_ends ∷ [])
      ∙ ap (λ f. step f list_ends) (run_values vs no_values (here ∷ outer))

  run_values : (vs : ValueTrees) (here : ValueTrees) (outer : List ValueTrees) → run (frames here outer) (tokens_each vs) ≡ frames (join here vs) outer
  run_values no_values here outer = ap (λ vs. frames vs outer) (sym (join_none here))
  run_values (item v vs) here outer =
      run_append (frames here outer) (tokens v) (tokens_each vs)
      ∙ ap (λ f. run f (tokens_each vs)) (run_value v here outer)
      ∙ run_values vs (snoc here v) outer
      ∙ ap (λ us. frames us outer) (join_snoc here v vs)

-- one token more
pub shown : (old new : RowBuilder) (t : Token) → Turns (λ f. step f t) old new → Adds (builder_shows old) (builder_shows new) (t ∷ [])
shown old new t turns before h =
    let n = turns h.0 in
    (n.0, n.1 ∙ ap (λ f. step f t) h.1 ∙ sym (run_append no_frames before (t ∷ [])))

pub shown_value : (old new : RowBuilder) (v w : ValueTree) → v ≡ w → Gains v old new → Adds (builder_shows old) (builder_shows new) (single w ∷ [])
shown_value old new v w is gains = shown old new (single w) (subst (λ (u : ValueTree). Gains u old new) is gains)

-- the row of a builder that was shown values; it has nothing else, and nothing once that is taken
pub row_shown : (row : ValueTrees) (inner : List Value) (ms : List ℕ) (vs : ValueTrees) → frames_in row inner ms ≡ run no_frames (tokens_each vs) → row ≡ vs
row_shown row inner [] vs h = ap (λ (g : Frames). g.here) (h ∙ run_values vs no_values [])
row_shown row inner (m ∷ ms) vs h = let none = ap (λ (g : Frames). g.outer) (h ∙ run_values vs no_values []) in cc

pub row_taken : (row rest : ValueTrees) (inner : List Value) (ms : List ℕ) (vs : ValueTrees) → frames_in row inner ms ≡ run no_frames (tokens_each vs) → rest ≡ no_values → frames_in rest inner ms ≡ no_frames
row_taken row rest inner [] vs h is = ap (λ us. frames us []) is
row_taken row rest inner (m ∷ ms) vs h is = let none = ap (λ (g : Frames). g.outer) (h ∙ run_values vs no_values []) in cc

-- one value more
pub gained_row : (old new : List Value) (v : Value) (inner : List Value) (ms : List ℕ) → ms ≡ [] → new ≡ old ++ v ∷ [] → frames_in (views new) inner ms ≡ more (frames_in (views old) inner ms) (view v)
gained_row old new v inner [] none is = ap (λ us. frames us []) (ap views is ∙ views-push old v)
gained_row old new v inner (m ∷ ms) none is = cc

longer : (m n k : ℕ) → m ≤ n → k ≡ n + 1 → m ≤ k
longer m n k low is = grind arith

pub gained_inner : (row : ValueTrees) (old new : List Value) (v : Value) (ms : List ℕ) → (ms ≡ [] → ⊥) → new ≡ old ++ v ∷ [] → AreBegun ms (length old) → AreBegun ms (length new) × (frames_in row new ms ≡ more (frames_in row old ms) (view v))
gained_inner row old new v [] some is h = absurd (some refl)
gained_inner row old new v (m ∷ ms) some is h =
    let outside = λ (us : List Value). here_in row us ms ∷ outer_in row us ms in
    let there = ap (drop m) is ∙ drop-append-le m old (v ∷ []) h.0 in
    let kept = ap (take m) is ∙ take-append-le m old (v ∷ []) h.0 in (
      (longer m (length old) (length new) h.0 (ap length is ∙ length-append old (v ∷ [])), h.1),
      ap (λ us. frames (views us) (outside (take m new))) there
          ∙ ap (λ us. frames us (outside (take m new))) (views-push (drop m old) v)
          ∙ ap (λ us. frames (snoc (views (drop m old)) (view v)) (outside us)) kept,
    )

pub none_reversed : (ms : List ℕ) → length ms ≡ 0 → reverse ms ≡ []
none_reversed [] h = refl
none_reversed (m ∷ ms) h = cc

pub some_reversed : (ms : List ℕ) → (length ms ≡ 0 → ⊥) → reverse ms ≡ [] → ⊥
some_reversed ms some none = some (ap length (sym (reverse-reverse ms) ∙ ap reverse none))

pub view_int : (z : ℤ) → view (value_int z) ≡ integer z
view_int z = ap view (sym (rolls-Int z)) ∙ fold-roll-Value ValueTree view_step (Value-F.Int z)

pub view_bytes : (text : Vec ℕ) → view (value_bytes text) ≡ bytes text.items
view_bytes text = ap view (sym (rolls-Bytes text)) ∙ fold-roll-Value ValueTree view_step (Value-F.Bytes text)

-- a group or a list has ended, or none has begun
pub closes : (make : ValueTrees → ValueTree) (old mid new : RowBuilder) (vs : ValueTrees) (v : ValueTree) → v ≡ make vs → TakesOff old mid (Some vs) → Gains v mid new → Turns (λ f. closed make f.here f.outer) old new
closes make old mid new vs v is takes gains order =
    let e = takes order in
    let n = gains e.0 in
    (n.0, n.1 ∙ ap (more (frames_of mid)) (is ∙ ap make e.1.0) ∙ sym (ap (closed make (frames_of old).here) e.1.1))

pub closes_none : (make : ValueTrees → ValueTree) (old new : RowBuilder) → TakesOff old new None → Turns (λ f. closed make f.here f.outer) old new
closes_none make old new takes order =
    let e = takes order in
    (e.0, e.1.1 ∙ sym (ap (closed make (frames_of old).here) e.1.0 ∙ ap (frames (frames_of old).here) (sym e.1.0)))
