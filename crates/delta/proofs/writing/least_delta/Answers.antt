use Rattle.std.proofs.Common.{◌≡◌, ℕ, List, [], ◌∷◌, ◌+◌, ◌-◌, ◌<◌, ◌++◌, ◌∙◌, min, length, get_or, map, sym, ap, subst, arith, rules, FitsSigned, to_z}
use Rattle.std.specs.Prelude.{ℤ, pos, ◌-ℤ◌}
use Rattle.std.specs.List.{range_with_len}
use Rattle.std.specs.Int.{w64, int_wrap, int_min}
use Rattle.std.proofs.lemmas.Int.{to_z-of_z, int_wrap_fits, SFits-int_wrap}
use Rattle.std.proofs.lemmas.List.{length-map, get_or-map}
use Rattle.std.proofs.lemmas.List.FromFn.{map-range_with_len_more}
use Rattle.delta.specs.Written.{delta_at, IsLeast}
use Rattle.delta.proofs.Least.{delta_read, least_of_one, least_more, wrapped_min}
use Rattle.delta.proofs.writing.least_delta.Goals as goal

pub loop-i-init : goal.loop-i-init
loop-i-init g c =
    let see = g.T.Integer.seen in
    let values = c.args.values.now in
    let seen = map see values in
    let w = g.T.Integer.width in
    let at = c.args.at in
    let d = c.delta-least.result in
    let fits : FitsSigned w64 d = search rules in
    let before : get_or seen (at - 1) (pos 0) ≡ see c.index-values-at.result = get_or-map see values (at - 1) c.index-values-at.result (pos 0) (omega (arith, c.requires)) ∙ ap see (sym c.index-values-at.is) in
    let next : get_or seen at (pos 0) ≡ see c.index-values-at-2.result = get_or-map see values at c.index-values-at-2.result (pos 0) c.requires.some ∙ ap see (sym c.index-values-at-2.is) in
    let wrapped : int_wrap w d ≡ d = ap (λ (z : ℤ). int_wrap w z) c.delta-least.ensures ∙ int_wrap_fits w _ (SFits-int_wrap w (see c.index-values-at-2.result -ℤ see c.index-values-at.result)) ∙ sym c.delta-least.ensures in
    let is : d ≡ delta_at w seen (at - 1) = c.delta-least.ensures ∙ delta_read w seen at (see c.index-values-at.result) (see c.index-values-at-2.result) (at - 1) (omega (arith, c.requires.begun)) before next in
    rw (to_z-of_z w64 d fits) record {
      begun = omega arith;
      least = subst (λ (n : ℕ). IsLeast (map (delta_at w seen) (range_with_len (at - 1) n)) d) (let e : 1 ≡ at + 1 - at = omega arith in e) (subst (λ (z : ℤ). IsLeast (z ∷ []) d) is (least_of_one d));
      fits = wrapped;
    }

pub loop-i-preserved : goal.loop-i-preserved
loop-i-preserved g c =
    let see = g.T.Integer.seen in
    let values = c.args.values.now in
    let seen = map see values in
    let w = g.T.Integer.width in
    let at = c.args.at in
    let i = c.loop-i.i in
    let least = to_z w64 c.loop-i.least-bits in
    let d = c.delta.result in
    let new = c.min-least.result in
    let fits : FitsSigned w64 new = search rules in
    let d_fits : FitsSigned w64 d = search rules in
    let begun = c.loop-i.invariant.begun in
    let inside : i < length values = omega (arith, c.loop-i-test.true, c.min-i-end.ensures) in
    let before : get_or seen (i - 1) (pos 0) ≡ see c.index-values-i.result = get_or-map see values (i - 1) c.index-values-i.result (pos 0) (omega (arith, inside)) ∙ ap see (sym c.index-values-i.is) in
    let next : get_or seen i (pos 0) ≡ see c.index-values-i-in-loop-i.result = get_or-map see values i c.index-values-i-in-loop-i.result (pos 0) inside ∙ ap see (sym c.index-values-i-in-loop-i.is) in
    let wrapped : int_wrap w d ≡ d = ap (λ (z : ℤ). int_wrap w z) c.delta.ensures ∙ int_wrap_fits w _ (SFits-int_wrap w (see c.index-values-i-in-loop-i.result -ℤ see c.index-values-i.result)) ∙ sym c.delta.ensures in
    let is : d ≡ delta_at w seen (i - 1) = c.delta.ensures ∙ delta_read w seen i (see c.index-values-i.result) (see c.index-values-i-in-loop-i.result) (i - 1) (omega (arith, begun)) before next in
    let value : new ≡ int_min least d = simp to_z-of_z at c.min-least.ensures.value in
    let more : map (delta_at w seen) (range_with_len (at - 1) (i + 1 - at)) ≡ map (delta_at w seen) (range_with_len (at - 1) (i - at)) ++ d ∷ [] =
    ap (λ (n : ℕ). map (delta_at w seen) (range_with_len (at - 1) n)) (let e : i + 1 - at ≡ i - at + 1 = omega (arith, begun) in e)
    ∙ map-range_with_len_more (delta_at w seen) (at - 1) (i - at) (i - 1) (omega (arith, begun, c.requires.begun))
    ∙ ap (λ (z : ℤ). map (delta_at w seen) (range_with_len (at - 1) (i - at)) ++ z ∷ []) (sym is) in
    rw (to_z-of_z w64 new fits) record {
      begun = omega (arith, begun);
      least = subst (λ (z : ℤ). IsLeast (map (delta_at w seen) (range_with_len (at - 1) (i + 1 - at))) z) (sym value)
          (subst (λ (ds : List ℤ). IsLeast ds (int_min least d)) (sym more) (least_more (map (delta_at w seen) (range_with_len (at - 1) (i - at))) least d c.loop-i.invariant.least));
      fits = ap (λ (z : ℤ). int_wrap w z) value ∙ wrapped_min w least d c.loop-i.invariant.fits wrapped ∙ sym value;
    }

pub returns-clause-least : goal.returns-clause-least
returns-clause-least g c =
    let seen = map g.T.Integer.seen c.args.values.now in
    let w = g.T.Integer.width in
    let at = c.args.at in
    let all : c.loop-i.i - at ≡ min 128 (length seen - 1 - (at - 1)) =
    omega (arith, c.loop-i-test.false, c.loop-i.auto.i-end, c.min-i-end.ensures, c.saturating_add.ensures, length-map c.args.values.now g.T.Integer.seen, c.requires, c.loop-i.invariant.begun) in
    subst (λ (n : ℕ). IsLeast (map (delta_at w seen) (range_with_len (at - 1) n)) (to_z w64 c.loop-i.least-bits)) all c.loop-i.invariant.least
