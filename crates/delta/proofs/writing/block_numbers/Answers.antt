use Rattle.std.proofs.Common.{◌≡◌, ℕ, zero, List, [], ◌∷◌, ◌+◌, ◌-◌, ◌*◌, ◌^◌, ◌<◌, ◌++◌, ◌∙◌, min, refl, length, get_or, map, take, set, replicate, sym, ap, subst, arith, inl, inr}
use Rattle.std.specs.Prelude.{ℤ, pos, ◌+ℤ◌, ◌-ℤ◌, ◌≤ℤ◌, slice_index}
use Rattle.std.specs.Int.{w64, byte_len, int_wrap, cast_signed, cast_unsigned}
use Rattle.std.proofs.lemmas.Int.{to_z-of_z}
use Rattle.std.proofs.lemmas.Bool.{cases_lt}
use Rattle.std.proofs.lemmas.List.{length-map, get_or-map, take_more, take_more_set, length-set, length-take-le, length-replicate, get_or-take, get_or-replicate, get_or-set_same, get_or-set_other}
use Rattle.std.proofs.Math.ListN.{get_or-eq_default}
use Rattle.std.proofs.lemmas.List.Elements.{All-set, All-replicate, All-get_or}
use Rattle.std.proofs.lemmas.List.FromFn.{get_or-map-range_with_len}
use Rattle.delta.specs.Written.{delta_at, deltas_from, IsLeast}
use Rattle.delta.specs.inner.Taken.{Adds, deltas_of}
use Rattle.delta.specs.inner.Put.{block_count}
use Rattle.delta.proofs.Sums.{adds_nothing, adds_number}
use Rattle.delta.proofs.Putting.{zero_narrow}
use Rattle.delta.proofs.Least.{delta_read, filled_up}
use Rattle.delta.proofs.WrittenBlocks.{deltas_count}
use Rattle.delta.proofs.writing.block_numbers.Goals as goal

zeros_at : (n k : ℕ) → slice_index (replicate n 0) k ≡ 0
zeros_at n k = elim (cases_lt k n) [
  | inl lt ↦ get_or-replicate n k 0 0 lt
  | inr ge ↦ get_or-eq_default (replicate n 0) 0 (let size : length (replicate n zero) ≡ n = length-replicate n zero in omega (arith, size, ge))
]

pub loop-i-init : goal.loop-i-init
loop-i-init g c =
    let seen = map g.T.Integer.seen c.args.values.now in
    let w = g.T.Integer.width in
    let at = c.args.at in
    record {
      count = refl;
      narrow = All-replicate (λ x. x < 2 ^ (8 * byte_len w)) 128 0 (zero_narrow (8 * byte_len w));
      added = subst (λ (k : ℕ). Adds w [] (take at seen) (take k seen)) (let e : at ≡ at + 0 = omega arith in e) (adds_nothing w (take at seen));
      exact = λ wrapped is k lt. absurd (omega (arith, lt));
      zeros = λ k le. zeros_at 128 k;
    }

pub loop-i-preserved : goal.loop-i-preserved
loop-i-preserved g c =
    let see = g.T.Integer.seen in
    let values = c.args.values.now in
    let seen = map see values in
    let w = g.T.Integer.width in
    let at = c.args.at in
    let i = c.loop-i.i in
    let xs = c.loop-i.numbers in
    let least = cast_signed w64 (cast_unsigned w64 c.args.least) in
    let size : length seen ≡ length values = length-map values see in
    let inside : at + i < length values = omega (arith, c.loop-i-test.true, c.min-i-end.ensures, c.requires.some) in
    let small : i < length xs = omega (arith, c.loop-i-test.true, c.min-i-end.ensures, c.loop-i.invariant.count) in
    let before : get_or seen (at + i - 1) (pos 0) ≡ see c.index-values-at.result = get_or-map see values (at + i - 1) c.index-values-at.result (pos 0) (omega (arith, inside)) ∙ ap see (sym c.index-values-at.is) in
    let last : get_or (take (at + i) seen) (length (take (at + i) seen) - 1) (pos 0) ≡ see c.index-values-at.result =
    ap (λ (k : ℕ). get_or (take (at + i) seen) k (pos 0)) (let e : length (take (at + i) seen) - 1 ≡ at + i - 1 = omega (arith, length-take-le (at + i) seen (omega (arith, inside, size))) in e)
    ∙ get_or-take (at + i) seen (at + i - 1) (pos 0) (omega (arith, c.requires.begun)) ∙ before in
    let next : get_or seen (at + i) (pos 0) ≡ see c.index-values-at-in-loop-i.result = get_or-map see values (at + i) c.index-values-at-in-loop-i.result (pos 0) inside ∙ ap see (sym c.index-values-at-in-loop-i.is) in
    let put : take (at + (i + 1)) seen ≡ take (at + i) seen ++ see c.index-values-at-in-loop-i.result ∷ [] =
    ap (λ (k : ℕ). take k seen) (let e : at + (i + 1) ≡ at + i + 1 = omega arith in e) ∙ take_more seen (at + i) (pos 0) (omega (arith, inside, size)) ∙ ap (λ (z : ℤ). take (at + i) seen ++ z ∷ []) next in
    record {
      count = length-set xs i c.gap.result ∙ c.loop-i.invariant.count;
      narrow = All-set (λ x. x < 2 ^ (8 * byte_len w)) xs i c.gap.result c.gap.ensures.narrow c.loop-i.invariant.narrow;
      added = subst (λ (t : List ℕ). Adds w (deltas_of least t) (take at seen) (take (at + (i + 1)) seen)) (sym (take_more_set xs i c.gap.result small))
          (adds_number w least (see c.index-values-at.result) (see c.index-values-at-in-loop-i.result) (take i xs) c.gap.result (take at seen) (take (at + i) seen) (take (at + (i + 1)) seen) c.loop-i.invariant.added last (sym c.gap.ensures.leads) put);
      exact = λ wrapped is k lt. elim (cases_lt k i) [
        | inl before ↦ ap (λ (x : ℕ). least +ℤ pos x) (get_or-set_other xs i k c.gap.result 0 (omega (arith, before))) ∙ c.loop-i.invariant.exact wrapped is k before
        | inr from ↦
            let same : k ≡ i = omega (arith, lt, from) in
            let deltas = deltas_from w seen (at - 1) in
            let counted : length deltas ≡ block_count seen at = deltas_count w seen at c.requires.begun in
            let inner : i < length deltas = omega (arith, counted, c.loop-i-test.true, c.min-i-end.ensures, size) in
            let delta : get_or deltas i (pos 0) ≡ delta_at w seen (at - 1 + i) = get_or-map-range_with_len (delta_at w seen) (at - 1) (min 128 (length seen - 1 - (at - 1))) i (at - 1 + i) (pos 0) (omega (arith, inner, counted, c.requires.begun)) refl in
            let read : int_wrap w (see c.index-values-at-in-loop-i.result -ℤ see c.index-values-at.result) ≡ delta_at w seen (at - 1 + i) = delta_read w seen (at + i) (see c.index-values-at.result) (see c.index-values-at-in-loop-i.result) (at - 1 + i) (omega (arith, c.requires.begun)) before next in
            let below : least ≤ℤ delta_at w seen (at - 1 + i) = subst (λ (z : ℤ). least ≤ℤ z) delta (All-get_or (λ z. least ≤ℤ z) deltas i (pos 0) inner is.below) in
            let above : least +ℤ pos c.gap.result ≡ delta_at w seen (at - 1 + i) = c.gap.ensures.exact wrapped (subst (λ (z : ℤ). least ≤ℤ z) (sym read) below) ∙ read in
            ap (λ (j : ℕ). least +ℤ pos (slice_index (set xs i c.gap.result) j)) same ∙ ap (λ (x : ℕ). least +ℤ pos x) (get_or-set_same xs i c.gap.result 0 small) ∙ above ∙ ap (λ (j : ℕ). delta_at w seen (at - 1 + j)) (sym same)
      ];
      zeros = λ k le. get_or-set_other xs i k c.gap.result 0 (omega (arith, le)) ∙ c.loop-i.invariant.zeros k (omega (arith, le));
    }

pub returns-clause-added : goal.returns-clause-added
returns-clause-added g c =
    let see = g.T.Integer.seen in
    let seen = map see c.args.values.now in
    let w = g.T.Integer.width in
    let at = c.args.at in
    let least_is = to_z-of_z w64 c.args.least c.ranges.least in
    let all : c.loop-i.i ≡ min (length seen - at) 128 = omega (arith, c.loop-i-test.false, c.loop-i.auto.i-end, c.min-i-end.ensures, length-map c.args.values.now see) in
    subst (λ (k : ℕ). Adds w (deltas_of c.args.least (take k c.loop-i.numbers)) (take at seen) (take (at + k) seen)) all
    (subst (λ (z : ℤ). Adds w (deltas_of z (take c.loop-i.i c.loop-i.numbers)) (take at seen) (take (at + c.loop-i.i) seen)) least_is c.loop-i.invariant.added)

pub returns-clause-exact : goal.returns-clause-exact
returns-clause-exact g c = λ wrapped is.
    let see = g.T.Integer.seen in
    let seen = map see c.args.values.now in
    let w = g.T.Integer.width in
    let at = c.args.at in
    let least = cast_signed w64 (cast_unsigned w64 c.args.least) in
    let least_is : least ≡ c.args.least = to_z-of_z w64 c.args.least c.ranges.least in
    let all : c.loop-i.i ≡ min 128 (length seen - 1 - (at - 1)) = omega (arith, c.loop-i-test.false, c.loop-i.auto.i-end, c.min-i-end.ensures, length-map c.args.values.now see, c.requires.begun) in
    filled_up w seen (at - 1) c.loop-i.i c.args.least c.loop-i.numbers c.loop-i.invariant.count all
    (subst (λ (z : ℤ). (k : ℕ) → k < c.loop-i.i → z +ℤ pos (slice_index c.loop-i.numbers k) ≡ delta_at w seen (at - 1 + k)) least_is
    (c.loop-i.invariant.exact (subst (λ (z : ℤ). int_wrap w z ≡ z) (sym least_is) wrapped) (subst (λ (z : ℤ). IsLeast (deltas_from w seen (at - 1)) z) (sym least_is) is)))
    c.loop-i.invariant.zeros
