use Rattle.std.proofs.Common.{◌≡◌, ◌<◌, ◌∙◌, length, get_or, map, ap, sym, arith, rules, FitsSigned}
use Rattle.std.specs.Prelude.{ℤ, pos}
use Rattle.std.specs.Int.{w64, int_wrap}
use Rattle.std.proofs.lemmas.Int.{to_z-of_z}
use Rattle.std.proofs.lemmas.List.{length-map, get_or-map}
use Rattle.delta.proofs.writing.first_number.Goals as goal

pub returns : goal.returns
returns g c = record {
  is = λ some.
      let see = g.T.Integer.seen in
      let values = c.args.values.now in
      let fits : FitsSigned w64 c.number.result = search rules in
      let first : get_or (map see values) 0 (pos 0) ≡ see c.index-values-0.result = get_or-map see values 0 c.index-values-0.result (pos 0) (omega (arith, some, length-map values see)) ∙ ap see (sym c.index-values-0.is) in
      let wrapped : int_wrap g.T.Integer.width c.number.result ≡ c.number.result = ap (λ (z : ℤ). int_wrap g.T.Integer.width z) c.number.ensures.is ∙ c.number.ensures.fits ∙ sym c.number.ensures.is in
      rw (to_z-of_z w64 c.number.result fits) (first ∙ sym c.number.ensures.is, wrapped);
  first =
      let see = g.T.Integer.seen in
      let values = c.args.values.now in
      let fits : FitsSigned w64 c.number.result = search rules in
      let some : 0 < length values = grind (arith, c.is_empty.ensures, c.if-is_empty.false) in
      rw (to_z-of_z w64 c.number.result fits) (get_or-map see values 0 c.index-values-0.result (pos 0) some ∙ ap see (sym c.index-values-0.is) ∙ sym c.number.ensures.is);
}
