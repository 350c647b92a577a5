use Rattle.std.proofs.Common.{◌≡◌, drop, map}
use Rattle.jsonrows.specs.Calls.{form_named}
use Rattle.jsonrows.proofs.call_form.form_named.Given as goal

-- the words that are left give the answer
abbrev pub invariant-loop-known : goal.invariant-loop-known
invariant-loop-known l = form_named (map (λ w. (w.0.now, w.1)) (drop l.known-index l.forms)) l.name ≡ form_named (map (λ w. (w.0.now, w.1)) l.forms) l.name
