use Rattle.std.proofs.Common.{Some, ◌∙◌, ap, sym, subst, arith, Result, Vec, Global, ℕ}
use Rattle.std.specs.Prelude.{IfOk}
use Rattle.bits.specs.declared.refusal.Refusal.{Refusal}
use Rattle.vault.specs.Calls.{IsRangeRead}
use Rattle.upkeep.proofs.Looking.{if_ok_map}
use Rattle.upkeep.proofs.Keeping.{whole_read}
use Rattle.upkeep.proofs.checking.read_part.Goals as goal

pub returns-clause-stands : goal.returns-clause-stands
returns-clause-stands g c = λ honest.
    let s = g.D.Disk.state c.args.vault.now.disk in
    let path = c.args.path.now in
    if_ok_map _ _ c.unless_damaged.result
    (λ found is. if_ok_map _ _ found (λ bytes e.
    let P : Result (Vec ℕ Global) Refusal → Type 0 = λ r. IfOk r (λ read. IsRangeRead s path 0 18446744073709551615 read.items) in
    let range = subst P e (c.get_range-read.ensures.stands honest) in
    range.1 ∙ ap Some (sym (whole_read range.0 bytes.items 18446744073709551615 range.2 (let small = bytes.small in omega (arith, small))))) is) c.unless_damaged.ensures

pub returns-clause-effect : goal.returns-clause-effect
returns-clause-effect g c =
    let e = c.get_range-read.ensures in
    record { unchanged = e.unchanged; reads = e.reads.no_more; counts = e.counts.later; honest = e.honest }
