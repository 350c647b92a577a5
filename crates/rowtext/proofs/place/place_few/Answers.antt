use Rattle.std.proofs.Common.{◌+◌, ◌≤◌, ℕ, length, take, drop, sym, ap, arith, length-take-le, length-drop}
use Rattle.json.specs.Filled.{Placed}
use Rattle.rowtext.proofs.MovedDigits.{front_placed}
use Rattle.rowtext.proofs.place.place_few.Goals as goal

pub returns : goal.returns
returns g c =
    let old = c.args.buffer.now in
    let text = drop c.args.from old in
    let long : g.row.N ≤ length text = rw length-drop (omega (arith, c.requires.fits.0)) in
    let whole : Placed old c.copy_at.new.buffer c.args.at (take g.row.N text) (c.args.at + g.row.N) = record {
      bytes = c.copy_at.ensures;
      moved = ap (λ (m : ℕ). c.args.at + m) (sym (length-take-le g.row.N text long));
      len = c.copy_at.auto.buffer;
    } in
    front_placed old c.copy_at.new.buffer text c.args.at c.args.count g.row.N (c.args.at + g.row.N) (omega (arith, c.requires.fits.1)) c.requires.few long whole
