-- A next root that was whole within a call was so within what the call is a part of.
use Rattle.std.proofs.Common.{◌≤◌, arith}
use Rattle.disk.specs.State.{State as DiskState}
use Rattle.table_state.specs.Promises.{KeepsPast, WasNextKept}

-- what began before
pub next_kept_since : (old mid new : DiskState) → old.moment ≤ mid.moment → WasNextKept mid new → WasNextKept old new
next_kept_since old mid new earlier (root, was) =
    (root, record { moment = was.moment; from = let f = was.from in omega (arith, earlier, f); until = was.until; possible = was.possible; each = was.each })

-- what goes on after
pub next_kept_on : (old mid new : DiskState) → KeepsPast mid new → WasNextKept old mid → WasNextKept old new
next_kept_on old mid new past (root, was) = (
  root,
  record {
    moment = was.moment;
    from = was.from;
    until = let u = was.until in let l = past.later in omega (arith, u, l);
    possible = (was.possible.0, past.keeps was.moment was.possible.0 was.until was.possible.1);
    each = λ c at. was.each c (past.history was.moment c was.until at);
  },
)
