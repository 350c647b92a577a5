-- Calls that only read, one after another.
use Rattle.std.proofs.Common.{◌≡◌, ◌≤◌, ◌+◌, ℕ, List, refl, ◌∙◌, arith}
use Rattle.std.specs.Prelude.{Result, Ok, Err, IfOk}
use Rattle.lists.proofs.Booleans.{iff_through as both}
use Rattle.disk.specs.State.{State}
use Rattle.vault.specs.Views.{Same}
use Rattle.vault.specs.Calls.{LeavesAll}
use Rattle.vault.proofs.Moments.{joins, rooted_joins, stays_rooted_here, clear_joins, stays_clear_here, nothing_yet, same_same}
use Rattle.upkeep.specs.Reading.{Looks}

pub leaves_then : (old mid new : State) → LeavesAll old mid → LeavesAll mid new → LeavesAll old new
leaves_then old mid new first second = record {
  moments = joins Same Same Same old mid new (λ u v w one two q. two q ∙ one q) (λ u v one. one) first.moments second.moments;
  rooted = λ had. rooted_joins Same Same old mid new first.moments second.moments (first.rooted had) second.rooted;
  clear = λ q had. clear_joins Same Same old mid new q first.moments second.moments (first.clear q had) (second.clear q);
  names = λ q. second.names q ∙ first.names q;
  seen = λ q. second.seen q ∙ first.seen q;
}

pub leaves_here : (s : State) → LeavesAll s s
leaves_here s = record {
  moments = nothing_yet Same s same_same;
  rooted = stays_rooted_here s;
  clear = stays_clear_here s;
  names = λ q. refl;
  seen = same_same _;
}

pub looks_here : (s : State) → Looks 0 s s
looks_here s = record { unchanged = λ honest. leaves_here s; reads = omega arith; counts = omega arith; honest = (λ h. h, λ h. h) }

pub looks_then : (m n : ℕ) (old mid new : State) → Looks m old mid → Looks n mid new → Looks (m + n) old new
looks_then m n old mid new first second = record {
  unchanged = λ honest. leaves_then old mid new (first.unchanged honest) (second.unchanged (first.honest.0 honest));
  reads = omega (arith, first.reads, second.reads);
  counts = omega (arith, first.counts, second.counts);
  honest = both first.honest second.honest;
}

pub looks_most : (m n : ℕ) (old new : State) → m ≤ n → Looks m old new → Looks n old new
looks_most m n old new le looks = record { unchanged = looks.unchanged; reads = omega (arith, looks.reads, le); counts = looks.counts; honest = looks.honest }

pub if_ok_map : {T E : Type 0} (P Q : T → Type 0) (r : Result T E) → ((x : T) → P x → Q x) → IfOk r P → IfOk r Q
if_ok_map P Q (Ok x) f p = f x p
if_ok_map P Q (Err e) f p = tt
