use Rattle.std.proofs.Common.{◌≡◌, ◌↔◌, map, take, length}
use Rattle.std.specs.Vec.{vec_len, vec_capacity}
use Rattle.table.specs.State.{State}
use Rattle.table.specs.Views.{call_view, answer_view}
use Rattle.table_state.specs.Stands.{Stands}
use Rattle.store.specs.Running.{RunsFrom}
use Rattle.commands.specs.Stopping.{AreDone}
use Rattle.commands.proofs.stopping.make_to_refusal.Given as goal

-- the calls so far were made, none of them is refused, and there is room for an answer to each of the others
abbrev pub invariant-loop-call : goal.invariant-loop-call
invariant-loop-call g l = record {
  runs : (g.D.Disk.state l.fn.store.vault.disk).honest → (s : State) → Stands g.D.Disk.state l.fn.store s
      → RunsFrom g.D.Disk.state l.fn.store l.store (map call_view (take l.call-index l.calls)) (map answer_view l.answers.items) s;
  done : AreDone (map answer_view l.answers.items);
  so_far : vec_len l.answers ≡ l.call-index;
  room : vec_capacity l.answers ≡ length l.calls;
  honest : (g.D.Disk.state l.fn.store.vault.disk).honest ↔ (g.D.Disk.state l.store.vault.disk).honest;
}
