use Rattle.std.proofs.Common.{◌≡◌, ◌++◌, ℕ, List, [], length, take, drop, ap, sym, ◌∙◌, subst}
use Rattle.partition.specs.Splitting.{KeyRows}
use Rattle.gather.specs.declared.key_buffer.KeyBuffer.{KeyBuffer}
use Rattle.gather.specs.Groups.{full_groups}
use Rattle.gather.specs.KeyBuffers.{Hold}
use Rattle.table_jobs.proofs.RestsTaken.{full_long, rests_shorter, held_first, held_others}
use Rattle.table_jobs.proofs.rests.take_rests.Goals as goal

pub returns-clause-parts : goal.returns-clause-parts
returns-clause-parts c = λ columns fs rows some holds.
    let all = c.args.groups.now.items in
    let full = full_groups columns c.args.size rows in
    let rests = holds.are.rests in
    let held = subst (λ (gs : List KeyRows). Hold fs all gs) holds.are.parts holds.held in
    let held_here = subst (λ (bs : List KeyBuffer). Hold fs bs (full ++ rests)) (sym c.as_slice.ensures.value) held in
    let place : c.first_rest-full.result ≡ length full
    = c.first_rest-full.ensures.is fs full rests held_here (full_long columns c.args.size [] rows) (rests_shorter columns c.args.size rows rests some holds.are.are.each) in
    record {
      rests = rests;
      are = holds.are.are;
      full_held = subst (λ (bs : List KeyBuffer). Hold fs bs full) (ap (λ (n : ℕ). take n all) (sym place) ∙ sym c.in_ok-rests.ensures.items) (held_first fs all full rests held);
      rests_held = subst (λ (bs : List KeyBuffer). Hold fs bs rests) (ap (λ (n : ℕ). drop n all) (sym place) ∙ sym c.in_ok-rests.ensures.tail) (held_others fs all full rests held);
    }
