use Rattle.std.proofs.Common.{rules, ◌≡◌, ◌∙◌, ◌≤◌, List, ℕ, sym, ap, arith, length, refl, Ok, Err}
use Rattle.disk.specs.declared.fault.Fault.TheVariants.{Failed}
use Rattle.mem_disk.specs.declared.fuse.Done.TheVariants as extent
use Rattle.mem_disk.specs.declared.fuse.Trip.TheVariants.{Fails}
use Rattle.mem_disk.specs.Loose.{empty, replayed, appended}
use Rattle.mem_disk.specs.Failing.{written}
use Rattle.mem_disk.proofs.Choices.{file_node}
use Rattle.mem_disk.proofs.Effects.{file_within, appended_more, goes_to, goes_in_all, goes_in_part}
use Rattle.mem_disk.proofs.held.Held.append_file.Goals as goal

pub append-requires : goal.append-requires
append-requires c = file_within _ _ c.args.self.now.kept.sound c.args.path.now c.in-File.node (sym c.in-File.ensures)

pub append-requires-2 : goal.append-requires-2
append-requires-2 c = file_within _ _ c.args.self.now.kept.sound c.args.path.now c.in-File.node (sym c.in-File.ensures)

pub returns-then-eq-2-clause-effect : goal.returns-then-eq-2-clause-effect
returns-then-eq-2-clause-effect c f g r s =
    let most : length c.split_at.result.0.now ≤ length c.args.bytes.now = let all = c.split_at.ensures.back_len in omega arith in
    let x = appended_more _ _ f g r s (Err Failed) refl _ c.args.self.now.kept.sound c.args.path.now c.args.bytes.now _ c.in-File.node c.in_ok-append.ensures.ok (sym c.in-File.ensures) most tt in
    (x, x)

pub returns-clause-effect : goal.returns-clause-effect
returns-clause-effect c f g r s =
    let file = sym c.in-File.ensures in
    let sound = c.args.self.now.kept.sound in
    let goes = c.in_ok-append-2.ensures.ok in (
      appended_more _ _ f g r s (Ok tt) tt _ sound c.args.path.now c.args.bytes.now _ c.in-File.node goes file (omega arith) refl,
      appended_more _ _ f g r s (Err Failed) refl _ sound c.args.path.now c.args.bytes.now _ c.in-File.node goes file (omega arith) tt,
    )

pub returns-then-eq-2-clause-extent : goal.returns-then-eq-2-clause-extent
returns-then-eq-2-clause-extent c n file =
    let part : c.args.trip ≡ Fails extent.Part = (search rules) in
    let node : c.in-File.node ≡ n = file_node c.in-File.node n (c.in-File.ensures ∙ file) in
    goes_in_part (written n c.args.bytes.now) c.args.trip c.args.self.now.calls.items c.append.new.self.calls.items part
    (goes_to _ _ _ c.in_ok-append.ensures.ok
    ∙ ap (λ (k : ℕ). appended (replayed empty c.args.self.now.calls.items) k c.split_at.result.0.now) node
    ∙ ap (λ (half : List ℕ). appended (replayed empty c.args.self.now.calls.items) n half) c.split_at.ensures.front)

pub returns-clause-extent : goal.returns-clause-extent
returns-clause-extent c n file =
    let none : c.args.trip ≡ Fails extent.Nothing → ⊥ = λ e. (search rules) in
    let part : c.args.trip ≡ Fails extent.Part → ⊥ = λ e. (search rules) in
    let node : c.in-File.node ≡ n = file_node c.in-File.node n (c.in-File.ensures ∙ file) in
    goes_in_all (written n c.args.bytes.now) c.args.trip c.args.self.now.calls.items c.append-2.new.self.calls.items none part
    (goes_to _ _ _ c.in_ok-append-2.ensures.ok ∙ ap (λ (k : ℕ). appended (replayed empty c.args.self.now.calls.items) k c.args.bytes.now) node)

pub returns-clause-whole : goal.returns-clause-whole
returns-clause-whole c n file =
    let node : c.in-File.node ≡ n = file_node c.in-File.node n (c.in-File.ensures ∙ file) in
    goes_to _ _ _ c.in_ok-append-2.ensures.ok ∙ ap (λ (k : ℕ). appended (replayed empty c.args.self.now.calls.items) k c.args.bytes.now) node
