use Rattle.std.proofs.Common.{◌≡◌, ◌∙◌, ◌+◌, List, ℕ, [], length, map, string_bytes, ap, subst, arith}
use Rattle.disk.specs.State.{State}
use Rattle.manifest.specs.Groups.{Root, root_of}
use Rattle.upkeep.specs.Intact.{AreLeftovers}
use Rattle.upkeep.specs.Reading.{Looks}
use Rattle.upkeep.proofs.Looking.{looks_here, looks_then, looks_most}
use Rattle.upkeep.proofs.Keeping.{is_intact, are_held, leftovers_before}
use Rattle.upkeep.proofs.checking.check.Goals as goal

-- a check of all groups, a listing and a look at the files listed
looks_thrice : (n : ℕ) (one two three four : State) → Looks n one two → Looks 0 two three → Looks 0 three four → Looks n one four
looks_thrice n one two three four first second third = looks_most (n + 0 + 0) n one four (omega arith) (looks_then (n + 0) 0 one three four (looks_then n 0 one two three first second) third)

pub returns-in_err-totals-clause-effect : goal.returns-in_err-totals-clause-effect
returns-in_err-totals-clause-effect g c = let s = g.D.Disk.state c.args.vault.now.disk in looks_most 0 (length (root_of c.args.manifest.now).groups) s s (omega arith) (looks_here s)

pub returns-in_err-unnamed-clause-effect : goal.returns-in_err-unnamed-clause-effect
returns-in_err-unnamed-clause-effect g c =
    let n = length (root_of c.args.manifest.now).groups in
    let s0 = g.D.Disk.state c.args.vault.now.disk in
    let s2 = g.D.Disk.state c.leftovers.new.vault.disk in
    looks_most (n + 0) n s0 s2 (omega arith) (looks_then n 0 s0 (g.D.Disk.state c.check_files.new.vault.disk) s2 c.check_files.ensures.effect c.leftovers.ensures.effect)

pub returns-in_err-unnamed_bytes-clause-effect : goal.returns-in_err-unnamed_bytes-clause-effect
returns-in_err-unnamed_bytes-clause-effect g c =
    let state = g.D.Disk.state in
    looks_thrice (length (root_of c.args.manifest.now).groups) (state c.args.vault.now.disk) (state c.check_files.new.vault.disk) (state c.leftovers.new.vault.disk) (state c.bytes_at.new.vault.disk) c.check_files.ensures.effect c.leftovers.ensures.effect c.bytes_at.ensures.effect

pub returns-clause-effect : goal.returns-clause-effect
returns-clause-effect g c =
    let state = g.D.Disk.state in
    looks_thrice (length (root_of c.args.manifest.now).groups) (state c.args.vault.now.disk) (state c.check_files.new.vault.disk) (state c.leftovers.new.vault.disk) (state c.bytes_at.new.vault.disk) c.check_files.ensures.effect c.leftovers.ensures.effect c.bytes_at.ensures.effect

pub returns-clause-held : goal.returns-clause-held
returns-clause-held g c = λ honest empty. are_held (g.D.Disk.state c.args.vault.now.disk).seen (root_of c.args.manifest.now) (c.in_ok-check_files.ensures.held honest empty)

pub returns-clause-unnamed : goal.returns-clause-unnamed
returns-clause-unnamed g c = λ honest.
    let looks = c.check_files.ensures.effect in
    leftovers_before (g.D.Disk.state c.args.vault.now.disk) (g.D.Disk.state c.check_files.new.vault.disk) (root_of c.args.manifest.now) (map string_bytes c.in_ok-unnamed.unnamed.items) (looks.unchanged honest) (c.in_ok-unnamed.ensures.stands (looks.honest.0 honest))

pub returns-clause-intact : goal.returns-clause-intact
returns-clause-intact g c = λ honest empty none.
    let s0 = g.D.Disk.state c.args.vault.now.disk in
    let s1 = g.D.Disk.state c.check_files.new.vault.disk in
    let root = root_of c.args.manifest.now in
    let looks = c.check_files.ensures.effect in
    let alone = subst (λ (ps : List (List ℕ)). AreLeftovers s1.seen root ps) (ap (map string_bytes) none) (c.in_ok-unnamed.ensures.stands (looks.honest.0 honest)) in
    is_intact s0 s1 root (looks.unchanged honest) (c.in_ok-check_files.ensures.held honest empty) alone
