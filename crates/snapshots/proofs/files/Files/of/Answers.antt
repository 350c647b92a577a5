use Rattle.std.proofs.Common.{◌≡◌, ◌∙◌, ◌+◌, Bool, true, false, ◌||◌, List, [], ◌∷◌, drop, refl, sym, ap}
use Rattle.std.specs.declared.rc.Rc.{Rc}
use Rattle.std.specs.declared.alloc.Global.{Global}
use Rattle.manifest.specs.declared.group.Group.{Group}
use Rattle.manifest.specs.Groups.{handles_view}
use Rattle.lists.proofs.Booleans.{or_false}
use Rattle.lists.proofs.Slices.{drop_here, drop_past}
use Rattle.snapshots.specs.State.{File, files_of, is_same, is_among}
use Rattle.snapshots.specs.inner.Found.{file_in, has}
use Rattle.snapshots.proofs.files.Files.of.Goals as goal

either : (a b c : Bool) → ((a || b) || c) ≡ (b || (a || c))
either true true c = refl
either true false c = refl
either false b c = refl

abbrev among : List (Rc Group Global) → File → Bool
among gs f = is_among (files_of (handles_view gs)) f

pub loop-group-preserved : goal.loop-group-preserved
loop-group-preserved c = λ f.
    let groups = c.args.groups.now in
    let i = c.loop-group.group-index in
    let g = c.group-item.result in
    let rest = drop (i + 1) groups in
    let cut : drop i groups ≡ g ∷ rest = drop_here groups i g c.loop-group-test.true c.group-item.is in
    ap (λ (t : Bool). t || among rest f) (c.in_ok-insert.ensures.inserted f)
    ∙ either (is_same (file_in g) f) (has c.loop-group.files f) (among rest f)
    ∙ ap (λ (gs : List (Rc Group Global)). has c.loop-group.files f || among gs f) (sym cut)
    ∙ c.loop-group.invariant f

pub returns-clause-has : goal.returns-clause-has
returns-clause-has c = λ f.
    let groups = c.args.groups.now in
    let all : drop c.loop-group.group-index groups ≡ [] = drop_past groups c.loop-group.group-index c.loop-group-test.false in
    sym (or_false (has c.loop-group.files f)) ∙ ap (λ (gs : List (Rc Group Global)). has c.loop-group.files f || among gs f) (sym all) ∙ c.loop-group.invariant f
