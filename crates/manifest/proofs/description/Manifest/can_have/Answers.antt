use Rattle.std.proofs.Common.{◌≡◌, ◌+◌, ◌∷◌, List, drop, ap, sym, subst, ◌∙◌, refl, arith}
use Rattle.std.specs.Prelude.{◌↔◌, Bool, IsTrue}
use Rattle.std.specs.Rc.{rc_value}
use Rattle.std.specs.declared.rc.Rc.{Rc}
use Rattle.std.specs.declared.alloc.Global.{Global}
use Rattle.std.proofs.lemmas.Bool.{false≢true}
use Rattle.std.proofs.lemmas.List.{drop_more, drop_all}
use Rattle.schema.specs.Shape.{Fields}
use Rattle.schema.specs.Keys.{KeyColumn}
use Rattle.manifest.specs.declared.group.Group.{Group as CodeGroup}
use Rattle.manifest.specs.Groups.{Group, root_of, group_view, handles_view}
use Rattle.manifest.specs.Records.{IsGroup}
use Rattle.manifest.specs.Root.{CanHave, stored_of}
use Rattle.manifest.proofs.description.Manifest.can_have.Goals as goal

-- what was told of the group is told of it in the table
told : (keys ks : List KeyColumn) (stored fs : Fields) (g h : CodeGroup) (is : Bool) → ks ≡ keys → fs ≡ stored → h ≡ g → IsTrue is ↔ IsGroup ks fs (group_view h) → IsTrue is ↔ IsGroup keys stored (group_view g)
told keys ks stored fs g h is k f e t = subst (λ (x : CodeGroup). IsTrue is ↔ IsGroup keys stored (group_view x)) e (subst (λ (xs : Fields). IsTrue is ↔ IsGroup keys xs (group_view h)) f (subst (λ (xs : List KeyColumn). IsTrue is ↔ IsGroup xs fs (group_view h)) k t))

pub returns-then-not-branch-clause-can : goal.returns-then-not-branch-clause-can
returns-then-not-branch-clause-can c =
    let root = root_of c.args.self.now in
    let xs = c.args.groups.now in
    let i = c.loop-group.group-index in
    let x = c.group-item.result in
    let here : drop i xs ≡ x ∷ drop (i + 1) xs = drop_more xs i x (omega arith) ∙ ap (λ (y : Rc CodeGroup Global). y ∷ drop (i + 1) xs) (sym c.group-item.is) in
    let is = told root.keys _ (stored_of root) _ (rc_value x) _ _ c.keys-keys.ensures.are c.stored-stored.ensures c.deref.ensures
    (c.in_ok-is_group.ensures.is c.stored-stored.result.now c.leaves-leaves.ensures.valid c.leaves-leaves.ensures.leaves_are c.in_ok-fronts.ensures.of) in (
      (λ h. absurd (false≢true h)),
      (λ h. absurd (false≢true (sym c.if-not-branch.true ∙ is.1 (subst (λ (ys : List (Rc CodeGroup Global)). CanHave root (handles_view ys)) here (c.loop-group.invariant.left h)).0))),
    )

pub loop-group-preserved : goal.loop-group-preserved
loop-group-preserved c =
    let root = root_of c.args.self.now in
    let xs = c.args.groups.now in
    let i = c.loop-group.group-index in
    let x = c.group-item.result in
    let here : drop i xs ≡ x ∷ drop (i + 1) xs = drop_more xs i x (omega arith) ∙ ap (λ (y : Rc CodeGroup Global). y ∷ drop (i + 1) xs) (sym c.group-item.is) in
    let is = told root.keys _ (stored_of root) _ (rc_value x) _ _ c.keys-keys.ensures.are c.stored-stored.ensures c.deref.ensures
    (c.in_ok-is_group.ensures.is c.stored-stored.result.now c.leaves-leaves.ensures.valid c.leaves-leaves.ensures.leaves_are c.in_ok-fronts.ensures.of) in
    record {
      whole = λ h. c.loop-group.invariant.whole (subst (λ (ys : List (Rc CodeGroup Global)). CanHave root (handles_view ys)) (sym here) (is.0 c.if-not-branch.false, h));
      left = λ h. (subst (λ (ys : List (Rc CodeGroup Global)). CanHave root (handles_view ys)) here (c.loop-group.invariant.left h)).1;
    }

pub returns-clause-can : goal.returns-clause-can
returns-clause-can c = (
  (λ h. c.loop-group.invariant.whole (subst (λ (ys : List (Rc CodeGroup Global)). CanHave (root_of c.args.self.now) (handles_view ys)) (sym (drop_all c.loop-group.group-index c.args.groups.now (omega arith))) tt)),
  (λ h. refl),
)
