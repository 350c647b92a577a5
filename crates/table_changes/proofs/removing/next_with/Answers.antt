use Rattle.std.proofs.Common.{◌≡◌, ◌<◌, ◌⊎◌, ◌+◌, ◌++◌, ℕ, List, [], ◌∷◌, take, inl, inr, sym, ◌∙◌, ap, subst, arith, append_assoc, ⊎_elim}
use Rattle.std.specs.List.{AllByRecursion}
use Rattle.std.proofs.lemmas.List.{append-nil, map_push}
use Rattle.std.specs.declared.rc.Rc.{Rc}
use Rattle.std.specs.declared.alloc.Global.{Global}
use Rattle.lists.proofs.Slices.{take_next as take_item}
use Rattle.lists.proofs.Lists.{all_append}
use Rattle.manifest.specs.declared.group.Group.{Group as CodeGroup}
use Rattle.manifest.specs.Groups.{Group as FileGroup, handles_view}
use Rattle.planning.specs.declared.change.Change.{Change as CodeChange}
use Rattle.planning.specs.Numbered.{brought}
use Rattle.planning.specs.Replaced.{Change, change_view, changes_view}
use Rattle.planning.specs.Told.{IsNextOf}
use Rattle.planning.proofs.Below.{below_rises}
use Rattle.table_changes.proofs.removing.next_with.Goals as goal

brought_more : (cs : List Change) (d : Change) → brought (cs ++ d ∷ []) ≡ brought cs ++ d.come
brought_more [] d = append-nil d.come
brought_more (c ∷ cs) d = ap (λ (gs : List FileGroup). c.come ++ gs) (brought_more cs d) ∙ sym (append_assoc c.come (brought cs) d.come)

next_before : (n : ℕ) (xs ys : List FileGroup) → IsNextOf n xs → IsNextOf n (xs ++ ys)
next_before n [] ys h = absurd h
next_before n (x ∷ xs) ys h = ⊎_elim (λ e. inl e) (λ l. inr (next_before n xs ys l)) h

next_behind : (n : ℕ) (xs ys : List FileGroup) → IsNextOf n ys → IsNextOf n (xs ++ ys)
next_behind n [] ys h = h
next_behind n (x ∷ xs) ys h = inr (next_behind n xs ys h)

pub loop-change-preserved : goal.loop-change-preserved
loop-change-preserved c =
    let cs = c.args.changes.now in
    let i = c.loop-change.change-index in
    let x = c.change-item.result in
    let so_far = c.loop-change.invariant in
    let result = c.next_after-after.result in
    let next = c.args.next in
    let done = brought (changes_view (take i cs)) in
    let come = handles_view x.come.items in
    let are : brought (changes_view (take (i + 1) cs)) ≡ done ++ come
    = ap (λ (ds : List CodeChange). brought (changes_view ds)) (take_item cs i x c.loop-change-test.true c.change-item.is) ∙ ap brought (map_push change_view (take i cs) x) ∙ brought_more (changes_view (take i cs)) (change_view x) in
    let above = subst (λ (hs : List (Rc CodeGroup Global)). AllByRecursion (λ (f : FileGroup). f.number < result) (handles_view hs)) c.as_slice.ensures.value c.next_after-after.ensures.above in
    let least = subst (λ (hs : List (Rc CodeGroup Global)). (result ≡ c.loop-change.after) ⊎ IsNextOf result (handles_view hs)) c.as_slice.ensures.value c.next_after-after.ensures.least in
    record {
      falls = omega (arith, so_far.falls, c.next_after-after.ensures.never_falls);
      above = subst (λ (fs : List FileGroup). AllByRecursion (λ (f : FileGroup). f.number < result) fs) (sym are)
          (all_append (λ (f : FileGroup). f.number < result) done come (below_rises c.loop-change.after result done c.next_after-after.ensures.never_falls so_far.above) above);
      least = subst (λ (fs : List FileGroup). (result ≡ next) ⊎ IsNextOf result fs) (sym are) (⊎_elim
          (λ same. ⊎_elim (λ e. inl (same ∙ e)) (λ l. inr (subst (λ (n : ℕ). IsNextOf n (done ++ come)) (sym same) (next_before c.loop-change.after done come l))) so_far.least)
          (λ l. inr (next_behind result done come l))
          least);
    }
