-- Places of sources, over all runs.
use Rattle.std.proofs.Common.{◌≡◌, ◌≤◌, ◌<◌, ◌+◌, ◌-◌, ℕ, zero, suc, List, [], ◌∷◌, ◌++◌, drop, length, get_or, add-one, Some, None, sym, ◌∙◌, ap, arith}
use Rattle.std.specs.List.{slice_get}
use Rattle.std.specs.Rc.{rc_value}
use Rattle.std.specs.declared.rc.Rc.{Rc}
use Rattle.std.specs.declared.alloc.Global.{Global}
use Rattle.std.proofs.lemmas.List.{length-map}
use Rattle.lists.proofs.Slices.{slice_get_left as get_front, slice_get_right as get_behind, drop_past as drop_all}
use Rattle.manifest.specs.declared.group.Group.{Group as CodeGroup}
use Rattle.manifest.specs.Groups.{Group, group_view, handles_view}
use Rattle.planning.specs.declared.change.Sources.{Sources}
use Rattle.table_reads.specs.Stepping.{sources_in, source_in}

runs_from : (xs : List Sources) (i : ℕ) (x : Sources) → i < length xs → x ≡ get_or xs i x → sources_in (drop i xs) ≡ handles_view x.groups.items ++ sources_in (drop (i + 1) xs)
runs_from xs i x h is = rw (add-one i) (by xs i h is)
  where
    by : (ys : List Sources) (n : ℕ) → n < length ys → x ≡ get_or ys n x → sources_in (drop n ys) ≡ handles_view x.groups.items ++ sources_in (drop (suc n) ys)
    by [] n l e = absurd (omega (arith, l))
    by (y ∷ ys) zero l e = ap (λ (z : Sources). handles_view z.groups.items ++ sources_in ys) (sym e)
    by (y ∷ ys) (suc n) l e = by ys n (omega (arith, l)) e

handle_at : (gs : List (Rc CodeGroup Global)) (n : ℕ) (y : Rc CodeGroup Global) → n < length gs → y ≡ get_or gs n y → Some (group_view (rc_value y)) ≡ slice_get (handles_view gs) n
handle_at [] n y low is = absurd (omega (arith, low))
handle_at (g ∷ gs) zero y low is = ap (λ (z : Rc CodeGroup Global). Some (group_view (rc_value z))) is
handle_at (g ∷ gs) (suc n) y low is = handle_at gs n y (omega (arith, low)) is

module _ (runs : List Sources) (i : ℕ) (x : Sources) (low : i < length runs) (is : x ≡ get_or runs i x) (gs : List (Rc CodeGroup Global)) (gs_are : gs ≡ x.groups.items) (place : ℕ) where
  split : sources_in (drop i runs) ≡ handles_view gs ++ sources_in (drop (i + 1) runs)
  split = runs_from runs i x low is ∙ ap (λ (hs : List (Rc CodeGroup Global)). handles_view hs ++ sources_in (drop (i + 1) runs)) (sym gs_are)

  as_long : length (handles_view gs) ≡ length gs
  as_long = length-map gs (λ (g : Rc CodeGroup Global). group_view (rc_value g))

  pub source_here : (y : Rc CodeGroup Global) → place < length gs → y ≡ get_or gs place y → Some (group_view (rc_value y)) ≡ source_in (drop i runs) place
  source_here y within at = handle_at gs place y within at ∙ sym (get_front (handles_view gs) (sources_in (drop (i + 1) runs)) place (let l = as_long in omega (arith, within, l))) ∙ ap (λ (fs : List Group). slice_get fs place) (sym split)

  pub source_later : length gs ≤ place → source_in (drop (i + 1) runs) (place - length gs) ≡ source_in (drop i runs) place
  source_later past =
      ap (λ (m : ℕ). source_in (drop (i + 1) runs) (place - m)) (sym as_long) ∙ sym (get_behind (handles_view gs) (sources_in (drop (i + 1) runs)) place (let l = as_long in omega (arith, past, l)))
      ∙ ap (λ (fs : List Group). slice_get fs place) (sym split)

pub source_none : (runs : List Sources) (i place : ℕ) → length runs ≤ i → None ≡ source_in (drop i runs) place
source_none runs i place over = ap (λ (rs : List Sources). source_in rs place) (sym (drop_all runs i over))
