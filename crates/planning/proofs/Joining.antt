-- Edits at one place are joined.
use Rattle.std.specs.List.{slice_get}
use Rattle.std.specs.Rc.{rc_value}
use Rattle.std.specs.declared.rc.Rc.{Rc}
use Rattle.manifest.specs.declared.group.Group.{Group as CodeGroup}
use Rattle.std.proofs.Common.{◌≡◌, ◌<◌, zero, suc, get_or, Some, Global, ℕ, ◌+◌, ◌-◌, Bool, true, false, List, [], ◌∷◌, ◌++◌, map, take, drop, length, nat_eq, refl, sym, ◌∙◌, ap, subst, append_assoc, arith}
use Rattle.std.specs.Prelude.{if◌then◌else◌}
use Rattle.std.specs.List.{AllByRecursion}
use Rattle.std.proofs.lemmas.Bool.{false≢true, eqb-true}
use Rattle.partition.specs.Order.{AreInTableOrder}
use Rattle.table.specs.InOrder.{in_order}
use Rattle.manifest.specs.declared.version.Edit.{Edit as CodeEdit}
use Rattle.manifest.specs.Groups.{Group, Edit, group_view, handles_view, edits_view, keys_of, place_after, spliced, AreEdits}
use Rattle.planning.proofs.Changes.{pushed}
use Rattle.planning.specs.Placed.{edit_after, edit_view, is_last_at, come_of_last, brings, one_more_at, placed_in}
use Rattle.planning.specs.Runs.{front_of}
use Rattle.planning.proofs.Placing.{appended_in_order, appended_fits}

abbrev OnlyBring : List Edit → Type 0
OnlyBring es = AllByRecursion (λ (e : Edit). e.gone ≡ 0) es

-- the edits do the same as these, whatever edits follow
record Same (es fs : List Edit) : Type 0 where
  pub splice : (from : ℕ) (rest : List Edit) (gs : List Group) → spliced from (es ++ rest) gs ≡ spliced from (fs ++ rest) gs
  pub fit : (from count : ℕ) (rest : List Edit) → AreEdits from (fs ++ rest) count → AreEdits from (es ++ rest) count

behind : (e : Edit) (es fs : List Edit) → Same es fs → Same (e ∷ es) (e ∷ fs)
behind e es fs h = record {
  splice = λ from rest gs. ap (λ hs. take (e.at - from) gs ++ (e.come ++ hs)) (h.splice (e.at + e.gone) rest (drop (e.at - from + e.gone) gs));
  fit = λ from count rest a. (a.0, h.fit (e.at + e.gone) count rest a.1);
}

joined : (e : Edit) (at : ℕ) (g : Group) → e.gone ≡ 0 → e.at ≡ at → Same (brings at (e.come ++ g ∷ []) ∷ []) (e ∷ brings at (g ∷ []) ∷ [])
joined e at g none is = subst (λ p. Same (brings p (e.come ++ g ∷ []) ∷ []) (e ∷ brings p (g ∷ []) ∷ [])) is
    (subst (λ n. Same (brings e.at (e.come ++ g ∷ []) ∷ []) (record { at = e.at; gone = n; come = e.come } ∷ brings e.at (g ∷ []) ∷ [])) (sym none) (record { splice = two; fit = fits }))
  where
    fits : (from count : ℕ) (rest : List Edit) → AreEdits from (brings e.at e.come ∷ brings e.at (g ∷ []) ∷ rest) count → AreEdits from (brings e.at (e.come ++ g ∷ []) ∷ rest) count
    fits from count rest a = (a.0, a.1.1)

    two : (from : ℕ) (rest : List Edit) (gs : List Group) → spliced from (brings e.at (e.come ++ g ∷ []) ∷ rest) gs ≡ spliced from (brings e.at e.come ∷ brings e.at (g ∷ []) ∷ rest) gs
    two from rest gs =
        let xs = drop (e.at - from + 0) gs in
        let zero_left : e.at - (e.at + 0) ≡ 0 = omega arith in
        ap (λ hs. take (e.at - from) gs ++ hs) (append_assoc e.come (g ∷ []) (spliced (e.at + 0) rest xs)
        ∙ ap (λ hs. e.come ++ hs) (sym (ap (λ n. take n xs ++ (g ∷ spliced (e.at + 0) rest (drop (n + 0) xs))) zero_left)))

one_same : (es : List Edit) (at : ℕ) (g : Group) → OnlyBring es → Same (one_more_at es at g) (es ++ brings at (g ∷ []) ∷ [])
one_same es at g o = by (is_last_at es at) refl
  where
    itself : (fs : List Edit) → Same fs fs
    itself fs = record { splice = λ from rest gs. refl; fit = λ from count rest a. a }

    with_last : (fs : List Edit) → OnlyBring fs → is_last_at fs at ≡ true → Same (front_of fs ++ brings at (come_of_last fs ++ g ∷ []) ∷ []) (fs ++ brings at (g ∷ []) ∷ [])
    with_last [] a e = absurd (false≢true e)
    with_last (f ∷ []) a e = joined f at g a.0 (eqb-true f.at at e)
    with_last (f ∷ h ∷ fs) a e = behind f _ _ (with_last (h ∷ fs) a.1 e)

    by : (b : Bool) → is_last_at es at ≡ b → Same (if b then front_of es ++ brings at (come_of_last es ++ g ∷ []) ∷ [] else es ++ brings at (g ∷ []) ∷ []) (es ++ brings at (g ∷ []) ∷ [])
    by true e = with_last es o e
    by false e = itself (es ++ brings at (g ∷ []) ∷ [])

only_bring : (es : List Edit) (at : ℕ) (g : Group) → OnlyBring es → OnlyBring (one_more_at es at g)
only_bring es at g o = by (is_last_at es at)
  where
    at_end : (fs : List Edit) (come : List Group) → OnlyBring fs → OnlyBring (fs ++ brings at come ∷ [])
    at_end [] come a = (refl, tt)
    at_end (f ∷ fs) come a = (a.0, at_end fs come a.1)

    fronts : (fs : List Edit) → OnlyBring fs → OnlyBring (front_of fs)
    fronts [] a = tt
    fronts (f ∷ []) a = tt
    fronts (f ∷ h ∷ fs) a = (a.0, fronts (h ∷ fs) a.1)

    by : (b : Bool) → OnlyBring (if b then front_of es ++ brings at (come_of_last es ++ g ∷ []) ∷ [] else es ++ brings at (g ∷ []) ∷ [])
    by true = at_end (front_of es) (come_of_last es ++ g ∷ []) (fronts es o)
    by false = at_end es (g ∷ []) o

all_same : (old : List Group) (es : List Edit) (new : List Group) → OnlyBring es → (from : ℕ) (gs : List Group) → spliced from (placed_in old es new) gs ≡ spliced from (es ++ map (edit_after old) new) gs
all_same old es [] o from gs = ap (λ fs. spliced from fs gs) (sym (nothing_after es))
  where
    nothing_after : (fs : List Edit) → fs ++ [] ≡ fs
    nothing_after [] = refl
    nothing_after (f ∷ fs) = ap (λ hs. f ∷ hs) (nothing_after fs)
all_same old es (g ∷ new) o from gs =
    let p = place_after g.key old in
    all_same old (one_more_at es p g) new (only_bring es p g o) from gs
    ∙ (one_same es p g o).splice from (map (edit_after old) new) gs
    ∙ ap (λ fs. spliced from fs gs) (append_assoc es (brings p (g ∷ []) ∷ []) (map (edit_after old) new))

all_fit : (old : List Group) (es : List Edit) (new : List Group) → OnlyBring es → (from count : ℕ) → AreEdits from (es ++ map (edit_after old) new) count → AreEdits from (placed_in old es new) count
all_fit old es [] o from count a = subst (λ fs. AreEdits from fs count) (nothing_after es) a
  where
    nothing_after : (fs : List Edit) → fs ++ [] ≡ fs
    nothing_after [] = refl
    nothing_after (f ∷ fs) = ap (λ hs. f ∷ hs) (nothing_after fs)
all_fit old es (g ∷ new) o from count a =
    let p = place_after g.key old in
    all_fit old (one_more_at es p g) new (only_bring es p g o) from count
    ((one_same es p g o).fit from count (map (edit_after old) new) (subst (λ fs. AreEdits from fs count) (sym (append_assoc es (brings p (g ∷ []) ∷ []) (map (edit_after old) new))) a))

pub placed_in_order : (old new : List Group) → AreInTableOrder (keys_of old) → AreInTableOrder (keys_of new) → spliced 0 (placed_in old [] new) old ≡ in_order (λ (g : Group). g.key) (old ++ new)
placed_in_order old new o p = all_same old [] new tt 0 old ∙ appended_in_order old new o p

pub placed_fits : (old new : List Group) → AreInTableOrder (keys_of old) → AreInTableOrder (keys_of new) → AreEdits 0 (placed_in old [] new) (length old)
placed_fits old new o p = all_fit old [] new tt 0 (length old) (appended_fits old new o p)

-- ---- in memory

front_push : (es : List Edit) (e : Edit) → front_of (es ++ e ∷ []) ≡ es
front_push [] e = refl
front_push (x ∷ []) e = refl
front_push (x ∷ y ∷ es) e = ap (λ fs. x ∷ fs) (front_push (y ∷ es) e)

come_push : (es : List Edit) (e : Edit) → come_of_last (es ++ e ∷ []) ≡ e.come
come_push [] e = refl
come_push (x ∷ []) e = refl
come_push (x ∷ y ∷ es) e = come_push (y ∷ es) e

at_push : (es : List Edit) (e : Edit) (at : ℕ) → is_last_at (es ++ e ∷ []) at ≡ nat_eq e.at at
at_push [] e at = refl
at_push (x ∷ []) e at = refl
at_push (x ∷ y ∷ es) e at = at_push (y ∷ es) e at

pub front_is : (all es : List CodeEdit) (e : CodeEdit) → all ≡ es ++ e ∷ [] → edits_view es ≡ front_of (edits_view all)
front_is all es e is = sym (ap (λ fs. front_of (edits_view fs)) is ∙ ap front_of (pushed es e) ∙ front_push (edits_view es) (edit_view e))

pub come_is : (all es : List CodeEdit) (e : CodeEdit) → all ≡ es ++ e ∷ [] → handles_view e.come.items ≡ come_of_last (edits_view all)
come_is all es e is = sym (ap (λ fs. come_of_last (edits_view fs)) is ∙ ap come_of_last (pushed es e) ∙ come_push (edits_view es) (edit_view e))

pub last_at : (es : List CodeEdit) (e : CodeEdit) (at : ℕ) → Some e ≡ slice_get es (length es - 1) → nat_eq e.at at ≡ is_last_at (edits_view es) at
last_at [] e at h = absurd (cc)
last_at (x ∷ []) e at h = let s : e ≡ x = cc in ap (λ (y : CodeEdit). nat_eq y.at at) s
last_at (x ∷ y ∷ es) e at h = last_at (y ∷ es) e at (h ∙ ap (slice_get (x ∷ y ∷ es)) (one_less (length es)))
  where
    one_less : (n : ℕ) → suc (suc n) - 1 ≡ suc (suc n - 1)
    one_less n = omega arith

abbrev Handle : Type 0
Handle = Rc CodeGroup Global

next_handle : (gs : List Handle) (i : ℕ) (x : Handle) → i < length gs → x ≡ get_or gs i x → handles_view (drop i gs) ≡ group_view (rc_value x) ∷ handles_view (drop (i + 1) gs)
next_handle [] i x h is = absurd (omega (arith, h))
next_handle (y ∷ gs) zero x h is = ap (λ (z : Handle). group_view (rc_value z) ∷ handles_view gs) (sym is)
next_handle (y ∷ gs) (suc i) x h is = next_handle gs i x (omega (arith, h)) is ∙ ap (λ n. group_view (rc_value x) ∷ handles_view (drop n (y ∷ gs))) (up i)
  where
    up : (n : ℕ) → suc (n + 1) ≡ suc n + 1
    up n = omega arith

pub one_placed : (old : List Group) (es fs all : List Edit) (new : List Handle) (i : ℕ) (x : Handle) (p : ℕ) → i < length new → x ≡ get_or new i x → fs ≡ one_more_at es p (group_view (rc_value x)) → p ≡ place_after (group_view (rc_value x)).key old
    → placed_in old es (handles_view (drop i new)) ≡ all → placed_in old fs (handles_view (drop (i + 1) new)) ≡ all
one_placed old es fs all new i x p h is e at inv =
    ap (λ gs. placed_in old gs (handles_view (drop (i + 1) new))) (e ∙ ap (λ q. one_more_at es q (group_view (rc_value x))) at)
    ∙ sym (ap (placed_in old es) (next_handle new i x h is))
    ∙ inv
