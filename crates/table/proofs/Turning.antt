-- What each commit of groups turns the groups of a table into: runs that are still there stand in a row.
use Rattle.std.proofs.Common.{◌≡◌, inl, inr, ℕ, Bool, true, false, not, ◌||◌, List, [], ◌∷◌, ◌++◌, map, length, nat_lt, nat_le, Option, Some, None, refl, sym, ◌∙◌, ap, subst, append_assoc}
use Rattle.std.specs.Prelude.{if◌then◌else◌, filter}
use Rattle.std.specs.List.{list_any, list_all}
use Rattle.std.specs.Ordering.{is_le}
use Rattle.std.proofs.lemmas.Bool.{false≢true, and_parts, not-true as from_not}
use Rattle.schema.specs.Cutting.{is_among}
use Rattle.partition.specs.Order.{key_cmp, AreInTableOrder}
use Rattle.table.specs.Table.{Row, Key, Group, Table, rows}
use Rattle.table.specs.InOrder.{put_in_order, in_order}
use Rattle.table.specs.Commits.{Commit, appended, removed, dropped, rewritten, extended, Replaces, Rewrites, are_full, has_rows, rest_of, without_numbers, are_fresh}
use Rattle.table.specs.Steps.{Changes, is_of_groups}
use Rattle.table.specs.State.{sources}
use Rattle.table.specs.Standing.{StandInRows}
use Rattle.table.proofs.Turned.{Has, AllFresh, Turned, Once, AllHad, Still, was_there, once_turned, stay}

abbrev key_in : Group → Key
key_in g = g.key

none_is : (k : Key) → None ≡ Some k → ⊥
none_is k e = absurd (cc)

abbrev from_some : Key → Option Key → Key
from_some k None = k
from_some k (Some j) = j

-- ---- new groups have rows

first_empty : (xs ys : List Row) → xs ++ ys ≡ [] → xs ≡ []
first_empty [] ys e = refl
first_empty (x ∷ xs) ys e = absurd (cc)

later_empty : (xs ys : List Row) → xs ++ ys ≡ [] → ys ≡ []
later_empty [] ys e = e
later_empty (x ∷ xs) ys e = absurd (cc)

none_added : (size : ℕ) (added : List Group) → are_full size added ≡ true → rows added ≡ [] → added ≡ []
none_added size [] f e = refl
none_added size (g ∷ []) f e = absurd (false≢true (sym (ap (λ (xs : List Row). nat_lt 0 (length xs)) (first_empty g.rows [] e)) ∙ (and_parts (nat_lt 0 (length g.rows)) (nat_le (length g.rows) size) f).0))
none_added size (g ∷ h ∷ gs) f e = absurd (some (none_added size (h ∷ gs) (and_parts _ (are_full size (h ∷ gs)) f).1 (later_empty g.rows (rows (h ∷ gs)) e)))
  where
    some : h ∷ gs ≡ [] → ⊥
    some r = absurd (cc)

module _ (had : ℕ → Bool) where
  all_fresh : (gs : List Group) → are_fresh had gs ≡ true → AllFresh had gs
  all_fresh [] e = tt
  all_fresh (g ∷ gs) e = let p = and_parts (not (had g.number)) (are_fresh had gs) e in (from_not (had g.number) p.0, all_fresh gs p.1)

  -- ---- one group

  kept : (prev : Option Key) (g : Group) (gs new : List Group) → Turned had (Some g.key) gs new → Turned had prev (g ∷ gs) (g ∷ new)
  kept prev g gs new t = inl ([], new, refl, tt, (λ e. refl), t)

  same : (prev : Option Key) (gs : List Group) → Turned had prev gs gs
  same prev [] = tt
  same prev (g ∷ gs) = kept prev g gs gs (same (Some g.key) gs)

  come : (g : Group) (gs new : List Group) → had g.number ≡ false → Turned had None gs new → Turned had None gs (g ∷ new)
  come g [] new f t = (f, t)
  come g (h ∷ gs) new f (inl t) = inl (g ∷ t.0, t.1, ap (λ xs. g ∷ xs) t.2, (f, t.3), (λ e. absurd (none_is h.key e)), t.5)
  come g (h ∷ gs) new f (inr t) = inr (come g gs new f t)

  all_come : (added gs new : List Group) → AllFresh had added → Turned had None gs new → Turned had None gs (added ++ new)
  all_come [] gs new f t = t
  all_come (g ∷ added) gs new f t = come g gs (added ++ new) f.0 (all_come added gs new f.1 t)

  all_go : (going gs new : List Group) → Turned had None gs new → Turned had None (going ++ gs) new
  all_go [] gs new t = t
  all_go (g ∷ going) gs new t = inr (all_go going gs new t)

  -- ---- removals

  drops : (ns : List ℕ) (prev : Option Key) (gs : List Group) → Turned had prev gs (without_numbers ns gs)
  drops ns prev [] = tt
  drops ns prev (g ∷ gs) = by (not (is_among ns g.number)) (drops ns (Some g.key) gs) (drops ns None gs)
    where
      by : (b : Bool) → Turned had (Some g.key) gs (without_numbers ns gs) → Turned had None gs (without_numbers ns gs) → Turned had prev (g ∷ gs) (if b then g ∷ without_numbers ns gs else without_numbers ns gs)
      by true t u = kept prev g gs (without_numbers ns gs) t
      by false t u = inr u

  module _ (test : Row → Bool) (renumbered : ℕ → ℕ) where
    abbrev left : List Group → List Group
    left gs = filter has_rows (map (rest_of test renumbered) gs)

    abbrev rest : Group → Group
    rest g = record { number = renumbered g.number; key = g.key; rows = filter (λ row. not (test row)) g.rows }

    removes : (prev : Option Key) (gs : List Group) → list_all (λ (g : Group). not (list_any test g.rows) || not (had (renumbered g.number))) gs ≡ true → Turned had prev gs (left gs)
    removes prev [] e = tt
    removes prev (g ∷ gs) e =
        let p = and_parts (not (list_any test g.rows) || not (had (renumbered g.number))) (list_all (λ (x : Group). not (list_any test x.rows) || not (had (renumbered x.number))) gs) e in
        by (list_any test g.rows) p.0 (removes (Some g.key) gs p.1) (removes None gs p.1)
      where
        stays : (b : Bool) → Turned had (Some g.key) gs (left gs) → Turned had None gs (left gs) → Turned had prev (g ∷ gs) (if b then g ∷ left gs else left gs)
        stays true t u = kept prev g gs (left gs) t
        stays false t u = inr u

        goes : (b : Bool) → had (renumbered g.number) ≡ false → Turned had None gs (left gs) → Turned had prev (g ∷ gs) (if b then rest g ∷ left gs else left gs)
        goes true f u = inr (come (rest g) gs (left gs) f u)
        goes false f u = inr u

        by : (b : Bool) → (not b || not (had (renumbered g.number))) ≡ true → Turned had (Some g.key) gs (left gs) → Turned had None gs (left gs)
            → Turned had prev (g ∷ gs) (filter has_rows ((if b then rest g else g) ∷ map (rest_of test renumbered) gs))
        by true f t u = goes (has_rows (rest g)) (from_not (had (renumbered g.number)) f) u
        by false f t u = stays (has_rows g) t u

  -- ---- rewrites

  replaced_here : (prev : Option Key) (going added after : List Group) → (going ≡ [] → added ≡ []) → AllFresh had added → Turned had prev (going ++ after) (added ++ after)
  replaced_here prev [] added after n f = subst (λ xs. Turned had prev after (xs ++ after)) (sym (n refl)) (same prev after)
  replaced_here prev (g ∷ going) added after n f = inr (all_go going after (added ++ after) (all_come added after after f (same None after)))

  replaced_later : (prev : Option Key) (before going added after : List Group) → (going ≡ [] → added ≡ []) → AllFresh had added → Turned had prev (before ++ (going ++ after)) (before ++ (added ++ after))
  replaced_later prev [] going added after n f = replaced_here prev going added after n f
  replaced_later prev (b ∷ before) going added after n f = kept prev b (before ++ (going ++ after)) (before ++ (added ++ after)) (replaced_later (Some b.key) before going added after n f)

  replaces : (size : ℕ) (run : List ℕ) (old new : List Group) → Replaces size had run old new → Turned had None old new
  replaces size run old new h =
      subst (λ xs. Turned had None xs new) (sym (h.was ∙ append_assoc h.before h.sources h.after))
      (subst (λ xs. Turned had None (h.before ++ (h.sources ++ h.after)) xs) (sym (h.now ∙ append_assoc h.before h.added h.after))
      (replaced_later None h.before h.sources h.added h.after (λ e. none_added size h.added h.full (h.same_rows ∙ ap rows e)) (all_fresh h.added h.fresh)))

  -- ---- appends

  -- those below a key that stand in front, and what is after them
  abbrev below : Key → List Group → List Group
  below k [] = []
  below k (g ∷ gs) = if is_le (key_cmp k g.key) then [] else g ∷ below k gs

  abbrev from : Key → List Group → List Group
  from k [] = []
  from k (g ∷ gs) = if is_le (key_cmp k g.key) then g ∷ gs else from k gs

  put_is : (x : Group) (gs : List Group) → put_in_order key_in x gs ≡ below x.key gs ++ x ∷ from x.key gs
  put_is x [] = refl
  put_is x (g ∷ gs) = by (is_le (key_cmp x.key g.key)) (put_is x gs)
    where
      by : (b : Bool) → put_in_order key_in x gs ≡ below x.key gs ++ x ∷ from x.key gs
          → (if b then x ∷ g ∷ gs else g ∷ put_in_order key_in x gs) ≡ (if b then [] else g ∷ below x.key gs) ++ x ∷ (if b then g ∷ gs else from x.key gs)
      by true r = refl
      by false r = ap (λ xs. g ∷ xs) r

  from_at : (k : Key) (x : Group) (front gs : List Group) → is_le (key_cmp k x.key) ≡ true → from k (front ++ x ∷ gs) ≡ from k front ++ x ∷ gs
  from_at k x [] gs e = ap (λ (b : Bool). if b then x ∷ gs else from k gs) e
  from_at k x (g ∷ front) gs e = by (is_le (key_cmp k g.key)) (from_at k x front gs e)
    where
      by : (b : Bool) → from k (front ++ x ∷ gs) ≡ from k front ++ x ∷ gs → (if b then g ∷ (front ++ x ∷ gs) else from k (front ++ x ∷ gs)) ≡ (if b then g ∷ front else from k front) ++ x ∷ gs
      by true r = refl
      by false r = r

  below_at : (k : Key) (x : Group) (front gs : List Group) → is_le (key_cmp k x.key) ≡ true → below k (front ++ x ∷ gs) ≡ below k front
  below_at k x [] gs e = ap (λ (b : Bool). if b then [] else x ∷ below k gs) e
  below_at k x (g ∷ front) gs e = by (is_le (key_cmp k g.key)) (below_at k x front gs e)
    where
      by : (b : Bool) → below k (front ++ x ∷ gs) ≡ below k front → (if b then [] else g ∷ below k (front ++ x ∷ gs)) ≡ (if b then [] else g ∷ below k front)
      by true r = refl
      by false r = ap (λ xs. g ∷ xs) r

  from_below : (k : Key) (gs : List Group) → from k (below k gs) ≡ []
  from_below k [] = refl
  from_below k (g ∷ gs) = by (is_le (key_cmp k g.key)) refl (from_below k gs)
    where
      by : (b : Bool) → is_le (key_cmp k g.key) ≡ b → from k (below k gs) ≡ [] → from k (if b then [] else g ∷ below k gs) ≡ []
      by true e r = refl
      by false e r = ap (λ (b : Bool). if b then g ∷ below k gs else from k (below k gs)) e ∙ r

  fresh_below : (k : Key) (gs : List Group) → AllFresh had gs → AllFresh had (below k gs)
  fresh_below k [] f = tt
  fresh_below k (g ∷ gs) f = by (is_le (key_cmp k g.key)) (fresh_below k gs f.1)
    where
      by : (b : Bool) → AllFresh had (below k gs) → AllFresh had (if b then [] else g ∷ below k gs)
      by true r = tt
      by false r = (f.0, r)

  fresh_from : (k : Key) (gs : List Group) → AllFresh had gs → AllFresh had (from k gs)
  fresh_from k [] f = tt
  fresh_from k (g ∷ gs) f = by (is_le (key_cmp k g.key)) (fresh_from k gs f.1)
    where
      by : (b : Bool) → AllFresh had (from k gs) → AllFresh had (if b then g ∷ gs else from k gs)
      by true r = f
      by false r = r

  put_fresh : (x : Group) (gs : List Group) → had x.number ≡ false → AllFresh had gs → AllFresh had (put_in_order key_in x gs)
  put_fresh x [] n f = (n, tt)
  put_fresh x (g ∷ gs) n f = by (is_le (key_cmp x.key g.key)) (put_fresh x gs n f.1)
    where
      by : (b : Bool) → AllFresh had (put_in_order key_in x gs) → AllFresh had (if b then x ∷ g ∷ gs else g ∷ put_in_order key_in x gs)
      by true r = (n, f)
      by false r = (f.0, r)

  order_fresh : (gs : List Group) → AllFresh had gs → AllFresh had (in_order key_in gs)
  order_fresh [] f = tt
  order_fresh (g ∷ gs) f = put_fresh g (in_order key_in gs) f.0 (order_fresh gs f.1)

  -- the first is not below the key
  abbrev StartsAt : Key → List Group → Type 0
  StartsAt k [] = Unit {0}
  StartsAt k (g ∷ gs) = is_le (key_cmp k g.key) ≡ true

  starts : (g : Group) (gs : List Group) → AreInTableOrder (map key_in (g ∷ gs)) → StartsAt g.key gs
  starts g [] h = tt
  starts g (x ∷ gs) h = h.0

  later : (g : Group) (gs : List Group) → AreInTableOrder (map key_in (g ∷ gs)) → AreInTableOrder (map key_in gs)
  later g [] h = tt
  later g (x ∷ gs) h = h.1

  -- what is below the key is new, and from there on the groups are turned
  record Merged (k : Key) (gs new : List Group) : Type 0 where
    pub fresh : AllFresh had (below k new)
    pub turned : Turned had (Some k) gs (from k new)

  none_between : (j k : Key) (gs : List Group) → Some j ≡ Some k → from j (below k gs) ≡ []
  none_between j k gs e = subst (λ i. from i (below k gs) ≡ []) (sym (ap (from_some k) e)) (from_below k gs)

  merged : (k : Key) (gs added : List Group) → AllFresh had added → StartsAt k gs → AreInTableOrder (map key_in gs) → Merged k gs (in_order key_in (gs ++ added))
  merged k [] added f s o = record { fresh = fresh_below k (in_order key_in added) (order_fresh added f); turned = fresh_from k (in_order key_in added) (order_fresh added f) }
  merged k (g ∷ gs) added f s o = with_first (in_order key_in (gs ++ added)) (merged g.key gs added f (starts g gs o) (later g gs o))
    where
      with_first : (rest : List Group) → Merged g.key gs rest → Merged k (g ∷ gs) (put_in_order key_in g rest)
      with_first rest m = record {
        fresh = subst (λ xs. AllFresh had (below k xs)) (sym (put_is g rest)) (subst (AllFresh had) (sym (below_at k g (below g.key rest) (from g.key rest) s)) (fresh_below k (below g.key rest) m.fresh));
        turned = subst (λ xs. Turned had (Some k) (g ∷ gs) (from k xs)) (sym (put_is g rest))
            (inl (from k (below g.key rest), from g.key rest, from_at k g (below g.key rest) (from g.key rest) s, fresh_from k (below g.key rest) m.fresh, none_between k g.key rest, m.turned));
      }

  appends : (old added : List Group) → AllFresh had added → AreInTableOrder (map key_in old) → Turned had None old (in_order key_in (old ++ added))
  appends [] added f o = order_fresh added f
  appends (g ∷ gs) added f o =
      let m = merged g.key gs added f (starts g gs o) (later g gs o) in
      inl (below g.key (in_order key_in (gs ++ added)), from g.key (in_order key_in (gs ++ added)), put_is g (in_order key_in (gs ++ added)), m.fresh, (λ e. absurd (none_is g.key e)), m.turned)

  -- ---- any commit of groups

  -- No number comes back that is gone, and runs that are still there stand.
  pub record Carries (old new : List Group) : Type 0 where
    pub was : (m : ℕ) → had m ≡ true → Has new m → Has old m
    pub stand : (runs : List (List Group)) → StandInRows runs old → AllHad had (sources runs) → Still had (sources runs) new → StandInRows runs new

  by_turn : (old new : List Group) → Once had old → Turned had None old new → Carries old new
  by_turn old new o t = record { was = λ m h e. was_there had None old new m t h e; stand = λ runs s h a. stay had runs None old new s o t h a }

  rewrites : (size : ℕ) (runs : List (List ℕ)) (old new : List Group) → Once had old → Rewrites size had runs old new → Carries old new
  rewrites size [] old new o h = subst (λ xs. Carries old xs) (sym h) (by_turn old old o (same None old))
  rewrites size (run ∷ runs) old new o h =
      let turn : Turned had None old h.0 = replaces size run old h.0 h.1 in
      let next : Carries h.0 new = rewrites size runs h.0 new (once_turned had None old h.0 turn o) h.2 in
      record {
        was = λ m d e. was_there had None old h.0 m turn d (next.was m d e);
        stand = λ rs s d a. next.stand rs (stay had rs None old h.0 s o turn d (λ m e. next.was m (d m e) (a m e))) d a;
      }

  pub carries : (size count : ℕ) (made : Commit) (old new : Table) → is_of_groups made ≡ true → Changes size had made count old new → AreInTableOrder (map key_in old.groups) → Once had old.groups → Carries old.groups new.groups
  carries size count (appended given) old new i c order o = by_turn old.groups new.groups o (subst (λ xs. Turned had None old.groups xs) (sym c.0.placed) (appends old.groups c.0.added (all_fresh c.0.added c.0.fresh) order))
  carries size count (removed test) old new i c order o = by_turn old.groups new.groups o (subst (λ xs. Turned had None old.groups xs) (sym c.0.rests) (removes test c.0.renumbered None old.groups c.0.fresh))
  carries size count (dropped ns) old new i c order o = by_turn old.groups new.groups o (subst (λ xs. Turned had None old.groups xs) (sym c.0) (drops ns None old.groups))
  carries size count (rewritten runs) old new i c order o = rewrites size runs old.groups new.groups o c.0
  carries size count (extended f) old new i c order o = absurd (false≢true i)
