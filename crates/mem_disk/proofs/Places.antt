-- Where paths stand in a list of names.
use Rattle.std.proofs.Common.{◌≡◌, ◌≢◌, ◌<◌, ⊎_elim, ℕ, zero, suc, List, [], ◌∷◌, ◌++◌, length, take, set, get_or, ◌+◌, Result, Ok, Err, OnOk, OnErr, Option, Some, None, MatchOption, IfSome, option_map, unwrap_or, if◌then◌else◌, bytes_eq, string_bytes, refl, sym, ◌∙◌, ap, subst, arith}
use Rattle.std.proofs.lemmas.List.{length-take-le, take_more}
use Rattle.std.specs.Map.{update}
use Rattle.disk.specs.declared.binding.Binding.{Binding}
use Rattle.mem_disk.specs.declared.name.Name.{Name}
use Rattle.mem_disk.specs.Tables.{FindsNone, Finds, AreApart, Rebinds, at_first, place_in, placed_at}
use Rattle.mem_disk.proofs.Choices.{same_or_not, at_same, at_other}
use Rattle.mem_disk.proofs.Tables.{finds_within, apart_push, rebinds_new}
use Rattle.mem_disk.proofs.Keeping.{SettledTo}

none_later : (o : Option ℕ) → option_map suc o ≡ None → o ≡ None
none_later None is = refl
none_later (Some i) is = absurd (let h : Some (suc i) ≡ None = is in cc)

some_later : (o : Option ℕ) (i : ℕ) → option_map suc o ≡ Some (suc i) → o ≡ Some i
some_later None i is = absurd (let h : None ≡ Some (suc i) = is in cc)
some_later (Some j) i is = let h : suc j ≡ suc i = cc in ap Some (omega (arith, h))

not_first : (o : Option ℕ) → option_map suc o ≢ Some 0
not_first None is = let h : None ≡ Some 0 = is in cc
not_first (Some j) is = let h : suc j ≡ 0 = cc in omega (arith, h)

-- a place among these is one later behind a first name
or_later : (o : Option ℕ) (n : ℕ) → unwrap_or (option_map suc o) (suc n) ≡ suc (unwrap_or o n)
or_later None n = refl
or_later (Some i) n = refl

place_none : (es : List Name) (p : List ℕ) → place_in es p ≡ None → FindsNone es p
place_none [] p is = tt
place_none (e ∷ es) p is = ⊎_elim
    (λ yes. absurd (let h : Some 0 ≡ None = sym (at_same p (string_bytes e.path) (Some 0) (option_map suc (place_in es p)) yes.0) ∙ is in cc))
    (λ no. ((λ x. no.0 (sym x)), place_none es p (none_later (place_in es p) (sym (at_other p (string_bytes e.path) (Some 0) (option_map suc (place_in es p)) no.0) ∙ is))))
    (same_or_not p (string_bytes e.path))

place_some : (es : List Name) (p : List ℕ) (i : ℕ) → place_in es p ≡ Some i → Finds es p i
place_some [] p i is = absurd (let h : None ≡ Some i = is in cc)
place_some (e ∷ es) p zero is = ⊎_elim
    (λ yes. sym yes.0)
    (λ no. absurd (not_first (place_in es p) (sym (at_other p (string_bytes e.path) (Some 0) (option_map suc (place_in es p)) no.0) ∙ is)))
    (same_or_not p (string_bytes e.path))
place_some (e ∷ es) p (suc i) is = ⊎_elim
    (λ yes. absurd (let h : Some 0 ≡ Some (suc i) = sym (at_same p (string_bytes e.path) (Some 0) (option_map suc (place_in es p)) yes.0) ∙ is in let n : 0 ≡ suc i = cc in omega (arith, n)))
    (λ no. ((λ x. no.0 (sym x)), place_some es p i (some_later (place_in es p) i (sym (at_other p (string_bytes e.path) (Some 0) (option_map suc (place_in es p)) no.0) ∙ is))))
    (same_or_not p (string_bytes e.path))

pub place_found : (es : List Name) (p : List ℕ) (o : Option ℕ) → o ≡ place_in es p → MatchOption o (FindsNone es p) (λ i. Finds es p i)
place_found es p None is = place_none es p (sym is)
place_found es p (Some i) is = place_some es p i (sym is)

pub place_within : (es : List Name) (p : List ℕ) (o : Option ℕ) → o ≡ place_in es p → IfSome o (λ i. i < length es)
place_within es p None is = tt
place_within es p (Some i) is = finds_within es p i (place_some es p i (sym is))

-- a path that none has stands nowhere
pub place_away : (es : List Name) (p : List ℕ) → FindsNone es p → place_in es p ≡ None
place_away [] p away = refl
place_away (e ∷ es) p away = at_other p (string_bytes e.path) (Some 0) (option_map suc (place_in es p)) (λ x. away.0 (sym x)) ∙ ap (option_map suc) (place_away es p away.1)

-- a name with the same path takes the place of one
pub place_set : (es : List Name) (p : List ℕ) (i : ℕ) (e : Name) → Finds es p i → string_bytes e.path ≡ p → (q : List ℕ) → place_in (set es i e) q ≡ place_in es q
place_set [] p i e at is q = refl
place_set (x ∷ es) p zero e at is q = ap (λ (path : List ℕ). if bytes_eq q path then Some 0 else option_map suc (place_in es q)) (is ∙ sym at)
place_set (x ∷ es) p (suc i) e at is q = ap (λ (o : Option ℕ). if bytes_eq q (string_bytes x.path) then Some 0 else option_map suc o) (place_set es p i e at.1 is q)

-- one name more
pub place_push : (es : List Name) (e : Name) (q : List ℕ) → place_in (es ++ e ∷ []) q ≡ placed_at (place_in es) (string_bytes e.path) (length es) q
place_push [] e q = ⊎_elim
    (λ yes. at_same q (string_bytes e.path) (Some 0) None yes.0 ∙ sym (at_same (string_bytes e.path) q (Some 0) None (sym yes.0)))
    (λ no. at_other q (string_bytes e.path) (Some 0) None no.0 ∙ sym (at_other (string_bytes e.path) q (Some 0) None (λ x. no.0 (sym x))))
    (same_or_not q (string_bytes e.path))
place_push (x ∷ es) e q = ap (λ (o : Option ℕ). if bytes_eq q (string_bytes x.path) then Some 0 else option_map suc o) (place_push es e q) ∙ ⊎_elim
    (λ here. ap (λ (o : Option ℕ). if bytes_eq q (string_bytes x.path) then Some 0 else option_map suc o) (at_same (string_bytes e.path) q _ (place_in es q) (sym here.0)) ∙ ⊎_elim
    (λ first. at_same q (string_bytes x.path) (Some 0) _ first.0
    ∙ ap (λ (o : Option ℕ). Some (unwrap_or o (suc (length es)))) (sym (at_same (string_bytes e.path) (string_bytes x.path) (Some 0) (option_map suc (place_in es (string_bytes e.path))) (sym here.0 ∙ first.0))))
    (λ later. at_other q (string_bytes x.path) (Some 0) _ later.0
    ∙ ap Some (sym (or_later (place_in es (string_bytes e.path)) (length es)))
    ∙ ap (λ (o : Option ℕ). Some (unwrap_or o (suc (length es)))) (sym (at_other (string_bytes e.path) (string_bytes x.path) (Some 0) (option_map suc (place_in es (string_bytes e.path))) (λ s. later.0 (here.0 ∙ s)))))
    (same_or_not q (string_bytes x.path))
    ∙ sym (at_same (string_bytes e.path) q _ (place_in (x ∷ es) q) (sym here.0)))
    (λ away. ap (λ (o : Option ℕ). if bytes_eq q (string_bytes x.path) then Some 0 else option_map suc o) (at_other (string_bytes e.path) q _ (place_in es q) (λ s. away.0 (sym s)))
    ∙ sym (at_other (string_bytes e.path) q _ (place_in (x ∷ es) q) (λ s. away.0 (sym s))))
    (same_or_not q (string_bytes e.path))

-- names that keep their paths keep their places
pub place_settled : (folder : List ℕ) (i : ℕ) (olds news : List Name) → SettledTo folder i olds news → (q : List ℕ) → place_in news q ≡ place_in olds q
place_settled folder zero olds news to q = ap (λ (es : List Name). place_in es q) to
place_settled folder (suc i) [] news to q = ap (λ (es : List Name). place_in es q) to
place_settled folder (suc i) (o ∷ olds) [] to q = absurd to
place_settled folder (suc i) (o ∷ olds) (n ∷ news) to q =
    ap (λ (path : List ℕ). if bytes_eq q path then Some 0 else option_map suc (place_in news q)) to.0.path
    ∙ ap (λ (x : Option ℕ). if bytes_eq q (string_bytes o.path) then Some 0 else option_map suc x) (place_settled folder i olds news to.1 q)

-- ---- the map of places

placed_same : (f g : List ℕ → Option ℕ) → ((q : List ℕ) → f q ≡ g q) → (path : List ℕ) (at : ℕ) (q : List ℕ) → placed_at f path at q ≡ placed_at g path at q
placed_same f g same path at q =
    ap (λ (o : Option ℕ). if bytes_eq path q then Some (unwrap_or o at) else f q) (same path)
    ∙ ap (λ (o : Option ℕ). if bytes_eq path q then Some (unwrap_or (g path) at) else o) (same q)

pub placed_new : (f : List ℕ → Option ℕ) (path : List ℕ) (at : ℕ) → f path ≡ None → (q : List ℕ) → update bytes_eq f path (Some at) q ≡ placed_at f path at q
placed_new f path at none q = ap (λ (o : Option ℕ). if bytes_eq path q then Some (unwrap_or o at) else f q) (sym none)

-- a new name is put where it stands
pub added : (es new : List Name) (e : Name) (old now : List ℕ → Option ℕ) (key : List ℕ) (at : ℕ) → ((q : List ℕ) → old q ≡ place_in es q) → ((q : List ℕ) → now q ≡ update bytes_eq old key (Some at) q) → key ≡ string_bytes e.path → at ≡ length es → FindsNone es (string_bytes e.path) → new ≡ es ++ e ∷ [] → (q : List ℕ) → now q ≡ place_in new q
added es new e old now key at was put is here away more q =
    put q ∙ placed_new old key at (was key ∙ ap (place_in es) is ∙ place_away es (string_bytes e.path) away) q
    ∙ placed_same old (place_in es) was key at q
    ∙ ap (λ (p : List ℕ). placed_at (place_in es) p at q) is
    ∙ ap (λ (n : ℕ). placed_at (place_in es) (string_bytes e.path) n q) here
    ∙ sym (place_push es e q) ∙ ap (λ (xs : List Name). place_in xs q) (sym more)

-- one more of a list is placed
pub placed_more : (es : List Name) (i : ℕ) (x : Name) (old now : List ℕ → Option ℕ) → i < length es → x ≡ get_or es i x → ((q : List ℕ) → old q ≡ place_in (take i es) q) → ((q : List ℕ) → now q ≡ placed_at old (string_bytes x.path) i q) → (q : List ℕ) → now q ≡ place_in (take (i + 1) es) q
placed_more es i x old now lt is was put q =
    put q ∙ placed_same old (place_in (take i es)) was (string_bytes x.path) i q
    ∙ ap (λ (n : ℕ). placed_at (place_in (take i es)) (string_bytes x.path) n q) (sym (length-take-le i es (omega (arith, lt))))
    ∙ sym (place_push (take i es) x q)
    ∙ ap (λ (xs : List Name). place_in xs q) (sym (take_more es i x lt ∙ ap (λ (z : Name). take i es ++ z ∷ []) (sym is)))

-- whatever comes of adding a name, no two names have one path
pub added_apart : {T E : Type 0} (r : Result T E) (es new : List Name) (p : List ℕ) (e : Name) → OnOk r (new ≡ es ++ e ∷ []) → OnErr r (new ≡ es) → FindsNone es p → string_bytes e.path ≡ p → AreApart es → AreApart new
added_apart (Ok x) es new p e more same away is apart = subst AreApart (sym more) (apart_push es p e away is apart)
added_apart (Err x) es new p e more same away is apart = subst AreApart (sym same) apart

pub added_binds : {T E : Type 0} (r : Result T E) (es new : List Name) (p : List ℕ) (e : Name) (to : Binding) → OnOk r (new ≡ es ++ e ∷ []) → FindsNone es p → string_bytes e.path ≡ p → e.now ≡ to → e.had.items ≡ at_first p ∷ [] → OnOk r (Rebinds p to es new)
added_binds (Ok x) es new p e to more away is now had = subst (λ (xs : List Name). Rebinds p to es xs) (sym more) (rebinds_new es p e to away is now had)
added_binds (Err x) es new p e to more away is now had = tt
