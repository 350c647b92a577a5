-- Columns that sources stand for, after one source or some have changed.
use Rattle.std.proofs.Common.{ℕ, zero, suc, ◌≡◌, ◌<◌, ◌≤◌, ◌-◌, List, [], ◌∷◌, ◌++◌, ◌⊎◌, map, length, take, drop, get_or, refl, ap, sym, subst, ◌∙◌, arith, Some, Option, Result, Ok, Err, inl, inr}
use Rattle.std.specs.Result.{IsErrAnd, IfErr, IfOk}
use Rattle.std.proofs.Math.ListN.{set}
use Rattle.std.proofs.lemmas.List.{length-take-le, length-append, map-append as map_joined}
use borrow.Rule.Slice.PartMut.{put_mid, mid_of}
use Rattle.bits.specs.declared.refusal.Refusal.{Refusal}
use Rattle.bits.specs.declared.refusal.Refusal.TheVariants as refusal
use Rattle.schema.specs.Stripe.{Entry}
use Rattle.assemble.specs.Sources.{Same, Precede, NothingStands, Refuses, Keeps, CausesStay}
use Rattle.assemble.specs.Columns.{Columns, IsAmong, Tells}
use Rattle.assemble.specs.Standing.{AllStand, AllSame, HaveCause, IsRefusedFor}
use Rattle.assemble.specs.inner.Steps.{IsSourceRefusedFor}
use Rattle.schema.proofs.Slices.{tail_is, tail_put}
use Rattle.assemble.proofs.Told.{tells_more}

-- es stands in front of column i, and the other columns are the same
abbrev pub At : ℕ → List Entry → Columns → Columns → Type 0
At zero es (b ∷ bs) (a ∷ rest) = (b ≡ es ++ a) × (bs ≡ rest)
At (suc i) es (b ∷ bs) (a ∷ rest) = (b ≡ a) × At i es bs rest
At i es _ _ = ⊥

pub among_set : {A : Type 0} (f : A → Option Refusal) (xs : List A) (i : ℕ) (y : A) (e : Refusal) → i < length xs → f y ≡ Some e → IsAmong e (map f (set xs i y))
among_set f [] i y e lt h = absurd (omega (arith, lt))
among_set f (x ∷ xs) zero y e lt h = inl h
among_set f (x ∷ xs) (suc i) y e lt h = inr (among_set f xs i y e (omega (arith, lt)) h)

pub kept_at : {A B : Type 0} (f : A → B) (xs : List A) (i : ℕ) (x y : A) → i < length xs → f y ≡ f (get_or xs i x) → map f (set xs i y) ≡ map f xs
kept_at f [] i x y lt e = absurd (omega (arith, lt))
kept_at f (z ∷ xs) zero x y lt e = ap (λ t. t ∷ map f xs) e
kept_at f (z ∷ xs) (suc i) x y lt e = ap (λ t. f z ∷ t) (kept_at f xs i x y (omega (arith, lt)) e)

among_later : (e : Refusal) (xs ys : List (Option Refusal)) → IsAmong e ys → IsAmong e (xs ++ ys)
among_later e [] ys h = h
among_later e (x ∷ xs) ys h = inr (among_later e xs ys h)

pub among_put : {A : Type 0} (f : A → Option Refusal) (a : ℕ) (xs ys : List A) (e : Refusal) → a ≤ length xs → IsAmong e (map f ys) → IsAmong e (map f (put_mid a (length xs - a) xs ys))
among_put f a xs ys e le h = subst (λ zs. IsAmong e (map f zs)) (sym (tail_put a xs ys le)) (subst (IsAmong e) (sym (map_joined f (take a xs) ys)) (among_later e (map f (take a xs)) (map f ys) h))

-- causes of some sources, after one or the last of them have changed
module _ {A : Type 0} (C : A → Refusal → Type 0) where
  pub cause_at : (xs : List A) (i : ℕ) (x : A) (e : Refusal) → i < length xs → C (get_or xs i x) e → HaveCause C xs e
  cause_at [] i x e lt h = absurd (omega (arith, lt))
  cause_at (z ∷ xs) zero x e lt h = inl h
  cause_at (z ∷ xs) (suc i) x e lt h = inr (cause_at xs i x e (omega (arith, lt)) h)

  pub causes_set : (xs : List A) (i : ℕ) (x y : A) → i < length xs → CausesStay C (get_or xs i x) y → CausesStay (HaveCause C) xs (set xs i y)
  causes_set [] i x y lt h e m = absurd (omega (arith, lt))
  causes_set (z ∷ xs) zero x y lt h e (inl m) = inl (h e m)
  causes_set (z ∷ xs) zero x y lt h e (inr m) = inr m
  causes_set (z ∷ xs) (suc i) x y lt h e (inl m) = inl m
  causes_set (z ∷ xs) (suc i) x y lt h e (inr m) = inr (causes_set xs i x y (omega (arith, lt)) h e m)

  cause_later : (a : ℕ) (xs : List A) (e : Refusal) → HaveCause C (drop a xs) e → HaveCause C xs e
  cause_later zero xs e h = h
  cause_later (suc a) [] e h = absurd h
  cause_later (suc a) (x ∷ xs) e h = inr (cause_later a xs e h)

  cause_joined : (a : ℕ) (xs ys : List A) (e : Refusal) → (HaveCause C ys e → HaveCause C (drop a xs) e) → HaveCause C (take a xs ++ ys) e → HaveCause C xs e
  cause_joined zero xs ys e up h = up h
  cause_joined (suc a) [] ys e up h = absurd (up h)
  cause_joined (suc a) (x ∷ xs) ys e up (inl h) = inl h
  cause_joined (suc a) (x ∷ xs) ys e up (inr h) = inr (cause_joined a xs ys e up h)

  pub causes_part : (a : ℕ) (xs : List A) → a ≤ length xs → CausesStay (HaveCause C) xs (mid_of a (length xs - a) xs)
  causes_part a xs le e h = cause_later a xs e (subst (λ ys. HaveCause C ys e) (tail_is a xs le) h)

  pub causes_put : (a : ℕ) (xs ys : List A) → a ≤ length xs → CausesStay (HaveCause C) (mid_of a (length xs - a) xs) ys → CausesStay (HaveCause C) xs (put_mid a (length xs - a) xs ys)
  causes_put a xs ys le h e m =
      cause_joined a xs ys e (λ k. subst (λ zs. HaveCause C zs e) (tail_is a xs le) (h e k)) (subst (λ zs. HaveCause C zs e) (tail_put a xs ys le) m)

module _ {A : Type 0} (S : A → List Entry → Type 0) where
  pub same_self : (xs : List A) → AllSame S xs xs
  same_self [] = tt
  same_self (x ∷ xs) = ((λ es h. h, λ es h. h), same_self xs)

  pub same_then : (xs ys zs : List A) → AllSame S xs ys → AllSame S ys zs → AllSame S xs zs
  same_then [] [] zs h k = k
  same_then [] (y ∷ ys) zs h k = absurd h
  same_then (x ∷ xs) [] zs h k = absurd h
  same_then (x ∷ xs) (y ∷ ys) [] h k = absurd k
  same_then (x ∷ xs) (y ∷ ys) (z ∷ zs) h k = ((λ es g. k.0.0 es (h.0.0 es g), λ es g. h.0.1 es (k.0.1 es g)), same_then xs ys zs h.1 k.1)

  pub same_length : (xs ys : List A) → AllSame S xs ys → length xs ≡ length ys
  same_length [] [] h = refl
  same_length [] (y ∷ ys) h = absurd h
  same_length (x ∷ xs) [] h = absurd h
  same_length (x ∷ xs) (y ∷ ys) h = let e = same_length xs ys h.1 in omega (arith, e)

  pub same_set : (xs : List A) (i : ℕ) (x y : A) → i < length xs → Same (S (get_or xs i x)) (S y) → AllSame S xs (set xs i y)
  same_set [] i x y lt h = absurd (omega (arith, lt))
  same_set (z ∷ xs) zero x y lt h = (h, same_self xs)
  same_set (z ∷ xs) (suc i) x y lt h = ((λ es g. g, λ es g. g), same_set xs i x y (omega (arith, lt)) h)

  pub same_at : (xs ys : List A) (i : ℕ) (x y : A) → i < length xs → AllSame S xs ys → Same (S (get_or xs i x)) (S (get_or ys i y))
  same_at [] ys i x y lt h = absurd (omega (arith, lt))
  same_at (z ∷ xs) [] i x y lt h = absurd h
  same_at (z ∷ xs) (w ∷ ys) zero x y lt h = h.0
  same_at (z ∷ xs) (w ∷ ys) (suc i) x y lt h = same_at xs ys i x y (omega (arith, lt)) h.1

  pub stand_on : (xs ys : List A) (cs : Columns) → AllSame S xs ys → AllStand S xs cs → AllStand S ys cs
  stand_on [] [] cs h s = s
  stand_on [] (y ∷ ys) cs h s = absurd h
  stand_on (x ∷ xs) [] cs h s = absurd h
  stand_on (x ∷ xs) (y ∷ ys) [] h s = absurd s
  stand_on (x ∷ xs) (y ∷ ys) (c ∷ cs) h s = (h.0.0 c s.0, stand_on xs ys cs h.1 s.1)

  pub stand_back : (xs ys : List A) (cs : Columns) → AllSame S xs ys → AllStand S ys cs → AllStand S xs cs
  stand_back [] [] cs h s = s
  stand_back [] (y ∷ ys) cs h s = absurd h
  stand_back (x ∷ xs) [] cs h s = absurd h
  stand_back (x ∷ xs) (y ∷ ys) [] h s = absurd s
  stand_back (x ∷ xs) (y ∷ ys) (c ∷ cs) h s = (h.0.1 c s.0, stand_back xs ys cs h.1 s.1)

  pub stand_length : (xs : List A) (cs : Columns) → AllStand S xs cs → length xs ≡ length cs
  stand_length [] [] s = refl
  stand_length [] (c ∷ cs) s = absurd s
  stand_length (x ∷ xs) [] s = absurd s
  stand_length (x ∷ xs) (c ∷ cs) s = let e = stand_length xs cs s.1 in omega (arith, e)

  pub stand_get : (xs : List A) (cs : Columns) (i : ℕ) (x : A) → i < length xs → AllStand S xs cs → S (get_or xs i x) (get_or cs i [])
  stand_get [] cs i x lt s = absurd (omega (arith, lt))
  stand_get (z ∷ xs) [] i x lt s = absurd s
  stand_get (z ∷ xs) (c ∷ cs) zero x lt s = s.0
  stand_get (z ∷ xs) (c ∷ cs) (suc i) x lt s = stand_get xs cs i x (omega (arith, lt)) s.1

  -- one entry off one source
  pub set_on : (es : List Entry) (xs : List A) (i : ℕ) (x y : A) → i < length xs → Precede es (S (get_or xs i x)) (S y) → (cs : Columns) → AllStand S xs cs → (ds : Columns) × (AllStand S (set xs i y) ds × At i es cs ds)
  set_on es [] i x y lt p cs s = absurd (omega (arith, lt))
  set_on es (z ∷ xs) i x y lt p [] s = absurd s
  set_on es (z ∷ xs) zero x y lt p (c ∷ cs) s = let w = p.1 c s.0 in (w.0 ∷ cs, ((w.1.1, s.1), (w.1.0, refl)))
  set_on es (z ∷ xs) (suc i) x y lt p (c ∷ cs) s = let w = set_on es xs i x y (omega (arith, lt)) p cs s.1 in (c ∷ w.0, ((s.0, w.1.0), (refl, w.1.1)))

  pub set_back : (es : List Entry) (xs : List A) (i : ℕ) (x y : A) → i < length xs → Precede es (S (get_or xs i x)) (S y) → (ds : Columns) → AllStand S (set xs i y) ds → (cs : Columns) × (AllStand S xs cs × At i es cs ds)
  set_back es [] i x y lt p ds s = absurd (omega (arith, lt))
  set_back es (z ∷ xs) zero x y lt p [] s = absurd s
  set_back es (z ∷ xs) (suc i) x y lt p [] s = absurd s
  set_back es (z ∷ xs) zero x y lt p (d ∷ ds) s = ((es ++ d) ∷ ds, ((p.0 d s.0, s.1), (refl, refl)))
  set_back es (z ∷ xs) (suc i) x y lt p (d ∷ ds) s = let w = set_back es xs i x y (omega (arith, lt)) p ds s.1 in (d ∷ w.0, ((s.0, w.1.0), (refl, w.1.1)))

  -- the last of the sources
  stand_take : (a : ℕ) (xs : List A) (cs : Columns) → AllStand S xs cs → AllStand S (take a xs) (take a cs)
  stand_take zero xs cs s = tt
  stand_take (suc a) [] [] s = tt
  stand_take (suc a) [] (c ∷ cs) s = absurd s
  stand_take (suc a) (x ∷ xs) [] s = absurd s
  stand_take (suc a) (x ∷ xs) (c ∷ cs) s = (s.0, stand_take a xs cs s.1)

  stand_drop : (a : ℕ) (xs : List A) (cs : Columns) → AllStand S xs cs → AllStand S (drop a xs) (drop a cs)
  stand_drop zero xs cs s = s
  stand_drop (suc a) [] [] s = tt
  stand_drop (suc a) [] (c ∷ cs) s = absurd s
  stand_drop (suc a) (x ∷ xs) [] s = absurd s
  stand_drop (suc a) (x ∷ xs) (c ∷ cs) s = stand_drop a xs cs s.1

  stand_join : (xs ys : List A) (cs ds : Columns) → AllStand S xs cs → AllStand S ys ds → AllStand S (xs ++ ys) (cs ++ ds)
  stand_join [] ys [] ds s t = t
  stand_join [] ys (c ∷ cs) ds s t = absurd s
  stand_join (x ∷ xs) ys [] ds s t = absurd s
  stand_join (x ∷ xs) ys (c ∷ cs) ds s t = (s.0, stand_join xs ys cs ds s.1 t)

  stand_first : (xs ys : List A) (cs : Columns) → AllStand S (xs ++ ys) cs → AllStand S xs (take (length xs) cs)
  stand_first [] ys cs s = tt
  stand_first (x ∷ xs) ys [] s = absurd s
  stand_first (x ∷ xs) ys (c ∷ cs) s = (s.0, stand_first xs ys cs s.1)

  stand_later : (xs ys : List A) (cs : Columns) → AllStand S (xs ++ ys) cs → AllStand S ys (drop (length xs) cs)
  stand_later [] ys cs s = s
  stand_later (x ∷ xs) ys [] s = absurd s
  stand_later (x ∷ xs) ys (c ∷ cs) s = stand_later xs ys cs s.1

  pub part_stands : (a : ℕ) (xs : List A) (cs : Columns) → a ≤ length xs → AllStand S xs cs → AllStand S (mid_of a (length xs - a) xs) (drop a cs)
  part_stands a xs cs le s = subst (λ ys. AllStand S ys (drop a cs)) (sym (tail_is a xs le)) (stand_drop a xs cs s)

  pub put_stands : (a : ℕ) (xs ys : List A) (cs ds : Columns) → a ≤ length xs → AllStand S xs cs → AllStand S ys ds → AllStand S (put_mid a (length xs - a) xs ys) (take a cs ++ ds)
  put_stands a xs ys cs ds le s t = subst (λ zs. AllStand S zs (take a cs ++ ds)) (sym (tail_put a xs ys le)) (stand_join (take a xs) ys (take a cs) ds (stand_take a xs cs s) t)

  take_drop : (a : ℕ) (xs : List A) → take a xs ++ drop a xs ≡ xs
  take_drop zero xs = refl
  take_drop (suc a) [] = refl
  take_drop (suc a) (x ∷ xs) = ap (λ t. x ∷ t) (take_drop a xs)

  pub put_part : (a : ℕ) (xs ys : List A) (cs : Columns) → a ≤ length xs → AllStand S (put_mid a (length xs - a) xs ys) cs → AllStand S ys (drop a cs)
  put_part a xs ys cs le s =
      subst (λ n. AllStand S ys (drop n cs)) (length-take-le a xs le) (stand_later (take a xs) ys cs (subst (λ zs. AllStand S zs cs) (tail_put a xs ys le) s))

  pub put_long : (a : ℕ) (xs ys : List A) (cs : Columns) → a ≤ length xs → AllStand S (put_mid a (length xs - a) xs ys) cs → a ≤ length cs
  put_long a xs ys cs le s =
      let all = stand_length (take a xs ++ ys) cs (subst (λ zs. AllStand S zs cs) (tail_put a xs ys le) s) in
      let both = length-append (take a xs) ys in
      let first = length-take-le a xs le in
      omega (arith, all, both, first)

  pub put_back : (a : ℕ) (xs ys : List A) (cs ds : Columns) → a ≤ length xs → AllStand S (put_mid a (length xs - a) xs ys) cs → AllStand S (mid_of a (length xs - a) xs) ds → AllStand S xs (take a cs ++ ds)
  put_back a xs ys cs ds le s t =
      let first = subst (λ n. AllStand S (take a xs) (take n cs)) (length-take-le a xs le) (stand_first (take a xs) ys cs (subst (λ zs. AllStand S zs cs) (tail_put a xs ys le) s)) in
      subst (λ zs. AllStand S zs (take a cs ++ ds)) (take_drop a xs) (stand_join (take a xs) (drop a xs) (take a cs) ds first (subst (λ ys. AllStand S ys ds) (tail_is a xs le) t))

  module _ (R : A → Option Refusal) (C : A → Refusal → Type 0) where
    -- what is refused of what stood later is refused of what stood before
    pub refused_up : (old new mid last : List A) (F G : Columns → Refusal → Type 0) (e : Refusal)
        → (IsAmong e (map R last) → IsAmong e (map R new)) → (map R last ≡ map R mid → map R new ≡ map R old) → CausesStay (HaveCause C) old mid
        → ((cs : Columns) → AllStand S old cs → (ds : Columns) × (AllStand S mid ds × (F ds e → G cs e))) → IsRefusedFor S R C mid last F e → IsRefusedFor S R C old new G e
    refused_up old new mid last F G e among kept stay up (inl h) = inl (among h.0, λ cs s. let w = up cs s in h.1 w.0 w.1.0, stay e h.2)
    refused_up old new mid last F G e among kept stay up (inr h) = inr (kept h.0, (h.1.0, λ cs s. let w = up cs s in w.1.1 (h.1.1 w.0 w.1.0)))

    -- the same columns stood
    pub refused_same : (old mid new : List A) (F G : Columns → Refusal → Type 0) (e : Refusal) → AllSame S old mid → map R mid ≡ map R old → CausesStay (HaveCause C) old mid → ((cs : Columns) → AllStand S old cs → F cs e → G cs e)
        → IsRefusedFor S R C mid new F e → IsRefusedFor S R C old new G e
    refused_same old mid new F G e same kept stay up = refused_up old new mid new F G e (λ h. h) (λ k. k ∙ kept) stay (λ cs s. (cs, (stand_on old mid cs same s, up cs s)))

    -- one source is refused
    pub refused_at : (old xs : List A) (i : ℕ) (x y : A) (F : List Entry → Refusal → Type 0) (G : Columns → Refusal → Type 0) (e : Refusal) → i < length xs → map R xs ≡ map R old → CausesStay (HaveCause C) old xs
        → ((cs : Columns) → AllStand S old cs → (es : List Entry) × (S (get_or xs i x) es × (F es e → G cs e))) → IsSourceRefusedFor S R C (get_or xs i x) y F e → IsRefusedFor S R C old (set xs i y) G e
    refused_at old xs i x y F G e lt kept stay up (inl h) = inl (among_set R xs i y e lt h.0, λ cs s. let w = up cs s in h.1 w.0 w.1.0, stay e (cause_at C xs i x e lt h.2))
    refused_at old xs i x y F G e lt kept stay up (inr h) = inr (kept_at R xs i x y lt h.0 ∙ kept, (h.1.0, λ cs s. let w = up cs s in w.1.1 (h.1.1 w.0 w.1.0)))

-- a refusal for which P holds where the result is Err
pub refused_ok : {X : Type 0} (P : Refusal → Type 0) (r : Result X Refusal) (e : Refusal) → IsErrAnd r (λ f. f ≡ e) → P e → IfErr r P
refused_ok P (Ok x) e is h = absurd is
refused_ok P (Err f) e is h = subst P (sym is) h

pub none_ok : {X : Type 0} (Q : X → Type 0) (r : Result X Refusal) (e : Refusal) → IsErrAnd r (λ f. f ≡ e) → IfOk r Q
none_ok Q (Ok x) e is = absurd is
none_ok Q (Err f) e is = tt

is_memory : (S : List Entry → Type 0) (old new : Option Refusal) (e : Refusal) → Refuses S old e → Keeps old new e → ((new ≡ Some e) × NothingStands S) ⊎ ((new ≡ old) × Tells ⊥ ⊥ e)
is_memory S old new refusal.Memory h k = inr (k, tt)
is_memory S old new _ h k = inl (k, h.0)

-- a look at one source is refused
pub peek_refused : {A : Type 0} (S : A → List Entry → Type 0) (R : A → Option Refusal) (C : A → Refusal → Type 0) (old xs : List A) (i : ℕ) (x y : A) (G : Columns → Refusal → Type 0) (e : Refusal)
    → i < length xs → map R xs ≡ map R old → CausesStay (HaveCause C) old xs → ((cs : Columns) → AllStand S old cs → AllStand S xs cs) → ((cs : Columns) → Tells ⊥ ⊥ e → G cs e)
    → Refuses (S (get_or xs i x)) (R (get_or xs i x)) e → Keeps (R (get_or xs i x)) (R y) e → C (get_or xs i x) e → IsRefusedFor S R C old (set xs i y) G e
peek_refused S R C old xs i x y G e lt kept stay on up h k cause = elim (is_memory (S (get_or xs i x)) (R (get_or xs i x)) (R y) e h k) [
  | inl is ↦ inl (among_set R xs i y e lt is.0, λ cs s. is.1 (get_or cs i []) (stand_get S xs cs i x lt (on cs s)), stay e (cause_at C xs i x e lt cause))
  | inr memory ↦ inr (kept_at R xs i x y lt memory.0 ∙ kept, (tells_more ⊥ ⊥ (Unit {0}) (Unit {0}) (λ n. absurd n) (λ n. absurd n) e memory.1, λ cs s. up cs memory.1))
]
