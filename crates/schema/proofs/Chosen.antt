-- The wanted of some things, and pairs of lists.
use Rattle.std.proofs.Common.{ℕ, zero, suc, ◌≡◌, ◌+◌, ◌<◌, ◌≤◌, Bool, true, false, List, [], ◌∷◌, ◌++◌, length, map, refl, ap, ◌∙◌, arith}
use Rattle.std.specs.Prelude.{if◌then◌else◌}
use Rattle.std.specs.List.{AllByRecursion}
use Rattle.std.proofs.lemmas.Bool.{false≢true}
use Rattle.schema.specs.Cutting.{wanted_of}

pick_map : {A B : Type 0} (f : A → B) (b : Bool) (x : A) (ys : List A) → (if b then f x ∷ map f ys else map f ys) ≡ map f (if b then x ∷ ys else ys)
pick_map f true x ys = refl
pick_map f false x ys = refl

pub wanted-map : {A B : Type 0} (f : A → B) (w : ℕ → Bool) (at : ℕ) (xs : List A) → wanted_of w at (map f xs) ≡ map f (wanted_of w at xs)
wanted-map f w at [] = refl
wanted-map f w at (x ∷ xs) = ap (λ t. if w at then f x ∷ t else t) (wanted-map f w (suc at) xs) ∙ pick_map f (w at) x (wanted_of w (suc at) xs)

pick_both : {A : Type 0} (b : Bool) (x : A) (ys zs : List A) → (if b then x ∷ (ys ++ zs) else (ys ++ zs)) ≡ (if b then x ∷ ys else ys) ++ zs
pick_both true x ys zs = refl
pick_both false x ys zs = refl

pub wanted-both : {A : Type 0} (w : ℕ → Bool) (at : ℕ) (xs ys : List A) → wanted_of w at (xs ++ ys) ≡ wanted_of w at xs ++ wanted_of w (at + length xs) ys
wanted-both w at [] ys = let e : at ≡ at + 0 = omega arith in ap (λ n. wanted_of w n ys) e
wanted-both w at (x ∷ xs) ys =
    let e : suc at + length xs ≡ at + suc (length xs) = omega arith in
    let rest : wanted_of w (suc at) (xs ++ ys) ≡ wanted_of w (suc at) xs ++ wanted_of w (at + suc (length xs)) ys =
    wanted-both w (suc at) xs ys ∙ ap (λ n. wanted_of w (suc at) xs ++ wanted_of w n ys) e in
    ap (λ t. if w at then x ∷ t else t) rest ∙ pick_both (w at) x (wanted_of w (suc at) xs) (wanted_of w (at + suc (length xs)) ys)

picked_some : {A : Type 0} (b : Bool) (x : A) (ys : List A) → b ≡ true → (if b then x ∷ ys else ys) ≡ [] → ⊥
picked_some true x ys h e = cc
picked_some false x ys h e = absurd (false≢true h)

picked_none : {A : Type 0} (b : Bool) (x : A) (ys : List A) → (if b then x ∷ ys else ys) ≡ [] → ys ≡ []
picked_none true x ys e = cc
picked_none false x ys e = e

-- a wanted thing is there
pub wanted_some : {A : Type 0} (w : ℕ → Bool) (at place : ℕ) (xs : List A) → place < length xs → w (at + place) ≡ true → wanted_of w at xs ≡ [] → ⊥
wanted_some w at place [] k t e = absurd (omega (arith, k))
wanted_some w at zero (x ∷ xs) k t e = let same : at ≡ at + 0 = omega arith in picked_some (w at) x (wanted_of w (suc at) xs) (ap w same ∙ t) e
wanted_some w at (suc place) (x ∷ xs) k t e =
    let same : suc at + place ≡ at + suc place = omega arith in
    wanted_some w (suc at) place xs (omega (arith, k)) (ap w same ∙ t) (picked_none (w at) x (wanted_of w (suc at) xs) e)

pick_all : {A : Type 0} (P : A → Type 0) (b : Bool) (x : A) (ys : List A) → P x → AllByRecursion P ys → AllByRecursion P (if b then x ∷ ys else ys)
pick_all P true x ys p q = (p, q)
pick_all P false x ys p q = q

pub wanted-all : {A : Type 0} (P : A → Type 0) (w : ℕ → Bool) (at : ℕ) (xs : List A) → AllByRecursion P xs → AllByRecursion P (wanted_of w at xs)
wanted-all P w at [] h = tt
wanted-all P w at (x ∷ xs) h = pick_all P (w at) x (wanted_of w (suc at) xs) h.0 (wanted-all P w (suc at) xs h.1)

pick_length : {A : Type 0} (b : Bool) (x : A) (ys : List A) (n : ℕ) → length ys ≤ n → length (if b then x ∷ ys else ys) ≤ suc n
pick_length true x ys n h = omega (arith, h)
pick_length false x ys n h = omega (arith, h)

pub wanted-length : {A : Type 0} (w : ℕ → Bool) (at : ℕ) (xs : List A) → length (wanted_of w at xs) ≤ length xs
wanted-length w at [] = omega arith
wanted-length w at (x ∷ xs) = pick_length (w at) x (wanted_of w (suc at) xs) (length xs) (wanted-length w (suc at) xs)

-- two lists of one length, pair by pair
abbrev pub Paired : {A B : Type 0} → (A → B → Type 0) → List A → List B → Type 0
Paired R [] [] = Unit {0}
Paired R (x ∷ xs) (y ∷ ys) = R x y × Paired R xs ys
Paired R _ _ = ⊥

pub paired-both : {A B : Type 0} (R : A → B → Type 0) (xs us : List A) (ys vs : List B) → Paired R xs ys → Paired R us vs → Paired R (xs ++ us) (ys ++ vs)
paired-both R [] us [] vs p q = q
paired-both R [] us (y ∷ ys) vs p q = absurd p
paired-both R (x ∷ xs) us [] vs p q = absurd p
paired-both R (x ∷ xs) us (y ∷ ys) vs p q = (p.0, paired-both R xs us ys vs p.1 q)

pub paired-more : {A B : Type 0} (R S : A → B → Type 0) (xs : List A) (ys : List B) → ((x : A) (y : B) → R x y → S x y) → Paired R xs ys → Paired S xs ys
paired-more R S [] [] f p = tt
paired-more R S [] (y ∷ ys) f p = absurd p
paired-more R S (x ∷ xs) [] f p = absurd p
paired-more R S (x ∷ xs) (y ∷ ys) f p = (f x y p.0, paired-more R S xs ys f p.1)

pub paired-each : {A B C D : Type 0} (g : A → C) (h : B → D) (R : A → B → Type 0) (S : C → D → Type 0) (xs : List A) (ys : List B) → ((x : A) (y : B) → R x y → S (g x) (h y)) → Paired R xs ys → Paired S (map g xs) (map h ys)
paired-each g h R S [] [] f p = tt
paired-each g h R S [] (y ∷ ys) f p = absurd p
paired-each g h R S (x ∷ xs) [] f p = absurd p
paired-each g h R S (x ∷ xs) (y ∷ ys) f p = (f x y p.0, paired-each g h R S xs ys f p.1)

pub paired-map : {A B C : Type 0} (g : A → C) (h : B → C) (R : A → B → Type 0) (xs : List A) (ys : List B) → ((x : A) (y : B) → R x y → g x ≡ h y) → Paired R xs ys → map g xs ≡ map h ys
paired-map g h R [] [] f p = refl
paired-map g h R [] (y ∷ ys) f p = absurd p
paired-map g h R (x ∷ xs) [] f p = absurd p
paired-map g h R (x ∷ xs) (y ∷ ys) f p = ap (λ t. t ∷ map g xs) (f x y p.0) ∙ ap (λ t. h y ∷ t) (paired-map g h R xs ys f p.1)

pub paired-length : {A B : Type 0} (R : A → B → Type 0) (xs : List A) (ys : List B) → Paired R xs ys → length xs ≡ length ys
paired-length R [] [] p = refl
paired-length R [] (y ∷ ys) p = absurd p
paired-length R (x ∷ xs) [] p = absurd p
paired-length R (x ∷ xs) (y ∷ ys) p = ap suc (paired-length R xs ys p.1)

pub paired-none : {A B : Type 0} (R : A → B → Type 0) (ys : List B) → Paired R [] ys → ys ≡ []
paired-none R [] p = refl
paired-none R (y ∷ ys) p = absurd p

pub paired-all : {A B : Type 0} (R : A → B → Type 0) (P : A → Type 0) (Q : B → Type 0) (xs : List A) (ys : List B) → ((x : A) (y : B) → R x y → Q y → P x) → Paired R xs ys → AllByRecursion Q ys → AllByRecursion P xs
paired-all R P Q [] [] f p q = tt
paired-all R P Q [] (y ∷ ys) f p q = absurd p
paired-all R P Q (x ∷ xs) [] f p q = absurd p
paired-all R P Q (x ∷ xs) (y ∷ ys) f p q = (f x y p.0 q.0, paired-all R P Q xs ys f p.1 q.1)
