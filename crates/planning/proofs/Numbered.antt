-- No number comes twice where groups are replaced.
use Rattle.std.proofs.Common.{◌≡◌, ◌⊎◌, inl, inr, ℕ, Bool, true, false, ◌||◌, List, [], ◌∷◌, ◌++◌, map, Option, Some, None, nat_eq, refl, sym, ◌∙◌, ap, subst, append_assoc}
use Rattle.std.specs.Prelude.{if◌then◌else◌}
use Rattle.std.specs.List.{AllByRecursion}
use Rattle.std.proofs.lemmas.Bool.{false≢true, eqb-true, false_from_ne_true as by_no}
use Rattle.schema.specs.Cutting.{is_among}
use Rattle.schema.specs.Keys.{AreDistinct}
use Rattle.partition.specs.Order.{AreInTableOrder}
use Rattle.manifest.specs.Groups.{Group, keys_of}
use Rattle.planning.specs.Told.{numbers_of}
use Rattle.planning.specs.Replaced.{Change, Run, gone, changes_for, changes_of, come_for, or_itself, replaced}
use Rattle.planning.specs.Shown.{HasKeyOf}
use Rattle.planning.specs.Numbered.{brought, brought_by, ReplacedAreDistinct, RewrittenAreDistinct, RemovedAreDistinct, RemovedAreInOrder}
use Rattle.planning.proofs.Gone.{gone_are_gone}
use Rattle.planning.proofs.Kept.{replaced_are_in_order}
use Rattle.planning.proofs.Rewriting.{among_append, numbers_append, Apart, distinct_first, distinct_later, distinct_apart, turned, itself, also, other_number}

-- ---- lists of numbers

both_distinct : (ms ns : List ℕ) → AreDistinct ms → AreDistinct ns → Apart ms ns → AreDistinct (ms ++ ns)
both_distinct [] ns d e a = e
both_distinct (m ∷ ms) ns d e a = (among_append ms ns m ∙ neither (is_among ms m) (is_among ns m) d.0 a.0, both_distinct ms ns d.1 e a.1)
  where
    neither : (a b : Bool) → a ≡ false → b ≡ false → (a || b) ≡ false
    neither true b e f = absurd (false≢true (sym e))
    neither false b e f = f

-- where each that is among these is not among those
all_apart : (ms ns : List ℕ) → ((n : ℕ) → is_among ms n ≡ true → is_among ns n ≡ false) → Apart ms ns
all_apart [] ns f = tt
all_apart (m ∷ ms) ns f = (f m (itself m ms), all_apart ms ns (λ n e. f n (also m ms n e)))

in_later : (ms ns : List ℕ) (n : ℕ) → is_among ns n ≡ true → is_among (ms ++ ns) n ≡ true
in_later [] ns n e = e
in_later (m ∷ ms) ns n e = also m (ms ++ ns) n (in_later ms ns n e)

in_first : (ms ns : List ℕ) (n : ℕ) → is_among ms n ≡ true → is_among (ms ++ ns) n ≡ true
in_first ms ns n e = among_append ms ns n ∙ ap (λ b. b || is_among ns n) e

in_either : (ms ns : List ℕ) (n : ℕ) → is_among (ms ++ ns) n ≡ true → (is_among ms n ≡ true) ⊎ (is_among ns n ≡ true)
in_either ms ns n e = by (is_among ms n) (sym (among_append ms ns n) ∙ e)
  where
    by : (b : Bool) → (b || is_among ns n) ≡ true → (b ≡ true) ⊎ (is_among ns n ≡ true)
    by true f = inl refl
    by false f = inr f

-- ---- what comes for a number

abbrev come_in : Option (List Group) → List Group
come_in None = []
come_in (Some come) = come

abbrev coming : List Change → ℕ → List ℕ
coming cs n = numbers_of (come_in (come_for cs n))

abbrev all_numbers : List Change → List ℕ
all_numbers cs = numbers_of (brought cs)

here : (c : Change) (cs : List Change) (n : ℕ) → nat_eq c.number n ≡ true → coming (c ∷ cs) n ≡ numbers_of c.come
here c cs n e = ap (λ (b : Bool). numbers_of (come_in (if b then Some c.come else come_for cs n))) e

later : (c : Change) (cs : List Change) (n : ℕ) → nat_eq c.number n ≡ false → coming (c ∷ cs) n ≡ coming cs n
later c cs n e = ap (λ (b : Bool). numbers_of (come_in (if b then Some c.come else come_for cs n))) e

all_is : (c : Change) (cs : List Change) → all_numbers (c ∷ cs) ≡ numbers_of c.come ++ all_numbers cs
all_is c cs = numbers_append c.come (brought cs)

in_all : (cs : List Change) (n k : ℕ) → is_among (coming cs n) k ≡ true → is_among (all_numbers cs) k ≡ true
in_all [] n k e = absurd (false≢true e)
in_all (c ∷ cs) n k e = by (nat_eq c.number n) refl (in_all cs n k)
  where
    by : (b : Bool) → nat_eq c.number n ≡ b → (is_among (coming cs n) k ≡ true → is_among (all_numbers cs) k ≡ true) → is_among (all_numbers (c ∷ cs)) k ≡ true
    by true t next = ap (λ ns. is_among ns k) (all_is c cs) ∙ in_first (numbers_of c.come) (all_numbers cs) k (sym (ap (λ ns. is_among ns k) (here c cs n t)) ∙ e)
    by false t next = ap (λ ns. is_among ns k) (all_is c cs) ∙ in_later (numbers_of c.come) (all_numbers cs) k (next (sym (ap (λ ns. is_among ns k) (later c cs n t)) ∙ e))

coming_distinct : (cs : List Change) (n : ℕ) → AreDistinct (all_numbers cs) → AreDistinct (coming cs n)
coming_distinct [] n d = tt
coming_distinct (c ∷ cs) n d = by (nat_eq c.number n) refl (subst AreDistinct (all_is c cs) d) (coming_distinct cs n)
  where
    by : (b : Bool) → nat_eq c.number n ≡ b → AreDistinct (numbers_of c.come ++ all_numbers cs) → (AreDistinct (all_numbers cs) → AreDistinct (coming cs n)) → AreDistinct (coming (c ∷ cs) n)
    by true t e next = subst AreDistinct (sym (here c cs n t)) (distinct_first (numbers_of c.come) (all_numbers cs) e)
    by false t e next = subst AreDistinct (sym (later c cs n t)) (next (distinct_later (numbers_of c.come) (all_numbers cs) e))

-- what comes for one number does not come for another
not_both : (cs : List Change) (n m k : ℕ) → AreDistinct (all_numbers cs) → nat_eq n m ≡ false → is_among (coming cs n) k ≡ true → is_among (coming cs m) k ≡ true → ⊥
not_both [] n m k d o e f = false≢true e
not_both (c ∷ cs) n m k d o e f = by (nat_eq c.number n) (nat_eq c.number m) refl refl (subst AreDistinct (all_is c cs) d) (λ r. not_both cs n m k r o)
  where
    apart : AreDistinct (numbers_of c.come ++ all_numbers cs) → is_among (numbers_of c.come) k ≡ true → is_among (all_numbers cs) k ≡ true → ⊥
    apart r a b = false≢true (sym (turned (numbers_of c.come) (all_numbers cs) (distinct_apart (numbers_of c.come) (all_numbers cs) r) k b) ∙ a)

    now : (i : ℕ) → nat_eq c.number i ≡ true → is_among (coming (c ∷ cs) i) k ≡ true → is_among (numbers_of c.come) k ≡ true
    now i t a = sym (ap (λ ns. is_among ns k) (here c cs i t)) ∙ a

    after : (i : ℕ) → nat_eq c.number i ≡ false → is_among (coming (c ∷ cs) i) k ≡ true → is_among (coming cs i) k ≡ true
    after i t a = sym (ap (λ ns. is_among ns k) (later c cs i t)) ∙ a

    by : (a b : Bool) → nat_eq c.number n ≡ a → nat_eq c.number m ≡ b → AreDistinct (numbers_of c.come ++ all_numbers cs)
        → (AreDistinct (all_numbers cs) → is_among (coming cs n) k ≡ true → is_among (coming cs m) k ≡ true → ⊥) → ⊥
    by true true t u r next = false≢true (sym o ∙ ap (λ i. nat_eq i m) (sym (eqb-true c.number n t)) ∙ u)
    by true false t u r next = apart r (now n t e) (in_all cs m k (after m u f))
    by false true t u r next = apart r (now m u f) (in_all cs n k (after n t e))
    by false false t u r next = next (distinct_later (numbers_of c.come) (all_numbers cs) r) (after n t e) (after m u f)

-- ---- groups

-- a number that is there was there, or came for one that was
record Comes (cs : List Change) (gs : List Group) (k : ℕ) : Type 0 where
  pub whose : ℕ
  pub was : is_among (numbers_of gs) whose ≡ true
  pub came : is_among (coming cs whose) k ≡ true

abbrev From : List Change → List Group → ℕ → Type 0
From cs gs k = (is_among (numbers_of gs) k ≡ true) ⊎ Comes cs gs k

from_later : (cs : List Change) (g : Group) (gs : List Group) (k : ℕ) → From cs gs k → From cs (g ∷ gs) k
from_later cs g gs k (inl e) = inl (also g.number (numbers_of gs) k e)
from_later cs g gs k (inr c) = inr (record { whose = c.whose; was = also g.number (numbers_of gs) c.whose c.was; came = c.came })

from_here : (cs : List Change) (g : Group) (gs : List Group) (k : ℕ) (o : Option (List Group)) → come_for cs g.number ≡ o → is_among (numbers_of (or_itself g o)) k ≡ true → From cs (g ∷ gs) k
from_here cs g gs k None t e = inl (one (nat_eq g.number k) e)
  where
    one : (b : Bool) → (b || false) ≡ true → (b || is_among (numbers_of gs) k) ≡ true
    one true f = refl
    one false f = absurd (false≢true f)
from_here cs g gs k (Some come) t e = inr (record { whose = g.number; was = itself g.number (numbers_of gs); came = ap (λ o. is_among (numbers_of (come_in o)) k) t ∙ e })

from_where : (cs : List Change) (gs : List Group) (k : ℕ) → is_among (numbers_of (replaced cs gs)) k ≡ true → From cs gs k
from_where cs [] k e = absurd (false≢true e)
from_where cs (g ∷ gs) k e = by (in_either (numbers_of (or_itself g (come_for cs g.number))) (numbers_of (replaced cs gs)) k (sym (ap (λ ns. is_among ns k) (numbers_append (or_itself g (come_for cs g.number)) (replaced cs gs))) ∙ e)) (from_where cs gs k)
  where
    by : (is_among (numbers_of (or_itself g (come_for cs g.number))) k ≡ true) ⊎ (is_among (numbers_of (replaced cs gs)) k ≡ true) → (is_among (numbers_of (replaced cs gs)) k ≡ true → From cs gs k) → From cs (g ∷ gs) k
    by (inl f) next = from_here cs g gs k (come_for cs g.number) refl f
    by (inr f) next = from_later cs g gs k (next f)

module _ (cs : List Change) (d : AreDistinct (all_numbers cs)) where
  -- none of all that comes has a number that was there
  abbrev New : List Group → Type 0
  New gs = (k : ℕ) → is_among (all_numbers cs) k ≡ true → is_among (numbers_of gs) k ≡ false

  -- what stands at a group's place is not among what stands later
  here_apart : (g : Group) (gs : List Group) → AreDistinct (numbers_of (g ∷ gs)) → New (g ∷ gs) → (o : Option (List Group)) → come_for cs g.number ≡ o → (k : ℕ) → is_among (numbers_of (or_itself g o)) k ≡ true → From cs gs k → ⊥
  here_apart g gs e n None t k a (inl f) = false≢true (sym (other_number g.number (numbers_of gs) e.0 k f) ∙ one (nat_eq g.number k) a)
    where
      one : (b : Bool) → (b || false) ≡ true → b ≡ true
      one true h = refl
      one false h = absurd (false≢true h)
  here_apart g gs e n None t k a (inr c) = false≢true (sym (n k (in_all cs c.whose k c.came)) ∙ one (nat_eq g.number k) a)
    where
      one : (b : Bool) → (b || false) ≡ true → (b || is_among (numbers_of gs) k) ≡ true
      one true h = refl
      one false h = absurd (false≢true h)
  here_apart g gs e n (Some come) t k a (inl f) = false≢true (sym (n k (in_all cs g.number k (ap (λ o. is_among (numbers_of (come_in o)) k) t ∙ a))) ∙ also g.number (numbers_of gs) k f)
  here_apart g gs e n (Some come) t k a (inr c) = not_both cs g.number c.whose k d (other_number g.number (numbers_of gs) e.0 c.whose c.was) (ap (λ o. is_among (numbers_of (come_in o)) k) t ∙ a) c.came

  here_distinct : (g : Group) (o : Option (List Group)) → come_for cs g.number ≡ o → AreDistinct (numbers_of (or_itself g o))
  here_distinct g None t = (refl, tt)
  here_distinct g (Some come) t = subst (λ o. AreDistinct (numbers_of (come_in o))) t (coming_distinct cs g.number d)

  all_distinct : (gs : List Group) → AreDistinct (numbers_of gs) → New gs → AreDistinct (numbers_of (replaced cs gs))
  all_distinct [] e n = tt
  all_distinct (g ∷ gs) e n =
      subst AreDistinct (sym (numbers_append (or_itself g (come_for cs g.number)) (replaced cs gs)))
      (both_distinct (numbers_of (or_itself g (come_for cs g.number))) (numbers_of (replaced cs gs)) (here_distinct g (come_for cs g.number) refl) (all_distinct gs e.1 (λ k a. less (nat_eq g.number k) k (n k a)))
      (all_apart (numbers_of (or_itself g (come_for cs g.number))) (numbers_of (replaced cs gs)) (λ k a. by_no (is_among (numbers_of (replaced cs gs)) k) (λ f. here_apart g gs e n (come_for cs g.number) refl k a (from_where cs gs k f)))))
    where
      less : (b : Bool) (k : ℕ) → (b || is_among (numbers_of gs) k) ≡ false → is_among (numbers_of gs) k ≡ false
      less true k f = absurd (false≢true (sym f))
      less false k f = f

replaced_with : (cs : List Change) (gs : List Group) → AreDistinct (numbers_of gs ++ all_numbers cs) → AreDistinct (numbers_of (replaced cs gs))
replaced_with cs gs d = all_distinct cs (distinct_later (numbers_of gs) (all_numbers cs) d) gs (distinct_first (numbers_of gs) (all_numbers cs) d)
    (λ k a. turned (numbers_of gs) (all_numbers cs) (distinct_apart (numbers_of gs) (all_numbers cs) d) k a)

pub replaced_are_distinct : ReplacedAreDistinct
replaced_are_distinct cs gs d = replaced_with cs gs (subst AreDistinct (numbers_append gs (brought cs)) d)

-- ---- removals

none_brought : (ns : List ℕ) → brought (map gone ns) ≡ []
none_brought [] = refl
none_brought (n ∷ ns) = none_brought ns

nothing_after : (gs : List Group) → gs ++ [] ≡ gs
nothing_after [] = refl
nothing_after (g ∷ gs) = ap (λ hs. g ∷ hs) (nothing_after gs)

pub removed_are_distinct : RemovedAreDistinct
removed_are_distinct ns gs d = subst (λ hs. AreDistinct (numbers_of hs)) (gone_are_gone ns gs)
    (replaced_are_distinct (map gone ns) gs (subst (λ hs. AreDistinct (numbers_of hs)) (sym (ap (λ hs. gs ++ hs) (none_brought ns) ∙ nothing_after gs)) d))

gone_of_key : (ns : List ℕ) (g : Group) (n : ℕ) → HasKeyOf g (come_for (map gone ns) n)
gone_of_key [] g n = tt
gone_of_key (m ∷ ns) g n = by (nat_eq m n) (gone_of_key ns g n)
  where
    by : (b : Bool) → HasKeyOf g (come_for (map gone ns) n) → HasKeyOf g (if b then Some [] else come_for (map gone ns) n)
    by true r = tt
    by false r = r

gone_of_keys : (ns : List ℕ) (gs : List Group) → AllByRecursion (λ (g : Group). HasKeyOf g (come_for (map gone ns) g.number)) gs
gone_of_keys ns [] = tt
gone_of_keys ns (g ∷ gs) = (gone_of_key ns g g.number, gone_of_keys ns gs)

pub removed_are_in_order : RemovedAreInOrder
removed_are_in_order ns gs o = subst (λ hs. AreInTableOrder (keys_of hs)) (gone_are_gone ns gs) (replaced_are_in_order (map gone ns) gs (gone_of_keys ns gs) o)

-- ---- rewrites

brought_append : (cs ds : List Change) → brought (cs ++ ds) ≡ brought cs ++ brought ds
brought_append [] ds = refl
brought_append (c ∷ cs) ds = ap (λ gs. c.come ++ gs) (brought_append cs ds) ∙ sym (append_assoc c.come (brought cs) (brought ds))

brought_for : (n : ℕ) (ns : List ℕ) (come : List Group) → brought (changes_for (n ∷ ns) come) ≡ come
brought_for n ns come = ap (λ gs. come ++ gs) (none_brought ns) ∙ nothing_after come

-- the changes of runs bring what the runs bring, but for those that have no sources
rest_distinct : (xs ys zs : List ℕ) → AreDistinct (xs ++ (ys ++ zs)) → AreDistinct (xs ++ zs)
rest_distinct xs ys zs d =
    let l = distinct_later xs (ys ++ zs) d in
    both_distinct xs zs (distinct_first xs (ys ++ zs) d) (distinct_later ys zs l)
    (all_apart xs zs (λ n e. by_no (is_among zs n) (λ f. false≢true (sym (turned xs (ys ++ zs) (distinct_apart xs (ys ++ zs) d) n (in_later ys zs n f)) ∙ e))))

-- with all numbers so far in front
run_by_run : (front : List ℕ) (rs : List Run) → AreDistinct (front ++ numbers_of (brought_by rs)) → AreDistinct (front ++ all_numbers (changes_of rs))
run_by_run front [] d = d
run_by_run front (r ∷ rs) d = by r.sources (subst (λ ns. AreDistinct (front ++ ns)) (numbers_append r.come (brought_by rs)) d) (λ f e. run_by_run f rs e)
  where
    by : (ns : List ℕ) → AreDistinct (front ++ (numbers_of r.come ++ numbers_of (brought_by rs)))
        → ((f : List ℕ) → AreDistinct (f ++ numbers_of (brought_by rs)) → AreDistinct (f ++ all_numbers (changes_of rs)))
        → AreDistinct (front ++ all_numbers (changes_for ns r.come ++ changes_of rs))
    by [] e next = next front (rest_distinct front (numbers_of r.come) (numbers_of (brought_by rs)) e)
    by (n ∷ ns) e next =
        let is : all_numbers (changes_for (n ∷ ns) r.come ++ changes_of rs) ≡ numbers_of r.come ++ all_numbers (changes_of rs) =
        ap numbers_of (brought_append (changes_for (n ∷ ns) r.come) (changes_of rs) ∙ ap (λ gs. gs ++ brought (changes_of rs)) (brought_for n ns r.come)) ∙ numbers_append r.come (brought (changes_of rs)) in
        subst (λ ms. AreDistinct (front ++ ms)) (sym is)
        (subst AreDistinct (append_assoc front (numbers_of r.come) (all_numbers (changes_of rs)))
        (next (front ++ numbers_of r.come) (subst AreDistinct (sym (append_assoc front (numbers_of r.come) (numbers_of (brought_by rs)))) e)))

pub rewritten_are_distinct : RewrittenAreDistinct
rewritten_are_distinct rs gs d = replaced_with (changes_of rs) gs (run_by_run (numbers_of gs) rs (subst AreDistinct (numbers_append gs (brought_by rs)) d))
