-- What a stop leaves of names and nodes is one of the images, and nothing is loose in it.
use Rattle.std.proofs.Common.{◌≡◌, ◌≢◌, ◌<◌, ◌≤◌, ◌⊎◌, inl, inr, ⊎_elim, ℕ, zero, suc, ◌+◌, List, [], ◌∷◌, ◌++◌, length, take, get_or, Bool, true, false, if◌then◌else◌, bytes_eq, string_bytes, Vec, refl, sym, ◌∙◌, ap, subst, arith}
use Rattle.std.proofs.lemmas.List.{take_more}
use Rattle.std.specs.declared.alloc.Global.{Global}
use Rattle.disk.specs.Paths.{folder_of}
use Rattle.disk.specs.State.{IsWhole, IsAtRest}
use Rattle.disk.specs.declared.binding.Binding.{Binding}
use Rattle.disk.specs.declared.binding.Binding.TheVariants.{Nothing, Folder, File}
use Rattle.mem_disk.specs.declared.name.Name.{Name}
use Rattle.mem_disk.specs.declared.node.Node.{Node}
use Rattle.mem_disk.specs.declared.call.Call.{Call}
use Rattle.mem_disk.specs.declared.call.Call.TheVariants.{Begin}
use Rattle.mem_disk.specs.Tables.{at_first, name_in, had_in, of_node, FindsNone, AreApart, Among}
use Rattle.mem_disk.specs.Loose.{Loose, empty, loose_of, replayed, image_of, MayName, MayHold, MayLeave, IsSound, Shows, Keeps}
use Rattle.mem_disk.specs.Left.{EachOf, IsPicked, IsLeft, IsTorn, IsCopy, below, left_within, left_in}
use Rattle.mem_disk.specs.States.{state_with}
use Rattle.mem_disk.specs.Laws.{holds_now}
use Rattle.mem_disk.proofs.Choices.{same_or_not, at_same, at_other}
use Rattle.mem_disk.proofs.Tables.{none_of, node_past}
use Rattle.mem_disk.proofs.Resting.{shorter, at_rest}

-- ---- each goes with its own

each_push : {A B : Type 0} (R : A → B → Type 0) (xs : List A) (ys : List B) (x : A) (y : B) → EachOf R xs ys → R x y → EachOf R (xs ++ x ∷ []) (ys ++ y ∷ [])
each_push R [] [] x y each so = (so, tt)
each_push R [] (z ∷ ys) x y each so = absurd each
each_push R (w ∷ xs) [] x y each so = absurd each
each_push R (w ∷ xs) (z ∷ ys) x y each so = (each.0, each_push R xs ys x y each.1 so)

-- one more does
pub each_more : {A B : Type 0} (R : A → B → Type 0) (xs : List A) (i : ℕ) (x : A) (ys new : List B) (y : B) → i < length xs → x ≡ get_or xs i x → EachOf R (take i xs) ys → R x y → new ≡ ys ++ y ∷ [] → EachOf R (take (i + 1) xs) new
each_more {A} {B} R xs i x ys new y lt is each so more =
    let front : take (i + 1) xs ≡ take i xs ++ x ∷ [] = take_more xs i x lt ∙ ap (λ (z : A). take i xs ++ z ∷ []) (sym is) in
    subst (λ (zs : List B). EachOf R (take (i + 1) xs) zs) (sym more) (subst (λ (ws : List A). EachOf R ws (ys ++ y ∷ [])) (sym front) (each_push R (take i xs) ys x y each so))

each_long : {A B : Type 0} (R : A → B → Type 0) (xs : List A) (ys : List B) → EachOf R xs ys → length ys ≡ length xs
each_long R [] [] each = refl
each_long R [] (y ∷ ys) each = absurd each
each_long R (x ∷ xs) [] each = absurd each
each_long R (x ∷ xs) (y ∷ ys) each = ap suc (each_long R xs ys each.1)

pub among_at : (xs : List Binding) (i : ℕ) (d b : Binding) → i < length xs → b ≡ get_or xs i d → Among b xs
among_at [] i d b lt is = absurd (omega (arith, lt))
among_at (x ∷ xs) zero d b lt is = inl is
among_at (x ∷ xs) (suc i) d b lt is = inr (among_at xs i d b (omega (arith, lt)) is)

-- ---- what is there of a path

below_nothing : (a : Binding) → below a Nothing ≡ Nothing
below_nothing Folder = refl
below_nothing Nothing = refl
below_nothing (File n) = refl

below_file : (a b : Binding) (n : ℕ) → below a b ≡ File n → b ≡ File n
below_file Folder b n is = is
below_file Nothing b n is = cc
below_file (File m) b n is = cc

below_something : (a b : Binding) → below a b ≢ Nothing → a ≡ Folder
below_something Folder b some = refl
below_something Nothing b some = absurd (some refl)
below_something (File m) b some = absurd (some refl)

pub below_folder : (a b : Binding) → a ≡ Folder → below a b ≡ b
below_folder a b is = ap (λ (x : Binding). below x b) is

pub below_other : (a b : Binding) → a ≢ Folder → below a b ≡ Nothing
below_other Folder b other = absurd (other refl)
below_other Nothing b other = refl
below_other (File m) b other = refl

-- longer paths make no difference
as_long : (names : List Name) (n m : ℕ) (q : List ℕ) → length q ≤ n → length q ≤ m → left_within names n q ≡ left_within names m q
as_long names n m [] one two = refl
as_long names zero m (b ∷ q) one two = absurd (omega (arith, one))
as_long names (suc n) zero (b ∷ q) one two = absurd (omega (arith, two))
as_long names (suc n) (suc m) (b ∷ q) one two =
    let less = shorter b q in
    ap (λ (x : Binding). below x (name_in names (b ∷ q))) (as_long names n m (folder_of (b ∷ q)) (omega (arith, less, one)) (omega (arith, less, two)))

pub left_step : (names : List Name) (b : ℕ) (q : List ℕ) → left_in names (b ∷ q) ≡ below (left_in names (folder_of (b ∷ q))) (name_in names (b ∷ q))
left_step names b q =
    let less = shorter b q in
    ap (λ (x : Binding). below x (name_in names (b ∷ q))) (as_long names (length q) (length (folder_of (b ∷ q))) (folder_of (b ∷ q)) less (omega arith))

left_none : (names : List Name) (q : List ℕ) → FindsNone names q → left_in names q ≡ at_first q
left_none names [] none = refl
left_none names (b ∷ q) none = left_step names b q ∙ ap (below (left_in names (folder_of (b ∷ q)))) (none_of (λ (x : Name). x.now) at_first names (b ∷ q) none) ∙ below_nothing (left_in names (folder_of (b ∷ q)))

left_file : (names : List Name) (q : List ℕ) (n : ℕ) → left_in names q ≡ File n → name_in names q ≡ File n
left_file names [] n is = let f : Folder ≡ File n = is in cc
left_file names (b ∷ q) n is = below_file (left_in names (folder_of (b ∷ q))) (name_in names (b ∷ q)) n (sym (left_step names b q) ∙ is)

left_below : (names : List Name) (q : List ℕ) → left_in names q ≢ Nothing → left_in names (folder_of q) ≡ Folder
left_below names [] some = refl
left_below names (b ∷ q) some = below_something (left_in names (folder_of (b ∷ q))) (name_in names (b ∷ q)) (λ e. some (left_step names b q ∙ e))

left_there : (names : List Name) (b : ℕ) (q : List ℕ) → left_in names (folder_of (b ∷ q)) ≡ Folder → left_in names (b ∷ q) ≡ name_in names (b ∷ q)
left_there names b q there = left_step names b q ∙ below_folder (left_in names (folder_of (b ∷ q))) (name_in names (b ∷ q)) there

pub left_there_of : (names : List Name) (q : List ℕ) → q ≢ [] → left_in names (folder_of q) ≡ Folder → left_in names q ≡ name_in names q
left_there_of names [] some there = absurd (some refl)
left_there_of names (b ∷ q) some there = left_there names b q there

pub left_gone_of : (names : List Name) (q : List ℕ) → q ≢ [] → left_in names (folder_of q) ≢ Folder → left_in names q ≡ Nothing
left_gone_of names [] some away = absurd (some refl)
left_gone_of names (b ∷ q) some away = left_step names b q ∙ below_other (left_in names (folder_of (b ∷ q))) (name_in names (b ∷ q)) away

-- ---- names

module _ (R : Name → Name → Type 0) (path : (e x : Name) → R e x → string_bytes x.path ≡ string_bytes e.path) where
  none_still : (es xs : List Name) → EachOf R es xs → (q : List ℕ) → FindsNone es q → FindsNone xs q
  none_still [] [] each q none = tt
  none_still [] (x ∷ xs) each q none = absurd each
  none_still (e ∷ es) [] each q none = absurd each
  none_still (e ∷ es) (x ∷ xs) each q none = ((λ is. none.0 (sym (path e x each.0) ∙ is)), none_still es xs each.1 q none.1)

  pub apart_still : (es xs : List Name) → EachOf R es xs → AreApart es → AreApart xs
  apart_still [] [] each apart = tt
  apart_still [] (x ∷ xs) each apart = absurd each
  apart_still (e ∷ es) [] each apart = absurd each
  apart_still (e ∷ es) (x ∷ xs) each apart = (subst (FindsNone xs) (sym (path e x each.0)) (none_still es xs each.1 (string_bytes e.path) apart.0), apart_still es xs each.1 apart.1)

may_if : (t : Bool) (a b c d : Binding) (h k : List Binding) → (a ≡ c) ⊎ Among a h → (b ≡ d) ⊎ Among b k → ((if t then a else b) ≡ (if t then c else d)) ⊎ Among (if t then a else b) (if t then h else k)
may_if true a b c d h k one two = one
may_if false a b c d h k one two = two

-- a name has picked what it may have
picked_may : (es xs : List Name) → EachOf IsPicked es xs → (q : List ℕ) → (name_in xs q ≡ name_in es q) ⊎ Among (name_in xs q) (had_in es q)
picked_may [] [] each q = inl refl
picked_may [] (x ∷ xs) each q = absurd each
picked_may (e ∷ es) [] each q = absurd each
picked_may (e ∷ es) (x ∷ xs) each q = subst
    (λ (p : List ℕ). ((if bytes_eq q p then x.now else name_in xs q) ≡ name_in (e ∷ es) q) ⊎ Among (if bytes_eq q p then x.now else name_in xs q) (had_in (e ∷ es) q))
    (sym each.0.path)
    (may_if (bytes_eq q (string_bytes e.path)) x.now (name_in xs q) e.now (name_in es q) e.had.items (had_in es q) each.0.now (picked_may es xs each.1 q))

module _ (there : List ℕ → Binding) where
  -- a name that is found stands for what is there of it
  left_name : (es xs : List Name) → EachOf (IsLeft there) es xs → (q : List ℕ) → (name_in xs q ≡ there q) ⊎ (FindsNone es q × (name_in xs q ≡ at_first q))
  left_name [] [] each q = inr (tt, refl)
  left_name [] (x ∷ xs) each q = absurd each
  left_name (e ∷ es) [] each q = absurd each
  left_name (e ∷ es) (x ∷ xs) each q = ⊎_elim
      (λ yes. inl (at_same q (string_bytes x.path) x.now (name_in xs q) yes.0 ∙ each.0.now ∙ ap there (sym (yes.0 ∙ each.0.path))))
      (λ no.
      let is : name_in (x ∷ xs) q ≡ name_in xs q = at_other q (string_bytes x.path) x.now (name_in xs q) no.0 in
      ⊎_elim (λ found. inl (is ∙ found)) (λ none. inr (((λ same. no.0 (sym same ∙ sym each.0.path)), none.0), is ∙ none.1)) (left_name es xs each.1 q))
      (same_or_not q (string_bytes x.path))

  left_had : (es xs : List Name) → EachOf (IsLeft there) es xs → (q : List ℕ) → had_in xs q ≡ []
  left_had [] [] each q = refl
  left_had [] (x ∷ xs) each q = absurd each
  left_had (e ∷ es) [] each q = absurd each
  left_had (e ∷ es) (x ∷ xs) each q = ⊎_elim
      (λ yes. at_same q (string_bytes x.path) x.had.items (had_in xs q) yes.0 ∙ each.0.had)
      (λ no. at_other q (string_bytes x.path) x.had.items (had_in xs q) no.0 ∙ left_had es xs each.1 q)
      (same_or_not q (string_bytes x.path))

left_is : (picked left : List Name) → EachOf (IsLeft (left_in picked)) picked left → (q : List ℕ) → name_in left q ≡ left_in picked q
left_is picked left each q = ⊎_elim (λ found. found) (λ none. none.1 ∙ sym (left_none picked q none.0)) (left_name (left_in picked) picked left each q)

-- ---- nodes

abbrev bytes_in : List Node → ℕ → List ℕ
bytes_in xs n = of_node (λ (x : Node). x.bytes.items) [] xs n

abbrev synced_in : List Node → ℕ → ℕ
synced_in xs n = of_node (λ (x : Node). x.synced) 0 xs n

abbrev doubted_in : List Node → ℕ → Bool
doubted_in xs n = of_node (λ (x : Node). x.doubted) false xs n

torn_holds : (xs ys : List Node) → EachOf IsTorn xs ys → (n : ℕ) → synced_in xs n ≤ length (bytes_in xs n) → MayHold (synced_in xs n) (bytes_in xs n) (bytes_in ys n)
torn_holds [] [] each n le = holds_now 0 [] le
torn_holds [] (y ∷ ys) each n le = absurd each
torn_holds (x ∷ xs) [] each n le = absurd each
torn_holds (x ∷ xs) (y ∷ ys) each zero le = each.0.holds le
torn_holds (x ∷ xs) (y ∷ ys) each (suc n) le = torn_holds xs ys each.1 n le

torn_firm : (xs ys : List Node) → EachOf IsTorn xs ys → (n : ℕ) → synced_in ys n ≡ length (bytes_in ys n)
torn_firm [] [] each n = refl
torn_firm [] (y ∷ ys) each n = absurd each
torn_firm (x ∷ xs) [] each n = absurd each
torn_firm (x ∷ xs) (y ∷ ys) each zero = each.0.synced
torn_firm (x ∷ xs) (y ∷ ys) each (suc n) = torn_firm xs ys each.1 n

torn_sure : (xs ys : List Node) → EachOf IsTorn xs ys → (n : ℕ) → doubted_in ys n ≡ false
torn_sure [] [] each n = refl
torn_sure [] (y ∷ ys) each n = absurd each
torn_sure (x ∷ xs) [] each n = absurd each
torn_sure (x ∷ xs) (y ∷ ys) each zero = each.0.sure
torn_sure (x ∷ xs) (y ∷ ys) each (suc n) = torn_sure xs ys each.1 n

module _ {T : Type 0} (f : Node → T) (none : T) (same : (x y : Node) → IsCopy x y → f y ≡ f x) where
  copied : (xs ys : List Node) → EachOf IsCopy xs ys → (n : ℕ) → of_node f none ys n ≡ of_node f none xs n
  copied [] [] each n = refl
  copied [] (y ∷ ys) each n = absurd each
  copied (x ∷ xs) [] each n = absurd each
  copied (x ∷ xs) (y ∷ ys) each zero = same x y each.0
  copied (x ∷ xs) (y ∷ ys) each (suc n) = copied xs ys each.1 n

-- ---- a disk that begins with them

module _ (names : List Name) (nodes : List Node) (calls : List Call) (kept : Keeps names nodes calls) (picked : List Name) (files : List Node) (pick : EachOf IsPicked names picked) (torn : EachOf IsTorn nodes files) where
  abbrev old : Loose
  old = replayed empty calls

  may_name : (q : List ℕ) → MayName old q (name_in picked q)
  may_name q = ⊎_elim
      (λ is. inl (is ∙ sym (kept.shows.names q)))
      (λ a. inr (subst (λ (bs : List Binding). Among (name_in picked q) bs) (sym (kept.shows.had q)) a))
      (picked_may names picked pick q)

  may_there : (q : List ℕ) → left_in picked (folder_of q) ≡ Folder → MayName old q (left_in picked q)
  may_there [] there = inl (sym kept.sound.whole.top)
  may_there (b ∷ q) there = subst (λ (x : Binding). MayName old (b ∷ q) x) (sym (left_there picked b q there)) (may_name (b ∷ q))

  module _ (left : List Name) (each : EachOf (IsLeft (left_in picked)) picked left) (l : Loose) (shows : Shows left files l) where
    is : (q : List ℕ) → l.names q ≡ left_in picked q
    is q = shows.names q ∙ left_is picked left each q

    had : (q : List ℕ) → l.had q ≡ []
    had q = shows.had q ∙ left_had (left_in picked) picked left each q

    firm : (n : ℕ) → l.synced n ≡ length (l.bytes n)
    firm n = shows.synced n ∙ torn_firm nodes files torn n ∙ ap length (sym (shows.bytes n))

    sure : (n : ℕ) → l.doubted n ≡ false
    sure n = shows.doubted n ∙ torn_sure nodes files torn n

    whole : IsWhole (image_of l)
    whole = record {
      top = is [];
      below = λ q some. is (folder_of q) ∙ left_below picked q (λ e. some (is q ∙ e));
    }

    within : (q : List ℕ) (n : ℕ) → MayName l q (File n) → n < length files
    within q n (inl e) =
        let file : name_in picked q ≡ File n = left_file picked q n (sym (is q) ∙ sym e) in
        let lt : n < length nodes = kept.sound.named q n (subst (λ (x : Binding). MayName old q x) file (may_name q)) in
        let long = each_long IsTorn nodes files torn in
        omega (arith, lt, long)
    within q n (inr a) = absurd (subst (λ (bs : List Binding). Among (File n) bs) (had q) a)

    pub left_sound : IsSound l (length files)
    left_sound = record {
      whole = whole;
      grounded = λ q b a some. absurd (subst (λ (bs : List Binding). Among b bs) (had q) a);
      synced = λ n. let e = firm n in omega (arith, e);
      named = within;
      empty = λ n ge. shows.bytes n ∙ node_past (λ (x : Node). x.bytes.items) [] files n ge;
      sure = λ n ge. sure n;
    }

    pub left_leaves : MayLeave old (image_of l)
    left_leaves = record {
      whole = whole;
      named = λ q up. subst (λ (x : Binding). MayName old q x) (sym (is q)) (may_there q (sym (is (folder_of q)) ∙ up));
      holds = λ n.
          let le : synced_in nodes n ≤ length (bytes_in nodes n) = let s = kept.sound.synced n in let a = kept.shows.synced n in let b = ap length (kept.shows.bytes n) in omega (arith, s, a, b) in
          let a : MayHold (old.synced n) (bytes_in nodes n) (bytes_in files n) = subst (λ (k : ℕ). MayHold k (bytes_in nodes n) (bytes_in files n)) (sym (kept.shows.synced n)) (torn_holds nodes files torn n le) in
          let b : MayHold (old.synced n) (old.bytes n) (bytes_in files n) = subst (λ (xs : List ℕ). MayHold (old.synced n) xs (bytes_in files n)) (sym (kept.shows.bytes n)) a in
          subst (λ (xs : List ℕ). MayHold (old.synced n) (old.bytes n) xs) (sym (shows.bytes n)) b;
    }

    left_rests : (others : List Call) → replayed empty others ≡ l → IsAtRest (state_with others 0 0)
    left_rests others made = at_rest others 0 0
        (λ q. ap (λ (x : Loose). x.had q) made ∙ had q)
        (λ n. subst (λ (x : Loose). x.synced n ≡ length (x.bytes n)) (sym made) (firm n))
        (λ n. ap (λ (x : Loose). x.doubted n) made ∙ sure n)
        (subst (λ (x : Loose). IsWhole (image_of x)) (sym made) whole)

-- a record that begins with a list of names and a list of nodes, beside a second list of names and the nodes
pub record Begins (names : List Name) (nodes : List Node) (picked : List Name) (files : List Node) (first second : Vec Name Global) (copies : Vec Node Global) (others : List Call) : Type 0 where
  pub pick : EachOf IsPicked names picked
  pub torn : EachOf IsTorn nodes files
  pub one : EachOf (IsLeft (left_in picked)) picked first.items
  pub two : EachOf (IsLeft (left_in picked)) picked second.items
  pub same : EachOf IsCopy files copies.items
  pub begins : others ≡ [] ++ Begin first copies ∷ []

module _ (names : List Name) (nodes : List Node) (picked : List Name) (files : List Node) (first second : Vec Name Global) (copies : Vec Node Global) (others : List Call) (b : Begins names nodes picked files first second copies others) where
  abbrev made : Loose
  made = loose_of first.items copies.items

  is_made : replayed empty others ≡ made
  is_made = ap (replayed empty) b.begins

  shown : Shows second.items files made
  shown = record {
    names = λ q. left_is picked first.items b.one q ∙ sym (left_is picked second.items b.two q);
    had = λ q. left_had (left_in picked) picked first.items b.one q ∙ sym (left_had (left_in picked) picked second.items b.two q);
    bytes = copied (λ (x : Node). x.bytes.items) [] (λ x y copy. copy.bytes) files copies.items b.same;
    synced = copied (λ (x : Node). x.synced) 0 (λ x y copy. copy.synced) files copies.items b.same;
    doubted = copied (λ (x : Node). x.doubted) false (λ x y copy. copy.doubted) files copies.items b.same;
  }

  pub begins_apart : AreApart names → AreApart second.items
  begins_apart apart = apart_still (IsLeft (left_in picked)) (λ e x is. is.path) picked second.items b.two (apart_still IsPicked (λ e x is. is.path) names picked b.pick apart)

  pub begins_named : (q : List ℕ) → (replayed empty others).names q ≡ left_in picked q
  begins_named q = ap (λ (l : Loose). l.names q) is_made ∙ left_is picked first.items b.one q

  pub begins_holds : (n : ℕ) → (replayed empty others).bytes n ≡ of_node (λ (x : Node). x.bytes.items) [] files n
  begins_holds n = ap (λ (l : Loose). l.bytes n) is_made ∙ shown.bytes n

  module _ (calls : List Call) (kept : Keeps names nodes calls) where
    pub begins_kept : Keeps second.items files others
    begins_kept = record {
      shows = subst (λ (l : Loose). Shows second.items files l) (sym is_made) shown;
      sound = subst (λ (l : Loose). IsSound l (length files)) (sym is_made) (left_sound names nodes calls kept picked files b.pick b.torn second.items b.two made shown);
    }

    pub begins_leaves : MayLeave (replayed empty calls) (image_of (replayed empty others))
    begins_leaves = subst (λ (l : Loose). MayLeave (replayed empty calls) (image_of l)) (sym is_made) (left_leaves names nodes calls kept picked files b.pick b.torn second.items b.two made shown)

    pub begins_rests : IsAtRest (state_with others 0 0)
    begins_rests = left_rests names nodes calls kept picked files b.pick b.torn second.items b.two made shown others is_made
