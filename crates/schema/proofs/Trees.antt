-- A list that is well formed is the listing of its trees, and the listing of trees is well formed.
use Rattle.std.proofs.Common.{ℕ, zero, suc, ◌≡◌, ◌<◌, ◌≤◌, Bool, true, ◌&&◌, nat_lt, nat_le, List, [], ◌∷◌, ◌++◌, drop, get_or, refl, ap, sym, subst, ◌∙◌, Option, Some, None, append_assoc, arith, inl, inr, append-nil as append_none}
use Rattle.std.specs.Prelude.{ℤ, pos, negsuc}
use Rattle.std.proofs.lemmas.Bool.{false≢true}
use Rattle.std.proofs.lemmas.Bool.Decides.{nat_tests}
use Rattle.bits.specs.declared.refusal.Refusal.{Refusal}
use Rattle.bits.specs.declared.refusal.Refusal.TheVariants as refusal
use Rattle.schema.specs.declared.element.Element.{Element as CodeElement}
use Rattle.schema.specs.Elements.{Element, element_view, elements_view}
use Rattle.schema.specs.Shape.{Fields}
use Rattle.schema.specs.Law.{AllDiffer, names}
use Rattle.schema.specs.Listing.{Branch, branch, Branches, no_branches, branches, branch_names, count_branches, depth_first, depth_first_each, HasChildren, IsCounted, AreCounted, IsTreeOf, IsSchemaOf, AreSound, IsSoundList, count_typed, IsTooLarge}
use Rattle.schema.specs.Faults.{HasFault}
use Rattle.schema.specs.inner.Reading.{amount, children, children_by, may_have, is_group_count, forest, well_formed, take_branches, drop_branches, AreRead, IsFaultAmong, HasTree}
use Rattle.schema.proofs.Forest.{count-take, count-drop, well_parts, names-read, fields-read, valid-read, group_of}

abbrev pub join_branches : Branches → Branches → Branches
join_branches no_branches cs = cs
join_branches (branches b bs) cs = branches b (join_branches bs cs)

take_all : (bs cs : Branches) → take_branches (count_branches bs) (join_branches bs cs) ≡ bs
take_all no_branches cs = refl
take_all (branches b bs) cs = ap (branches b) (take_all bs cs)

drop_all : (bs cs : Branches) → drop_branches (count_branches bs) (join_branches bs cs) ≡ cs
drop_all no_branches cs = refl
drop_all (branches b bs) cs = drop_all bs cs

join-none : (bs : Branches) → join_branches bs no_branches ≡ bs
join-none no_branches = refl
join-none (branches b bs) = ap (branches b) (join-none bs)

count-join : (bs cs : Branches) → count_branches bs ≤ count_branches (join_branches bs cs)
count-join no_branches cs = omega arith
count-join (branches b bs) cs = let h = count-join bs cs in omega (arith, h)

pub children_counted : (k c : Option ℤ) (n : ℕ) → HasChildren k c n → children_by k c ≡ n
children_counted (Some t) c n h = sym h.0
children_counted None c n h = ap amount h.1

above : (n : ℕ) → 1 ≤ n → nat_lt 0 n ≡ true
above n h = grind (arith, nat_tests)

of_le : (a b : ℕ) → a ≤ b → nat_le a b ≡ true
of_le a b p = grind (arith, nat_tests)

to_one : (n : ℕ) → nat_lt 0 n ≡ true → 1 ≤ n
to_one n p = grind (arith, nat_tests)

may_counted : (k c : Option ℤ) (n : ℕ) → HasChildren k c n → may_have k c ≡ true
may_counted (Some t) c n (m, inl h) = ap (may_have (Some t)) h
may_counted (Some t) c n (m, inr h) = ap (may_have (Some t)) h
may_counted None c n h = ap is_group_count h.1 ∙ above n h.0

both : (a b c : Bool) → a ≡ true → b ≡ true → c ≡ true → ((a && b) && c) ≡ true
both a b c p q r = ap (λ t. (t && b) && c) p ∙ ap (λ t. t && c) q ∙ r

mutual
  back_at : (b : Branch) → IsCounted b → (rest : List Element) → forest (depth_first b ++ rest) ≡ branches b (forest rest)
  back_at (branch e bs) c rest =
      ap (λ G. branches (branch e (take_branches (children e) G)) (drop_branches (children e) G)) (back_each bs c.1 rest)
      ∙ ap (λ n. branches (branch e (take_branches n (join_branches bs (forest rest)))) (drop_branches n (join_branches bs (forest rest)))) (children_counted e.kind e.num_children (count_branches bs) c.0)
      ∙ ap (λ t. branches (branch e t) (drop_branches (count_branches bs) (join_branches bs (forest rest)))) (take_all bs (forest rest))
      ∙ ap (branches (branch e bs)) (drop_all bs (forest rest))

  pub back_each : (bs : Branches) → AreCounted bs → (rest : List Element) → forest (depth_first_each bs ++ rest) ≡ join_branches bs (forest rest)
  back_each no_branches c rest = refl
  back_each (branches b bs) c rest = ap forest (append_assoc (depth_first b) (depth_first_each bs) rest) ∙ back_at b c.0 (depth_first_each bs ++ rest) ∙ ap (branches b) (back_each bs c.1 rest)

mutual
  well_at : (b : Branch) → IsCounted b → (rest : List Element) → well_formed rest ≡ true → well_formed (depth_first b ++ rest) ≡ true
  well_at (branch e bs) c rest h =
      let n = children_counted e.kind e.num_children (count_branches bs) c.0 in
      let G = ap count_branches (back_each bs c.1 rest) in
      let j = count-join bs (forest rest) in
      both _ _ _ (may_counted e.kind e.num_children (count_branches bs) c.0) (of_le (children e) (count_branches (forest (depth_first_each bs ++ rest))) (omega (arith, n, G, j))) (well_each bs c.1 rest h)

  well_each : (bs : Branches) → AreCounted bs → (rest : List Element) → well_formed rest ≡ true → well_formed (depth_first_each bs ++ rest) ≡ true
  well_each no_branches c rest h = h
  well_each (branches b bs) c rest h = ap well_formed (append_assoc (depth_first b) (depth_first_each bs) rest) ∙ well_at b c.0 (depth_first_each bs ++ rest) (well_each bs c.1 rest h)

pub forest-listing : (bs : Branches) → AreCounted bs → forest (depth_first_each bs) ≡ bs
forest-listing bs c = ap forest (sym (append_none (depth_first_each bs))) ∙ back_each bs c [] ∙ join-none bs

well-listing : (b : Branch) → IsCounted b → well_formed (depth_first b) ≡ true
well-listing b c = ap well_formed (sym (append_none (depth_first b))) ∙ well_at b c [] refl

forest-one : (b : Branch) → IsCounted b → forest (depth_first b) ≡ branches b no_branches
forest-one b c = ap forest (sym (append_none (depth_first b))) ∙ back_at b c []

listing-parts : (n : ℕ) (bs : Branches) → depth_first_each (take_branches n bs) ++ depth_first_each (drop_branches n bs) ≡ depth_first_each bs
listing-parts zero bs = refl
listing-parts (suc n) no_branches = refl
listing-parts (suc n) (branches b bs) = append_assoc (depth_first b) _ _ ∙ ap (λ t. depth_first b ++ t) (listing-parts n bs)

counted-take : (n : ℕ) (bs : Branches) → AreCounted bs → AreCounted (take_branches n bs)
counted-take zero bs c = tt
counted-take (suc n) no_branches c = tt
counted-take (suc n) (branches b bs) c = (c.0, counted-take n bs c.1)

counted-drop : (n : ℕ) (bs : Branches) → AreCounted bs → AreCounted (drop_branches n bs)
counted-drop zero bs c = c
counted-drop (suc n) no_branches c = tt
counted-drop (suc n) (branches b bs) c = counted-drop n bs c.1

has_children : (k c : Option ℤ) → may_have k c ≡ true → HasChildren k c (children_by k c)
has_children (Some t) None h = (refl, inl refl)
has_children (Some t) (Some (pos zero)) h = (refl, inr refl)
has_children (Some t) (Some (pos (suc n))) h = absurd (false≢true h)
has_children (Some t) (Some (negsuc n)) h = absurd (false≢true h)
has_children None (Some (pos n)) h = (to_one n h, refl)
has_children None (Some (negsuc n)) h = absurd (false≢true h)
has_children None None h = absurd (false≢true h)

pub listed : (es : List Element) → well_formed es ≡ true → (depth_first_each (forest es) ≡ es) × AreCounted (forest es)
listed [] h = (refl, tt)
listed (e ∷ es) h =
    let parts = well_parts e es h in
    let below = listed es parts.2 in
    let F : Branches = forest es in
    let n : ℕ = children e in (
      ap (λ t. e ∷ t) (listing-parts n F ∙ below.0),
      ((subst (HasChildren e.kind e.num_children) (sym (count-take n F parts.1)) (has_children e.kind e.num_children parts.0), counted-take n F below.1), counted-drop n F below.1),
    )

-- the one tree of a list
pub tree_of : (e : Element) (es : List Element) → HasTree (e ∷ es) → IsTreeOf (e ∷ es) e (forest es)
tree_of e es h =
    let parts = well_parts e es h.1 in
    let below = listed es parts.2 in
    let left = count-drop (children e) (forest es) parts.1 in
    let one = h.2 in
    let all : children e ≡ count_branches (forest es) = omega (arith, left, one) in
    record { listed = ap (λ t. e ∷ t) (sym below.0); counted = (subst (HasChildren e.kind e.num_children) all (has_children e.kind e.num_children parts.0), below.1); group = h.0 }

children_all : (e : Element) (es : List Element) → HasTree (e ∷ es) → children e ≡ count_branches (forest es)
children_all e es h =
    let parts = well_parts e es h.1 in
    let left = count-drop (children e) (forest es) parts.1 in
    let one = h.2 in
    omega (arith, left, one)

tree_at : (root : Element) (below : Branches) → IsCounted (branch root below) → root.kind ≡ None → HasTree (depth_first (branch root below))
tree_at root below c g = (g, well-listing (branch root below) c, ap count_branches (forest-one (branch root below) c))

-- a list that is a tree has one
pub only_tree : (es : List Element) (root : Element) (below : Branches) → IsTreeOf es root below → HasTree es
only_tree es root below t = subst HasTree (sym t.listed) (tree_at root below t.counted t.group)

pub same_rest : (e f : Element) (xs ys : List Element) → e ∷ xs ≡ f ∷ ys → xs ≡ ys
same_rest e f xs ys h = cc

pub same_first : (e f : Element) (xs ys : List Element) → e ∷ xs ≡ f ∷ ys → e ≡ f
same_first e f xs ys h = cc

-- what is below the root of any tree of the list
pub below_is : (e : Element) (es : List Element) (root : Element) (below : Branches) → IsTreeOf (e ∷ es) root below → below ≡ forest es
below_is e es root below t = sym (forest-listing below t.counted.1) ∙ ap forest (sym (same_rest e root es (depth_first_each below) t.listed))

take_whole : (n : ℕ) (bs : Branches) → n ≡ count_branches bs → take_branches n bs ≡ bs
take_whole zero no_branches h = refl
take_whole zero (branches b bs) h = absurd (omega (arith, h))
take_whole (suc n) no_branches h = refl
take_whole (suc n) (branches b bs) h = ap (branches b) (take_whole n bs (omega (arith, h)))

fault_of : (e : Element) (es : List Element) (r : Refusal) → HasTree (e ∷ es) → IsFaultAmong 32 (forest es) r → HasFault (e ∷ es) r
fault_of e es refusal.Schema t h = λ s. h (subst AreSound (below_is e es s.root s.below s.listed) s.sound)
fault_of e es (refusal.Float path) t h = record { root = e; below = forest es; listed = tree_of e es t; there = h }
fault_of e es (refusal.Int96 path) t h = record { root = e; below = forest es; listed = tree_of e es t; there = h }
fault_of e es refusal.Limit t h = record { root = e; below = forest es; listed = tree_of e es t; over = inr h }
fault_of e es refusal.Memory t h = tt
fault_of e es refusal.Truncated t h = absurd h
fault_of e es refusal.Magic t h = absurd h
fault_of e es refusal.Thrift t h = absurd h
fault_of e es refusal.Codec t h = absurd h
fault_of e es refusal.Encoding t h = absurd h
fault_of e es refusal.Page t h = absurd h
fault_of e es refusal.Levels t h = absurd h
fault_of e es refusal.Value t h = absurd h
fault_of e es refusal.Utf8 t h = absurd h
fault_of e es refusal.RowShape t h = absurd h
fault_of e es refusal.NoColumn t h = absurd h
fault_of e es refusal.Unordered t h = absurd h
fault_of e es refusal.Key t h = absurd h
fault_of e es refusal.NoGroup t h = absurd h
fault_of e es refusal.Stale t h = absurd h
fault_of e es refusal.NoJob t h = absurd h
fault_of e es refusal.NoCursor t h = absurd h
fault_of e es refusal.Full t h = absurd h
fault_of e es refusal.NoTable t h = absurd h
fault_of e es refusal.Exists t h = absurd h
fault_of e es refusal.Device t h = absurd h
fault_of e es refusal.InDoubt t h = absurd h
fault_of e es refusal.Closed t h = absurd h
fault_of e es refusal.Script t h = absurd h

-- the root of a list
pub first_is : (es : List CodeElement) (e : CodeElement) → e ≡ get_or es 0 e → HasTree (elements_view es) → elements_view es ≡ element_view e ∷ elements_view (drop 1 es)
first_is [] e h t = absurd t
first_is (x ∷ xs) e h t = ap (λ y. element_view y ∷ elements_view xs) (sym h)

abbrev Rest : List CodeElement → Branches
Rest es = forest (elements_view (drop 1 es))

pub whole_rest : (es : List CodeElement) (e : CodeElement) (n : ℕ) → e ≡ get_or es 0 e → HasTree (elements_view es) → n ≡ children (element_view e) → take_branches n (Rest es) ≡ Rest es
whole_rest es e n h t is = take_whole n (Rest es) (is ∙ children_all (element_view e) (elements_view (drop 1 es)) (subst HasTree (first_is es e h t) t))

-- a fault below the root is the list's
pub fault_list : (es : List CodeElement) (e : CodeElement) (n : ℕ) (r : Refusal) → e ≡ get_or es 0 e → HasTree (elements_view es) → n ≡ children (element_view e) → IsFaultAmong 32 (take_branches n (Rest es)) r → HasFault (elements_view es) r
fault_list es e n r h t is bad =
    let first = first_is es e h t in
    subst (λ l. HasFault l r) (sym first) (fault_of (element_view e) (elements_view (drop 1 es)) r (subst HasTree first t) (subst (λ b. IsFaultAmong 32 b r) (whole_rest es e n h t is) bad))

pub no_tree : (es : List Element) → (HasTree es → ⊥) → IsSoundList es → ⊥
no_tree es bad s = bad (only_tree es s.root s.below s.listed)

pub large_list : (es : List CodeElement) → HasTree (elements_view es) → 1024 < count_typed (elements_view es) → IsTooLarge (elements_view es)
large_list [] t h = absurd t
large_list (x ∷ xs) t h = record { root = element_view x; below = forest (elements_view xs); listed = tree_of (element_view x) (elements_view xs) t; over = inl h }

twins_at : (e : Element) (es : List Element) (fs : Fields) → AreRead 32 (forest es) fs → (AllDiffer (names fs) → ⊥) → IsSoundList (e ∷ es) → ⊥
twins_at e es fs h bad s = bad (subst AllDiffer (ap branch_names (below_is e es s.root s.below s.listed) ∙ sym (names-read 32 (forest es) fs h)) s.differ)

pub twins_list : (es : List CodeElement) (e : CodeElement) (n : ℕ) (fs : Fields) → e ≡ get_or es 0 e → HasTree (elements_view es) → n ≡ children (element_view e) → AreRead 32 (take_branches n (Rest es)) fs → (AllDiffer (names fs) → ⊥) → IsSoundList (elements_view es) → ⊥
twins_list es e n fs h t is read bad s =
    let first = first_is es e h t in
    twins_at (element_view e) (elements_view (drop 1 es)) fs (subst (λ b. AreRead 32 b fs) (whole_rest es e n h t is) read) bad (subst IsSoundList first s)

some_below : (k c : Option ℤ) (n : ℕ) → k ≡ None → HasChildren k c n → 1 ≤ n
some_below (Some t) c n e h = cc
some_below None c n e h = h.0

made_at : (e : Element) (es : List Element) (fs : Fields) → HasTree (e ∷ es) → AreRead 32 (forest es) fs → AllDiffer (names fs) → IsSchemaOf (e ∷ es) fs
made_at e es fs t h d =
    let tree = tree_of e es t in
    record { root = e; below = forest es; listed = tree; stands_for = fields-read 32 (forest es) fs h; valid = (group_of 32 (forest es) fs h (some_below e.kind e.num_children (count_branches (forest es)) tree.group tree.counted.0) d, valid-read 32 (forest es) fs h) }

-- what is read below the root, with names that differ, is what the list stands for
pub made_list : (es : List CodeElement) (e : CodeElement) (n : ℕ) (fs : Fields) → e ≡ get_or es 0 e → HasTree (elements_view es) → n ≡ children (element_view e) → AreRead 32 (take_branches n (Rest es)) fs → AllDiffer (names fs) → IsSchemaOf (elements_view es) fs
made_list es e n fs h t is read d =
    let first = first_is es e h t in
    subst (λ l. IsSchemaOf l fs) (sym first) (made_at (element_view e) (elements_view (drop 1 es)) fs (subst HasTree first t) (subst (λ b. AreRead 32 b fs) (whole_rest es e n h t is) read) d)
