-- The trees of a list, from place to place.
use Rattle.std.proofs.Common.{ℕ, zero, suc, ◌≡◌, ◌+◌, ◌-◌, ◌<◌, ◌≤◌, Bool, true, ◌&&◌, nat_lt, nat_le, max, List, [], ◌∷◌, ◌++◌, length, drop, get_or, refl, ap, sym, subst, ◌∙◌, Option, Some, None, IsTrue, arith, inl, inr}
use Rattle.std.specs.Prelude.{ℤ}
use Rattle.std.specs.List.{AllByRecursion}
use Rattle.std.specs.Str.{is_utf8}
use Rattle.std.proofs.lemmas.Bool.{and_parts}
use Rattle.std.proofs.lemmas.Bool.Decides.{nat_tests}
use Rattle.std.proofs.lemmas.List.{drop_more}
use Rattle.bits.specs.declared.refusal.Refusal.{Refusal}
use Rattle.bits.specs.declared.refusal.Refusal.TheVariants as refusal
use Rattle.bits.specs.Refusals.{HasCause}
use Rattle.schema.specs.declared.value.Repetition.{Repetition}
use Rattle.schema.specs.declared.element.Element.{Element as CodeElement}
use Rattle.schema.specs.declared.field.Field.{Field as CodeField}
use Rattle.schema.specs.Annotations.{group_annotation_of}
use Rattle.schema.specs.declared.annotation.GroupAnnotation.{GroupAnnotation}
use Rattle.schema.specs.Elements.{Element, element_view, elements_view}
use Rattle.schema.specs.Shape.{Field, leaf, fields, Fields, no_fields, field}
use Rattle.schema.specs.Views.{field_view, field_views}
use Rattle.schema.specs.Law.{AllDiffer, names, IsFilled, IsGroupOf, AreValid}
use Rattle.schema.specs.Listing.{Branch, branch, Branches, no_branches, branches, branch_names, count_branches, repetition, AreFields, IsSound, height, height_of}
use Rattle.schema.specs.Reading.{tallest}
use Rattle.schema.specs.inner.Reading.{amount, children, children_by, may_have, forest, well_formed, take_branches, drop_branches, OnFirst, IsRead, AreRead, IsFaultOf, IsFaultAmong, IsGroupMade, AreTwins, join_fields}

pub at_place : (es : List CodeElement) (i : ℕ) (e : CodeElement) → i < length es → e ≡ get_or es i e → elements_view (drop i es) ≡ element_view e ∷ elements_view (drop (i + 1) es)
at_place es i e h is = ap elements_view (drop_more es i e h) ∙ ap (λ t. element_view t ∷ elements_view (drop (i + 1) es)) (sym is)

to_le : (a b : ℕ) → nat_le a b ≡ true → a ≤ b
to_le a b p = grind (arith, nat_tests)

to_one : (n : ℕ) → nat_lt 0 n ≡ true → 1 ≤ n
to_one n p = grind (arith, nat_tests)

-- the element at a place of a well-formed list has its children, and behind it all is well formed
pub well_parts : (e : Element) (es : List Element) → well_formed (e ∷ es) ≡ true → (may_have e.kind e.num_children ≡ true) × (children e ≤ count_branches (forest es)) × (well_formed es ≡ true)
well_parts e es h =
    let outer = and_parts (may_have e.kind e.num_children && nat_le (children e) (count_branches (forest es))) (well_formed es) h in
    let inner = and_parts (may_have e.kind e.num_children) (nat_le (children e) (count_branches (forest es))) outer.0 in
    (inner.0, to_le _ _ inner.1, outer.1)

pub count-drop : (n : ℕ) (bs : Branches) → n ≤ count_branches bs → count_branches (drop_branches n bs) + n ≡ count_branches bs
count-drop zero bs h = omega arith
count-drop (suc n) no_branches h = absurd (omega (arith, h))
count-drop (suc n) (branches b bs) h = let k = count-drop n bs (omega (arith, h)) in omega (arith, k)

pub count-take : (n : ℕ) (bs : Branches) → n ≤ count_branches bs → count_branches (take_branches n bs) ≡ n
count-take zero bs h = refl
count-take (suc n) no_branches h = absurd (omega (arith, h))
count-take (suc n) (branches b bs) h = ap suc (count-take n bs (omega (arith, h)))

pub join-push : (fs : List CodeField) (f : CodeField) (gs : Fields) → join_fields (field_views (fs ++ f ∷ [])) gs ≡ join_fields (field_views fs) (field (field_view f) gs)
join-push [] f gs = refl
join-push (g ∷ fs) f gs = ap (field (field_view g)) (join-push fs f gs)

pub join-none : (fs : Fields) → join_fields fs no_fields ≡ fs
join-none no_fields = refl
join-none (field f fs) = ap (field f) (join-none fs)

-- one field more is read
pub first_read : (deep k m : ℕ) (whole F G : Branches) (done : List CodeField) (f : CodeField) → k ≡ suc m → k ≤ count_branches F
    → ((gs : Fields) → AreRead deep (take_branches k F) gs → AreRead deep whole (join_fields (field_views done) gs))
    → OnFirst F (λ b bs. IsRead deep b (field_view f) × (G ≡ bs))
    → (gs : Fields) → AreRead deep (take_branches m G) gs → AreRead deep whole (join_fields (field_views (done ++ f ∷ [])) gs)
first_read deep k m whole no_branches G done f e h so_far here gs rest = absurd (omega (arith, h, e))
first_read deep k m whole (branches b bs) G done f e h so_far here gs rest =
    subst (AreRead deep whole) (sym (join-push done f gs))
    (so_far (field (field_view f) gs) (subst (λ n. AreRead deep (take_branches n (branches b bs)) (field (field_view f) gs)) (sym e) (here.0, subst (λ t. AreRead deep (take_branches m t) gs) here.1 rest)))

-- what is left behind it
pub first_behind : (P : Branch → Type 0) (k m : ℕ) (F G end : Branches) → k ≡ suc m → k ≤ count_branches F → OnFirst F (λ b bs. P b × (G ≡ bs)) → drop_branches k F ≡ end → (drop_branches m G ≡ end) × (m ≤ count_branches G)
first_behind P k m no_branches G end e h here is = absurd (omega (arith, h, e))
first_behind P k m (branches b bs) G end e h here is =
    (ap (drop_branches m) here.1 ∙ ap (λ n. drop_branches n (branches b bs)) (sym e) ∙ is, subst (λ t. m ≤ count_branches t) (sym here.1) (omega (arith, h, e)))

height_first : (b : Branch) (bs : Branches) (deep : ℕ) → deep < height b → deep < max (height b) (height_of bs)
height_first b bs deep h = omega (arith, h)

height_later : (b : Branch) (bs : Branches) (deep : ℕ) → deep < height_of bs → deep < max (height b) (height_of bs)
height_later b bs deep h = omega (arith, h)

-- a fault of the first is one of all
pub fault_first : (deep : ℕ) (b : Branch) (bs : Branches) (e : Refusal) → IsFaultOf deep b e → IsFaultAmong deep (branches b bs) e
fault_first deep b bs refusal.Schema h = λ s. h s.0
fault_first deep b bs (refusal.Float path) h = inl h
fault_first deep b bs (refusal.Int96 path) h = inl h
fault_first deep b bs refusal.Limit h = height_first b bs deep h
fault_first deep b bs refusal.Memory h = tt
fault_first deep b bs refusal.Truncated h = h
fault_first deep b bs refusal.Magic h = h
fault_first deep b bs refusal.Thrift h = h
fault_first deep b bs refusal.Codec h = h
fault_first deep b bs refusal.Encoding h = h
fault_first deep b bs refusal.Page h = h
fault_first deep b bs refusal.Levels h = h
fault_first deep b bs refusal.Value h = h
fault_first deep b bs refusal.Utf8 h = h
fault_first deep b bs refusal.RowShape h = h
fault_first deep b bs refusal.NoColumn h = h
fault_first deep b bs refusal.Unordered h = h
fault_first deep b bs refusal.Key h = h
fault_first deep b bs refusal.NoGroup h = h
fault_first deep b bs refusal.Stale h = h
fault_first deep b bs refusal.NoJob h = h
fault_first deep b bs refusal.NoCursor h = h
fault_first deep b bs refusal.Full h = h
fault_first deep b bs refusal.NoTable h = h
fault_first deep b bs refusal.Exists h = h
fault_first deep b bs refusal.Device h = h
fault_first deep b bs refusal.InDoubt h = h
fault_first deep b bs refusal.Closed h = h
fault_first deep b bs refusal.Script h = h

-- a fault of those behind the first is one of all
pub fault_later : (deep : ℕ) (b : Branch) (bs : Branches) (e : Refusal) → IsFaultAmong deep bs e → IsFaultAmong deep (branches b bs) e
fault_later deep b bs refusal.Schema h = λ s. h s.1
fault_later deep b bs (refusal.Float path) h = inr h
fault_later deep b bs (refusal.Int96 path) h = inr h
fault_later deep b bs refusal.Limit h = height_later b bs deep h
fault_later deep b bs refusal.Memory h = tt
fault_later deep b bs refusal.Truncated h = h
fault_later deep b bs refusal.Magic h = h
fault_later deep b bs refusal.Thrift h = h
fault_later deep b bs refusal.Codec h = h
fault_later deep b bs refusal.Encoding h = h
fault_later deep b bs refusal.Page h = h
fault_later deep b bs refusal.Levels h = h
fault_later deep b bs refusal.Value h = h
fault_later deep b bs refusal.Utf8 h = h
fault_later deep b bs refusal.RowShape h = h
fault_later deep b bs refusal.NoColumn h = h
fault_later deep b bs refusal.Unordered h = h
fault_later deep b bs refusal.Key h = h
fault_later deep b bs refusal.NoGroup h = h
fault_later deep b bs refusal.Stale h = h
fault_later deep b bs refusal.NoJob h = h
fault_later deep b bs refusal.NoCursor h = h
fault_later deep b bs refusal.Full h = h
fault_later deep b bs refusal.NoTable h = h
fault_later deep b bs refusal.Exists h = h
fault_later deep b bs refusal.Device h = h
fault_later deep b bs refusal.InDoubt h = h
fault_later deep b bs refusal.Closed h = h
fault_later deep b bs refusal.Script h = h

pub first_fault : (deep k m : ℕ) (F : Branches) (e : Refusal) → k ≡ suc m → k ≤ count_branches F → OnFirst F (λ b bs. IsFaultOf deep b e) → IsFaultAmong deep (take_branches k F) e
first_fault deep k m no_branches e is h here = absurd (omega (arith, h, is))
first_fault deep k m (branches b bs) e is h here = subst (λ n. IsFaultAmong deep (take_branches n (branches b bs)) e) (sym is) (fault_first deep b (take_branches m bs) e here)

-- a fault behind the first is one of all
pub later_fault : (P : Branch → Type 0) (deep k m : ℕ) (F G : Branches) (e : Refusal) → k ≡ suc m → k ≤ count_branches F → OnFirst F (λ b bs. P b × (G ≡ bs)) → IsFaultAmong deep (take_branches m G) e → IsFaultAmong deep (take_branches k F) e
later_fault P deep k m no_branches G e is h here bad = absurd (omega (arith, h, is))
later_fault P deep k m (branches b bs) G e is h here bad =
    subst (λ n. IsFaultAmong deep (take_branches n (branches b bs)) e) (sym is) (fault_later deep b (take_branches m bs) e (subst (λ t. IsFaultAmong deep (take_branches m t) e) here.1 bad))

no_children : (k c : Option ℤ) (z : ℤ) → k ≡ Some z → children_by k c ≡ 0
no_children None c z h = cc
no_children (Some y) c z h = refl

-- what is read has the names and the number of its branches
pub names-read : (deep : ℕ) (bs : Branches) (fs : Fields) → AreRead deep bs fs → names fs ≡ branch_names bs
names-read deep no_branches no_fields h = refl
names-read deep no_branches (field f fs) h = absurd h
names-read deep (branches b bs) no_fields h = absurd h
names-read deep (branches (branch e c) bs) (field (leaf n r t) fs) h = ap (λ x. x ∷ names fs) h.0.stands_for.0 ∙ ap (λ x. e.name ∷ x) (names-read deep bs fs h.1)
names-read deep (branches (branch e c) bs) (field (fields n r a gs) fs) h = ap (λ x. x ∷ names fs) h.0.stands_for.0 ∙ ap (λ x. e.name ∷ x) (names-read deep bs fs h.1)

pub fields-read : (deep : ℕ) (bs : Branches) (fs : Fields) → AreRead deep bs fs → AreFields bs fs
fields-read deep no_branches no_fields h = tt
fields-read deep no_branches (field f fs) h = absurd h
fields-read deep (branches b bs) no_fields h = absurd h
fields-read deep (branches b bs) (field f fs) h = (h.0.stands_for, fields-read deep bs fs h.1)

pub valid-read : (deep : ℕ) (bs : Branches) (fs : Fields) → AreRead deep bs fs → AreValid fs
valid-read deep no_branches no_fields h = tt
valid-read deep no_branches (field f fs) h = absurd h
valid-read deep (branches b bs) no_fields h = absurd h
valid-read deep (branches b bs) (field f fs) h = (h.0.valid, valid-read deep bs fs h.1)

pub text-read : (deep : ℕ) (bs : Branches) (fs : Fields) → AreRead deep bs fs → AllByRecursion (λ n. IsTrue (is_utf8 n)) (names fs)
text-read deep no_branches no_fields h = tt
text-read deep no_branches (field f fs) h = absurd h
text-read deep (branches b bs) no_fields h = absurd h
text-read deep (branches b bs) (field f fs) h = (h.0.text, text-read deep bs fs h.1)

pub tallest-read : (deep : ℕ) (bs : Branches) (fs : Fields) → AreRead deep bs fs → tallest fs ≤ deep
tallest-read deep no_branches no_fields h = omega arith
tallest-read deep no_branches (field f fs) h = absurd h
tallest-read deep (branches b bs) no_fields h = absurd h
tallest-read deep (branches b bs) (field f fs) h = let a = h.0.shallow in let k = tallest-read deep bs fs h.1 in omega (arith, a, k)

filled-read : (deep : ℕ) (bs : Branches) (fs : Fields) → AreRead deep bs fs → 1 ≤ count_branches bs → IsFilled fs
filled-read deep no_branches fs h some = absurd (omega (arith, some))
filled-read deep (branches b bs) no_fields h some = absurd h
filled-read deep (branches b bs) (field f fs) h some = tt

pub group_of : (deep : ℕ) (bs : Branches) (fs : Fields) → AreRead deep bs fs → 1 ≤ count_branches bs → AllDiffer (names fs) → IsGroupOf fs
group_of deep bs fs h some d = record { some = filled-read deep bs fs h some; differ = d; text = text-read deep bs fs h }

group_amount : (k c : Option ℤ) → k ≡ None → may_have k c ≡ true → 1 ≤ children_by k c
group_amount (Some t) c e h = cc
group_amount None c e h = to_one (amount c) h

-- a group has a child
pub some_children : (e : Element) (G : Branches) → e.kind ≡ None → may_have e.kind e.num_children ≡ true → children e ≤ count_branches G → 1 ≤ count_branches (take_branches (children e) G)
some_children e G k h le = let a = group_amount e.kind e.num_children k h in let c = count-take (children e) G le in omega (arith, a, c)

pub group_read : (deep d : ℕ) (e : Element) (bs : Branches) (n : List ℕ) (r : Repetition) (a : Option GroupAnnotation) (fs : Fields) → deep ≡ suc d → n ≡ e.name → IsTrue (is_utf8 e.name) → repetition e.repetition_type ≡ Some r → e.kind ≡ None
    → a ≡ group_annotation_of e.converted_type → AreRead d bs fs → 1 ≤ count_branches bs → AllDiffer (names fs) → IsRead deep (branch e bs) (fields n r a fs)
group_read deep d e bs n r a fs is name text rep none an h some differ =
    record {
      stands_for = (name, rep, none, an, fields-read d bs fs h);
      valid = (group_of d bs fs h some differ, valid-read d bs fs h);
      text = subst (λ x. IsTrue (is_utf8 x)) (sym name) text;
      shallow = let k = tallest-read d bs fs h in omega (arith, k, is);
    }

pub twins_fault : (deep d : ℕ) (e : Element) (bs : Branches) (fs : Fields) → AreRead d bs fs → (AllDiffer (names fs) → ⊥) → IsSound (branch e bs) → ⊥
twins_fault deep d e bs fs h bad s = bad (subst AllDiffer (sym (names-read d bs fs h)) s.3)

pub well_from : (es : List CodeElement) (i : ℕ) → well_formed (elements_view es) ≡ true → well_formed (elements_view (drop i es)) ≡ true
well_from es zero h = h
well_from [] (suc i) h = h
well_from (e ∷ es) (suc i) h = well_from es i (well_parts (element_view e) (elements_view es) h).2

-- one element more, in front
pub place_parts : (es : List CodeElement) (i at : ℕ) (e : CodeElement) → at ≡ i + 1 → i < length es → e ≡ get_or es i e → elements_view (drop i es) ≡ element_view e ∷ elements_view (drop at es)
place_parts es i at e k h is = at_place es i e h is ∙ ap (λ n. element_view e ∷ elements_view (drop n es)) (sym k)

pub trees_step : (es : List CodeElement) (i at : ℕ) (e : CodeElement) (trees below : ℕ) → at ≡ i + 1 → i < length es → e ≡ get_or es i e → trees ≡ count_branches (forest (elements_view (drop at es))) → below ≡ children (element_view e) → below ≤ trees
    → trees - below + 1 ≡ count_branches (forest (elements_view (drop i es)))
trees_step es i at e trees below k h is t b le =
    let G : Branches = forest (elements_view (drop at es)) in
    let c = count-drop (children (element_view e)) G (omega (arith, le, t, b)) in
    let all : count_branches (forest (elements_view (drop i es))) ≡ suc (count_branches (drop_branches (children (element_view e)) G)) = ap (λ x. count_branches (forest x)) (place_parts es i at e k h is) in
    omega (arith, c, all, t, b, le)

both_true : (a b c : Bool) → a ≡ true → b ≡ true → c ≡ true → ((a && b) && c) ≡ true
both_true a b c p q r = ap (λ t. (t && b) && c) p ∙ ap (λ t. t && c) q ∙ r

of_le : (a b : ℕ) → a ≤ b → nat_le a b ≡ true
of_le a b p = grind (arith, nat_tests)

pub well_step : (es : List CodeElement) (i at : ℕ) (e : CodeElement) → at ≡ i + 1 → i < length es → e ≡ get_or es i e → may_have e.kind e.num_children ≡ true → children (element_view e) ≤ count_branches (forest (elements_view (drop at es)))
    → well_formed (elements_view (drop at es)) ≡ true → well_formed (elements_view (drop i es)) ≡ true
well_step es i at e k h is may le well =
    ap well_formed (place_parts es i at e k h is) ∙ both_true _ _ _ may (of_le (children (element_view e)) (count_branches (forest (elements_view (drop at es)))) le) well

-- what holds of an element and of what is behind it holds of the trees from there
pub on_place : (P : Branch → Branches → Type 0) (es : List CodeElement) (i : ℕ) (e : CodeElement) → i < length es → e ≡ get_or es i e
    → P (branch (element_view e) (take_branches (children (element_view e)) (forest (elements_view (drop (i + 1) es))))) (drop_branches (children (element_view e)) (forest (elements_view (drop (i + 1) es))))
    → OnFirst (forest (elements_view (drop i es))) P
on_place P es i e h is p = subst (λ t. OnFirst (forest t) P) (sym (at_place es i e h is)) p

-- what a well-formed list has behind an element
pub well_place : (es : List CodeElement) (i : ℕ) (e : CodeElement) → i < length es → e ≡ get_or es i e → well_formed (elements_view (drop i es)) ≡ true
    → (may_have e.kind e.num_children ≡ true) × (children (element_view e) ≤ count_branches (forest (elements_view (drop (i + 1) es)))) × (well_formed (elements_view (drop (i + 1) es)) ≡ true)
well_place es i e h is w = well_parts (element_view e) (elements_view (drop (i + 1) es)) (subst (λ t. well_formed t ≡ true) (at_place es i e h is) w)

pub field_place : (fs : List CodeField) (i : ℕ) (f : CodeField) → i < length fs → f ≡ get_or fs i f → field_views (drop i fs) ≡ field (field_view f) (field_views (drop (i + 1) fs))
field_place fs i f h is = ap field_views (drop_more fs i f h) ∙ ap (λ t. field (field_view t) (field_views (drop (i + 1) fs))) (sym is)

twins_at : (deep d : ℕ) (e : Element) (bs : Branches) (fs : Fields) (r : Refusal) → AreRead d bs fs → HasCause (AreTwins fs) r → IsFaultOf deep (branch e bs) r
twins_at deep d e bs fs refusal.Schema h bad = twins_fault deep d e bs fs h bad
twins_at deep d e bs fs (refusal.Float path) h bad = absurd bad
twins_at deep d e bs fs (refusal.Int96 path) h bad = absurd bad
twins_at deep d e bs fs refusal.Limit h bad = absurd bad
twins_at deep d e bs fs refusal.Memory h bad = tt
twins_at deep d e bs fs refusal.Truncated h bad = absurd bad
twins_at deep d e bs fs refusal.Magic h bad = absurd bad
twins_at deep d e bs fs refusal.Thrift h bad = absurd bad
twins_at deep d e bs fs refusal.Codec h bad = absurd bad
twins_at deep d e bs fs refusal.Encoding h bad = absurd bad
twins_at deep d e bs fs refusal.Page h bad = absurd bad
twins_at deep d e bs fs refusal.Levels h bad = absurd bad
twins_at deep d e bs fs refusal.Value h bad = absurd bad
twins_at deep d e bs fs refusal.Utf8 h bad = absurd bad
twins_at deep d e bs fs refusal.RowShape h bad = absurd bad
twins_at deep d e bs fs refusal.NoColumn h bad = absurd bad
twins_at deep d e bs fs refusal.Unordered h bad = absurd bad
twins_at deep d e bs fs refusal.Key h bad = absurd bad
twins_at deep d e bs fs refusal.NoGroup h bad = absurd bad
twins_at deep d e bs fs refusal.Stale h bad = absurd bad
twins_at deep d e bs fs refusal.NoJob h bad = absurd bad
twins_at deep d e bs fs refusal.NoCursor h bad = absurd bad
twins_at deep d e bs fs refusal.Full h bad = absurd bad
twins_at deep d e bs fs refusal.NoTable h bad = absurd bad
twins_at deep d e bs fs refusal.Exists h bad = absurd bad
twins_at deep d e bs fs refusal.Device h bad = absurd bad
twins_at deep d e bs fs refusal.InDoubt h bad = absurd bad
twins_at deep d e bs fs refusal.Closed h bad = absurd bad
twins_at deep d e bs fs refusal.Script h bad = absurd bad

-- two fields of one name are a fault of the group at a place
pub group_twins : (es : List CodeElement) (i : ℕ) (e : CodeElement) (n d deep : ℕ) (fs : Fields) (r : Refusal) → i < length es → e ≡ get_or es i e → n ≡ children (element_view e)
    → AreRead d (take_branches n (forest (elements_view (drop (i + 1) es)))) fs → HasCause (AreTwins fs) r → OnFirst (forest (elements_view (drop i es))) (λ b bs. IsFaultOf deep b r)
group_twins es i e n d deep fs r h is asked read bad =
    let G : Branches = forest (elements_view (drop (i + 1) es)) in
    on_place (λ b bs. IsFaultOf deep b r) es i e h is
    (twins_at deep d (element_view e) (take_branches (children (element_view e)) G) fs r (subst (λ t. AreRead d (take_branches t G) fs) asked read) bad)

-- the group at a place is read
pub group_done : (es : List CodeElement) (i : ℕ) (e : CodeElement) (n next d deep : ℕ) (name : List ℕ) (r : Repetition) (fs : Fields) (f : Field) → i < length es → e ≡ get_or es i e → well_formed (elements_view (drop i es)) ≡ true
    → deep ≡ suc d → name ≡ e.name.items → IsTrue (is_utf8 e.name.items) → repetition e.repetition_type ≡ Some r → e.kind ≡ None → n ≡ children (element_view e)
    → AreRead d (take_branches n (forest (elements_view (drop (i + 1) es)))) fs → forest (elements_view (drop next es)) ≡ drop_branches n (forest (elements_view (drop (i + 1) es))) → IsGroupMade (element_view e) name r fs f
    → OnFirst (forest (elements_view (drop i es))) (λ b bs. IsRead deep b f × (forest (elements_view (drop next es)) ≡ bs))
group_done es i e n next d deep name r fs f h is well deeper named text rep none asked read behind made =
    let G : Branches = forest (elements_view (drop (i + 1) es)) in
    let x : Element = element_view e in
    let parts = well_place es i e h is well in
    let some = some_children x G none parts.0 parts.1 in
    on_place (λ b bs. IsRead deep b f × (forest (elements_view (drop next es)) ≡ bs)) es i e h is (
      subst (IsRead deep (branch x (take_branches (children x) G))) (sym made.0)
          (group_read deep d x (take_branches (children x) G) name r (group_annotation_of x.converted_type) fs deeper named text rep none refl (subst (λ t. AreRead d (take_branches t G) fs) asked read) some made.1),
      behind ∙ ap (λ t. drop_branches t G) asked,
    )
