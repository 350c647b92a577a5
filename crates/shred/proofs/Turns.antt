-- One turn of each loop: what one field, one item or one row more gives.
use Rattle.std.proofs.Common.{ℕ, zero, suc, ◌≡◌, ◌+◌, ◌-◌, ◌<◌, ◌≤◌, true, Bool, ◌&&◌, List, [], ◌∷◌, ◌++◌, map, length, get_or, take, drop, refl, ap, sym, subst, ◌∙◌, arith, add-one}
use Rattle.std.proofs.lemmas.List.{drop_more}
use borrow.Rule.Slice.PartMut.{put_mid, mid_of}
use Rattle.schema.specs.declared.value.Value.{Value}
use Rattle.schema.specs.declared.value.Repetition.TheVariants.{Repeated}
use Rattle.schema.specs.declared.field.Field.{Field as CodeField}
use Rattle.schema.specs.Values.{ValueTree, ValueTrees, group, list, value as item, view, views, member_at, each}
use Rattle.schema.specs.Shape.{Field, leaf, fields, Fields, field, repetition_of}
use Rattle.schema.specs.Views.{field_view, field_views}
use Rattle.schema.specs.Fits.{fits, fits_each, fits_inside}
use Rattle.schema.specs.Stripe.{Entry, Leaf, below, leaves, leaves_from, leaves_of, stripe, later_items, column, columns}
use Rattle.schema.specs.Reading.{count_leaves}
use Rattle.schema.proofs.Forest.{field_place}
use Rattle.shred.specs.declared.column.ColumnRef.{ColumnRef}
use Rattle.shred.specs.Columns.{column_ref_view, column_refs_view}
use Rattle.shred.specs.inner.Growing.{Columns, grown, nils, levels_at, stripes_inside, stripes_items, stripes_later, stripes_each}
use Rattle.shred.proofs.Growing.{one_more, grown_twice}
use Rattle.schema.proofs.Slices.{map_tail, map_put}

-- the entries of one field more are at the ends of its columns
pub field_given : (g h : Leaf → List Entry) (fs : List CodeField) (i : ℕ) (f : CodeField) (u n : ℕ) (xs ys : List ColumnRef) (all : Columns)
    → i < length fs → f ≡ get_or fs i f → u ≤ length xs
    → grown (column_refs_view xs) (nils u ++ map g (leaves_from i (field_views (drop i fs)))) ≡ all
    → map h (leaves (field_view f)) ≡ map (λ (l : Leaf). g (below i (field_view f) l)) (leaves (field_view f))
    → column_refs_view ys ≡ grown (column_refs_view (mid_of u (length xs - u) xs)) (map h (leaves (field_view f)))
    → n ≡ count_leaves (field_view f)
    → grown (column_refs_view (put_mid u (length xs - u) xs ys)) (nils (u + n) ++ map g (leaves_from (i + 1) (field_views (drop (i + 1) fs)))) ≡ all
field_given g h fs i f u n xs ys all lt is room so same given count =
    let cs = column_refs_view xs in
    let F = field_view f in
    let rest = field_views (drop (i + 1) fs) in
    let here : column_refs_view (put_mid u (length xs - u) xs ys) ≡ take u cs ++ grown (drop u cs) (map h (leaves F)) =
    map_put column_ref_view u xs ys room ∙ ap (λ t. take u cs ++ t) (given ∙ ap (λ t. grown t (map h (leaves F))) (map_tail column_ref_view u xs room)) in
    let before : grown cs (nils u ++ map g (leaves_from i (field F rest))) ≡ all = subst (λ gs. grown cs (nils u ++ map g (leaves_from i gs)) ≡ all) (field_place fs i f lt is) so in
    ap (λ t. grown t (nils (u + n) ++ map g (leaves_from (i + 1) rest))) here
    ∙ ap (λ m. grown (take u cs ++ grown (drop u cs) (map h (leaves F))) (nils (u + m) ++ map g (leaves_from (i + 1) rest))) count
    ∙ ap (λ j. grown (take u cs ++ grown (drop u cs) (map h (leaves F))) (nils (u + count_leaves F) ++ map g (leaves_from j rest))) (add-one i)
    ∙ one_more g h F rest i u cs all before same

pub value_place : (vs : List Value) (i : ℕ) (v : Value) → i < length vs → v ≡ get_or vs i v → views (drop i vs) ≡ item (view v) (views (drop (i + 1) vs))
value_place vs i v h is = ap views (drop_more vs i v h) ∙ ap (λ t. item (view t) (views (drop (i + 1) vs))) (sym is)

-- the member at the place of a value
pub member_is : (vs : List Value) (i : ℕ) (v : Value) → i < length vs → v ≡ get_or vs i v → view v ≡ member_at i (views vs)
member_is vs i v lt is = ap view is ∙ at vs i v lt
  where
    at : (vs : List Value) (i : ℕ) (d : Value) → i < length vs → view (get_or vs i d) ≡ member_at i (views vs)
    at [] i d h = absurd (omega (arith, h))
    at (v ∷ vs) zero d h = refl
    at (v ∷ vs) (suc i) d h = at vs i d (omega (arith, h))

-- where one value fits its field, whether all fit is whether the others do
pub fit_given : (fs : List CodeField) (vs : List Value) (i : ℕ) (f : CodeField) (v : Value) → i < length fs → i < length vs → f ≡ get_or fs i f → v ≡ get_or vs i v → fits (field_view f) (view v) ≡ true
    → fits_each (field_views (drop (i + 1) fs)) (views (drop (i + 1) vs)) ≡ fits_each (field_views (drop i fs)) (views (drop i vs))
fit_given fs vs i f v there thus is be fit =
    let rest = fits_each (field_views (drop (i + 1) fs)) (views (drop (i + 1) vs)) in
    ap (λ (b : Bool). b && rest) (sym fit)
    ∙ ap (λ ws. fits_each (field (field_view f) (field_views (drop (i + 1) fs))) ws) (sym (value_place vs i v thus be))
    ∙ ap (λ gs. fits_each gs (views (drop i vs))) (sym (field_place fs i f there is))

-- the entries of one item more are at the ends of the columns
pub item_given : (f : Field) (vs : List Value) (i : ℕ) (v : Value) (d k : ℕ) (cs new all : Columns) → i < length vs → v ≡ get_or vs i v
    → grown cs (stripes_later f (views (drop i vs)) d k) ≡ all → new ≡ grown cs (stripes_inside f (view v) (levels_at k d k)) → grown new (stripes_later f (views (drop (i + 1) vs)) d k) ≡ all
item_given f vs i v d k cs new all lt is so given =
    let rest = views (drop (i + 1) vs) in
    ap (λ t. grown t (stripes_later f rest d k)) given
    ∙ grown_twice (λ (l : Leaf). stripe l.steps (view v) k d k) (λ (l : Leaf). later_items (stripe l.steps) rest d k) (leaves f) cs
    ∙ ap (λ ws. grown cs (stripes_later f ws d k)) (sym (value_place vs i v lt is))
    ∙ so

-- the entries of all items are at the ends of the columns
pub items_given : (f : Field) (vs ws : List Value) (v : Value) (r d k : ℕ) (old first new : Columns) → vs ≡ v ∷ ws
    → first ≡ grown old (stripes_inside f (view v) (levels_at r (d + 1) (k + 1))) → new ≡ grown first (stripes_later f (views ws) (d + 1) (k + 1)) → new ≡ grown old (stripes_items f (views vs) (levels_at r d k))
items_given f vs ws v r d k old first new is one more =
    let both : ℕ → ℕ → Columns = λ m n. grown old (map (λ (l : Leaf). stripe l.steps (view v) r m n ++ later_items (stripe l.steps) (views ws) m n) (leaves f)) in
    more
    ∙ ap (λ t. grown t (stripes_later f (views ws) (d + 1) (k + 1))) one
    ∙ grown_twice (λ (l : Leaf). stripe l.steps (view v) r (d + 1) (k + 1)) (λ (l : Leaf). later_items (stripe l.steps) (views ws) (d + 1) (k + 1)) (leaves f) old
    ∙ ap (λ m. both m (k + 1)) (add-one d)
    ∙ ap (both (suc d)) (add-one k)
    ∙ ap (λ us. grown old (stripes_items f (views us) (levels_at r d k))) (sym is)

-- where one item fits, whether all fit is whether the others do
pub item_fits : (p : ValueTree → Bool) (vs : List Value) (i : ℕ) (v : Value) → i < length vs → v ≡ get_or vs i v → p (view v) ≡ true → each p (views (drop (i + 1) vs)) ≡ each p (views (drop i vs))
item_fits p vs i v lt is fit = ap (λ (b : Bool). b && each p (views (drop (i + 1) vs))) (sym fit) ∙ ap (each p) (sym (value_place vs i v lt is))

-- a list fits a REPEATED field where its items do
pub list_fits : (f : Field) → repetition_of f ≡ Repeated → (vs : ValueTrees) → each (fits_inside f) vs ≡ fits f (list vs)
list_fits (leaf n r t) e vs = rw e
list_fits (fields n r a fs) e vs = rw e

-- the columns of one row more
pub row_given : (fs : Fields) (row : ValueTrees) (rest : List ValueTrees) (cs new all : Columns)
    → grown cs (columns fs (row ∷ rest)) ≡ all → new ≡ grown cs (stripes_each 0 fs row (levels_at 0 0 0)) → grown new (columns fs rest) ≡ all
row_given fs row rest cs new all so given =
    ap (λ t. grown t (columns fs rest)) given
    ∙ grown_twice (λ (l : Leaf). stripe l.steps (group row) 0 0 0) (λ (l : Leaf). column rest l.steps) (leaves_of fs) cs
    ∙ so
