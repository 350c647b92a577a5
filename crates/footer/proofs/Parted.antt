-- What holds of some of the rows, and of all of them.
use Rattle.std.proofs.Common.{◌≡◌, zero, suc, List, [], ◌∷◌, ◌++◌, map, refl, sym, ap, subst, ◌∙◌, arith}
use Rattle.std.specs.Prelude.{IsTrue}
use Rattle.std.specs.List.{Any, AllByRecursion}
use Rattle.std.proofs.lemmas.List.Elements.{filter_map-append}
use Rattle.std.proofs.lemmas.Grind.{flat_map-append}
use Rattle.lists.proofs.Lists.{any_later, any_left as any_first}
use Rattle.schema.specs.Values.{ValueTree, group, ValueTrees}
use Rattle.schema.specs.Shape.{Fields}
use Rattle.schema.specs.Fits.{fits_each, RowsFit}
use Rattle.schema.specs.Stripe.{Step, Leaf, Entry, stripe, column, leaves_of}
use Rattle.plain.specs.Plain.{IsTooLong}
use Rattle.pages.specs.Page.{values}
use Rattle.footer.specs.Writing.{HasLongValue}

-- of all, and so of those in between
all_between : {X : Type 0} (P : X → Type 0) (a b c : List X) → AllByRecursion P (a ++ (b ++ c)) → AllByRecursion P b
all_between P (x ∷ a) b c h = all_between P a b c h.1
all_between P [] [] c h = tt
all_between P [] (x ∷ b) c h = (h.0, all_between P [] b c h.1)

pub fit_within : (fs : Fields) (a b c rows : List ValueTrees) → rows ≡ a ++ (b ++ c) → RowsFit fs rows → RowsFit fs b
fit_within fs a b c rows is h = all_between (λ row. IsTrue (fits_each fs row)) a b c (subst (RowsFit fs) is h)

any_between : {X : Type 0} (P : X → Type 0) (a b c : List X) → Any P b → Any P (a ++ (b ++ c))
any_between P [] b c h = any_first P b c h
any_between P (x ∷ a) b c h = any_later P x (a ++ (b ++ c)) (any_between P a b c h)

-- entries with a value that is too long
abbrev HasLong : List Entry → Type 0
HasLong es = Any IsTooLong (values es)

long_between : (a b c : List Entry) → HasLong b → HasLong (a ++ (b ++ c))
long_between a b c h =
    let joined : values (a ++ (b ++ c)) ≡ values a ++ (values b ++ values c) =
    filter_map-append (λ (e : Entry). e.value) a (b ++ c) ∙ ap (λ (t : List ValueTree). values a ++ t) (filter_map-append (λ (e : Entry). e.value) b c) in
    subst (Any IsTooLong) (sym joined) (any_between IsTooLong (values a) (values b) (values c) h)

long_column : (steps : List Step) (a b c : List ValueTrees) → HasLong (column b steps) → HasLong (column (a ++ (b ++ c)) steps)
long_column steps a b c h =
    let row : ValueTrees → List Entry = λ (row : ValueTrees). stripe steps (group row) 0 0 0 in
    let joined : column (a ++ (b ++ c)) steps ≡ column a steps ++ (column b steps ++ column c steps) =
    flat_map-append row a (b ++ c) ∙ ap (λ (t : List Entry). column a steps ++ t) (flat_map-append row b c) in
    subst HasLong (sym joined) (long_between (column a steps) (column b steps) (column c steps) h)

long_columns : (ls : List Leaf) (a b c : List ValueTrees) → Any HasLong (map (λ (l : Leaf). column b l.steps) ls) → Any HasLong (map (λ (l : Leaf). column (a ++ (b ++ c)) l.steps) ls)
long_columns [] a b c (k, es, within, is, holds) = absurd (omega (arith, within))
long_columns (l ∷ ls) a b c (zero, es, within, is, holds) = (zero, column (a ++ (b ++ c)) l.steps, omega arith, refl, long_column l.steps a b c (subst HasLong (sym is) holds))
long_columns (l ∷ ls) a b c (suc k, es, within, is, holds) =
    any_later HasLong (column (a ++ (b ++ c)) l.steps) (map (λ (l : Leaf). column (a ++ (b ++ c)) l.steps) ls) (long_columns ls a b c (k, es, omega (arith, within), is, holds))

pub long_within : (fs : Fields) (a b c rows : List ValueTrees) → rows ≡ a ++ (b ++ c) → HasLongValue fs b → HasLongValue fs rows
long_within fs a b c rows is h = subst (HasLongValue fs) (sym is) (long_columns (leaves_of fs) a b c h)
