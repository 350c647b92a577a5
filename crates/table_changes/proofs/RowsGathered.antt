-- Rows that are gathered for a table, one after another.
use Rattle.std.proofs.Common.{◌≡◌, ◌∙◌, true, List, [], ◌∷◌, ◌++◌, Ok, refl, sym, ap, subst, append_assoc}
use Rattle.std.specs.Prelude.{IsTrue}
use Rattle.std.proofs.lemmas.Bool.{false≢true}
use Rattle.std.proofs.lemmas.List.{append-nil}
use Rattle.bits.specs.declared.refusal.Refusal.{Refusal}
use Rattle.bits.specs.declared.refusal.Refusal.TheVariants.{Memory, RowShape, InDoubt}
use Rattle.bits.specs.Refusals.{HasCause}
use Rattle.schema.specs.Values.{ValueTrees}
use Rattle.schema.specs.Shape.{Fields}
use Rattle.schema.specs.Fits.{fits_each, RowsFit}
use Rattle.assemble.specs.RowSources.{TakesRowTo}
use Rattle.shred.specs.inner.Opening.{schema_token, rows_token}
use Rattle.gather.specs.declared.gathered.Gathered.{Gathered}
use Rattle.gather.specs.GatheredRows.{holds, schema_of, gathered_shows, BeginsRow, ShowsRow}
use Rattle.table.specs.Calls.{refused}
use Rattle.table.specs.Refusing.{is_failure}
use Rattle.table_commits.specs.Gathering.{GathersNext, AreOnTheWay}

-- the refusal of a row that does not fit does not tell of a failed disk
pub shape_calm : (e : Refusal) → HasCause (λ f. f ≡ RowShape) e → is_failure (refused e) ≡ true → ⊥
shape_calm Memory which h = false≢true h
shape_calm RowShape which h = false≢true h
shape_calm e which h = absurd (let is : e ≡ RowShape = which in cc)

-- nor is it in doubt
pub shape_sure : (e : Refusal) → HasCause (λ f. f ≡ RowShape) e → e ≡ InDoubt → ⊥
shape_sure e which is = let shape : InDoubt ≡ RowShape = subst (λ (x : Refusal). HasCause (λ f. f ≡ RowShape) x) is which in cc

-- a row that was shown and ended
pub next_gathered : (S T : List ValueTrees → Type 0) (old begun shown new : Gathered) → ((rows : List ValueTrees) → holds old rows → BeginsRow begun (schema_of old) rows) → TakesRowTo S T (gathered_shows begun) (gathered_shows shown) (Ok true)
    → ((fs : Fields) (rows : List ValueTrees) (values : ValueTrees) → ShowsRow shown fs rows values → fits_each fs values ≡ true → holds new (rows ++ values ∷ [])) → GathersNext S T old new (Ok true)
next_gathered S T old begun shown new begins takes ends = λ left stood.
    let t = takes left stood in
    record {
      first = t.first;
      rest = t.rest;
      split = t.split;
      stands = t.stands;
      held = λ taken held fits. ends (schema_of old) taken t.first (t.shown (schema_token (schema_of old) ∷ rows_token taken ∷ []) (begins taken held)) fits;
    }

-- none is on the way yet
pub none_yet : (S : List ValueTrees → Type 0) (g : Gathered) (before rows : List ValueTrees) → S rows → holds g before → AreOnTheWay S g before rows
none_yet S g before rows stood held = record { taken = []; left = rows; split = refl; stands = stood; held = subst (holds g) (sym (append-nil before)) held }

first_fits : (fs : Fields) (taken rest : List ValueTrees) (first : ValueTrees) → RowsFit fs (taken ++ first ∷ rest) → IsTrue (fits_each fs first)
first_fits fs [] rest first fit = fit.0
first_fits fs (row ∷ taken) rest first fit = first_fits fs taken rest first fit.1

-- one more is on the way
pub one_more : (S T : List ValueTrees → Type 0) (old new : Gathered) (before rows : List ValueTrees) → RowsFit (schema_of old) rows → GathersNext S T old new (Ok true) → AreOnTheWay S old before rows
    → AreOnTheWay T new before rows
one_more S T old new before rows fit next way =
    let n = next way.left way.stands in
    let split : rows ≡ way.taken ++ n.first ∷ n.rest = way.split ∙ ap (λ (rs : List ValueTrees). way.taken ++ rs) n.split in
    let fits = first_fits (schema_of old) way.taken n.rest n.first (subst (RowsFit (schema_of old)) split fit) in
    record {
      taken = way.taken ++ n.first ∷ [];
      left = n.rest;
      split = split ∙ sym (append_assoc way.taken (n.first ∷ []) n.rest);
      stands = n.stands;
      held = subst (holds new) (append_assoc before way.taken (n.first ∷ [])) (n.held (before ++ way.taken) way.held fits);
    }

-- all are gathered
pub all_there : (S : List ValueTrees → Type 0) (g : Gathered) (before rows : List ValueTrees) (way : AreOnTheWay S g before rows) → way.left ≡ [] → holds g (before ++ rows)
all_there S g before rows way none =
    let all : rows ≡ way.taken = way.split ∙ ap (λ (rs : List ValueTrees). way.taken ++ rs) none ∙ append-nil way.taken in
    subst (λ (rs : List ValueTrees). holds g (before ++ rs)) (sym all) way.held
