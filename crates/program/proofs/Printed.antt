-- Rows whose lines are gathered one by one, and written now and then.
use Rattle.std.proofs.Common.{◌≡◌, ℕ, zero, suc, arith, List, [], ◌∷◌, ◌++◌, Option, refl, sym, ap, subst, ◌∙◌, append_assoc}
use Rattle.std.specs.Result.{IsErrAnd}
use Rattle.std.specs.Prelude.{Bool, Result, Ok, Err, OnOk}
use Rattle.std.specs.Io.KnownBytes.{Appends}
use Rattle.std.proofs.KnownBytes.{Appends-trans, Appends-nil}
use Rattle.std.proofs.lemmas.List.{append-nil}
use Rattle.std.proofs.lemmas.List.Concat.{flat_map-cons}
use Rattle.bits.specs.declared.refusal.Refusal.{Refusal}
use Rattle.bits.specs.declared.refusal.Refusal.TheVariants.{Memory}
use Rattle.schema.specs.Values.{ValueTrees}
use Rattle.schema.specs.Shape.{Fields}
use Rattle.schema.specs.Fits.{RowsFit}
use Rattle.rowtext.specs.Json.{row_text_as}
use Rattle.rowtext.specs.Rows.{AddsFirstLine}
use Rattle.program.specs.Program.{lines_of}
use Rattle.program.specs.inner.Gathered.{AppendsLines, AreGathered, GathersLines, WritesPart}

-- what is gathered of rows
pub none_yet : (texts : Bool) (fs : Fields) (S : List ValueTrees → Type 0) (Gathers : List ℕ → Type 0) (all : List ValueTrees) (old : Option (List ℕ)) → S all → RowsFit fs all → Gathers [] → AreGathered texts fs S Gathers all old old
none_yet texts fs S Gathers all old stands fit gathers = record { left = all; stands = stands; fit = fit; gathered = []; gathers = gathers; printed = []; written = Appends-nil old; joined = refl }

pub line_more : (texts : Bool) (fs : Fields) (S T : List ValueTrees → Type 0) (Gathers Again : List ℕ → Type 0) (all : List ValueTrees) (old new : Option (List ℕ)) (p : AreGathered texts fs S Gathers all old new) → AddsFirstLine texts fs T Again p.gathered p.left
    → AreGathered texts fs T Again all old new
line_more texts fs S T Gathers Again all old new p g =
    let line = row_text_as texts fs g.first ++ 10 ∷ [] in
    let lines : lines_of texts fs p.left ≡ line ++ lines_of texts fs g.rest = ap (lines_of texts fs) g.split ∙ flat_map-cons (λ (r : ValueTrees). row_text_as texts fs r ++ 10 ∷ []) g.first g.rest in
    let both : p.gathered ++ lines_of texts fs p.left ≡ (p.gathered ++ line) ++ lines_of texts fs g.rest = ap (λ (t : List ℕ). p.gathered ++ t) lines ∙ sym (append_assoc p.gathered line (lines_of texts fs g.rest)) in
    let fits : RowsFit fs (g.first ∷ g.rest) = subst (RowsFit fs) g.split p.fit in
    record { left = g.rest; stands = g.stands; fit = fits.1; gathered = p.gathered ++ line; gathers = g.gathers; printed = p.printed; written = p.written; joined = p.joined ∙ ap (λ (t : List ℕ). p.printed ++ t) both }

-- no row was left
pub line_none : (texts : Bool) (fs : Fields) (S T : List ValueTrees → Type 0) (Gathers Again : List ℕ → Type 0) (all : List ValueTrees) (old new : Option (List ℕ)) (p : AreGathered texts fs S Gathers all old new) → (p.left ≡ []) × (T [] × Again p.gathered)
    → (q : AreGathered texts fs T Again all old new) × (q.left ≡ [])
line_none texts fs S T Gathers Again all old new p h =
    let q : AreGathered texts fs T Again all old new = record {
      left = [];
      stands = h.1.0;
      fit = tt;
      gathered = p.gathered;
      gathers = h.1.1;
      printed = p.printed;
      written = p.written;
      joined = p.joined ∙ ap (λ (t : List ValueTrees). p.printed ++ (p.gathered ++ lines_of texts fs t)) h.0;
    } in
    (q, refl)

module _ (texts : Bool) (fs : Fields) (S : List ValueTrees → Type 0) (Gathers : List ℕ → Type 0) (all : List ValueTrees) (old new : Option (List ℕ)) where
  -- by how many rows were taken
  pub lines_ended : (n : ℕ) → (p : AreGathered texts fs S Gathers all old new) × (p.left ≡ []) → GathersLines texts fs S Gathers all old new (Ok n)
  lines_ended zero h = h
  lines_ended (suc n) h = h.0

  pub lines_more : (n : ℕ) → (n ≡ 0 → ⊥) → AreGathered texts fs S Gathers all old new → GathersLines texts fs S Gathers all old new (Ok n)
  lines_more zero some h = absurd (some refl)
  lines_more (suc n) some h = h

  pub lines_fail : (r : Result ℕ Refusal) (e : Refusal) → IsErrAnd r (λ g. g ≡ e) → e ≡ Memory → GathersLines texts fs S Gathers all old new r
  lines_fail (Ok zero) e is p = absurd is
  lines_fail (Ok (suc n)) e is p = absurd is
  lines_fail (Err g) e is p = is ∙ p

  pub none_left : (n : ℕ) → n ≡ 0 → GathersLines texts fs S Gathers all old new (Ok n) → (p : AreGathered texts fs S Gathers all old new) × (p.left ≡ [])
  none_left zero e h = h
  none_left (suc n) e h = absurd (omega (arith, e))

  pub some_gathered : (n : ℕ) → (n ≡ 0 → ⊥) → GathersLines texts fs S Gathers all old new (Ok n) → AreGathered texts fs S Gathers all old new
  some_gathered zero some h = absurd (some refl)
  some_gathered (suc n) some h = h

pub part_written : (texts : Bool) (fs : Fields) (S : List ValueTrees → Type 0) (Gathers Again : List ℕ → Type 0) (all : List ValueTrees) (old mid new : Option (List ℕ)) (p : AreGathered texts fs S Gathers all old mid) → WritesPart mid new Again p.gathered
    → AreGathered texts fs S Again all old new
part_written texts fs S Gathers Again all old mid new p w =
    let lines = lines_of texts fs p.left in
    let moved : p.gathered ++ lines ≡ w.part ++ (w.kept ++ lines) = ap (λ (t : List ℕ). t ++ lines) w.split ∙ append_assoc w.part w.kept lines in
    record {
      left = p.left;
      stands = p.stands;
      fit = p.fit;
      gathered = w.kept;
      gathers = w.gathers;
      printed = p.printed ++ w.part;
      written = Appends-trans old mid new p.printed w.part p.written w.written;
      joined = p.joined ∙ ap (λ (t : List ℕ). p.printed ++ t) moved ∙ sym (append_assoc p.printed w.part (w.kept ++ lines));
    }

-- where no rows are left and what is gathered is written, all are printed
pub all_printed : (texts : Bool) (fs : Fields) (S : List ValueTrees → Type 0) (Gathers : List ℕ → Type 0) (all : List ValueTrees) (old mid new : Option (List ℕ)) (last : List ℕ) (p : AreGathered texts fs S Gathers all old mid) → p.left ≡ [] → last ≡ p.gathered
    → Appends mid new last → AppendsLines texts fs all old new
all_printed texts fs S Gathers all old mid new last p none same written =
    let lines : p.gathered ++ lines_of texts fs p.left ≡ last = ap (λ (t : List ValueTrees). p.gathered ++ lines_of texts fs t) none ∙ append-nil p.gathered ∙ sym same in
    let joined : lines_of texts fs all ≡ p.printed ++ last = p.joined ∙ ap (λ (t : List ℕ). p.printed ++ t) lines in
    subst (Appends old new) (sym joined) (Appends-trans old mid new p.printed last p.written written)

pub when_ok : {X : Type 0} (P : Type 0) (r : Result X Refusal) → P → OnOk r P
when_ok P (Ok x) p = p
when_ok P (Err e) p = tt
