-- The pieces of a run of columns, one after another.
use Rattle.std.proofs.Common.{◌≡◌, ◌<◌, ℕ, suc, true, false, Vec, Global, List, [], ◌∷◌, map, length, Option, Some, None, Ok, Err, inl, inr, refl, ap, sym, subst, ◌∙◌, arith}
use Rattle.std.specs.Prelude.{Result, OnOk, IfErr, option_map}
use Rattle.std.proofs.lemmas.List.{length-map}
use Rattle.bits.specs.Faults.{refusal_of}
use Rattle.bits.specs.Refusals.{IsFault, HasCause}
use Rattle.bits.specs.declared.fault.Fault.{Fault}
use Rattle.bits.specs.declared.fault.Fault.TheVariants as fault
use Rattle.bits.specs.declared.refusal.Refusal.{Refusal}
use Rattle.bits.specs.declared.refusal.Refusal.TheVariants as refusal
use Rattle.schema.specs.Law.{IsSchema, ColumnsDetermineRows}
use Rattle.schema.specs.Shape.{Fields}
use Rattle.schema.specs.Stripe.{Leaf, Entry, leaves_of, columns}
use Rattle.metadata.specs.Records.{ChunkMeta}
use Rattle.metadata.specs.Views.{chunk_meta_view}
use Rattle.schema.specs.Values.{ValueTrees}
use Rattle.assemble.specs.Columns.{Columns, IsAmong}
use Rattle.assemble.specs.Flat.{is_flat, OfFlatRows, ShowsFirst}
use Rattle.assemble.specs.RowsOf.{StandForRows, IsNextRow, HasFault}
use Rattle.assemble.specs.Sinks.{Token, Adds, Visits, tokens_each}
use Rattle.assemble.specs.Standing.{AllStand, IsRefusedFor}
use Rattle.row_group.specs.declared.chunk_reader.ChunkReader.{ChunkReader}
use Rattle.row_group.specs.Causes.{reader_cause}
use Rattle.row_group.specs.Left.{chunk_stands, reader_view}
use Rattle.row_group.specs.inner.Readers.{refusal_kept}
use Rattle.row_group.proofs.GroupRows.{row_taken, tells_which}
use Rattle.row_group.proofs.OneRest.{PagesAreOne, ChunksAreOne, one_reader}
use Rattle.scan.specs.declared.run_reader.RunReader.{RunReader}
use Rattle.scan.specs.Faults.{IsOfParts}
use Rattle.scan.specs.declared.held.Held.{Held}
use Rattle.scan.specs.declared.leaf_uses.LeafUse.{LeafUse}
use Rattle.scan.specs.declared.parts.Run.{Run}
use Rattle.scan.specs.Left.{RunStands, RunHolds}
use Rattle.scan.specs.inner.Texts.{AreHeld, texts_view}
use Rattle.scan.specs.inner.Parts.{ShowsNext, IsMemoryWhere, AreSized}
use Rattle.scan.proofs.Marking.{fault_which}

-- what stays, and what the readers are now
pub record IsNext (old new : RunReader) (later : List ChunkReader) : Type 0 where
  pub schema : new.schema.now ≡ old.schema.now
  pub readers : new.readers.items ≡ later
  pub flat : new.is_flat ≡ old.is_flat

head_is : (x y : ValueTrees) (xs ys : List ValueTrees) → x ∷ xs ≡ y ∷ ys → x ≡ y
head_is x y xs ys e = cc

tail_is : (x y : ValueTrees) (xs ys : List ValueTrees) → x ∷ xs ≡ y ∷ ys → xs ≡ ys
tail_is x y xs ys e = cc

module _ (from to : List Token → Type 0) (old new : RunReader) (mid later : List ChunkReader) (same : mid ≡ old.readers.items) (is : IsNext old new later) where
  stands_at : (pieces : List ValueTrees) → RunStands old pieces → StandForRows chunk_stands mid old.schema.now pieces
  stands_at pieces s = subst (λ (rs : List ChunkReader). StandForRows chunk_stands rs old.schema.now pieces) (sym same) s.columns

  others : (pieces rest : List ValueTrees) → RunStands old pieces → StandForRows chunk_stands later old.schema.now rest → RunStands new rest
  others pieces rest s columns = record {
    schema = subst IsSchema (sym is.schema) s.schema;
    flat = is.flat ∙ s.flat ∙ ap is_flat (sym is.schema);
    columns = subst (λ (fs : Fields). StandForRows chunk_stands new.readers.items fs rest) (sym is.schema) (subst (λ (rs : List ChunkReader). StandForRows chunk_stands rs old.schema.now rest) (sym is.readers) columns);
  }

  taken : (x row : ValueTrees) (rest others_left : List ValueTrees) → RunStands old (x ∷ rest) → x ∷ rest ≡ row ∷ others_left → StandForRows chunk_stands later old.schema.now others_left → Adds from to (tokens_each row)
      → RunStands new rest × Adds from to (tokens_each x)
  taken x row rest others_left s split stand shown = (
    subst (RunStands new) (sym (tail_is x row rest others_left split)) (others (x ∷ rest) others_left s stand),
    subst (λ (v : ValueTrees). Adds from to (tokens_each v)) (sym (head_is x row rest others_left split)) shown,
  )

  -- of a flat schema
  pub flat_next : old.is_flat ≡ true → OfFlatRows chunk_stands mid (λ fs. ShowsFirst (StandForRows chunk_stands later fs) from to) → ShowsNext (RunStands old) (RunStands new) (λ piece. piece) from to
  flat_next flat row x rest s =
      let t = row old.schema.now (x ∷ rest) (sym s.flat ∙ flat) (stands_at (x ∷ rest) s) (omega arith) in
      taken x t.first rest t.rest s t.split t.stands t.shown

  -- of any schema
  pub nested_next : Visits from to tokens_each (IsNextRow chunk_stands old.schema.now mid later) → ShowsNext (RunStands old) (RunStands new) (λ piece. piece) from to
  nested_next row x rest s =
      let t = row_taken old.schema.now s.schema mid later row.0 (x ∷ rest) (omega arith) row.1.0 (stands_at (x ∷ rest) s) in
      taken x row.0 rest t.0 s t.1 t.2 row.1.1

pub flat_only : (old : RunReader) (mid : List ChunkReader) → mid ≡ old.readers.items → old.is_flat ≡ true → (f : Fault) → OfFlatRows chunk_stands mid (λ _ _. f ≡ fault.Memory) → IsMemoryWhere (RunStands old) f
flat_only old mid same flat f known x rest s = known old.schema.now (x ∷ rest) (sym s.flat ∙ flat) (subst (λ (rs : List ChunkReader). StandForRows chunk_stands rs old.schema.now (x ∷ rest)) (sym same) s.columns) (omega arith)

pub nested_only : (old : RunReader) (mid : List ChunkReader) → mid ≡ old.readers.items → (f : Fault) → ((rows : List ValueTrees) → StandForRows chunk_stands mid old.schema.now rows → 0 < length rows → f ≡ fault.Memory)
    → IsMemoryWhere (RunStands old) f
nested_only old mid same f known x rest s = known (x ∷ rest) (subst (λ (rs : List ChunkReader). StandForRows chunk_stands rs old.schema.now (x ∷ rest)) (sym same) s.columns) (omega arith)

pub ok_map : {T E : Type 0} {P Q : Type 0} (r : Result T E) → (P → Q) → OnOk r P → OnOk r Q
ok_map (Ok x) f h = f h
ok_map (Err e) f h = tt

pub err_map : {T E : Type 0} {P Q : E → Type 0} (r : Result T E) → ((e : E) → P e → Q e) → IfErr r P → IfErr r Q
err_map (Ok x) f h = tt
err_map (Err e) f h = f e h

-- ---- how many pieces there are

all_one : PagesAreOne → ChunksAreOne → (rs : List ChunkReader) (cs ds : Columns) → AllStand chunk_stands rs cs → AllStand chunk_stands rs ds → cs ≡ ds
all_one page chunk [] [] [] h k = refl
all_one page chunk [] [] (d ∷ ds) h k = absurd k
all_one page chunk [] (c ∷ cs) ds h k = absurd h
all_one page chunk (r ∷ rs) [] ds h k = absurd h
all_one page chunk (r ∷ rs) (c ∷ cs) [] h k = absurd k
all_one page chunk (r ∷ rs) (c ∷ cs) (d ∷ ds) h k =
    ap (λ (es : List Entry). es ∷ cs) (one_reader page chunk (reader_view r) c d h.0 k.0) ∙ ap (λ (xs : Columns). d ∷ xs) (all_one page chunk rs cs ds h.1 k.1)

pub same_many : PagesAreOne → ChunksAreOne → ColumnsDetermineRows → (fs : Fields) → IsSchema fs → (rs : List ChunkReader) (one other : List ValueTrees) → StandForRows chunk_stands rs fs one → StandForRows chunk_stands rs fs other → length one ≡ length other
same_many page chunk determine fs schema rs one other s t = ap length (determine fs one other schema s.fit t.fit (all_one page chunk rs (columns fs one) (columns fs other) s.stand t.stand))

-- ---- what counting is refused for

pub refused_memory : (fs : Fields) (old new : List ChunkReader) (e : Refusal) → IsRefusedFor chunk_stands refusal_kept reader_cause old new (HasFault fs) e → (IsFault e → (rows : List ValueTrees) → StandForRows chunk_stands old fs rows → ⊥)
    → (rows : List ValueTrees) → StandForRows chunk_stands old fs rows → HasCause (λ _. ⊥) e
refused_memory fs old new refusal.Memory h only rows s = tt
refused_memory fs old new refusal.Limit (inl h) only rows s = absurd (h.1 (columns fs rows) s.stand)
refused_memory fs old new refusal.Limit (inr h) only rows s = absurd h.1.0
refused_memory fs old new _ h only rows s = absurd (only tt rows s)

kept_which : (o : Option Fault) (e : Refusal) → option_map refusal_of o ≡ Some e → HasCause IsOfParts e
kept_which None e h = absurd (cc)
kept_which (Some f) e h = let is : refusal_of f ≡ e = cc in subst (HasCause IsOfParts) is (fault_which f)

among_which : (rs : List ChunkReader) (e : Refusal) → IsAmong e (map refusal_kept rs) → HasCause IsOfParts e
among_which [] e h = absurd h
among_which (r ∷ rs) e (inl h) = kept_which r.fault e h
among_which (r ∷ rs) e (inr h) = among_which rs e h

pub refused_which : (fs : Fields) (old new : List ChunkReader) (e : Refusal) → IsRefusedFor chunk_stands refusal_kept reader_cause old new (HasFault fs) e → HasCause IsOfParts e
refused_which fs old new e (inl h) = among_which new e h.0
refused_which fs old new e (inr h) = tells_which e h.1.0

-- ---- what is held of a run

pub held_as : (ls : List Leaf) (cols : Columns) {cs ds : List ChunkMeta} {us vs : List LeafUse} {ts xs ss ys : List (List ℕ)} → cs ≡ ds → us ≡ vs → ts ≡ xs → ss ≡ ys → AreHeld false cs ls us ts ss cols → AreHeld false ds ls vs xs ys cols
held_as ls cols {cs} {ds} {us} {vs} {ts} {xs} {ss} {ys} chunks uses first later h =
    subst (λ (x : List (List ℕ)). AreHeld false ds ls vs xs x cols) later
    (subst (λ (x : List (List ℕ)). AreHeld false ds ls vs x ss cols) first
    (subst (λ (x : List LeafUse). AreHeld false ds ls x ts ss cols) uses
    (subst (λ (x : List ChunkMeta). AreHeld false x ls us ts ss cols) chunks h)))

held_sizes : (cs : List ChunkMeta) (ls : List Leaf) (us : List LeafUse) (ts ss : List (List ℕ)) (cols : Columns) → AreHeld false cs ls us ts ss cols → (length us ≡ length ls) × (length ts ≡ length ls) × (length ss ≡ length ls)
held_sizes cs [] [] [] [] [] h = (refl, refl, refl)
held_sizes cs [] [] [] [] (es ∷ cols) h = absurd h
held_sizes cs [] [] [] (s ∷ ss) cols h = absurd h
held_sizes cs [] [] (t ∷ ts) ss cols h = absurd h
held_sizes cs [] (u ∷ us) ts ss cols h = absurd h
held_sizes cs (l ∷ ls) [] ts ss cols h = absurd h
held_sizes cs (l ∷ ls) (u ∷ us) [] ss cols h = absurd h
held_sizes cs (l ∷ ls) (u ∷ us) (t ∷ ts) [] cols h = absurd h
held_sizes cs (l ∷ ls) (u ∷ us) (t ∷ ts) (s ∷ ss) [] h = absurd h
held_sizes cs (l ∷ ls) (u ∷ us) (t ∷ ts) (s ∷ ss) (es ∷ cols) h = let rest = held_sizes cs ls us ts ss cols h.1 in (ap suc rest.0, ap suc rest.1, ap suc rest.2)

pub sized_by : (h : Held) (run : Run) (pieces : List ValueTrees) → RunHolds h run pieces → AreSized h run
sized_by h run pieces holds =
    let sizes = held_sizes (map chunk_meta_view h.chunks.items) (leaves_of h.schema) run.uses.items (texts_view h.first.items) (texts_view h.later.items) holds.cols holds.held in (
      sizes.0,
      sym (length-map h.first.items (λ (t : Vec ℕ Global). t.items)) ∙ sizes.1,
      sym (length-map h.later.items (λ (t : Vec ℕ Global). t.items)) ∙ sizes.2,
    )
