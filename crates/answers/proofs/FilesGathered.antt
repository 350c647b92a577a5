-- Files whose rows are gathered one after another, up to the first that is refused.
use Rattle.std.proofs.Common.{◌≡◌, ◌<◌, ℕ, zero, suc, true, false, List, [], ◌∷◌, ◌++◌, length, take, drop, get_or, Option, None, Some, Vec, Global, refl, sym, ap, subst, arith}
use Rattle.std.specs.Prelude.{MatchOption, is_some}
use Rattle.std.specs.Borrow.{Bor}
use Rattle.std.proofs.lemmas.List.{flat_map_more}
use Rattle.bits.specs.declared.refusal.Refusal.{Refusal}
use Rattle.bits.specs.declared.refusal.Refusal.TheVariants.{Memory}
use Rattle.bits.specs.Refusals.{HasCause}
use Rattle.schema.specs.Shape.{Fields}
use Rattle.schema.specs.Keys.{KeyColumn, key_of_row}
use Rattle.schema.specs.Values.{ValueTrees}
use Rattle.schema.specs.Views.{key_view}
use Rattle.partition.specs.Folders.{CanPartition}
use Rattle.partition.specs.Splitting.{HaveKeys}
use Rattle.footer.specs.File.{FileMeans}
use Rattle.gather.specs.declared.gathered.Gathered.{Gathered}
use Rattle.gather.specs.declared.key_buffer.KeyFault.{KeyFault}
use Rattle.gather.specs.GatheredRows.{holds, schema_of, columns_of}
use Rattle.gather.specs.KeyBuffers.{IsFirstFault}
use Rattle.answers.specs.Importing.{files_view, MeanRows, joined, IsRefusedFile, StopsAtFile}
use Rattle.answers.specs.inner.GatheredFiles.{HoldsFiles, IsGathered}

-- no other cause
pub is_memory : (e : Refusal) → HasCause (λ _. ⊥) e → e ≡ Memory
is_memory Memory h = refl
is_memory e h = absurd h

-- ---- faults of keys

module _ (g : Gathered) (rows : List ValueTrees) where
  -- a row among others whose keys are fine
  among : (keys : List KeyColumn) (before after : List ValueTrees) (row : ValueTrees) → HaveKeys keys (before ++ row ∷ after) → CanPartition keys (key_of_row keys row)
  among keys [] after row h = h.0
  among keys (first ∷ before) after row h = among keys before after row h.1

  -- rows that are gathered without a fault have fine keys
  pub no_fault : (o : Option (Bor KeyFault)) → MatchOption o (HaveKeys (columns_of g) rows) (λ f. IsFirstFault (columns_of g) rows f.now.row (key_view f.now.key)) → is_some o ≡ false
      → HaveKeys (columns_of g) rows
  no_fault None h none = h
  no_fault (Some f) h none = absurd (cc)

  -- and those with one have not
  pub a_fault : (o : Option (Bor KeyFault)) → MatchOption o (HaveKeys (columns_of g) rows) (λ f. IsFirstFault (columns_of g) rows f.now.row (key_view f.now.key)) → is_some o ≡ true
      → HaveKeys (columns_of g) rows → ⊥
  a_fault None h some fine = absurd (cc)
  a_fault (Some f) h some fine = h.cannot (among (columns_of g) h.before h.after h.row (subst (HaveKeys (columns_of g)) h.are fine))

-- ---- files

mean_more : (fs : Fields) (files : List (List ℕ)) (told : List (List ValueTrees)) (file : List ℕ) (rows : List ValueTrees) → MeanRows fs files told → FileMeans file fs rows
    → MeanRows fs (files ++ file ∷ []) (told ++ rows ∷ [])
mean_more fs [] [] file rows so_far one = (one, tt)
mean_more fs [] (r ∷ rs) file rows so_far one = absurd so_far
mean_more fs (f ∷ files) [] file rows so_far one = absurd so_far
mean_more fs (f ∷ files) (r ∷ rs) file rows so_far one = (so_far.0, mean_more fs files rs file rows so_far.1 one)

-- the file at a place, with those before it and those after it
pub split_files : (files : List (Vec ℕ Global)) (n : ℕ) (file : Vec ℕ Global) → n < length files → file ≡ get_or files n file
    → files_view files ≡ files_view (take n files) ++ file.items ∷ files_view (drop (suc n) files)
split_files [] n file lt is = absurd (omega (arith, lt))
split_files (f ∷ files) zero file lt is = ap (λ (x : Vec ℕ Global). x.items ∷ files_view files) (sym is)
split_files (f ∷ files) (suc n) file lt is = ap (λ (bytes : List (List ℕ)). f.items ∷ bytes) (split_files files n file (omega (arith, lt)) is)

joined_more : (each : List (List ValueTrees)) (rows : List ValueTrees) → joined each ++ rows ≡ joined (each ++ rows ∷ [])
joined_more each rows = flat_map_more (λ (rs : List ValueTrees). rs) [] each rows

-- the rows of a file more are gathered
pub holds_more : (fs : Fields) (keys : List KeyColumn) (files : List (List ℕ)) (file : List ℕ) (old new : Gathered) (has : HoldsFiles fs keys files old)
    → IsGathered fs keys (joined has.rows) file new → HoldsFiles fs keys (files ++ file ∷ []) new
holds_more fs keys files file old new has one = record {
  rows = has.rows ++ one.0 ∷ [];
  mean = mean_more fs files has.rows file one.0 has.mean one.1;
  held = subst (holds new) (joined_more has.rows one.0) one.2;
  keyed = subst (HaveKeys keys) (joined_more has.rows one.0) one.3;
}

-- the next file is the first that is refused
pub stops_here : (fs : Fields) (keys : List KeyColumn) (before : List (List ℕ)) (file : List ℕ) (behind : List (List ℕ)) (e : Refusal) (g : Gathered) → HoldsFiles fs keys before g
    → IsRefusedFile fs keys file e → StopsAtFile fs keys (before ++ file ∷ behind) e
stops_here fs keys before file behind e g has why = record {
  before = before;
  file = file;
  behind = behind;
  split = refl;
  rows = has.rows;
  mean = has.mean;
  keyed = has.keyed;
  refuses = why;
}

-- a file that is gathered, or refused, for a table is so for an equal one
module _ (fs gs : Fields) (keys others : List KeyColumn) (schema : gs ≡ fs) (columns : others ≡ keys) where
  pub gathered_for : (before : List ValueTrees) (file bytes : List ℕ) (g : Gathered) → file ≡ bytes → IsGathered gs others before file g → IsGathered fs keys before bytes g
  gathered_for before file bytes g same one =
      subst (λ (t : List ℕ). IsGathered fs keys before t g) same
      (subst (λ (ks : List KeyColumn). IsGathered fs ks before file g) columns (subst (λ (t : Fields). IsGathered t others before file g) schema one))

  pub refused_for : (file bytes : List ℕ) (e : Refusal) → file ≡ bytes → IsRefusedFile gs others file e → IsRefusedFile fs keys bytes e
  refused_for file bytes e same why =
      subst (λ (t : List ℕ). IsRefusedFile fs keys t e) same
      (subst (λ (ks : List KeyColumn). IsRefusedFile fs ks file e) columns (subst (λ (t : Fields). IsRefusedFile t others file e) schema why))

  pub stops_for : (files : List (List ℕ)) (e : Refusal) → StopsAtFile gs others files e → StopsAtFile fs keys files e
  stops_for files e stops =
      subst (λ (ks : List KeyColumn). StopsAtFile fs ks files e) columns (subst (λ (t : Fields). StopsAtFile t others files e) schema stops)

  pub means_for : (files : List (List ℕ)) (rows : List (List ValueTrees)) → MeanRows gs files rows → MeanRows fs files rows
  means_for files rows mean = subst (λ (t : Fields). MeanRows t files rows) schema mean
