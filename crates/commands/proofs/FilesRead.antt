-- The files at some paths, read one after another.
use Rattle.std.proofs.Common.{◌≡◌, ◌<◌, ◌+◌, ◌++◌, ◌∷◌, ◌∙◌, ℕ, zero, suc, List, [], Option, Result, Ok, Err, IsErrAnd, length, take, refl, sym, subst, ap, arith}
use Rattle.std.specs.Prelude.{⊤}
use Rattle.std.specs.Prelude.{Vec, Contains, slice_index_or}
use Rattle.std.specs.Borrow.{Bor}
use Rattle.std.specs.declared.alloc.Global.{Global}
use Rattle.std.proofs.lemmas.List.{length-map, take_more}
use Rattle.std.proofs.lemmas.List.Elements.{Contains-get_or}
use Rattle.bits.specs.declared.refusal.Refusal.{Refusal}
use Rattle.bits.specs.declared.refusal.Refusal.TheVariants.{Device}
use Rattle.bits.specs.Refusals.{HasCause}
use Rattle.disk.specs.State.{State as DiskState}
use Rattle.dataset_words.specs.declared.call.Call.{Call}
use Rattle.commands.specs.Tasks.{lent_texts}
use Rattle.answers.specs.Importing.{files_view}
use Rattle.places.specs.Places.{Known, StaysKnown, IsKeptFrom, AreKeptAmong, AreFilesAt}
use Rattle.commands.specs.Calls.{OnFolder, OnFiles, read, unread, named_paths}
use Rattle.places.proofs.PlacesKept.{by_cause}
use Rattle.commands.proofs.CallsKept.{on_folder_before}

-- the texts that are lent of the first of some are the first of those of all
first_texts : (n : ℕ) (all : List (Bor (List ℕ))) → lent_texts (take n all) ≡ take n (lent_texts all)
first_texts zero all = refl
first_texts (suc n) [] = refl
first_texts (suc n) (x ∷ xs) = ap (λ l. x.now ∷ l) (first_texts n xs)

-- of one more there is one text more
pub one_more_text : (all : List (Bor (List ℕ))) (i : ℕ) (text : List ℕ) → i < length all → text ≡ slice_index_or (lent_texts all) i []
    → lent_texts (take (i + 1) all) ≡ lent_texts (take i all) ++ text ∷ []
one_more_text all i text within is =
    first_texts (i + 1) all ∙ (take_more (lent_texts all) i [] (omega (arith, within, length-map all (λ (t : Bor (List ℕ)). t.now)))
    ∙ (ap (λ l. l ++ slice_index_or (lent_texts all) i [] ∷ []) (sym (first_texts i all)) ∙ ap (λ x. lent_texts (take i all) ++ x ∷ []) (sym is)))

module _ {D : Type 0} (known : Known D) where
  -- one more file is read
  pub one_more_read : (paths files : List (List ℕ)) (path bytes : List ℕ) → AreFilesAt known paths files → known.file path bytes → AreFilesAt known (paths ++ path ∷ []) (files ++ bytes ∷ [])
  one_more_read [] [] path bytes are is = (is, tt)
  one_more_read (p ∷ paths) (b ∷ files) path bytes are is = (are.0, one_more_read paths files path bytes are.1 is)
  one_more_read [] (b ∷ files) path bytes are is = absurd are
  one_more_read (p ∷ paths) [] path bytes are is = absurd are

  -- a file that is not had is one of these
  pub kept_at : (all : List (Bor (List ℕ))) (i : ℕ) (path : List ℕ) → i < length all → path ≡ slice_index_or (lent_texts all) i [] → (e : Refusal) → IsKeptFrom known path e → AreKeptAmong known (lent_texts all) e
  kept_at all i path within is e kept =
      let there = Contains-get_or (lent_texts all) i [] (omega (arith, within, length-map all (λ (t : Bor (List ℕ)). t.now))) in
      by_cause (λ f. (f ≡ Device) × known.is_shut path) (λ f. (f ≡ Device) × (p : List ℕ) × Contains (lent_texts all) p × known.is_shut p)
      (λ f h. (h.0, path, subst (Contains (lent_texts all)) (sym is) there, h.1)) e kept

  -- out of memory, no file is had
  pub memory_among : (paths : List (List ℕ)) (e : Refusal) → HasCause (λ f. ⊥) e → AreKeptAmong known paths e
  memory_among paths e memory = by_cause (λ f. ⊥) (λ f. (f ≡ Device) × (p : List ℕ) × Contains paths p × known.is_shut p) (λ f h. absurd h) e memory

module _ {D : Type 0} {S : Type 0} {state : D → DiskState} {old mid new : Known D} (stays : StaysKnown old mid) {call : Call} {before after : Option (List ℕ)} {result : Result ⊤ Refusal} where
  -- the files were read, and then the task was done
  pub read_of : (files slice : List (Vec ℕ Global)) → slice ≡ files → AreFilesAt old (named_paths call.task) (files_view files)
      → OnFolder S state mid new call call.task (files_view slice) before after result → OnFiles S state old new call before after result
  read_of files slice same are comes =
      read (files_view files) are (on_folder_before stays S state call before after result new call.task (files_view files)
      (subst (λ (fs : List (Vec ℕ Global)). OnFolder S state mid new call call.task (files_view fs) before after result) same comes))

-- some file was not had
pub unread_of : {D S : Type 0} {state : D → DiskState} {old new : Known D} {call : Call} {before after : Option (List ℕ)} (result : Result ⊤ Refusal)
    (e : Refusal) → IsErrAnd result (λ f. f ≡ e) → AreKeptAmong old (named_paths call.task) e → StaysKnown old new → after ≡ before → OnFiles S state old new call before after result
unread_of (Ok x) e is kept stays unprinted = absurd is
unread_of (Err f) e is kept stays unprinted = unread e kept stays unprinted (ap Err is)
