-- What a writer of files is given, and its last file.
use Rattle.std.proofs.Common.{◌≡◌, ℕ, ◌+◌, true, List, [], ◌∷◌, ◌++◌, length, Option, sym, ◌∙◌, ap, subst, append_assoc, append-nil}
use Rattle.schema.specs.Shape.{Fields}
use Rattle.schema.specs.Fits.{RowsFit}
use Rattle.schema.specs.Values.{ValueTrees}
use Rattle.footer.specs.declared.options.WriteOptions.{WriteOptions}
use Rattle.dataset_words.specs.Files.{TakesFiles}
use Rattle.answers.specs.declared.part_writer.PartWriter.{PartWriter}
use Rattle.answers.specs.QueryFile.{AreFilesOfRows, GotFiles}
use Rattle.answers.specs.inner.Gathering.{HavePassed}
use Rattle.answers.specs.inner.Parts.{HasGiven, EndsFiles, TakesRows, TakesNext, WritesAlike}
use Rattle.answers.proofs.FirstOf.{left_fit, passed_more}
use Rattle.answers.proofs.PartsGiven.{takes_more}

-- ---- a writer

pub none_taken : (writer : PartWriter) (was : Option (List (List ℕ))) → TakesRows writer writer was was []
none_taken writer was from had has = subst (λ (rs : List ValueTrees). HasGiven from was writer rs) (sym (append-nil had)) has

pub taken_more : (old mid new : PartWriter) (was so is : Option (List (List ℕ))) (xs ys : List ValueTrees) → TakesRows old mid was so xs → TakesRows mid new so is ys → TakesRows old new was is (xs ++ ys)
taken_more old mid new was so is xs ys first second from had has = subst (λ (rs : List ValueTrees). HasGiven from is new rs) (append_assoc had xs ys) (second from (had ++ xs) (first from had has))

-- one row more
pub row_taken : (S T : List ValueTrees → Type 0) (old mid new : PartWriter) (was so is : Option (List (List ℕ))) (n : ℕ) (all : List ValueTrees) → WritesAlike old mid → HavePassed (TakesRows old mid was so) S n all → RowsFit old.schema.now all
    → TakesNext S T mid new so is true → HavePassed (TakesRows old new was is) T (n + 1) all
row_taken S T old mid new was so is n all alike p fit next =
    let t = next p.left p.stands (subst (λ (fs : Fields). RowsFit fs p.left) (sym alike.0) (left_fit (TakesRows old mid was so) S n all p old.schema.now fit)) in
    passed_more (TakesRows old mid was so) (TakesRows old new was is) S T n all p t.first t.rest t.split t.stands (taken_more old mid new was so is p.given (t.first ∷ []) p.has t.takes)

-- ---- the last file

-- a sink took the last file too
pub got : (writer : PartWriter) (options : WriteOptions) (fs : Fields) (rs : List ValueTrees) (most : Option ℕ) (from to is : Option (List (List ℕ))) (file : List ℕ) → writer.schema.now ≡ fs → writer.options ≡ options → writer.most ≡ most
    → EndsFiles from to writer rs file → TakesFiles to is (file ∷ []) → GotFiles options fs rs most from is
got writer options fs rs most from to is file of_schema of_options of_most over taken = record {
  files = over.files ++ file ∷ [];
  are = subst (λ (o : WriteOptions). AreFilesOfRows o fs rs (over.files ++ file ∷ [])) of_options (subst (λ (f : Fields). AreFilesOfRows writer.options f rs (over.files ++ file ∷ [])) of_schema over.are);
  taken = takes_more from to is over.files (file ∷ []) over.taken taken;
  single = λ one. ap (λ (files : List (List ℕ)). length (files ++ file ∷ [])) (over.single (of_most ∙ one));
}
