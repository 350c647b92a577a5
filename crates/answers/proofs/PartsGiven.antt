-- Rows that a writer has given away as files, and those that it still has.
use Rattle.std.proofs.Common.{◌≡◌, ℕ, List, [], ◌∷◌, ◌++◌, Vec, Global, Option, Some, None, Result, Ok, Err, OnOk, IfOk, refl, sym, ◌∙◌, ap, subst, append_assoc}
use Rattle.std.proofs.lemmas.List.{append-nil}
use Rattle.bits.specs.declared.refusal.Refusal.{Refusal}
use Rattle.schema.specs.Shape.{Fields}
use Rattle.schema.specs.Values.{ValueTrees}
use Rattle.footer.specs.declared.file_writer.FileWriter.{FileWriter}
use Rattle.footer.specs.declared.options.WriteOptions.{WriteOptions}
use Rattle.footer.specs.File.{FileMeans}
use Rattle.footer.specs.Own.{IsLaidOut}
use Rattle.footer.specs.Writing.{IsOutOfRange}
use Rattle.footer.specs.Writer.{has_rows, schema_of, options_of}
use Rattle.dataset_words.specs.Files.{TakesFiles}
use Rattle.answers.specs.declared.part_writer.PartWriter.{PartWriter}
use Rattle.answers.specs.QueryFile.{IsFileOfQuery, AreFilesOfRows}
use Rattle.answers.specs.inner.Parts.{HasGiven, EndsFiles, WritesAlike}

-- ---- files that are taken

pub takes_none : (from : Option (List (List ℕ))) → TakesFiles from from []
takes_none None = tt
takes_none (Some old) = sym (append-nil old)

pub takes_more : (from mid to : Option (List (List ℕ))) (xs ys : List (List ℕ)) → TakesFiles from mid xs → TakesFiles mid to ys → TakesFiles from to (xs ++ ys)
takes_more None mid to xs ys first second = tt
takes_more (Some a) None to xs ys first second = absurd first
takes_more (Some a) (Some b) None xs ys first second = absurd second
takes_more (Some a) (Some b) (Some c) xs ys first second = second ∙ (ap (λ (files : List (List ℕ)). files ++ ys) first ∙ append_assoc a xs ys)

-- ---- what files mean

-- a file before others
pub one_before : (o : WriteOptions) (fs : Fields) (first rest : List ValueTrees) (file : List ℕ) (files : List (List ℕ)) → IsFileOfQuery o fs first file → AreFilesOfRows o fs rest files → AreFilesOfRows o fs (first ++ rest) (file ∷ files)
one_before o fs first rest file [] one others = absurd others
one_before o fs first rest file (other ∷ files) one others = (first, rest, refl, one, others)

-- what a writer makes of its rows
pub file_is : (writer : FileWriter) (options : WriteOptions) (fs : Fields) (rs : List ValueTrees) (result : Result (Vec ℕ Global) Refusal) → has_rows writer rs → schema_of writer ≡ fs → options_of writer ≡ options
    → IfOk result (λ (file : Vec ℕ Global). (all : List ValueTrees) → has_rows writer all → FileMeans file.items (schema_of writer) all)
    → IfOk result (λ (file : Vec ℕ Global). (all : List ValueTrees) → has_rows writer all → IsLaidOut (options_of writer) (schema_of writer) all file.items)
    → OnOk result ((all : List ValueTrees) → has_rows writer all → IsOutOfRange (options_of writer) → ⊥)
    → IfOk result (λ (file : Vec ℕ Global). IsFileOfQuery options fs rs file.items)
file_is writer options fs rs (Err e) has is_fs is_options means laid_out in_range = tt
file_is writer options fs rs (Ok file) has is_fs is_options means laid_out in_range = record {
  means = subst (λ (f : Fields). FileMeans file.items f rs) is_fs (means rs has);
  laid_out = subst (λ (f : Fields). IsLaidOut options f rs file.items) is_fs (subst (λ (o : WriteOptions). IsLaidOut o (schema_of writer) rs file.items) is_options (laid_out rs has));
  in_range = subst (λ (o : WriteOptions). IsOutOfRange o → ⊥) is_options (in_range rs has);
}

-- ---- a writer

pub begins : (from : Option (List (List ℕ))) (writer : PartWriter) → has_rows writer.writer [] → schema_of writer.writer ≡ writer.schema.now → options_of writer.writer ≡ writer.options → HasGiven from from writer []
begins from writer has schema options = record {
  files = [];
  full = [];
  waiting = [];
  joined = refl;
  has = has;
  schema = schema;
  options = options;
  taken = takes_none from;
  begun = λ later more are. are;
  single = λ one. refl;
}

module _ (old new : PartWriter) (alike : WritesAlike old new) where
  alike_files : (rs : List ValueTrees) (files : List (List ℕ)) → AreFilesOfRows old.options old.schema.now rs files → AreFilesOfRows new.options new.schema.now rs files
  alike_files rs files are = subst (λ (o : WriteOptions). AreFilesOfRows o new.schema.now rs files) (sym alike.1) (subst (λ (f : Fields). AreFilesOfRows old.options f rs files) (sym alike.0) are)

  alike_back : (rs : List ValueTrees) (files : List (List ℕ)) → AreFilesOfRows new.options new.schema.now rs files → AreFilesOfRows old.options old.schema.now rs files
  alike_back rs files are = subst (λ (o : WriteOptions). AreFilesOfRows o old.schema.now rs files) alike.1 (subst (λ (f : Fields). AreFilesOfRows new.options f rs files) alike.0 are)

  -- the rows that wait are others, and no file was given
  pub waits : (from to : Option (List (List ℕ))) (rows all waiting : List ValueTrees) (has : HasGiven from to old rows) → all ≡ has.full ++ waiting → has_rows new.writer waiting → schema_of new.writer ≡ schema_of old.writer
      → options_of new.writer ≡ options_of old.writer → HasGiven from to new all
  waits from to rows all waiting has joined held schema options = record {
    files = has.files;
    full = has.full;
    waiting = waiting;
    joined = joined;
    has = held;
    schema = schema ∙ (has.schema ∙ sym alike.0);
    options = options ∙ (has.options ∙ sym alike.1);
    taken = has.taken;
    begun = λ later more are. alike_files (has.full ++ later) (has.files ++ more) (has.begun later more (alike_back later more are));
    single = λ one. has.single (sym alike.2 ∙ one);
  }

  -- the same rows wait
  pub stays : (from to : Option (List (List ℕ))) (rows : List ValueTrees) → HasGiven from to old rows → ((had : List ValueTrees) → has_rows old.writer had → has_rows new.writer had) → schema_of new.writer ≡ schema_of old.writer
      → options_of new.writer ≡ options_of old.writer → HasGiven from to new rows
  stays from to rows has same schema options = waits from to rows rows has.waiting has has.joined (same has.waiting has.has) schema options

  -- one more waits
  pub pushed : (from to : Option (List (List ℕ))) (rows : List ValueTrees) (row : ValueTrees) → HasGiven from to old rows → ((had : List ValueTrees) → has_rows old.writer had → has_rows new.writer (had ++ row ∷ []))
      → schema_of new.writer ≡ schema_of old.writer → options_of new.writer ≡ options_of old.writer → HasGiven from to new (rows ++ row ∷ [])
  pushed from to rows row has push schema options =
      waits from to rows (rows ++ row ∷ []) (has.waiting ++ row ∷ []) has (ap (λ (rs : List ValueTrees). rs ++ row ∷ []) has.joined ∙ append_assoc has.full has.waiting (row ∷ [])) (push has.waiting has.has) schema options

  -- those that waited are a file, which a sink took, and the writer is a new one
  pub ended : (from was is : Option (List (List ℕ))) (rows : List ValueTrees) (has : HasGiven from was old rows) (file : List ℕ) → IsFileOfQuery old.options old.schema.now has.waiting file → TakesFiles was is (file ∷ [])
      → has_rows new.writer [] → schema_of new.writer ≡ old.schema.now → options_of new.writer ≡ old.options → (old.most ≡ None → ⊥) → HasGiven from is new rows
  ended from was is rows has file one taken held schema options several = record {
    files = has.files ++ file ∷ [];
    full = has.full ++ has.waiting;
    waiting = [];
    joined = has.joined ∙ sym (append-nil (has.full ++ has.waiting));
    has = held;
    schema = schema ∙ sym alike.0;
    options = options ∙ sym alike.1;
    taken = takes_more from was is has.files (file ∷ []) has.taken taken;
    begun = λ later more are.
        let next = has.begun (has.waiting ++ later) (file ∷ more) (one_before old.options old.schema.now has.waiting later file more one (alike_back later more are)) in
        let rows_so = subst (λ (rs : List ValueTrees). AreFilesOfRows old.options old.schema.now rs (has.files ++ file ∷ more)) (sym (append_assoc has.full has.waiting later)) next in
        let both = subst (λ (files : List (List ℕ)). AreFilesOfRows old.options old.schema.now ((has.full ++ has.waiting) ++ later) files) (sym (append_assoc has.files (file ∷ []) more)) rows_so in
        alike_files ((has.full ++ has.waiting) ++ later) ((has.files ++ file ∷ []) ++ more) both;
    single = λ one. absurd (several (sym alike.2 ∙ one));
  }

-- the rows that wait are the last file
last : (writer : PartWriter) (from to : Option (List (List ℕ))) (rows : List ValueTrees) (has : HasGiven from to writer rows) (file : List ℕ) → IsFileOfQuery writer.options writer.schema.now has.waiting file → EndsFiles from to writer rows file
last writer from to rows has file one = record {
  files = has.files;
  taken = has.taken;
  are = subst (λ (rs : List ValueTrees). AreFilesOfRows writer.options writer.schema.now rs (has.files ++ file ∷ [])) (sym has.joined) (has.begun has.waiting (file ∷ []) one);
  single = has.single;
}

pub ends_with : (writer : PartWriter) (result : Result (Vec ℕ Global) Refusal)
    → IfOk result (λ (file : Vec ℕ Global). (all : List ValueTrees) → has_rows writer.writer all → FileMeans file.items (schema_of writer.writer) all)
    → IfOk result (λ (file : Vec ℕ Global). (all : List ValueTrees) → has_rows writer.writer all → IsLaidOut (options_of writer.writer) (schema_of writer.writer) all file.items)
    → OnOk result ((all : List ValueTrees) → has_rows writer.writer all → IsOutOfRange (options_of writer.writer) → ⊥)
    → IfOk result (λ (file : Vec ℕ Global). (from to : Option (List (List ℕ))) (rows : List ValueTrees) → HasGiven from to writer rows → EndsFiles from to writer rows file.items)
ends_with writer (Err e) means laid_out in_range = tt
ends_with writer (Ok file) means laid_out in_range = λ from to rows has.
    last writer from to rows has file.items (file_is writer.writer writer.options writer.schema.now has.waiting (Ok file) has.has has.schema has.options means laid_out in_range)

pub alike_self : (writer : PartWriter) → WritesAlike writer writer
alike_self writer = (refl, refl, refl)

pub alike_then : (old mid new : PartWriter) → WritesAlike old mid → WritesAlike mid new → WritesAlike old new
alike_then old mid new first second = (second.0 ∙ first.0, second.1 ∙ first.1, second.2 ∙ first.2)
