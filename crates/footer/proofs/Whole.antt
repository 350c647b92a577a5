-- What a written file means, and where its rows are too much.
use Rattle.std.proofs.Common.{◌≡◌, ◌⊎◌, inl, inr, ℕ, ◌+◌, ◌<◌, ◌≤◌, List, [], ◌∷◌, length, sym, ap, subst, ◌∙◌, arith, length-append}
use Rattle.std.specs.Prelude.{sum_by, Result, Ok, Err, IfOk}
use Rattle.std.proofs.Common.{Vec, Global}
use Rattle.std.specs.Result.{IsErrAnd}
use Rattle.std.specs.List.{AllByRecursion}
use Rattle.std.proofs.lemmas.Bool.{cases_lt}
use Rattle.std.proofs.lemmas.List.Sums.{sum_by-cons}
use Rattle.bits.specs.declared.refusal.Refusal.{Refusal}
use Rattle.bits.specs.declared.refusal.Refusal.TheVariants.{Limit}
use Rattle.schema.specs.Values.{ValueTrees}
use Rattle.schema.specs.Shape.{Fields}
use Rattle.schema.specs.Listed.{elements_of}
use Rattle.schema.specs.Listing.{IsSchemaOf}
use Rattle.schema.specs.Law.{IsWithinLimits}
use Rattle.metadata.specs.Records.{FileMeta, GroupMeta}
use Rattle.metadata.specs.Weight as record_weight
use Rattle.metadata.specs.Weight.{IsOfTheWriter}
use Rattle.row_group.specs.declared.options.ChunkOptions.{ChunkOptions}
use Rattle.row_group.specs.Paged.{group_weight}
use Rattle.row_group.specs.Writing.{AreTaken}
use Rattle.footer.specs.Greatest.{most_of_file, most_of_footer}
use Rattle.footer.specs.declared.options.WriteOptions.{WriteOptions}
use Rattle.footer.specs.File.{magic, IsFramed, AreGroups, FileMeans}
use Rattle.footer.specs.Writing.{chunk_options, groups_of, footer_weight, IsTooMuch, heavy_footer, heavy_file, IsTaken}
use Rattle.footer.specs.Own.{AppendsGroups, own_record, IsFilled, EndsWith, IsLaidOut}
use Rattle.footer.proofs.InGroups.{joined, GroupsHaveRows, are_groups, begins}
use Rattle.footer.proofs.Weighed.{same_weight, of_the_writer}

-- the groups of these rows are written after the magic
abbrev pub AreWritten : Fields → WriteOptions → List ValueTrees → List ℕ → List GroupMeta → Type 0
AreWritten fs o rows front gs = AppendsGroups fs (chunk_options o) magic front gs (groups_of o.group_rows rows)

-- the file means its rows
pub means : (n : ℕ) (fs : Fields) (o : WriteOptions) (rows : List ValueTrees) (front bytes : List ℕ) (gs : List GroupMeta) (meta : FileMeta) → GroupsHaveRows → 1 ≤ o.group_rows → meta ≡ own_record fs n gs
    → AreWritten fs o rows front gs → EndsWith front meta bytes → IsSchemaOf (elements_of fs) fs → FileMeans bytes fs rows
means n fs o rows front bytes gs meta law some is p ends schema =
    let groups = groups_of o.group_rows rows in
    let begun = begins fs (chunk_options o) magic front gs groups p in
    let filled = ends begun.0 begun.1 in
    record {
      front = front;
      meta = meta;
      file = record { footer = filled.footer; used = length filled.footer; framed = filled.framed; stands = filled.fills };
      schema = subst (λ (m : FileMeta). IsSchemaOf m.schema fs) (sym is) schema;
      held = record {
        groups = groups;
        each = subst (λ (m : FileMeta). AreGroups front fs m.row_groups groups) (sym is) (are_groups fs (chunk_options o) magic front gs groups law p);
        joined = joined o.group_rows rows some;
      };
    }

-- and is laid out as the writer does
pub laid_out : (fs : Fields) (o : WriteOptions) (rows : List ValueTrees) (front bytes : List ℕ) (gs : List GroupMeta) (meta : FileMeta) → meta ≡ own_record fs (length rows) gs → AreWritten fs o rows front gs
    → EndsWith front meta bytes → IsLaidOut o fs rows bytes
laid_out fs o rows front bytes gs meta is p ends =
    let begun = begins fs (chunk_options o) magic front gs (groups_of o.group_rows rows) p in
    record { front = front; metas = gs; file = subst (IsFilled bytes front) is (ends begun.0 begun.1); chunks = p }

-- a reader takes the file
pub taken_file : (size : ℕ) (fs : Fields) (rows : List ValueTrees) (r : Result (Vec ℕ Global) Refusal) → IsWithinLimits fs → AllByRecursion (AreTaken fs) (groups_of size rows)
    → IfOk r (λ file. length file.items ≤ most_of_file) → IfOk r (λ file. (before footer : List ℕ) → IsFramed file.items before footer → length footer ≤ most_of_footer) → IfOk r (λ file. IsTaken size fs rows file.items)
taken_file size fs rows (Ok file) within taken short small = record { file_size = short; footer_size = small; schema_taken = within; columns_taken = taken }
taken_file size fs rows (Err e) within taken short small = tt

-- groups take no more bytes than they weigh
at_most : (fs : Fields) (o : ChunkOptions) (old new : List ℕ) (gs : List GroupMeta) (groups : List (List ValueTrees)) → AppendsGroups fs o old new gs groups
    → length new ≤ length old + sum_by (group_weight fs o) groups
at_most fs o old new [] [] p = omega (arith, ap length p)
at_most fs o old new [] (rows ∷ others) p = absurd p
at_most fs o old new (g ∷ gs) [] p = absurd p
at_most fs o old new (g ∷ gs) (rows ∷ others) p =
    let short = p.1.short in
    let rest = at_most fs o p.0 new gs others p.2 in
    omega (arith, short, rest, ap length p.1.joined, length-append old p.1.text, sum_by-cons (group_weight fs o) rows others)

-- its footer, or the file, is too long only where it weighs too much
pub is_heavy : (fs : Fields) (o : WriteOptions) (n : ℕ) (rows : List ValueTrees) (front : List ℕ) (gs : List GroupMeta) (meta : FileMeta) → meta ≡ own_record fs n gs → AreWritten fs o rows front gs → IsWithinLimits fs
    → (IsOfTheWriter [] meta → (most_of_footer < record_weight.footer_weight [] meta) ⊎ (most_of_file < length front + 8 + record_weight.footer_weight [] meta)) → IsTooMuch fs o rows
is_heavy fs o n rows front gs meta is p within long = over (cases_lt most_of_footer weight)
  where
    groups : List (List ValueTrees)
    groups = groups_of o.group_rows rows

    weight : ℕ
    weight = footer_weight fs (length groups)

    same : record_weight.footer_weight [] meta ≡ weight
    same = ap (λ (m : FileMeta). record_weight.footer_weight [] m) is ∙ same_weight fs (chunk_options o) n magic front gs groups p

    by_length : (most_of_footer < record_weight.footer_weight [] meta) ⊎ (most_of_file < length front + 8 + record_weight.footer_weight [] meta) → IsTooMuch fs o rows
    by_length (inl h) = heavy_footer (omega (arith, same, h))
    by_length (inr h) = let most = at_most fs (chunk_options o) magic front gs groups p in heavy_file (omega (arith, same, h, most))

    over : (most_of_footer < weight) ⊎ (weight ≤ most_of_footer) → IsTooMuch fs o rows
    over (inl h) = heavy_footer h
    over (inr h) = by_length (long (subst (λ (m : FileMeta). IsOfTheWriter [] m) (sym is) (of_the_writer fs (chunk_options o) n magic front gs groups p within h)))

-- a refusal that is passed on, and is Limit
pub passes_limit : {X : Type 0} (P : Type 0) (r : Result X Refusal) (e : Refusal) → IsErrAnd r (λ f. f ≡ e) → (e ≡ Limit → P) → r ≡ Err Limit → P
passes_limit P (Ok x) e is over limit = absurd is
passes_limit P (Err f) e is over limit = over (sym is ∙ (cc))
