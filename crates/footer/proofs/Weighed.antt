-- What a written footer and a written file weigh.
use Rattle.std.proofs.Common.{◌≡◌, ℕ, suc, ◌+◌, ◌*◌, ◌^◌, ◌<◌, ◌≤◌, List, [], ◌∷◌, ◌++◌, length, map, refl, sym, ap, subst, arith, length-append}
use Rattle.std.specs.Prelude.{sum_by, Option, None, IfSome, All}
use Rattle.std.specs.List.{AllByRecursion}
use Rattle.std.proofs.lemmas.List.{length-map, length-replicate}
use Rattle.std.proofs.Math.Nat.{suc-mul}
use Rattle.std.proofs.lemmas.List.Sums.{sum_by-cons}
use Rattle.std.proofs.lemmas.List.Elements.{All-from_recursion}
use Rattle.lists.proofs.Lists.{all_append as all_joined}
use Rattle.schema.specs.Values.{ValueTrees}
use Rattle.schema.specs.Shape.{Field, leaf, fields, Fields, no_fields, field}
use Rattle.schema.specs.Stripe.{Leaf, Entry, below, leaves, leaves_from, leaves_of, columns}
use Rattle.schema.specs.Listed.{listing, listings}
use Rattle.schema.specs.Law.{IsWithinLimits}
use Rattle.pages.specs.declared.encoding.Encoding.{Encoding}
use Rattle.pages.specs.declared.encoding.Encoding.TheVariants.{Plain, Rle}
use Rattle.metadata.specs.Records.{Statistics, ColumnMeta, ChunkMeta, GroupMeta, type_order}
use Rattle.metadata.specs.Weight as record_weight
use Rattle.metadata.specs.Weight.{text_weight, AreOwnStatistics, IsOwnColumn, IsOfTheWriter}
use Rattle.row_group.specs.declared.options.ChunkOptions.{ChunkOptions}
use Rattle.row_group.specs.Styles.{encoding_of, numbers_with_levels}
use Rattle.row_group.specs.Spelled.{HasPages, of_values, of_indexes, AreStatisticsOf}
use Rattle.row_group.specs.Writing.{AppendsChunk, AppendsEach}
use Rattle.footer.specs.Greatest.{most_of_footer}
use Rattle.footer.specs.Writing.{footer_weight}
use Rattle.footer.specs.Own.{AppendsGroups, own_record}

-- no more leaves than elements
mutual
  few_below : (f : Field) → length (leaves f) ≤ length (listing f)
  few_below (leaf n r t) = omega arith
  few_below (fields n r a fs) = let rest = few_from 0 fs in omega (arith, rest)

  pub few_from : (i : ℕ) (fs : Fields) → length (leaves_from i fs) ≤ length (listings fs)
  few_from i no_fields = omega arith
  few_from i (field f fs) =
      let one = few_below f in
      let rest = few_from (suc i) fs in
      omega (arith, one, rest, length-append (map (below i f) (leaves f)) (leaves_from (suc i) fs), length-map (leaves f) (below i f), length-append (listing f) (listings fs))

-- a leaf has a name for each step
abbrev IsNamed : Leaf → Type 0
IsNamed l = length l.path ≡ length l.steps

named_below : (i : ℕ) (f : Field) (ls : List Leaf) → AllByRecursion IsNamed ls → AllByRecursion IsNamed (map (below i f) ls)
named_below i f [] h = tt
named_below i f (l ∷ ls) h = let e = h.0 in (omega (arith, e), named_below i f ls h.1)

mutual
  named : (f : Field) → AllByRecursion IsNamed (leaves f)
  named (leaf n r t) = (refl, tt)
  named (fields n r a fs) = named_from 0 fs

  named_from : (i : ℕ) (fs : Fields) → AllByRecursion IsNamed (leaves_from i fs)
  named_from i no_fields = tt
  named_from i (field f fs) = all_joined IsNamed (map (below i f) (leaves f)) (leaves_from (suc i) fs) (named_below i f (leaves f) (named f)) (named_from (suc i) fs)

short_paths : (ls : List Leaf) → AllByRecursion IsNamed ls → AllByRecursion (λ (l : Leaf). length l.steps ≤ 32) ls → AllByRecursion (λ (l : Leaf). length l.path ≤ 32) ls
short_paths [] h k = tt
short_paths (l ∷ ls) h k = let e = h.0 in let le = k.0 in (omega (arith, e, le), short_paths ls h.1 k.1)

-- names that weigh less than a bound are each below it
short_names : (bound : ℕ) (names : List (List ℕ)) → sum_by (λ name. length name) names < bound → AllByRecursion (λ name. length name < bound) names
short_names bound [] h = tt
short_names bound (n ∷ ns) h = let e = sum_by-cons (λ (name : List ℕ). length name) n ns in (omega (arith, e, h), short_names bound ns (omega (arith, e, h)))

abbrev pub leaf_weight : Leaf → ℕ
leaf_weight l = 512 + sum_by (λ n. length n) l.path

one_weighs : (c : ChunkMeta) (l : Leaf) → c.file_path ≡ None → c.meta_data.path_in_schema ≡ l.path → record_weight.chunk_weight c ≡ leaf_weight l
one_weighs c l here path =
    let none : text_weight c.file_path ≡ 0 = ap text_weight here in
    let names : sum_by (λ name. length name) c.meta_data.path_in_schema ≡ sum_by (λ n. length n) l.path = ap (λ (p : List (List ℕ)). sum_by (λ name. length name) p) path in
    omega (arith, none, names)

-- the chunks of a group weigh what its leaves do
chunks_weigh : (o : ChunkOptions) (ls : List Leaf) (cols : List (List Entry)) (old new : List ℕ) (cs : List ChunkMeta) → AppendsEach o ls cols old new cs → sum_by record_weight.chunk_weight cs ≡ sum_by leaf_weight ls
chunks_weigh o [] [] old new [] p = refl
chunks_weigh o [] [] old new (c ∷ cs) p = absurd p
chunks_weigh o [] (es ∷ cols) old new cs p = absurd p
chunks_weigh o (l ∷ ls) [] old new cs p = absurd p
chunks_weigh o (l ∷ ls) (es ∷ cols) old new [] p = absurd p
chunks_weigh o (l ∷ ls) (es ∷ cols) old new (c ∷ cs) p =
    let one = one_weighs c l p.2.here (p.1.fills []).is.path in
    let rest = chunks_weigh o ls cols p.0 new cs p.3 in
    omega (arith, one, rest, sum_by-cons record_weight.chunk_weight c cs, sum_by-cons leaf_weight l ls)

-- at most two encodings
few_numbers : (encoding : Encoding) → length (numbers_with_levels encoding) ≤ 10
few_numbers Plain = omega arith
few_numbers Rle = omega arith
few_numbers encoding = omega arith

-- and three with a dictionary
few_encodings : (l : Leaf) (o : ChunkOptions) (es : List Entry) (parts : List (List Entry)) (m : ColumnMeta) (start : ℕ) (bytes : List ℕ) (used : ℕ) → HasPages l o es parts m start bytes used
    → IfSome m.encodings (λ encodings. length encodings ≤ 10)
few_encodings l o es parts m start bytes used (of_values none pages) = rw (pages.encodings) (few_numbers (encoding_of o.style l.leaf_type.kind))
few_encodings l o es parts m start bytes used (of_indexes has pages) = rw (pages.encodings) (omega arith)

own_statistics : (l : Leaf) (es : List Entry) (written : Option Statistics) → AreStatisticsOf l es written → IfSome written AreOwnStatistics
own_statistics l es written s = subst (λ (w : Option Statistics). IfSome w AreOwnStatistics) (sym s.spelled) (record { max = refl; min = refl; max_value = s.short_max; min_value = s.short_min })

own_column : (l : Leaf) (o : ChunkOptions) (old new : List ℕ) (m : ColumnMeta) (es : List Entry) → AppendsChunk l o old new m es → length l.path ≤ 32 → leaf_weight l < 2 ^ 32 → IsOwnColumn m
own_column l o old new m es p few light =
    let path = (p.fills []).is.path in
    record {
      encodings = few_encodings l o es p.parts m (length old) (p.text ++ []) (length p.text) (p.pages []);
      path = rw path few;
      names = rw path (All-from_recursion (λ (name : List ℕ). length name < 2 ^ 32) l.path (short_names (2 ^ 32) l.path (omega (arith, light))));
      statistics = own_statistics l es m.statistics p.statistics;
    }

-- they are as the writer makes them, where they are light
own_columns : (o : ChunkOptions) (ls : List Leaf) (cols : List (List Entry)) (old new : List ℕ) (cs : List ChunkMeta) → AppendsEach o ls cols old new cs → AllByRecursion (λ (l : Leaf). length l.path ≤ 32) ls → sum_by leaf_weight ls < 2 ^ 32
    → AllByRecursion (λ (chunk : ChunkMeta). IsOwnColumn chunk.meta_data) cs
own_columns o [] [] old new [] p few light = tt
own_columns o [] [] old new (c ∷ cs) p few light = absurd p
own_columns o [] (es ∷ cols) old new cs p few light = absurd p
own_columns o (l ∷ ls) [] old new cs p few light = absurd p
own_columns o (l ∷ ls) (es ∷ cols) old new [] p few light = absurd p
own_columns o (l ∷ ls) (es ∷ cols) old new (c ∷ cs) p few light =
    let sum = sum_by-cons leaf_weight l ls in
    (own_column l o old p.0 c.meta_data es p.1 few.0 (omega (arith, sum, light)), own_columns o ls cols p.0 new cs p.3 few.1 (omega (arith, sum, light)))

-- what each group weighs in the record
abbrev group_weight : Fields → ℕ
group_weight fs = 64 + sum_by leaf_weight (leaves_of fs)

groups_weigh : (fs : Fields) (o : ChunkOptions) (old new : List ℕ) (gs : List GroupMeta) (groups : List (List ValueTrees)) → AppendsGroups fs o old new gs groups → sum_by record_weight.group_weight gs ≡ length groups * group_weight fs
groups_weigh fs o old new [] [] p = omega arith
groups_weigh fs o old new [] (rows ∷ others) p = absurd p
groups_weigh fs o old new (g ∷ gs) [] p = absurd p
groups_weigh fs o old new (g ∷ gs) (rows ∷ others) p =
    let one = chunks_weigh o (leaves_of fs) (columns fs rows) old p.0 g.columns p.1.chunks in
    let rest = groups_weigh fs o p.0 new gs others p.2 in
    omega (arith, one, rest, sum_by-cons record_weight.group_weight g gs, suc-mul (length others) (group_weight fs))

-- the record weighs what its schema and its groups say
pub same_weight : (fs : Fields) (o : ChunkOptions) (n : ℕ) (old new : List ℕ) (gs : List GroupMeta) (groups : List (List ValueTrees)) → AppendsGroups fs o old new gs groups
    → record_weight.footer_weight [] (own_record fs n gs) ≡ footer_weight fs (length groups)
same_weight fs o n old new gs groups p = let weight = groups_weigh fs o old new gs groups p in omega (arith, weight)

own_groups : (fs : Fields) (o : ChunkOptions) (old new : List ℕ) (gs : List GroupMeta) (groups : List (List ValueTrees)) → AppendsGroups fs o old new gs groups → IsWithinLimits fs
    → footer_weight fs (length groups) ≤ most_of_footer → AllByRecursion (λ (group : GroupMeta). AllByRecursion (λ (chunk : ChunkMeta). IsOwnColumn chunk.meta_data) group.columns) gs
own_groups fs o old new [] groups p within light = tt
own_groups fs o old new (g ∷ gs) [] p within light = absurd p
own_groups fs o old new (g ∷ gs) (rows ∷ others) p within light =
    let product = suc-mul (length others) (group_weight fs) in (
      own_columns o (leaves_of fs) (columns fs rows) old p.0 g.columns p.1.chunks (short_paths (leaves_of fs) (named_from 0 fs) within.depth) (omega (arith, light, product)),
      own_groups fs o p.0 new gs others p.2 within (omega (arith, light, product)),
    )

-- it is one of the writer's
pub of_the_writer : (fs : Fields) (o : ChunkOptions) (n : ℕ) (old new : List ℕ) (gs : List GroupMeta) (groups : List (List ValueTrees)) → AppendsGroups fs o old new gs groups → IsWithinLimits fs
    → footer_weight fs (length groups) ≤ most_of_footer → IsOfTheWriter [] (own_record fs n gs)
of_the_writer fs o n old new gs groups p within light = record {
  columns = All-from_recursion (λ (group : GroupMeta). All (λ (chunk : ChunkMeta). IsOwnColumn chunk.meta_data) group.columns) gs (all_groups gs (own_groups fs o old new gs groups p within light));
  pairs = tt;
  created_by = refl;
  column_orders = let few = few_from 0 fs in omega (arith, few, length-replicate (length (leaves_of fs)) type_order);
}
  where
    all_groups : (gs : List GroupMeta) → AllByRecursion (λ (group : GroupMeta). AllByRecursion (λ (chunk : ChunkMeta). IsOwnColumn chunk.meta_data) group.columns) gs
        → AllByRecursion (λ (group : GroupMeta). All (λ (chunk : ChunkMeta). IsOwnColumn chunk.meta_data) group.columns) gs
    all_groups [] h = tt
    all_groups (g ∷ gs) h = (All-from_recursion (λ (chunk : ChunkMeta). IsOwnColumn chunk.meta_data) g.columns h.0, all_groups gs h.1)
