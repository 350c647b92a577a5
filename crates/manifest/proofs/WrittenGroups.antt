-- A group of a part file as the store writes it can be described.
use Rattle.std.proofs.Common.{◌≡◌, ℕ, suc, ◌<◌, ◌≤◌, ◌^◌, ◌<ℤ◌, pos, List, [], ◌∷◌, ◌++◌, length, map, Option, refl, ap, sym, subst, arith, length-append}
use Rattle.std.specs.Prelude.{IfSome}
use Rattle.std.specs.List.{AllByRecursion}
use Rattle.std.proofs.lemmas.List.Elements.{All-from_recursion}
use Rattle.schema.specs.Shape.{Field, leaf, fields, Fields, no_fields, field, count}
use Rattle.schema.specs.Stripe.{Leaf, Entry, leaves, leaves_from, leaves_of, below, columns}
use Rattle.schema.specs.Law.{IsSchema}
use Rattle.metadata.specs.Records.{ColumnMeta, ChunkMeta, Statistics as StatisticsRecord}
use Rattle.metadata.specs.Weight.{AreOwnStatistics, IsOwnColumn}
use Rattle.pages.specs.declared.encoding.Encoding.{Encoding}
use Rattle.pages.specs.declared.encoding.Encoding.TheVariants.{Plain, Rle}
use Rattle.row_group.specs.Limits.{many_entries}
use Rattle.row_group.specs.Greatest.{most_rows}
use Rattle.row_group.specs.Styles.{encoding_of, numbers_with_levels}
use Rattle.row_group.specs.Spelled.{HasPages, of_values, of_indexes, AreStatisticsOf}
use Rattle.row_group.specs.Writing.{AppendsChunk, AppendsEach}
use Rattle.row_group.specs.declared.options.ChunkOptions.{ChunkOptions}
use Rattle.footer.specs.Greatest.{most_of_file}
use Rattle.statistics.specs.Bounds.{Statistics}
use Rattle.manifest.proofs.WrittenParts.{grows}
use Rattle.schema.specs.Fronts.{first_fields, fields_after, AreOptional, IsFront}
use Rattle.manifest.specs.Records.{AreChunkRecords}
use Rattle.manifest.specs.Laws.{HaveStatistics, AreNamesShort, GroupsAsWrittenAreGroups}

-- ---- the path to a leaf has a name for each step

abbrev AreLong : List Leaf → Type 0
AreLong ls = AllByRecursion (λ (l : Leaf). length l.path ≡ length l.steps) ls

long_below : (i : ℕ) (f : Field) (ls : List Leaf) → AreLong ls → AreLong (map (below i f) ls)
long_below i f [] h = tt
long_below i f (l ∷ ls) h = (ap suc h.0, long_below i f ls h.1)

long_both : (ls ms : List Leaf) → AreLong ls → AreLong ms → AreLong (ls ++ ms)
long_both [] ms h k = k
long_both (l ∷ ls) ms h k = (h.0, long_both ls ms h.1 k)

mutual
  long_field : (f : Field) → AreLong (leaves f)
  long_field (leaf n r t) = (refl, tt)
  long_field (fields n r a fs) = long_fields 0 fs

  pub long_fields : (i : ℕ) (fs : Fields) → AreLong (leaves_from i fs)
  long_fields i no_fields = tt
  long_fields i (field f fs) = long_both (map (below i f) (leaves f)) (leaves_from (suc i) fs) (long_below i f (leaves f) (long_field f)) (long_fields (suc i) fs)

-- ---- the records

few_numbers : (encoding : Encoding) → length (numbers_with_levels encoding) ≤ 10
few_numbers Plain = omega arith
few_numbers Rle = omega arith
few_numbers encoding = omega arith

few_encodings : (l : Leaf) (o : ChunkOptions) (es : List Entry) (parts : List (List Entry)) (m : ColumnMeta) (start : ℕ) (bytes : List ℕ) (used : ℕ) → HasPages l o es parts m start bytes used
    → IfSome m.encodings (λ encodings. length encodings ≤ 10)
few_encodings l o es parts m start bytes used (of_values none pages) = rw (pages.encodings) (few_numbers (encoding_of o.style l.leaf_type.kind))
few_encodings l o es parts m start bytes used (of_indexes has pages) = rw (pages.encodings) (omega arith)

own_statistics : (l : Leaf) (es : List Entry) (written : Option StatisticsRecord) → AreStatisticsOf l es written → IfSome written AreOwnStatistics
own_statistics l es written s = subst (λ (x : Option StatisticsRecord). IfSome x AreOwnStatistics) (sym s.spelled) (record { max = refl; min = refl; max_value = s.short_max; min_value = s.short_min })

own_column : (l : Leaf) (o : ChunkOptions) (old new : List ℕ) (m : ColumnMeta) (es : List Entry) → AppendsChunk l o old new m es → length l.path ≤ 32 → AllByRecursion (λ name. length name < 2 ^ 32) l.path → IsOwnColumn m
own_column l o old new m es p few short =
    let path = (p.fills []).is.path in
    record {
      encodings = few_encodings l o es p.parts m (length old) (p.text ++ []) (length p.text) (p.pages []);
      path = rw path few;
      names = rw path (All-from_recursion (λ (name : List ℕ). length name < 2 ^ 32) l.path short);
      statistics = own_statistics l es m.statistics p.statistics;
    }

pub records_each : (o : ChunkOptions) (ls : List Leaf) (cols : List (List Entry)) (old new : List ℕ) (cs : List ChunkMeta) (ss : List Statistics) → AppendsEach o ls cols old new cs → length new ≤ most_of_file → HaveStatistics ls cs ss
    → AreLong ls → AllByRecursion (λ (l : Leaf). length l.steps ≤ 32) ls → AreNamesShort ls → AreChunkRecords ls cs ss
records_each o [] [] old new [] [] h m k long few short = tt
records_each o [] [] old new [] (s ∷ ss) h m k long few short = absurd k
records_each o [] [] old new (c ∷ cs) ss h m k long few short = absurd h
records_each o [] (es ∷ cols) old new cs ss h m k long few short = absurd h
records_each o (l ∷ ls) [] old new cs ss h m k long few short = absurd h
records_each o (l ∷ ls) (es ∷ cols) old new [] ss h m k long few short = absurd h
records_each o (l ∷ ls) (es ∷ cols) old new (c ∷ cs) [] h m k long few short = absurd k
records_each o (l ∷ ls) (es ∷ cols) old new (c ∷ cs) (s ∷ ss) h m k long few short =
    let p = h.1 in
    let rest = grows o ls cols h.0 new cs h.3 in (
      record {
        here = h.2.here;
        of_leaf = (p.fills []).is;
        entries = length es;
        counted = (p.fills []).count;
        within_limits = λ large. p.within_limits [] (many_entries large);
        start = length old;
        starts = p.starts;
        size = length p.text;
        sized = p.size;
        within_file = omega (arith, m, ap length rest.1, length-append h.0 rest.0, ap length p.joined, length-append old p.text);
        statistics = k.0;
        own = own_column l o old h.0 c.meta_data es p (let a = long.0 in let b = few.0 in omega (arith, a, b)) short.0;
      },
      records_each o ls cols h.0 new cs ss h.3 m k.1 long.1 few.1 short.1,
    )

-- ---- a file with all fields

pub whole_front : (fs : Fields) → first_fields (count fs) fs ≡ fs
whole_front no_fields = refl
whole_front (field f fs) = ap (field f) (whole_front fs)

pub none_after : (fs : Fields) → AreOptional (fields_after (count fs) fs)
none_after no_fields = tt
none_after (field f fs) = none_after fs

pub some_fields : (fs : Fields) → IsSchema fs → 1 ≤ count fs
some_fields no_fields v = absurd v.0.some
some_fields (field f fs) v = omega arith

pub groups_as_written_are_groups : GroupsAsWrittenAreGroups
groups_as_written_are_groups keys o fs old new own rows g valid within short p small some chunks count_is known wide keyed =
    let records = records_each o (leaves_of fs) (columns fs rows) old new own.columns g.known.leaves p.chunks small known (long_fields 0 fs) within.depth short in
    let of_group : AreChunkRecords (leaves_of fs) g.chunks g.known.leaves = subst (λ (cs : List ChunkMeta). AreChunkRecords (leaves_of fs) cs g.known.leaves) (sym chunks) records in
    record {
      some = omega (arith, some, count_is);
      within_limits = subst (λ (n : ℕ). most_rows <ℤ pos n → ⊥) (sym count_is) p.few;
      keyed = keyed;
      file = subst (λ (n : ℕ). IsFront n fs) (sym wide) (record { some = some_fields fs valid; there = omega arith; optional = none_after fs });
      chunks = subst (λ (n : ℕ). AreChunkRecords (leaves_of (first_fields n fs)) g.chunks g.known.leaves) (sym wide) (subst (λ (gs : Fields). AreChunkRecords (leaves_of gs) g.chunks g.known.leaves) (sym (whole_front fs)) of_group);
    }
