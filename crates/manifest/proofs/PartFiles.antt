-- A part file means its rows, and what is known of its group holds of them.
use Rattle.std.proofs.Common.{◌≡◌, ℕ, zero, suc, ◌+◌, ◌-◌, List, [], ◌∷◌, ◌++◌, length, map, replicate, refl, ap, sym, subst, ◌∙◌, arith, length-append}
use Rattle.std.proofs.lemmas.List.{append-nil}
use Rattle.std.proofs.lemmas.List.Sums.{sum_by-cons}
use Rattle.std.specs.Prelude.{cond, is_none}
use Rattle.schema.specs.declared.order.Order.{Order}
use Rattle.std.specs.Prelude.{Option}
use Rattle.schema.specs.Annotations.{order_of}
use Rattle.schema.specs.Stripe.{Leaf, Entry, leaves_of, leaves_from, columns}
use Rattle.metadata.specs.Records.{ChunkMeta, GroupMeta}
use Rattle.footer.specs.File.{GroupsMean}
use Rattle.statistics.specs.Bounds.{Statistics, Bounds, null_count}
use Rattle.schema.specs.Fronts.{first_fields, fields_after, padded, absent_entry}
use Rattle.statistics.specs.Absent.{absent_statistics, known_over}
use Rattle.manifest.specs.Parts.{AreFullChunks, HaveBounds}
use Rattle.manifest.specs.Laws.{PartsMeanTheirRows, KnownOfPartsHolds}
use Rattle.schema.proofs.FrontLeaves.{leaves_split}
use Rattle.schema.proofs.Padding.{padded_rows_have_columns}

pub parts_mean_their_rows : PartsMeanTheirRows
parts_mean_their_rows keys fs g bytes rows p =
    let h = p.holds in (
      p.stored,
      record {
        front = h.front;
        meta = h.meta;
        file = h.file;
        schema = h.schema;
        held = subst (λ (gs : List GroupMeta). GroupsMean h.front (first_fields g.width fs) gs p.stored) (sym h.alone) (record { groups = p.stored ∷ []; each = (h.here, h.means, tt); joined = sym (append-nil p.stored) });
      },
      p.keyed,
    )

-- ---- bounds

-- the statistics of a file's chunks hold of its columns
own_bounds : (front : List ℕ) (ls : List Leaf) (cs : List ChunkMeta) (ss : List Statistics) (cols : List (List Entry)) → AreFullChunks front ls cs ss cols → HaveBounds ls ss cols
own_bounds front [] [] [] [] h = tt
own_bounds front (l ∷ ls) (c ∷ cs) (s ∷ ss) (es ∷ cols) h = (h.1, own_bounds front ls cs ss cols h.2)
own_bounds front [] (c ∷ cs) ss cols h = absurd h
own_bounds front [] [] (s ∷ ss) cols h = absurd h
own_bounds front [] [] [] (es ∷ cols) h = absurd h
own_bounds front (l ∷ ls) [] ss cols h = absurd h
own_bounds front (l ∷ ls) (c ∷ cs) [] cols h = absurd h
own_bounds front (l ∷ ls) (c ∷ cs) (s ∷ ss) [] h = absurd h

-- one for each leaf
bounds_count : (ls : List Leaf) (ss : List Statistics) (cols : List (List Entry)) → HaveBounds ls ss cols → length ss ≡ length ls
bounds_count [] [] [] h = refl
bounds_count (l ∷ ls) (s ∷ ss) (es ∷ cols) h = ap suc (bounds_count ls ss cols h.1)
bounds_count [] (s ∷ ss) cols h = absurd h
bounds_count [] [] (es ∷ cols) h = absurd h
bounds_count (l ∷ ls) [] cols h = absurd h
bounds_count (l ∷ ls) (s ∷ ss) [] h = absurd h

both_bounds : (ls ms : List Leaf) (ss ts : List Statistics) (cols others : List (List Entry)) → HaveBounds ls ss cols → HaveBounds ms ts others → HaveBounds (ls ++ ms) (ss ++ ts) (cols ++ others)
both_bounds [] ms [] ts [] others h k = k
both_bounds (l ∷ ls) ms (s ∷ ss) ts (es ∷ cols) others h k = (h.0, both_bounds ls ms ss ts cols others h.1 k)
both_bounds [] ms (s ∷ ss) ts cols others h k = absurd h
both_bounds [] ms [] ts (es ∷ cols) others h k = absurd h
both_bounds (l ∷ ls) ms [] ts cols others h k = absurd h
both_bounds (l ∷ ls) ms (s ∷ ss) ts [] others h k = absurd h

count_nulls : (n : ℕ) → null_count (replicate n absent_entry) ≡ n
count_nulls zero = refl
count_nulls (suc n) = omega (arith, sum_by-cons (λ (e : Entry). cond (is_none e.value) 1 0) absent_entry (replicate n absent_entry), count_nulls n)

absent_bounds : (order : Option Order) (n : ℕ) → Bounds order (absent_statistics n) (replicate n absent_entry)
absent_bounds order n = record { minimum = tt; maximum = tt; nulls = sym (count_nulls n) }

all_absent : (ls : List Leaf) (n : ℕ) → HaveBounds ls (replicate (length ls) (absent_statistics n)) (replicate (length ls) (replicate n absent_entry))
all_absent [] n = tt
all_absent (l ∷ ls) n = (absent_bounds (order_of l.leaf_type) n, all_absent ls n)

pub known_of_parts_holds : KnownOfPartsHolds
known_of_parts_holds keys fs g bytes rows front p =
    let h = p.holds in
    let first = leaves_of (first_fields g.width fs) in
    let others = leaves_from (0 + g.width) (fields_after g.width fs) in
    let whole : leaves_of fs ≡ first ++ others = leaves_split g.width 0 fs in
    let own = own_bounds h.front first g.chunks g.known.leaves (columns (first_fields g.width fs) p.stored) h.chunks in
    let left : length (leaves_of fs) - length first ≡ length others = omega (arith, ap length whole, length-append first others) in
    let known : length (leaves_of fs) - length g.known.leaves ≡ length others = omega (arith, left, bounds_count first g.known.leaves (columns (first_fields g.width fs) p.stored) own) in
    let rest : HaveBounds others (replicate (length others) (absent_statistics g.known.rows)) (replicate (length others) (replicate (length p.stored) absent_entry))
    = subst (λ (n : ℕ). HaveBounds others (replicate (length others) (absent_statistics n)) (replicate (length others) (replicate (length p.stored) absent_entry))) h.count (all_absent others (length p.stored)) in
    let all = both_bounds first others g.known.leaves (replicate (length others) (absent_statistics g.known.rows)) (columns (first_fields g.width fs) p.stored) (replicate (length others) (replicate (length p.stored) absent_entry)) own rest in
    let completed : HaveBounds (first ++ others) (known_over (length (leaves_of fs)) g.known).leaves (columns (first_fields g.width fs) p.stored ++ replicate (length others) (replicate (length p.stored) absent_entry))
    = subst (λ (k : ℕ). HaveBounds (first ++ others) (g.known.leaves ++ replicate k (absent_statistics g.known.rows)) (columns (first_fields g.width fs) p.stored ++ replicate (length others) (replicate (length p.stored) absent_entry))) (sym known) all in
    let over : HaveBounds (first ++ others) (known_over (length (leaves_of fs)) g.known).leaves (columns fs (map (padded fs) p.stored))
    = subst (λ (cols : List (List Entry)). HaveBounds (first ++ others) (known_over (length (leaves_of fs)) g.known).leaves cols)
    (ap (λ (k : ℕ). columns (first_fields g.width fs) p.stored ++ replicate k (replicate (length p.stored) absent_entry)) (sym left) ∙ sym (padded_rows_have_columns g.width fs p.stored front h.means.fit)) completed in
    subst (λ (ls : List Leaf). HaveBounds ls (known_over (length (leaves_of fs)) g.known).leaves (columns fs (map (padded fs) p.stored))) (sym whole) over
