-- Columns in memory.
use Rattle.std.proofs.Common.{ℕ, zero, suc, ◌≡◌, ◌≤◌, ◌<◌, List, [], ◌∷◌, ◌++◌, ◌⊎◌, map, length, slice_index_or, refl, ap, sym, subst, ◌∙◌, arith, append_assoc, None, Option, Result, Ok, Err, inl, inr}
use Rattle.std.specs.List.{AllByRecursion}
use Rattle.std.proofs.lemmas.List.{append-nil, map-append}
use Rattle.bits.specs.declared.refusal.Refusal.{Refusal}
use Rattle.bits.specs.declared.refusal.Refusal.TheVariants as refusal
use Rattle.bits.specs.Refusals.{IsFault, LimitJustWhere}
use Rattle.std.specs.Result.{IfErr}
use Rattle.schema.specs.declared.row.Column.{Column}
use Rattle.schema.specs.Values.{ValueTrees}
use Rattle.schema.specs.Shape.{Fields}
use Rattle.schema.specs.Stripe.{Entry, Leaf, leaves_of, column, columns}
use Rattle.schema.specs.Law.{IsEntryOf}
use Rattle.schema.specs.Views.{column_view, columns_view}
use Rattle.schema.proofs.Entries.{entries_are_of_leaves}
use Rattle.assemble.specs.declared.cursor.Cursor.{Cursor}
use Rattle.assemble.specs.Cursors.{entries_left, cursor_stands}
use Rattle.assemble.specs.Standing.{AllStand, IsRefusedFor}
use Rattle.assemble.specs.Columns.{Columns, level, Suits, AllSuit, IsAmong}
use Rattle.assemble.specs.RowsOf.{AreRowsOf, StandForRows, wants_of, HasFault, IsTooLong, IsRefusedAs}

-- cursors are never refused
pub never : {A : Type 0} (xs : List A) (e : Refusal) → IsAmong e (map (λ (x : A). let o : Option Refusal = None in o) xs) → ⊥
never [] e h = h
never (x ∷ xs) e (inl h) = cc
never (x ∷ xs) e (inr h) = never xs e h

suit_entries : (l : Leaf) (es : List Entry) → AllByRecursion (IsEntryOf l) es → AllByRecursion (Suits (record { full = l.greatest_definition; leaf_type = l.leaf_type })) es
suit_entries l [] h = tt
suit_entries l (e ∷ es) h = (h.0.value, suit_entries l es h.1)

suit_columns : (rows : List ValueTrees) (ls : List Leaf) → AllByRecursion (λ (l : Leaf). AllByRecursion (IsEntryOf l) (column rows l.steps)) ls
    → AllSuit (map (λ (l : Leaf). record { full = l.greatest_definition; leaf_type = l.leaf_type }) ls) (map (λ (l : Leaf). column rows l.steps) ls)
suit_columns rows [] h = tt
suit_columns rows (l ∷ ls) h = (suit_entries l (column rows l.steps) h.0, suit_columns rows ls h.1)

-- cursors stand for all that they have left
pub cursors_stand : (cursors : List Cursor) → AllStand cursor_stands cursors (map entries_left cursors)
cursors_stand [] = tt
cursors_stand (c ∷ cursors) = (refl, cursors_stand cursors)

pub cursors_only : (cursors : List Cursor) (cs : Columns) → AllStand cursor_stands cursors cs → cs ≡ map entries_left cursors
cursors_only [] [] h = refl
cursors_only [] (d ∷ cs) h = absurd h
cursors_only (c ∷ cursors) [] h = absurd h
cursors_only (c ∷ cursors) (d ∷ cs) h = ap (λ t. t ∷ cs) h.0 ∙ ap (λ t. entries_left c ∷ t) (cursors_only cursors cs h.1)

-- rows have no such fault
pub faultless : (fs : Fields) (cs : Columns) (e : Refusal) → HasFault fs cs e → IsFault e → (rows : List ValueTrees) → AreRowsOf fs cs rows → ⊥
faultless fs cs refusal.Levels h f rows are = h rows are.fit (ap (map (map level)) are.have)
faultless fs cs refusal.Value h f rows are = h (subst (AllSuit (wants_of fs)) are.have (suit_columns rows (leaves_of fs) (entries_are_of_leaves fs rows are.fit)))
faultless fs cs refusal.Memory h f rows are = f
faultless fs cs _ h f rows are = h

-- where a fault is refused, there are no rows
pub only_faults : {A : Type 0} (S : A → List Entry → Type 0) (R : A → Option Refusal) (C : A → Refusal → Type 0) (old new : List A) (fs : Fields) (e : Refusal) → IsRefusedFor S R C old new (HasFault fs) e → IsFault e → (rows : List ValueTrees) → StandForRows S old fs rows → ⊥
only_faults S R C old new fs e (inl h) fault rows stand = h.1 (columns fs rows) stand.stand
only_faults S R C old new fs e (inr h) fault rows stand = faultless fs (columns fs rows) e (h.1.1 (columns fs rows) stand.stand) fault rows (record { fit = stand.fit; have = refl })

pub refused_as : (fs : Fields) (cs : Columns) (e : Refusal) → HasFault fs cs e → IsRefusedAs fs cs e
refused_as fs cs refusal.Limit h = absurd h
refused_as fs cs _ h = h

-- Limit comes exactly where a column is too long
pub limit_where : {X : Type 0} (fs : Fields) (cs : Columns) (r : Result X Refusal) → (IsTooLong cs → ⊥) → IfErr r (HasFault fs cs) → LimitJustWhere (IsTooLong cs) r
limit_where fs cs (Ok x) short h = short
limit_where fs cs (Err refusal.Limit) short h = absurd h
limit_where fs cs (Err refusal.Memory) short h = tt
limit_where fs cs (Err _) short h = short

-- a column is too long, one after another
abbrev pub HasLong : Columns → Type 0
HasLong [] = ⊥
HasLong (c ∷ cs) = (16777216 < length c) ⊎ HasLong cs

long_at : (cs : Columns) (k : ℕ) (c : List Entry) → k < length cs → slice_index_or cs k c ≡ c → 16777216 < length c → HasLong cs
long_at [] k c lt is long = absurd (omega (arith, lt))
long_at (d ∷ cs) zero c lt is long = inl (subst (λ (e : List Entry). 16777216 < length e) (sym is) long)
long_at (d ∷ cs) (suc k) c lt is long = inr (long_at cs k c (omega (arith, lt)) is long)

pub any_long : (cs : Columns) → IsTooLong cs → HasLong cs
any_long cs h = long_at cs h.0 h.1 h.2 h.3 h.4

long_any : (cs : Columns) → HasLong cs → IsTooLong cs
long_any [] h = absurd h
long_any (c ∷ cs) (inl lt) = (0, c, omega arith, refl, lt)
long_any (c ∷ cs) (inr h) = let w = long_any cs h in let lt = w.2 in (suc w.0, w.1, omega (arith, lt), w.3, w.4)

-- the cursors so far, and the columns that are left
pub record SoFar (cursors : List Cursor) (columns rest : List Column) : Type 0 where
  pub all : map entries_left cursors ++ columns_view rest ≡ columns_view columns
  pub short : HasLong (map entries_left cursors) → ⊥

long_later : (cs ds : Columns) → HasLong ds → HasLong (cs ++ ds)
long_later [] ds h = h
long_later (c ∷ cs) ds h = inr (long_later cs ds h)

pub too_long : (cursors : List Cursor) (columns rest : List Column) (c : Column) → SoFar cursors columns (c ∷ rest) → 16777216 < length (column_view c) → IsTooLong (columns_view columns)
too_long cursors columns rest c so lt = long_any (columns_view columns) (subst HasLong so.all (long_later (map entries_left cursors) (column_view c ∷ columns_view rest) (inl lt)))

short_more : (cs : Columns) (c : List Entry) → (HasLong cs → ⊥) → length c ≤ 16777216 → HasLong (cs ++ c ∷ []) → ⊥
short_more [] c h le (inl lt) = omega (arith, lt, le)
short_more [] c h le (inr n) = n
short_more (d ∷ cs) c h le (inl lt) = h (inl lt)
short_more (d ∷ cs) c h le (inr n) = short_more cs c (λ t. h (inr t)) le n

pub one_more : (cursors : List Cursor) (columns rest : List Column) (c : Column) (x : Cursor) → SoFar cursors columns (c ∷ rest) → entries_left x ≡ column_view c → length (column_view c) ≤ 16777216 → SoFar (cursors ++ x ∷ []) columns rest
one_more cursors columns rest c x so is le =
    let joined : map entries_left (cursors ++ x ∷ []) ≡ map entries_left cursors ++ column_view c ∷ [] = map-append entries_left cursors (x ∷ []) ∙ ap (λ t. map entries_left cursors ++ t ∷ []) is in
    record {
      all = ap (λ t. t ++ columns_view rest) joined ∙ append_assoc (map entries_left cursors) (column_view c ∷ []) (columns_view rest) ∙ so.all;
      short = λ t. short_more (map entries_left cursors) (column_view c) so.short le (subst HasLong joined t);
    }

pub all_columns : (cursors : List Cursor) (columns : List Column) → SoFar cursors columns [] → map entries_left cursors ≡ columns_view columns
all_columns cursors columns so = sym (append-nil (map entries_left cursors)) ∙ so.all
