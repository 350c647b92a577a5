-- A row that goes to its key.
use Rattle.std.proofs.Common.{◌≡◌, ℕ, zero, suc, ◌<◌, ◌≤◌, Bool, false, List, [], ◌∷◌, ◌++◌, length, get_or, set, map, refl, ap, sym, subst, ◌∙◌, arith, length-append}
use Rattle.std.specs.Prelude.{◌||◌, if◌then◌else◌}
use Rattle.std.specs.List.{AllByRecursion, list_any}
use Rattle.std.proofs.lemmas.List.{set-set, get_or-set_same, map_push}
use Rattle.schema.specs.Values.{ValueTree, ValueTrees}
use Rattle.schema.specs.Views.{key_view}
use Rattle.schema.specs.Keys.{KeyColumn, key_of_row, row_without_keys}
use Rattle.shred.specs.Buffer.{schema_of, holds}
use Rattle.partition.specs.Folders.{CanPartition}
use Rattle.partition.specs.Order.{is_same_key}
use Rattle.gather.specs.declared.key_buffer.KeyBuffer.{KeyBuffer}
use Rattle.gather.specs.declared.key_buffers.KeyBuffers.{KeyBuffers}
use Rattle.gather.specs.Parts.{parts_view}
use Rattle.gather.specs.Buffers.{keys_of}
use Rattle.gather.specs.Groups.{waiting_rows}
use Rattle.gather.specs.KeyBuffers.{HoldsRows, Hold, AreSplit, IsPlaced, PutsAside}
use Rattle.gather.proofs.BufferRows.{long_keys, key_here, rows_here, keys_set, waits_next, after_short, after_full, filled_short, full_next, waits_new, last_key}

abbrev pub Key : Type 0
Key = List ValueTree

-- the keys in the map, in the order of the buffers
abbrev pub stored_keys : KeyBuffers → List Key
stored_keys k = map (λ parts. parts_view parts.items) k.places.keys

-- no stored key is the same
pub not_among : {X : Type 0} (f : X → Key) (k : Key) (t : X → Bool) → ((x : X) → t x ≡ is_same_key k (f x)) → (xs : List X) → AllByRecursion (λ l. is_same_key k l ≡ false) (map f xs) → list_any t xs ≡ false
not_among f k t is [] h = refl
not_among f k t is (x ∷ xs) h = λ i. (is x ∙ h.0) i || not_among f k t is xs h.1 i

-- the keys after one is added that is none of them
pub keys_added : {X : Type 0} (f : X → Key) (t : X → Bool) (xs : List X) (x : X) → list_any t xs ≡ false → map f (if list_any t xs then xs else xs ++ x ∷ []) ≡ map f xs ++ f x ∷ []
keys_added f t xs x none = ap (λ (b : Bool). map f (if b then xs else xs ++ x ∷ [])) none ∙ map_push f xs x

-- a new key is placed
pub placed_new : (columns : List KeyColumn) (old new : KeyBuffers) (rows : List ValueTrees) (k : Key) (b : KeyBuffer) (at : ℕ) → at ≡ length old.waiting.items → new.stored ≡ old.stored → new.size ≡ old.size → new.full.items ≡ old.full.items → CanPartition columns k
    → AllByRecursion (λ l. is_same_key k l ≡ false) (keys_of old.waiting.items) → key_view b.key ≡ k → HoldsRows old.stored.now [] b → new.waiting.items ≡ old.waiting.items ++ b ∷ []
    → stored_keys new ≡ keys_of old.waiting.items ++ k ∷ [] → AreSplit columns old rows → IsPlaced columns new rows k at
placed_new columns old new rows k b at place stored size full can other named empty waits places split =
    let keys : keys_of old.waiting.items ++ k ∷ [] ≡ keys_of new.waiting.items =
    ap (λ (l : Key). keys_of old.waiting.items ++ l ∷ []) (sym named) ∙ sym (map_push (λ (x : KeyBuffer). key_view x.key) old.waiting.items b) ∙ sym (ap keys_of waits) in
    let last = last_key (keys_of old.waiting.items) k in
    let long = long_keys old.waiting.items in
    record {
      split = record {
        full = rw (stored, size, full) split.full;
        waiting = rw (stored, size, waits) (waits_new columns old.size old.stored.now rows old.waiting.items k b can other named empty split.waiting);
        places = places ∙ keys;
      };
      within = subst (λ (ks : List Key). at < length ks) keys (omega (arith, last.0, long, place));
      key_is = subst (λ (ks : List Key). get_or ks at k ≡ k) keys (subst (λ (n : ℕ). get_or (keys_of old.waiting.items ++ k ∷ []) n k ≡ k) (long ∙ sym place) last.1);
    }

-- the buffer `b` of the key, whose place it has, with one row more than `was`
pub record IsLonger (columns : List KeyColumn) (old : KeyBuffers) (rows : List ValueTrees) (row : ValueTrees) (at : ℕ) (was b : KeyBuffer) : Type 0 where
  pub within : at < length old.waiting.items
  pub read : was ≡ get_or old.waiting.items at was
  pub key : key_view b.key ≡ key_view was.key
  pub schema : schema_of b.rows ≡ schema_of was.rows
  pub more : (rs : List ValueTrees) → holds was.rows rs → holds b.rows (rs ++ row_without_keys columns row ∷ [])

-- what it holds
holds_more : (columns : List KeyColumn) (old : KeyBuffers) (rows : List ValueTrees) (row : ValueTrees) (at : ℕ) (was b : KeyBuffer) → IsLonger columns old rows row at was b → IsPlaced columns old rows (key_of_row columns row) at
    → HoldsRows old.stored.now (waiting_rows columns old.size (key_of_row columns row) rows ++ row_without_keys columns row ∷ []) b
holds_more columns old rows row at was b is placed =
    let k = key_of_row columns row in
    let named = key_here old.waiting.items at was k is.within is.read placed.key_is in
    let here = rows_here old.stored.now (λ l. waiting_rows columns old.size l rows) old.waiting.items at was is.within is.read placed.split.waiting.each in
    let held = subst (λ (l : Key). HoldsRows old.stored.now (waiting_rows columns old.size l rows) was) named here in
    record { schema = is.schema ∙ held.schema; held = is.more (waiting_rows columns old.size k rows) held.held }

one_longer : (held : List ValueTrees) (row : ValueTrees) (n : ℕ) → n ≡ length (held ++ row ∷ []) → n ≡ suc (length held)
one_longer held row n e = omega (arith, e, length-append held (row ∷ []))

-- the rows do not fill a group
pub added_short : (columns : List KeyColumn) (old new : KeyBuffers) (rows : List ValueTrees) (row : ValueTrees) (at : ℕ) (was b : KeyBuffer) (n : ℕ) → new.stored ≡ old.stored → new.size ≡ old.size → new.full.items ≡ old.full.items → stored_keys new ≡ stored_keys old
    → new.waiting.items ≡ set old.waiting.items at b → IsLonger columns old rows row at was b → ((rs : List ValueTrees) → holds b.rows rs → n ≡ length rs) → n < old.size → IsPlaced columns old rows (key_of_row columns row) at
    → AreSplit columns new (rows ++ row ∷ [])
added_short columns old new rows row at was b n stored size full places waits is counts short placed =
    let k = key_of_row columns row in
    let held = waiting_rows columns old.size k rows in
    let longer = holds_more columns old rows row at was b is placed in
    let count = one_longer held (row_without_keys columns row) n (counts _ longer.held) in
    let few : suc (length held) < old.size = omega (arith, count, short) in
    record {
      full = rw (stored, size, full) (subst (Hold old.stored.now old.full.items) (sym (filled_short columns old.size rows row few)) placed.split.full);
      waiting = rw (stored, size, waits)
          (waits_next columns old.size old.stored.now rows row old.waiting.items at was b is.within is.read placed.key_is is.key
          (subst (λ (rs : List ValueTrees). HoldsRows old.stored.now rs b) (sym (after_short old.size held (row_without_keys columns row) few)) longer) placed.split.waiting);
      places = places ∙ placed.split.places ∙ sym (ap keys_of waits ∙ keys_set old.waiting.items at was b is.read is.key);
    }

-- the rows fill a group, which is put aside
pub added_full : (columns : List KeyColumn) (old new : KeyBuffers) (rows : List ValueTrees) (row : ValueTrees) (at : ℕ) (was b : KeyBuffer) (n : ℕ) → new.stored ≡ old.stored → new.size ≡ old.size → stored_keys new ≡ stored_keys old
    → PutsAside at old.stored.now (set old.waiting.items at b) old.full.items new.waiting.items new.full.items
    → IsLonger columns old rows row at was b → ((rs : List ValueTrees) → holds b.rows rs → n ≡ length rs) → old.size ≤ n → IsPlaced columns old rows (key_of_row columns row) at
    → AreSplit columns new (rows ++ row ∷ [])
added_full columns old new rows row at was b n stored size places puts is counts large placed =
    let k = key_of_row columns row in
    let held = waiting_rows columns old.size k rows in
    let longer = holds_more columns old rows row at was b is placed in
    let count = one_longer held (row_without_keys columns row) n (counts _ longer.held) in
    let many : old.size ≤ suc (length held) = omega (arith, count, large) in
    let read : puts.old ≡ b = puts.was ∙ get_or-set_same old.waiting.items at b puts.old is.within in
    let named : key_view puts.old.key ≡ key_view was.key = ap (λ (x : KeyBuffer). key_view x.key) read ∙ is.key in
    let is_k = key_here old.waiting.items at was k is.within is.read placed.key_is in
    let rows_are = puts.aside_rows ∙ ap (λ (x : KeyBuffer). x.rows) read in
    let aside : HoldsRows old.stored.now (held ++ row_without_keys columns row ∷ []) puts.aside = record { schema = ap schema_of rows_are ∙ longer.schema; held = rw rows_are longer.held } in
    let grows : new.full.items ≡ old.full.items ++ puts.aside ∷ [] = puts.grows in
    let left : new.waiting.items ≡ set old.waiting.items at puts.fresh = puts.waits ∙ set-set old.waiting.items at b puts.fresh in
    let fresh = puts.fresh_key ∙ named in
    record {
      full = rw (stored, size, grows) (full_next columns old.size old.stored.now rows row old.full.items puts.aside many (puts.aside_key ∙ named ∙ is_k) aside placed.split.full);
      waiting = rw (stored, size, left)
          (waits_next columns old.size old.stored.now rows row old.waiting.items at was puts.fresh is.within is.read placed.key_is fresh
          (subst (λ (rs : List ValueTrees). HoldsRows old.stored.now rs puts.fresh) (sym (after_full old.size held (row_without_keys columns row) many)) puts.fresh_rows) placed.split.waiting);
      places = places ∙ placed.split.places ∙ sym (ap keys_of left ∙ keys_set old.waiting.items at was puts.fresh is.read fresh);
    }

-- what is read twice at a place is the same
pub same_here : (bs : List KeyBuffer) (at : ℕ) (x y : KeyBuffer) → at < length bs → x ≡ get_or bs at x → y ≡ get_or bs at y → x ≡ y
same_here [] at x y h p q = absurd (omega (arith, h))
same_here (b ∷ bs) zero x y h p q = p ∙ sym q
same_here (b ∷ bs) (suc at) x y h p q = same_here bs at x y (omega (arith, h)) p q
