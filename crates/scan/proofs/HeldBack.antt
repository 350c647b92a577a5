-- What the readers of chunks stand for is what the chunks hold.
use Rattle.std.proofs.Common.{◌≡◌, ◌+◌, ◌≤◌, ℕ, Bool, true, false, List, [], ◌∷◌, ◌++◌, drop, length, Some, refl, ap, sym, subst, ◌∙◌, append_assoc}
use Rattle.std.specs.Prelude.{Result, Ok, Err, IfOk, cond}
use Rattle.std.specs.List.{slice_get}
use Rattle.std.proofs.lemmas.Bool.{false≢true}
use Rattle.std.proofs.lemmas.List.{append-nil, drop_all}
use Rattle.bits.specs.declared.refusal.Refusal.{Refusal}
use Rattle.schema.specs.Stripe.{Leaf, Entry}
use Rattle.metadata.specs.Records.{ChunkMeta}
use Rattle.row_group.specs.declared.chunk_reader.ChunkReader.{ChunkReader}
use Rattle.row_group.specs.Left.{chunk_stands, StandsForChunk}
use Rattle.assemble.specs.Columns.{Columns}
use Rattle.assemble.specs.Standing.{AllStand}
use Rattle.scan.specs.declared.leaf_uses.LeafUse.{LeafUse}
use Rattle.scan.specs.inner.Uses.{is_picked, picked}
use Rattle.scan.specs.inner.Texts.{IsHeld, AreHeld, HoldPicked, text_for}

-- a reader of one chunk
pub stands_held : (cs : List ChunkMeta) (n : ℕ) (c : ChunkMeta) (leaf : Leaf) (text : List ℕ) → slice_get cs n ≡ Some c → (r : Result ChunkReader Refusal) → IfOk r (StandsForChunk c.meta_data leaf text)
    → IfOk r (λ x. (es : List Entry) → chunk_stands x es → IsHeld cs n leaf text es)
stands_held cs n c leaf text there (Ok x) h = λ es stand.
    let held = (h es).0 stand in
    record { chunk = c; there = there; used = held.0.0; means = held.0.1; within_limits = held.1 }
stands_held cs n c leaf text there (Err e) h = tt

-- the last of some readers, and those before it
pub record SplitEnd (rs : List ChunkReader) (r : ChunkReader) (own : Columns) : Type 0 where
  pub front : Columns
  pub es : List Entry
  pub is : own ≡ front ++ es ∷ []
  pub stand : AllStand chunk_stands rs front
  pub last : chunk_stands r es

pub split_end : (rs : List ChunkReader) (r : ChunkReader) (own : Columns) → AllStand chunk_stands (rs ++ r ∷ []) own → SplitEnd rs r own
split_end [] r [] h = absurd h
split_end [] r (es ∷ []) h = record { front = []; es = es; is = refl; stand = tt; last = h.0 }
split_end [] r (es ∷ (fs ∷ own)) h = absurd h.1
split_end (x ∷ rs) r [] h = absurd h
split_end (x ∷ rs) r (es ∷ own) h =
    let rest = split_end rs r own h.1 in
    record { front = es ∷ rest.front; es = rest.es; is = ap (λ (t : Columns). es ∷ t) rest.is; stand = (h.0, rest.stand); last = rest.last }

module _ (b : Bool) (cs : List ChunkMeta) (leaves : List Leaf) (uses : List LeafUse) (first later : List (List ℕ)) where
  -- The readers of the first n leaves stand for columns that the chunks hold, with those of the other leaves.
  abbrev pub HeldBack : ℕ → List ChunkReader → Type 0
  HeldBack n rs = (own rest : Columns) → AllStand chunk_stands rs own → AreHeld b cs (drop n leaves) (drop n uses) (drop n first) (drop n later) rest
      → HoldPicked b cs leaves uses first later (own ++ picked b (drop n uses) rest)

  pub none_back : (rs : List ChunkReader) → rs ≡ [] → HeldBack 0 rs
  none_back rs none own rest stand held = by own (subst (λ (xs : List ChunkReader). AllStand chunk_stands xs own) none stand)
    where
      by : (own : Columns) → AllStand chunk_stands [] own → HoldPicked b cs leaves uses first later (own ++ picked b uses rest)
      by [] s = (rest, held, refl)
      by (c ∷ own) s = absurd s

  pub all_back : (n : ℕ) (rs : List ChunkReader) → length leaves ≤ n → length uses ≤ n → length first ≤ n → length later ≤ n → HeldBack n rs → (own : Columns) → AllStand chunk_stands rs own → HoldPicked b cs leaves uses first later own
  all_back n rs ls us ts ss back own stand =
      subst (HoldPicked b cs leaves uses first later) (ap (λ (xs : List LeafUse). own ++ picked b xs []) (drop_all n uses us) ∙ append-nil own)
      (back own [] stand
      (subst (λ (x : List Leaf). AreHeld b cs x (drop n uses) (drop n first) (drop n later) []) (sym (drop_all n leaves ls))
      (subst (λ (x : List LeafUse). AreHeld b cs [] x (drop n first) (drop n later) []) (sym (drop_all n uses us))
      (subst (λ (x : List (List ℕ)). AreHeld b cs [] [] x (drop n later) []) (sym (drop_all n first ts))
      (subst (λ (x : List (List ℕ)). AreHeld b cs [] [] [] x []) (sym (drop_all n later ss)) tt)))))

  module _ (n : ℕ) (rs : List ChunkReader) (l : Leaf) (u : LeafUse) (t s : List ℕ) (back : HeldBack n rs)
      (l_here : drop n leaves ≡ l ∷ drop (n + 1) leaves) (u_here : drop n uses ≡ u ∷ drop (n + 1) uses) (t_here : drop n first ≡ t ∷ drop (n + 1) first) (s_here : drop n later ≡ s ∷ drop (n + 1) later) where
    held_here : (es : List Entry) (rest : Columns) → (is_picked b u ≡ true → IsHeld cs u.chunk l (text_for u t s) es) → AreHeld b cs (drop (n + 1) leaves) (drop (n + 1) uses) (drop (n + 1) first) (drop (n + 1) later) rest
        → AreHeld b cs (drop n leaves) (drop n uses) (drop n first) (drop n later) (es ∷ rest)
    held_here es rest one held =
        subst (λ (x : List Leaf). AreHeld b cs x (drop n uses) (drop n first) (drop n later) (es ∷ rest)) (sym l_here)
        (subst (λ (x : List LeafUse). AreHeld b cs (l ∷ drop (n + 1) leaves) x (drop n first) (drop n later) (es ∷ rest)) (sym u_here)
        (subst (λ (x : List (List ℕ)). AreHeld b cs (l ∷ drop (n + 1) leaves) (u ∷ drop (n + 1) uses) x (drop n later) (es ∷ rest)) (sym t_here)
        (subst (λ (x : List (List ℕ)). AreHeld b cs (l ∷ drop (n + 1) leaves) (u ∷ drop (n + 1) uses) (t ∷ drop (n + 1) first) x (es ∷ rest)) (sym s_here) (one, held))))

    split : (es : List Entry) (rest : Columns) → picked b (drop n uses) (es ∷ rest) ≡ cond (is_picked b u) (es ∷ picked b (drop (n + 1) uses) rest) (picked b (drop (n + 1) uses) rest)
    split es rest = ap (λ (us : List LeafUse). picked b us (es ∷ rest)) u_here

    -- a leaf that is not picked
    pub back_passed : is_picked b u ≡ false → HeldBack (n + 1) rs
    back_passed none own rest stand held =
        subst (HoldPicked b cs leaves uses first later)
        (ap (λ (x : Columns). own ++ x) (split [] rest ∙ ap (λ (c : Bool). cond c ([] ∷ picked b (drop (n + 1) uses) rest) (picked b (drop (n + 1) uses) rest)) none))
        (back own ([] ∷ rest) stand (held_here [] rest (λ one. absurd (false≢true (sym none ∙ one))) held))

    -- a reader more
    pub back_read : is_picked b u ≡ true → (r : ChunkReader) → ((es : List Entry) → chunk_stands r es → IsHeld cs u.chunk l (text_for u t s) es) → (after : List ChunkReader) → after ≡ rs ++ r ∷ [] → HeldBack (n + 1) after
    back_read one r holds after put own rest stand held =
        let end = split_end rs r own (subst (λ (xs : List ChunkReader). AllStand chunk_stands xs own) put stand) in
        subst (HoldPicked b cs leaves uses first later)
        (ap (λ (x : Columns). end.front ++ x) (split end.es rest ∙ ap (λ (c : Bool). cond c (end.es ∷ picked b (drop (n + 1) uses) rest) (picked b (drop (n + 1) uses) rest)) one)
        ∙ sym (append_assoc end.front (end.es ∷ []) (picked b (drop (n + 1) uses) rest))
        ∙ ap (λ (x : Columns). x ++ picked b (drop (n + 1) uses) rest) (sym end.is))
        (back end.front (end.es ∷ rest) end.stand (held_here end.es rest (λ _. holds end.es end.last) held))
