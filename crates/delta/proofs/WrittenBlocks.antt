-- The blocks that a writer writes.
use Rattle.std.proofs.Common.{◌≡◌, ℕ, ◌+◌, ◌-◌, ◌*◌, ◌/◌, ◌<◌, ◌≤◌, min, List, [], ◌∷◌, ◌++◌, length, map, take, drop, replicate, refl, sym, ap, subst, ◌∙◌, arith, inl, inr, append_assoc}
use Rattle.std.specs.Prelude.{ℤ, pos, ◌+ℤ◌, slice_index, slice_index_or}
use Rattle.std.specs.List.{range_with_len}
use Rattle.std.specs.Int.{Width, byte_len}
use Rattle.std.proofs.lemmas.List.{append-nil, length-drop, get_or-take, get_or-drop, append_cancel_left}
use Rattle.std.proofs.lemmas.List.FromFn.{map-range_with_len_more, length-map-range_with_len}
use Rattle.bits.specs.Codec.{InTurn, Appends}
use Rattle.bits.specs.Varint.{IsShortestUleb, zigzag_of}
use Rattle.bits.proofs.Appending.{appends_both, appends_turn}
use Rattle.delta.specs.Delta.{AreMiniblocks, AppendsDelta, most_bytes}
use Rattle.delta.specs.Written.{deltas_from, blocks_of, IsLeast, IsLeastWidth, IsWrittenBlock, IsWrittenDelta, AppendsWrittenDelta}
use Rattle.delta.specs.inner.Put.{Extends, block_count, PutBlock}
use Rattle.delta.proofs.Putting.{widths_written}
use Rattle.delta.proofs.Varints.{short, two}

-- more at the end
pub extends : (old mid new text : List ℕ) → Extends old mid → new ≡ mid ++ text → Extends old new
extends old mid new text p is = (p.0 ++ text, is ∙ ap (λ (t : List ℕ). t ++ text) p.1 ∙ append_assoc old p.0 text)

-- a varint of the least delta and four width bytes
record IsBlockHead (least : ℤ) (ws bytes : List ℕ) (used : ℕ) : Type 0 where
  pub at : ℕ
  pub says : IsShortestUleb bytes (zigzag_of least) at
  pub widths : take 4 (drop at bytes) ≡ ws
  pub room : at + 4 ≤ length bytes
  pub ends : used ≡ at + 4

-- the width bytes are the widths of the miniblocks
width_at : (bytes ws : List ℕ) (at m : ℕ) → m < 4 → take 4 (drop at bytes) ≡ ws → slice_index bytes (at + m) ≡ slice_index ws m
width_at bytes ws at m lt is = sym (get_or-drop at bytes m 0) ∙ sym (get_or-take 4 (drop at bytes) m 0 lt) ∙ ap (λ (t : List ℕ). slice_index t m) is

-- a block of its least delta, its widths and its miniblocks
pub written_block : (w : Width) (deltas : List ℤ) (least : ℤ) (k number : ℕ) (ws numbers old one two new : List ℕ) → zigzag_of least ≡ number → k ≡ (length deltas + 31) / 32
    → IsLeast deltas least → map (λ x. least +ℤ pos x) numbers ≡ deltas ++ replicate (128 - length deltas) least
    → ((m : ℕ) → m < 4 → IsLeastWidth (take 32 (drop (32 * m) numbers)) (slice_index ws m)) → ((m : ℕ) → m < 4 → slice_index ws m ≤ 8 * byte_len w)
    → Appends (λ bytes used. IsShortestUleb bytes number used) 10 old one → length ws ≡ 4 → two ≡ one ++ ws
    → Appends (λ bytes used. AreMiniblocks 32 (take k ws) bytes (take (32 * k) numbers) used) (32 * byte_len w * k) two new
    → Appends (λ bytes used. IsWrittenBlock w bytes deltas used) (14 + 32 * byte_len w * k) old new
written_block w deltas least k number ws numbers old one two new is needed least_is numbers_are widths narrow head count put body =
    let begun = appends_both (λ bytes used. IsShortestUleb bytes number used) (λ bytes used. (take 4 bytes ≡ ws) × (4 ≤ length bytes) × (used ≡ 4)) (IsBlockHead least ws) 10 4 old one two
    (λ bytes u v p q. record {
      at = u;
      says = subst (λ (n : ℕ). IsShortestUleb bytes n u) (sym is) p;
      widths = q.0;
      room = omega (arith, q.1, length-drop u bytes, p.spelled.within);
      ends = omega (arith, q.2);
    }) head (widths_written ws one two count put) in
    appends_both (IsBlockHead least ws) (λ bytes used. AreMiniblocks 32 (take k ws) bytes (take (32 * k) numbers) used) (λ bytes used. IsWrittenBlock w bytes deltas used) (10 + 4) (32 * byte_len w * k) old two new
    (λ bytes u v p q. record {
      least = least;
      at = p.at;
      numbers = numbers;
      body = v;
      least_is = least_is;
      says = p.says;
      numbers_are = numbers_are;
      room = p.room;
      widths = λ m lt. subst (λ (n : ℕ). IsLeastWidth (take 32 (drop (32 * m) numbers)) n) (sym (width_at bytes ws p.at m lt p.widths)) (widths m lt);
      narrow = λ m lt. subst (λ (n : ℕ). n ≤ 8 * byte_len w) (sym (width_at bytes ws p.at m lt p.widths)) (narrow m lt);
      packed = subst (λ (i : ℕ). AreMiniblocks 32 (take i (take 4 (drop p.at bytes))) (drop (p.at + 4) bytes) (take (32 * i) numbers) v) needed
          (subst (λ (t : List ℕ). AreMiniblocks 32 (take k t) (drop (p.at + 4) bytes) (take (32 * k) numbers) v) (sym p.widths)
          (subst (λ (n : ℕ). AreMiniblocks 32 (take k ws) (drop n bytes) (take (32 * k) numbers) v) p.ends q));
      ends = omega (arith, p.ends);
    }) begun body

-- how many deltas a block from index `at` on has
pub deltas_count : (w : Width) (values : List ℤ) (at : ℕ) → 0 < at → length (deltas_from w values (at - 1)) ≡ block_count values at
deltas_count w values at begun = length-map-range_with_len _ (at - 1) (min 128 (length values - 1 - (at - 1))) ∙ (let e : min 128 (length values - 1 - (at - 1)) ≡ min (length values - at) 128 = omega (arith, begun) in e)

-- the blocks up to index `at` are written
pub record AreBegun (w : Width) (values : List ℤ) (old new : List ℕ) (at : ℕ) : Type 0 where
  pub count : ℕ
  pub most : ℕ
  pub written : Appends (λ bytes used. InTurn (IsWrittenBlock w) bytes (map (λ b. deltas_from w values (128 * b)) (range_with_len 0 count)) used) most old new
  pub at_is : at ≡ min (128 * count) (length values - 1) + 1
  pub few : count ≤ (length values - 1 + 127) / 128

pub blocks_begin : (w : Width) (values : List ℤ) (old : List ℕ) → AreBegun w values old old 1
blocks_begin w values old = record {
  count = 0;
  most = 0;
  written = record { text = []; joined = sym (append-nil old); stands = λ more. refl; short = omega arith };
  at_is = omega arith;
  few = omega arith;
}

pub blocks_go_on : (w : Width) (values : List ℤ) (old mid new : List ℕ) (at : ℕ) → at < length values → PutBlock w values at mid new → AreBegun w values old mid at
    → AreBegun w values old new (at + block_count values at)
blocks_go_on w values old mid new at lt put p =
    let c = p.count in
    let Block = λ (b : ℕ). deltas_from w values (128 * b) in
    let first : at - 1 ≡ 128 * c = omega (arith, p.at_is, lt) in
    let more = 14 + 32 * byte_len w * ((block_count values at + 31) / 32) in
    let here : Appends (λ bytes used. IsWrittenBlock w bytes (Block c) used) more mid new = subst (λ (i : ℕ). Appends (λ bytes used. IsWrittenBlock w bytes (deltas_from w values i) used) more mid new) first put in
    let both = appends_turn (IsWrittenBlock w) (map Block (range_with_len 0 c)) (Block c) p.most more old mid new p.written here in
    record {
      count = c + 1;
      most = p.most + more;
      written = subst (λ (ys : List (List ℤ)). Appends (λ bytes used. InTurn (IsWrittenBlock w) bytes ys used) (p.most + more) old new) (sym (map-range_with_len_more Block 0 c c (omega arith))) both;
      at_is = omega (arith, p.at_is, lt);
      few = omega (arith, p.at_is, lt);
    }

-- the header, each varint as short as can be
pub written_header : (n number : ℕ) (first : ℤ) (old one mid new : List ℕ) → zigzag_of first ≡ number → one ≡ old ++ 128 ∷ 1 ∷ 4 ∷ [] → Appends (λ bytes used. IsShortestUleb bytes n used) 10 one mid
    → Appends (λ bytes used. IsShortestUleb bytes number used) 10 mid new → Appends (λ bytes used. InTurn IsShortestUleb bytes (128 ∷ 4 ∷ n ∷ zigzag_of first ∷ []) used) 23 old new
written_header n number first old one mid new is begun a b =
    let start : Appends (λ bytes used. InTurn IsShortestUleb bytes (128 ∷ 4 ∷ []) used) 3 old one = record {
      text = 128 ∷ 1 ∷ 4 ∷ [];
      joined = begun;
      stands = λ more. (2, 1, block_size more, (1, 0, parts more, refl, omega arith), omega arith);
      short = omega arith;
    } in
    let counted = appends_turn IsShortestUleb (128 ∷ 4 ∷ []) n 3 10 old one mid start a in
    let whole = appends_turn IsShortestUleb (128 ∷ 4 ∷ n ∷ []) number (3 + 10) 10 old mid new counted b in
    subst (λ (z : ℕ). Appends (λ bytes used. InTurn IsShortestUleb bytes (128 ∷ 4 ∷ n ∷ z ∷ []) used) 23 old new) (sym is) whole
  where
    block_size : (more : List ℕ) → IsShortestUleb (128 ∷ 1 ∷ 4 ∷ more) 128 2
    block_size more = record { spelled = two 128 1 128 (4 ∷ more) (omega arith) (omega arith) (omega arith) refl; shortest = inr (omega arith) }

    parts : (more : List ℕ) → IsShortestUleb (4 ∷ more) 4 1
    parts more = record { spelled = short 4 more (omega arith); shortest = inl refl }

-- the one bound of the text that was written
same_bound : (P Q : List ℕ → ℕ → Type 0) (most other : ℕ) (old new : List ℕ) → Appends P most old new → Appends Q other old new → Appends P other old new
same_bound P Q most other old new p q =
    let e : p.text ≡ q.text = append_cancel_left old p.text q.text (sym p.joined ∙ q.joined) in
    record { text = p.text; joined = p.joined; stands = p.stands; short = omega (arith, ap (λ (t : List ℕ). length t) e, q.short) }

pub blocks_end : (w : Width) (values : List ℤ) (first : ℤ) (at : ℕ) (old mid new : List ℕ) → length values ≤ at → slice_index_or values 0 (pos 0) ≡ first
    → Appends (λ bytes used. InTurn IsShortestUleb bytes (128 ∷ 4 ∷ length values ∷ zigzag_of first ∷ []) used) 23 old mid → AreBegun w values mid new at → AppendsDelta w values old new
    → AppendsWrittenDelta w values old new
blocks_end w values first at old mid new all first_is header p stands =
    let n = length values in
    let count : p.count ≡ (n - 1 + 127) / 128 = omega (arith, all, p.at_is, p.few) in
    let head : Appends (λ bytes used. InTurn IsShortestUleb bytes (128 ∷ 4 ∷ n ∷ zigzag_of (slice_index_or values 0 (pos 0)) ∷ []) used) 23 old mid =
    subst (λ (z : ℤ). Appends (λ bytes used. InTurn IsShortestUleb bytes (128 ∷ 4 ∷ n ∷ zigzag_of z ∷ []) used) 23 old mid) (sym first_is) header in
    let blocks : Appends (λ bytes used. InTurn (IsWrittenBlock w) bytes (blocks_of w values) used) p.most mid new =
    subst (λ (c : ℕ). Appends (λ bytes used. InTurn (IsWrittenBlock w) bytes (map (λ b. deltas_from w values (128 * b)) (range_with_len 0 c)) used) p.most mid new) count p.written in
    same_bound (IsWrittenDelta w values) _ (23 + p.most) (most_bytes w n) old new
    (appends_both (λ bytes used. InTurn IsShortestUleb bytes (128 ∷ 4 ∷ n ∷ zigzag_of (slice_index_or values 0 (pos 0)) ∷ []) used) (λ bytes used. InTurn (IsWrittenBlock w) bytes (blocks_of w values) used)
    (IsWrittenDelta w values) 23 p.most old mid new (λ bytes u v a b. record { at = u; body = v; header = a; blocks = b; ends = refl }) head blocks) stands
