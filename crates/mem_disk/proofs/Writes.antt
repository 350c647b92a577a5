-- Bytes that are written behind a node's end, and nodes that are synced.
use Rattle.std.proofs.Common.{◌≡◌, ◌≢◌, ◌<◌, ◌≤◌, ⊎_elim, ℕ, ◌+◌, ◌*◌, ◌/◌, max, min, List, [], ◌∷◌, ◌++◌, length, take, Bool, true, false, if◌then◌else◌, ◌==◌, refl, sym, ◌∙◌, ap, subst, arith, length-append}
use Rattle.std.proofs.lemmas.List.{take_all, take-append-le, length-take}
use Rattle.lists.proofs.Slices.{take_twice as take_front}
use Rattle.disk.specs.State.{Image}
use Rattle.disk.specs.Calls.{Tears}
use Rattle.mem_disk.specs.Loose.{Loose, appended, node_synced, node_doubted, image_of, MayHold, MayLeave, IsSound}
use Rattle.mem_disk.specs.Laws.{holds_now}
use Rattle.mem_disk.proofs.Choices.{equal_or_not, at_node, at_other_node}

pub sector_le : (n : ℕ) → 512 * (n / 512) ≤ n
sector_le n = omega arith

sectors_le : (n m : ℕ) → n ≤ m → 512 * (n / 512) ≤ m
sectors_le n m le = let small = sector_le n in omega (arith, small, le)

no_more : (more : List ℕ) → length more ≡ 0 → more ≡ []
no_more [] e = refl
no_more (x ∷ more) e = absurd (omega (arith, e))

nothing_behind : (now : List ℕ) → now ++ [] ≡ now
nothing_behind [] = refl
nothing_behind (x ∷ now) = ap (λ (xs : List ℕ). x ∷ xs) (nothing_behind now)

-- what a node may have held before more was written
record Torn (synced : ℕ) (now bytes : List ℕ) (count : ℕ) : Type 0 where
  was : List ℕ
  holds : MayHold synced now was
  sectors : take (512 * (length now / 512)) bytes ≡ take (512 * (length now / 512)) was
  no_shorter : length was ≤ length bytes
  no_longer : length bytes ≤ max (length was) (length now + count)
  untouched : count ≡ 0 → bytes ≡ was

module _ (synced : ℕ) (now more bytes : List ℕ) (count : ℕ) (within : synced ≤ length now) (most : length more ≤ count) (may : MayHold synced (now ++ more) bytes) where
  long : length (now ++ more) ≡ length now + length more
  long = length-append now more

  none_more : count ≡ 0 → now ++ more ≡ now
  none_more e = ap (λ (xs : List ℕ). now ++ xs) (no_more more (omega (arith, e, most))) ∙ nothing_behind now

  torn_whole : synced ≡ length now → Torn synced now bytes count
  torn_whole e = record {
    was = now;
    holds = holds_now synced now within;
    sectors = ap (λ (n : ℕ). take (512 * (n / 512)) bytes) (sym e) ∙ may.sectors ∙ take-append-le (512 * (synced / 512)) now more (sectors_le synced (length now) within) ∙ ap (λ (n : ℕ). take (512 * (n / 512)) now) e;
    no_shorter = let least = may.no_shorter in omega (arith, e, least);
    no_longer = let longest = may.no_longer in omega (arith, long, longest, most);
    untouched = λ z. may.untouched (e ∙ sym (ap length (none_more z))) ∙ none_more z;
  }

  torn_cut : synced ≢ length now → Torn synced now bytes count
  torn_cut ne =
      let size : length (take (length now) bytes) ≡ min (length now) (length bytes) = length-take (length now) bytes in
      record {
        was = take (length now) bytes;
        holds = record {
          sectors = take_front (512 * (synced / 512)) (length now) bytes (sectors_le synced (length now) within) ∙ may.sectors ∙ take-append-le (512 * (synced / 512)) now more (sectors_le synced (length now) within);
          no_shorter = let least = may.no_shorter in omega (arith, size, least, within);
          no_longer = omega (arith, size);
          untouched = λ e. absurd (ne e);
        };
        sectors = sym (take_front (512 * (length now / 512)) (length now) bytes (sector_le (length now)));
        no_shorter = omega (arith, size);
        no_longer = let longest = may.no_longer in omega (arith, size, long, longest, most);
        untouched = λ z. let longest = may.no_longer in let same = ap length (none_more z) in sym (take_all (length now) bytes (omega (arith, longest, same)));
      }

  torn : Torn synced now bytes count
  torn = ⊎_elim (λ e. torn_whole e.0) (λ ne. torn_cut ne.0) (equal_or_not synced (length now))

at_held : {A : Type 0} (P : A → Type 0) (t : Bool) (a b : A) → (t ≡ true → P a) → (t ≡ false → P b) → P (if t then a else b)
at_held P true a b one other = one refl
at_held P false a b one other = other refl

module _ (l : Loose) (node : ℕ) (more : List ℕ) where
  pub appended_bytes : (appended l node more).bytes node ≡ l.bytes node ++ more
  appended_bytes = at_node node node (l.bytes node ++ more) (l.bytes node) refl

  pub appended_beside : (n : ℕ) → n ≢ node → (appended l node more).bytes n ≡ l.bytes n
  appended_beside n ne = at_other_node n node (l.bytes n ++ more) (l.bytes n) ne

  pub appended_sound : (count : ℕ) → node < count → IsSound l count → IsSound (appended l node more) count
  appended_sound count lt sound = record {
    whole = record { top = sound.whole.top; below = sound.whole.below };
    grounded = sound.grounded;
    synced = λ n. at_held (λ (xs : List ℕ). l.synced n ≤ length xs) (n == node) (l.bytes n ++ more) (l.bytes n)
        (λ _. let le = sound.synced n in let long = length-append (l.bytes n) more in omega (arith, le, long))
        (λ _. sound.synced n);
    named = sound.named;
    empty = λ n ge. appended_beside n (λ e. omega (arith, e, ge, lt)) ∙ sound.empty n ge;
    sure = sound.sure;
  }

  module _ (count : ℕ) (most : length more ≤ count) where
    pub appended_reads : Tears node (length (l.bytes node)) count (image_of l) (image_of (appended l node more))
    appended_reads =
        let at = appended_bytes in
        let long : length ((appended l node more).bytes node) ≡ length (l.bytes node) + length more = ap length at ∙ length-append (l.bytes node) more in
        record {
          names = λ q. refl;
          nodes = appended_beside;
          sectors = ap (take (512 * (length (l.bytes node) / 512))) at ∙ take-append-le (512 * (length (l.bytes node) / 512)) (l.bytes node) more (sector_le (length (l.bytes node)));
          no_shorter = omega (arith, long);
          no_longer = omega (arith, long, most);
          untouched = λ z. at ∙ ap (λ (xs : List ℕ). l.bytes node ++ xs) (no_more more (omega (arith, z, most))) ∙ nothing_behind (l.bytes node);
        }

    pub appended_from : (nodes : ℕ) → IsSound l nodes → (c : Image) → MayLeave (appended l node more) c → (d : Image) × MayLeave l d × Tears node (length (l.bytes node)) count d c
    appended_from nodes sound c may =
        let held : MayHold (l.synced node) (l.bytes node ++ more) (c.bytes node) = subst (λ (xs : List ℕ). MayHold (l.synced node) xs (c.bytes node)) appended_bytes (may.holds node) in
        let t = torn (l.synced node) (l.bytes node) more (c.bytes node) count (sound.synced node) most held in
        let d : Image = record { names = c.names; bytes = λ n. if n == node then t.was else c.bytes n } in
        let at : d.bytes node ≡ t.was = at_node node node t.was (c.bytes node) refl in
        let back : MayLeave l d = record {
          whole = record { top = may.whole.top; below = may.whole.below };
          named = may.named;
          holds = λ n. ⊎_elim
              (λ yes. subst (λ (xs : List ℕ). MayHold (l.synced n) (l.bytes n) xs) (sym (at_node n node t.was (c.bytes n) yes.0)) (subst (λ (m : ℕ). MayHold (l.synced m) (l.bytes m) t.was) (sym yes.0) t.holds))
              (λ beside. subst (λ (xs : List ℕ). MayHold (l.synced n) (l.bytes n) xs) (sym (at_other_node n node t.was (c.bytes n) beside.0))
              (subst (λ (xs : List ℕ). MayHold (l.synced n) xs (c.bytes n)) (appended_beside n beside.0) (may.holds n)))
              (equal_or_not n node);
        } in
        let tears : Tears node (length (l.bytes node)) count d c = record {
          names = λ q. refl;
          nodes = λ n ne. sym (at_other_node n node t.was (c.bytes n) ne);
          sectors = t.sectors ∙ ap (take (512 * (length (l.bytes node) / 512))) (sym at);
          no_shorter = let less = t.no_shorter in let same = ap length at in omega (arith, less, same);
          no_longer = let less = t.no_longer in let same = ap length at in omega (arith, less, same);
          untouched = λ z. t.untouched z ∙ sym at;
        } in
        (d, back, tears)

module _ (l : Loose) (node : ℕ) where
  pub synced_sound : (count : ℕ) → IsSound l count → IsSound (node_synced l node) count
  synced_sound count sound = record {
    whole = record { top = sound.whole.top; below = sound.whole.below };
    grounded = sound.grounded;
    synced = λ n. at_held (λ (k : ℕ). k ≤ length (l.bytes n)) (n == node) (length (l.bytes n)) (l.synced n) (λ _. omega arith) (λ _. sound.synced n);
    named = sound.named;
    empty = sound.empty;
    sure = sound.sure;
  }

  -- its bytes are firm
  pub synced_firm : (c : Image) → MayLeave (node_synced l node) c → c.bytes node ≡ l.bytes node
  synced_firm c may = (may.holds node).untouched (at_node node node (length (l.bytes node)) (l.synced node) refl)

  pub synced_from : (count : ℕ) → IsSound l count → (c : Image) → MayLeave (node_synced l node) c → MayLeave l c
  synced_from count sound c may = record {
    whole = may.whole;
    named = may.named;
    holds = λ n. ⊎_elim
        (λ yes. subst (λ (xs : List ℕ). MayHold (l.synced n) (l.bytes n) xs) (sym ((may.holds n).untouched (at_node n node (length (l.bytes n)) (l.synced n) yes.0))) (holds_now (l.synced n) (l.bytes n) (sound.synced n)))
        (λ beside. subst (λ (k : ℕ). MayHold k (l.bytes n) (c.bytes n)) (at_other_node n node (length (l.bytes n)) (l.synced n) beside.0) (may.holds n))
        (equal_or_not n node);
  }

  pub doubted_sound : (count : ℕ) → node < count → IsSound l count → IsSound (node_doubted l node) count
  doubted_sound count lt sound = record {
    whole = record { top = sound.whole.top; below = sound.whole.below };
    grounded = sound.grounded;
    synced = sound.synced;
    named = sound.named;
    empty = sound.empty;
    sure = λ n ge. at_other_node n node true (l.doubted n) (λ e. omega (arith, e, ge, lt)) ∙ sound.sure n ge;
  }

  pub doubted_from : (c : Image) → MayLeave (node_doubted l node) c → MayLeave l c
  doubted_from c may = record { whole = may.whole; named = may.named; holds = may.holds }

  pub doubted_leaves : (c : Image) → MayLeave l c → MayLeave (node_doubted l node) c
  doubted_leaves c may = record { whole = may.whole; named = may.named; holds = may.holds }
