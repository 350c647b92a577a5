-- The parts of a file's bytes: before the footer, the footer, its length, and the magic.
use Rattle.std.proofs.Common.{◌≡◌, ℕ, ◌+◌, ◌-◌, ◌<◌, ◌≤◌, ◌^◌, List, ◌++◌, length, get_or, take, drop, refl, sym, ap, ◌∙◌, arith, append_assoc, length-append}
use Rattle.std.proofs.lemmas.List.{length-take-le, length-drop, take_at, drop_at, take-append-drop, take-take, length-take, get_or-take, get_or-drop, get_or_past, drop-drop}
use Rattle.std.proofs.Common.{inl, inr}
use Rattle.std.proofs.lemmas.Bool.{cases_lt}
use Rattle.std.proofs.lemmas.Nat.{le_bytes_4}
use Rattle.byteorder.specs.Endian.{little_bytes, little_number}
use Rattle.byteorder.specs.Numbers.{little_number-reads_back}
use Rattle.footer.specs.Greatest.{most_of_file, most_of_footer}
use Rattle.footer.specs.File.{magic, IsFramed}
use Rattle.footer.specs.Faults.{AnnouncesLongFooter, IsLong, long_file, long_footer}

-- what a frame says of the bytes: `head` is all but the last eight, `announced` the next four
pub record Parts (bytes front footer : List ℕ) : Type 0 where
  pub enough : 12 ≤ length bytes
  pub sized : length bytes ≡ length front + length footer + 8
  pub head : take (length bytes - 8) bytes ≡ front ++ footer
  pub tail : drop (length bytes - 8) bytes ≡ little_bytes 4 (length footer) ++ magic
  pub first : take 4 bytes ≡ magic
  pub long : 4 ≤ length front

pub parts : (bytes front footer : List ℕ) → IsFramed bytes front footer → Parts bytes front footer
parts bytes front footer p =
    let four : length (little_bytes 4 (length footer)) ≡ 4 = refl in
    let size : length front ≡ 4 + length p.chunks = ap length p.begins ∙ length-append magic p.chunks in
    let joined : bytes ≡ (front ++ footer) ++ (little_bytes 4 (length footer) ++ magic) = p.joined ∙ append_assoc (front ++ footer) (little_bytes 4 (length footer)) magic in
    let total : length bytes ≡ length front + length footer + 8 = omega (arith, ap length joined, length-append (front ++ footer) (little_bytes 4 (length footer) ++ magic), length-append front footer, length-append (little_bytes 4 (length footer)) magic) in
    let at : length (front ++ footer) ≡ length bytes - 8 = omega (arith, total, length-append front footer) in
    record {
      enough = omega (arith, total, size);
      sized = total;
      head = ap (λ b. take (length bytes - 8) b) joined ∙ take_at (front ++ footer) (little_bytes 4 (length footer) ++ magic) (length bytes - 8) at;
      tail = ap (λ b. drop (length bytes - 8) b) joined ∙ drop_at (front ++ footer) (little_bytes 4 (length footer) ++ magic) (length bytes - 8) at;
      first = ap (take 4) (p.joined ∙ ap (λ f. f ++ footer ++ little_bytes 4 (length footer) ++ magic) p.begins);
      long = omega (arith, size);
    }

-- the length that stands before the last magic
pub announced : (bytes front footer : List ℕ) → IsFramed bytes front footer → little_number 4 (drop (length bytes - 8) bytes) ≡ length footer
announced bytes front footer p = ap (little_number 4) (parts bytes front footer p).tail ∙ little_number-reads_back 4 (length footer) magic (let e = p.short in omega (arith, e))

pub last : (bytes front footer : List ℕ) → IsFramed bytes front footer → drop (length bytes - 4) bytes ≡ magic
last bytes front footer p =
    let q = parts bytes front footer p in
    let at : length bytes - 4 ≡ length bytes - 8 + 4 = let e = q.enough in omega (arith, e) in
    ap (λ n. drop n bytes) at ∙ sym (drop-drop 4 (length bytes - 8) bytes) ∙ ap (drop 4) q.tail ∙ drop_at (little_bytes 4 (length footer)) magic 4 refl

-- bytes have one frame
pub one_frame : (bytes f g a b : List ℕ) → IsFramed bytes f a → IsFramed bytes g b → (f ≡ g) × (a ≡ b)
one_frame bytes f g a b p q =
    let x = parts bytes f a p in
    let y = parts bytes g b q in
    let size : length a ≡ length b = sym (announced bytes f a p) ∙ announced bytes g b q in
    let long : length f ≡ length g = omega (arith, x.sized, y.sized, size) in
    let same : f ++ a ≡ g ++ b = sym x.head ∙ y.head in
    (sym (take_at f a (length f) refl) ∙ ap (take (length f)) same ∙ take_at g b (length f) (sym long), sym (drop_at f a (length f) refl) ∙ ap (drop (length f)) same ∙ drop_at g b (length f) (sym long))

-- each place of a part of bytes is a byte
bytes_of_part : (bytes : List ℕ) (n : ℕ) → ((i : ℕ) → get_or bytes i 0 < 256) → (i : ℕ) → get_or (take 4 (drop n bytes)) i 0 < 256
bytes_of_part bytes n are i =
    elim (cases_lt i 4) [
      | inl lt ↦ rw (get_or-take 4 (drop n bytes) i 0 lt, get_or-drop n bytes i 0) (are (n + i))
      | inr past ↦ rw (get_or_past (take 4 (drop n bytes)) i 0 (let le = length-take 4 (drop n bytes) in omega (arith, past, le))) (omega arith)
    ]

-- four bytes are the bytes of their number
announced_is : (tail : List ℕ) → length tail ≡ 8 → ((i : ℕ) → get_or (take 4 tail) i 0 < 256) → little_bytes 4 (little_number 4 tail) ≡ take 4 tail
announced_is tail eight are =
    let four : length (take 4 tail) ≡ 4 = length-take-le 4 tail (omega (arith, eight)) in
    let number : little_number 4 tail ≡ little_number 4 (take 4 tail) = let a = get_or-take 4 tail 0 0 (omega arith) in let b = get_or-take 4 tail 1 0 (omega arith) in let d = get_or-take 4 tail 2 0 (omega arith) in let e = get_or-take 4 tail 3 0 (omega arith) in omega (arith, a, b, d, e) in
    ap (little_bytes 4) number ∙ le_bytes_4 (take 4 tail) (little_number 4 (take 4 tail)) four are (omega arith)

-- bytes that begin and end with the magic: their last eight
pub tail_is : (bytes : List ℕ) → ((i : ℕ) → get_or bytes i 0 < 256) → 12 ≤ length bytes → drop (length bytes - 4) bytes ≡ magic
    → drop (length bytes - 8) bytes ≡ little_bytes 4 (little_number 4 (drop (length bytes - 8) bytes)) ++ magic
tail_is bytes are enough ends =
    let tail = drop (length bytes - 8) bytes in
    let eight : length tail ≡ 8 = omega (arith, length-drop (length bytes - 8) bytes, enough) in
    let at : length bytes - 4 ≡ length bytes - 8 + 4 = omega (arith, enough) in
    let end : drop 4 tail ≡ magic = drop-drop 4 (length bytes - 8) bytes ∙ sym (ap (λ n. drop n bytes) at) ∙ ends in
    sym (take-append-drop 4 tail) ∙ ap (λ t. t ++ drop 4 tail) (sym (announced_is tail eight (bytes_of_part bytes (length bytes - 8) are))) ∙ ap (λ t. little_bytes 4 (little_number 4 tail) ++ t) end

-- a footer of the announced size is framed
pub framed : (bytes : List ℕ) → ((i : ℕ) → get_or bytes i 0 < 256) → 12 ≤ length bytes → take 4 bytes ≡ magic → drop (length bytes - 4) bytes ≡ magic
    → (size : ℕ) → size ≡ little_number 4 (drop (length bytes - 8) bytes) → size < 2 ^ 32 → size + 4 ≤ length bytes - 8
    → IsFramed bytes (take (length bytes - 8 - size) (take (length bytes - 8) bytes)) (drop (length bytes - 8 - size) (take (length bytes - 8) bytes))
framed bytes are enough first ends size is short fits =
    let head = take (length bytes - 8) bytes in
    let tail = drop (length bytes - 8) bytes in
    let k = length bytes - 8 - size in
    let head_size : length head ≡ length bytes - 8 = length-take-le (length bytes - 8) bytes (omega (arith, enough)) in
    let footer_size : length (drop k head) ≡ size = omega (arith, length-drop k head, head_size, fits) in
    let begin : take 4 (take k head) ≡ magic = take-take 4 k head (omega (arith, fits)) ∙ take-take 4 (length bytes - 8) bytes (omega (arith, fits)) ∙ first in
    let ending : tail ≡ little_bytes 4 (length (drop k head)) ++ magic = tail_is bytes are enough ends ∙ ap (λ n. little_bytes 4 n ++ magic) (sym is ∙ sym footer_size) in
    record {
      chunks = drop 4 (take k head);
      begins = sym (take-append-drop 4 (take k head)) ∙ ap (λ t. t ++ drop 4 (take k head)) begin;
      short = rw footer_size short;
      joined = sym (take-append-drop (length bytes - 8) bytes)
          ∙ ap (λ h. h ++ tail) (sym (take-append-drop k head))
          ∙ ap (λ t. take k head ++ drop k head ++ t) ending
          ∙ sym (append_assoc (take k head ++ drop k head) (little_bytes 4 (length (drop k head))) magic);
    }

-- a footer of more than its announced size is none
pub not_framed : (bytes : List ℕ) → (front footer : List ℕ) → IsFramed bytes front footer → (size : ℕ) → size ≡ little_number 4 (drop (length bytes - 8) bytes) → length bytes - 8 < size + 4 → ⊥
not_framed bytes front footer p size is long =
    let q = parts bytes front footer p in
    let a = announced bytes front footer p in
    let b = q.sized in
    let d = q.long in
    omega (arith, a, b, d, is, long)

-- an announced length over the limit
pub over : (bytes : List ℕ) → ((i : ℕ) → get_or bytes i 0 < 256) → 12 ≤ length bytes → take 4 bytes ≡ magic → drop (length bytes - 4) bytes ≡ magic
    → (size : ℕ) → size ≡ little_number 4 (drop (length bytes - 8) bytes) → size < 2 ^ 32 → most_of_footer < size → AnnouncesLongFooter bytes
over bytes are enough first ends size is short much =
    let head = take (length bytes - 8) bytes in
    let tail = drop (length bytes - 8) bytes in
    let begin : take 4 head ≡ magic = take-take 4 (length bytes - 8) bytes (omega (arith, enough)) ∙ first in
    record {
      before = drop 4 head;
      size = size;
      short = short;
      announced = sym (take-append-drop (length bytes - 8) bytes)
          ∙ ap (λ h. h ++ tail) (sym (take-append-drop 4 head) ∙ ap (λ t. t ++ drop 4 head) begin)
          ∙ ap (λ t. magic ++ drop 4 head ++ t) (tail_is bytes are enough ends ∙ ap (λ n. little_bytes 4 n ++ magic) (sym is))
          ∙ sym (append_assoc (magic ++ drop 4 head) (little_bytes 4 size) magic);
      over = much;
    }

-- the announced length is the one that stands before the last magic
not_over : (bytes : List ℕ) (size : ℕ) → size ≡ little_number 4 (drop (length bytes - 8) bytes) → size ≤ most_of_footer → AnnouncesLongFooter bytes → ⊥
not_over bytes size is few a =
    let end = little_bytes 4 a.size ++ magic in
    let joined : bytes ≡ (magic ++ a.before) ++ end = a.announced ∙ append_assoc (magic ++ a.before) (little_bytes 4 a.size) magic in
    let at : length (magic ++ a.before) ≡ length bytes - 8 = omega (arith, ap length joined, length-append (magic ++ a.before) end) in
    let tail : drop (length bytes - 8) bytes ≡ end = ap (λ (t : List ℕ). drop (length bytes - 8) t) joined ∙ drop_at (magic ++ a.before) end (length bytes - 8) at in
    let small = a.short in
    let over = a.over in
    let same : little_number 4 (drop (length bytes - 8) bytes) ≡ a.size = ap (little_number 4) tail ∙ little_number-reads_back 4 a.size magic (omega (arith, small)) in
    omega (arith, same, is, few, over)

-- neither the file nor its footer is too long
pub not_long : (bytes : List ℕ) (size : ℕ) → length bytes ≤ most_of_file → size ≡ little_number 4 (drop (length bytes - 8) bytes) → size ≤ most_of_footer → IsLong bytes → ⊥
not_long bytes size short is few (long_file long) = omega (arith, short, long)
not_long bytes size short is few (long_footer announced) = not_over bytes size is few announced
