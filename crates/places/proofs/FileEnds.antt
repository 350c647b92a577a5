-- A file and its ends have one footer.
use Rattle.std.proofs.Common.{◌≡◌, ℕ, ◌+◌, ◌-◌, ◌≤◌, List, ◌++◌, [], length, take, drop, refl, sym, ap, ◌∙◌, arith, append_assoc, length-append}
use Rattle.std.proofs.lemmas.List.{length-take-le, length-drop, take_at, drop_at, take-append-drop, take-take, drop-drop}
use Rattle.byteorder.specs.Endian.{little_bytes, little_number}
use Rattle.byteorder.specs.Numbers.{little_number-reads_back}
use Rattle.footer.specs.File.{magic, IsFramed}
use Rattle.places.specs.FileEnds.{ends, announces, EndsHaveTheFooter}

-- what a frame says of the bytes, seen from both ends
record Seen (bytes front footer : List ℕ) : Type 0 where
  pub sized : length bytes ≡ length front + length footer + 8
  pub long : 4 ≤ length front
  pub first : take 4 bytes ≡ magic
  pub rest : (n : ℕ) → n ≡ length front → drop n bytes ≡ footer ++ (little_bytes 4 (length footer) ++ magic)
  pub announced : announces bytes ≡ length footer

seen : (bytes front footer : List ℕ) → IsFramed bytes front footer → Seen bytes front footer
seen bytes front footer p =
    let size : length front ≡ 4 + length p.chunks = ap length p.begins ∙ length-append magic p.chunks in
    let last = little_bytes 4 (length footer) ++ magic in
    let eight : length last ≡ 8 = refl in
    let whole : bytes ≡ (front ++ footer) ++ last = p.joined ∙ append_assoc (front ++ footer) (little_bytes 4 (length footer)) magic in
    let joined : bytes ≡ front ++ (footer ++ last) = whole ∙ append_assoc front footer last in
    let total : length bytes ≡ length front + length footer + 8 = omega (arith, ap length whole, length-append (front ++ footer) last, length-append front footer, eight) in
    let at : length (front ++ footer) ≡ length bytes - 8 = omega (arith, total, length-append front footer) in
    let tail : drop (length bytes - 8) bytes ≡ last = ap (λ b. drop (length bytes - 8) b) whole ∙ drop_at (front ++ footer) last (length bytes - 8) at in
    record {
      sized = total;
      long = omega (arith, size);
      first = ap (take 4) (p.joined ∙ ap (λ f. f ++ footer ++ little_bytes 4 (length footer) ++ magic) p.begins);
      rest = λ n is. ap (λ b. drop n b) joined ∙ drop_at front (footer ++ last) n (sym is);
      announced = ap (little_number 4) tail ∙ little_number-reads_back 4 (length footer) magic (let e = p.short in omega (arith, e));
    }

there : (file : List ℕ) → (front footer : List ℕ) → IsFramed file front footer → IsFramed (ends (announces file) file) magic footer
there file front footer p =
    let q = seen file front footer p in
    let n = length file - (announces file + 8) in
    let at : n ≡ length front = omega (arith, q.sized, q.announced) in
    let last = little_bytes 4 (length footer) ++ magic in
    record {
      chunks = [];
      begins = refl;
      short = p.short;
      joined = ap (λ t. t ++ drop n file) q.first ∙ ap (λ t. magic ++ t) (q.rest n at)
          ∙ sym (append_assoc magic footer last) ∙ sym (append_assoc (magic ++ footer) (little_bytes 4 (length footer)) magic);
    }

-- the same bytes are the last eight of both
same_end : (file : List ℕ) (size : ℕ) → size + 12 ≤ length file → announces (ends size file) ≡ announces file
same_end file size fits =
    let n = length file - (size + 8) in
    let tail = drop n file in
    let four : length (take 4 file) ≡ 4 = length-take-le 4 file (omega (arith, fits)) in
    let long : length tail ≡ size + 8 = omega (arith, length-drop n file, fits) in
    let total : length (ends size file) ≡ size + 12 = omega (arith, length-append (take 4 file) tail, four, long) in
    let at : length (ends size file) - 8 ≡ 4 + size = omega (arith, total) in
    let past : drop 4 (ends size file) ≡ tail = drop_at (take 4 file) tail 4 four in
    let here : n + size ≡ length file - 8 = omega (arith, fits) in
    ap (little_number 4) (ap (λ k. drop k (ends size file)) at ∙ sym (drop-drop size 4 (ends size file)) ∙ ap (drop size) past ∙ drop-drop size n file ∙ ap (λ k. drop k file) here)

back : (file : List ℕ) → announces file + 12 ≤ length file → (front footer : List ℕ) → IsFramed (ends (announces file) file) front footer
    → (before : List ℕ) × IsFramed file before footer
back file fits front footer p =
    let size = announces file in
    let n = length file - (size + 8) in
    let tail = drop n file in
    let other = ends size file in
    let q = seen other front footer p in
    let four : length (take 4 file) ≡ 4 = length-take-le 4 file (omega (arith, fits)) in
    let long : length tail ≡ size + 8 = omega (arith, length-drop n file, fits) in
    let total : length other ≡ size + 12 = omega (arith, length-append (take 4 file) tail, four, long) in
    let same : size ≡ length footer = sym (same_end file size fits) ∙ q.announced in
    let at : length front ≡ 4 = omega (arith, q.sized, total, same) in
    let last = little_bytes 4 (length footer) ++ magic in
    let first : take 4 file ≡ magic = sym (take_at (take 4 file) tail 4 four) ∙ q.first in
    let rest : tail ≡ footer ++ last = sym (drop_at (take 4 file) tail 4 four) ∙ q.rest 4 (sym at) in
    let begin : take 4 (take n file) ≡ magic = take-take 4 n file (omega (arith, fits)) ∙ first in (
      take n file,
      record {
        chunks = drop 4 (take n file);
        begins = sym (take-append-drop 4 (take n file)) ∙ ap (λ t. t ++ drop 4 (take n file)) begin;
        short = p.short;
        joined = sym (take-append-drop n file) ∙ ap (λ t. take n file ++ t) rest
            ∙ sym (append_assoc (take n file) footer last) ∙ sym (append_assoc (take n file ++ footer) (little_bytes 4 (length footer)) magic);
      },
    )

pub one_footer : EndsHaveTheFooter
one_footer file fits = record { there = there file; back = back file fits }
