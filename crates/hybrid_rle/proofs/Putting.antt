-- Runs that are written.
use Rattle.std.proofs.Common.{take-add, ◌≡◌, ℕ, zero, suc, ◌+◌, ◌-◌, ◌*◌, ◌/◌, ◌%◌, ◌^◌, ◌<◌, ◌≤◌, List, [], ◌∷◌, ◌++◌, length, get_or, set, map, take, drop, replicate, refl, sym, ap, subst, ◌∙◌, arith, ◌⊎◌, inl, inr, append_assoc}
use Rattle.std.specs.Prelude.{All, min, Result, Ok, Err}
use Rattle.std.proofs.lemmas.List.{drop_at, take_all, drop_all, take-take, take-append-le, drop-append-le, length-append, length-take-le, length-drop, append-nil, drop-drop, take-append-drop, length-replicate, get_or_append_left, get_or-append_right, take_more, get_or-map, set-append_right, take-replicate}
use Rattle.std.proofs.lemmas.List.Elements.{All-append, All-take, All-drop, All-replicate}
use Rattle.std.proofs.lemmas.Nat.{pow_pos}
use Rattle.std.proofs.lemmas.Bool.{cases_lt}
use Rattle.std.proofs.Math.Nat.{mul-le-mul_left, pow-suc}
use Rattle.bits.specs.declared.refusal.Refusal.{Refusal}
use Rattle.bits.specs.Refusals.{OnFault}
use Rattle.bits.specs.Codec.{Appends}
use Rattle.bits.specs.Bits.{bits, number, IsPacked, IsPadded, packed_size}
use Rattle.bits.specs.Varint.{IsShortestUleb}
use Rattle.bits.proofs.BitLists.{length-bits, bits-append}
use Rattle.hybrid_rle.specs.Hybrid.{little_endian, IsHybrid}
use Rattle.hybrid_rle.specs.inner.Put.{with_zeros, filled_up, IsPacking, IsPut}
use Rattle.hybrid_rle.proofs.Hybrids.{hybrid_cons, hybrid_end, take_both}

-- what a fault says, and what follows from it
pub fault_says : {X P Q : Type 0} (r : Result X Refusal) → (P → Q) → OnFault r P → OnFault r Q
fault_says (Ok x) then p = p
fault_says (Err e) then p = λ fault. then (p fault)

-- a varint that was written, alone
shortest_text : (n most : ℕ) (old new : List ℕ) (p : Appends (λ bytes used. IsShortestUleb bytes n used) most old new) → IsShortestUleb p.text n (length p.text)
shortest_text n most old new p = subst (λ (t : List ℕ). IsShortestUleb t n (length p.text)) (append-nil p.text) (p.stands [])

-- ---- a repeated run

-- the number at an index
pub seen_at : {A : Type 0} (seen : A → ℕ) (ns : List A) (i : ℕ) (n : A) → i < length ns → n ≡ get_or ns i n → get_or (map seen ns) i 0 ≡ seen n
seen_at seen ns i n lt is = get_or-map seen ns i n 0 lt ∙ ap seen (sym is)

replicate_push : (n x : ℕ) → replicate n x ++ x ∷ [] ≡ replicate (suc n) x
replicate_push zero x = refl
replicate_push (suc n) x = ap (λ (t : List ℕ). x ∷ t) (replicate_push n x)

-- one more that is equal to the first
pub equal_more : (xs : List ℕ) (i : ℕ) → i < length xs → get_or xs i 0 ≡ get_or xs 0 0 → take i xs ≡ replicate i (get_or xs 0 0) → take (i + 1) xs ≡ replicate (i + 1) (get_or xs 0 0)
equal_more xs i lt same so_far =
    take_more xs i 0 lt ∙ ap (λ (t : List ℕ). t ++ get_or xs i 0 ∷ []) so_far ∙ ap (λ (x : ℕ). replicate i (get_or xs 0 0) ++ x ∷ []) same ∙ replicate_push i (get_or xs 0 0) ∙ ap (λ (k : ℕ). replicate k (get_or xs 0 0)) (let e : suc i ≡ i + 1 = omega arith in e)

pub repeated_put : (w value count : ℕ) (xs old mid new body : List ℕ) → w ≤ 64 → value < 2 ^ w → 8 ≤ count → count ≤ length xs → take count xs ≡ replicate count value
    → Appends (λ bytes used. IsShortestUleb bytes (2 * count) used) 10 old mid → new ≡ mid ++ body → length body ≡ (w + 7) / 8 → little_endian body ≡ value → IsPut w xs old new count
repeated_put w value count xs old mid new body wide narrow many within equal header put size is =
    let varint = header.text in
    let few = header.short in
    let len : length (varint ++ body) ≡ length varint + length body = length-append varint body in
    let full : length (replicate count value) ≡ count = length-replicate count value in
    let says = shortest_text (2 * count) 10 old mid header in
    record {
      text = varint ++ body;
      run = replicate count value;
      joined = put ∙ ap (λ (t : List ℕ). t ++ body) header.joined ∙ append_assoc old varint body;
      stands = λ rest. record {
        varint = varint;
        header = 2 * count;
        body = body;
        spelled = refl;
        says = says.spelled;
        announced = inl (record { count = count; even = refl; size = size; narrow = rw is narrow; stands_for = ap (λ (v : ℕ). replicate count v) (sym is) });
      };
      some = omega arith;
      within = within;
      enough = omega arith;
      first = take_all count (replicate count value) (omega arith) ∙ sym equal;
      exact = λ lt. full;
      short = λ lt. omega arith;
      most = omega arith;
    }

-- ---- a packed run

-- packed numbers after others that fill their bytes
packed_more : (w : ℕ) (a b xs ys : List ℕ) → 8 * length a ≡ length xs * w → IsPacked a w xs → IsPacked b w ys → IsPacked (a ++ b) w (xs ++ ys)
packed_more w a b xs ys full p q = record {
  within =
      let sum : (length xs + length ys) * w ≡ length xs * w + length ys * w = omega arith in
      let q_within = q.within in
      let len = length-append xs ys in
      rw len (omega (arith, sum, length-append a b));
  each = λ i lt. elim (cases_lt i (length xs)) [
    | inl below ↦
        let span : (i + 1) * w - i * w ≡ w = omega arith in
        let here : get_or (xs ++ ys) i 0 ≡ get_or xs i 0 = get_or_append_left xs ys 0 i below in
        let each : get_or xs i 0 ≡ number (take w (drop (i * w) (bits a))) = rw span at (p.each i below) in
        let upto : (i + 1) * w ≤ length xs * w = mul_le (i + 1) (length xs) w (omega arith) in
        let room : i * w + w ≤ length (bits a) = omega (arith, upto, length-bits a) in
        let cut : drop (i * w) (bits a ++ bits b) ≡ drop (i * w) (bits a) ++ bits b = drop-append-le (i * w) (bits a) (bits b) (omega arith) in
        let kept : take w (drop (i * w) (bits a) ++ bits b) ≡ take w (drop (i * w) (bits a)) = take-append-le w (drop (i * w) (bits a)) (bits b) (omega (arith, length-drop (i * w) (bits a))) in
        let same : take w (drop (i * w) (bits (a ++ b))) ≡ take w (drop (i * w) (bits a)) = ap (λ (t : List ℕ). take w (drop (i * w) t)) (bits-append a b) ∙ ap (λ (t : List ℕ). take w t) cut ∙ kept in
        rw span (here ∙ each ∙ ap number (sym same))
    | inr above ↦
        let j = i - length xs in
        let span : (i + 1) * w - i * w ≡ w = omega arith in
        let span_j : (j + 1) * w - j * w ≡ w = omega arith in
        let here : get_or (xs ++ ys) i 0 ≡ get_or ys j 0 = get_or-append_right xs ys (length xs) i 0 refl above in
        let each : get_or ys j 0 ≡ number (take w (drop (j * w) (bits b))) = rw span_j at (q.each j (omega (arith, lt, length-append xs ys))) in
        let where_j : i ≡ length xs + j = omega arith in
        let place : i * w ≡ length (bits a) + j * w = ap (λ (k : ℕ). k * w) where_j ∙ (let sum : (length xs + j) * w ≡ length xs * w + j * w = omega arith in omega (arith, sum, full, length-bits a)) in
        let past : drop (i * w) (bits a ++ bits b) ≡ drop (j * w) (bits b) = ap (λ (k : ℕ). drop k (bits a ++ bits b)) place ∙ sym (drop-drop (j * w) (length (bits a)) (bits a ++ bits b)) ∙ ap (λ (t : List ℕ). drop (j * w) t) (drop_at (bits a) (bits b) (length (bits a)) refl) in
        let same : take w (drop (i * w) (bits (a ++ b))) ≡ take w (drop (j * w) (bits b)) = ap (λ (t : List ℕ). take w (drop (i * w) t)) (bits-append a b) ∙ ap (λ (t : List ℕ). take w t) past in
        rw span (here ∙ each ∙ ap number (sym same))
  ];
}
  where
    mul_le : (m n k : ℕ) → m ≤ n → m * k ≤ n * k
    mul_le m n k le = omega (arith, mul-le-mul_left k le)

-- the header stands at the end, and so many groups of eight
pub record IsGathering (w : ℕ) (xs old new : List ℕ) (at : ℕ) : Type 0 where
  pub varint : List ℕ
  pub body : List ℕ
  pub joined : new ≡ old ++ (varint ++ body)
  pub says : IsShortestUleb varint (2 * ((length xs + 7) / 8) + 1) (length varint)
  pub few : length varint ≤ 10
  pub size : length body ≡ at * w
  pub packed : IsPacked body w (take (8 * at) (with_zeros xs))

pub gathering_begins : (w : ℕ) (xs old new : List ℕ) → Appends (λ bytes used. IsShortestUleb bytes (2 * ((length xs + 7) / 8) + 1) used) 10 old new → IsGathering w xs old new 0
gathering_begins w xs old new header = record {
  varint = header.text;
  body = [];
  joined = header.joined ∙ ap (λ (t : List ℕ). old ++ t) (sym (append-nil header.text));
  says = shortest_text (2 * ((length xs + 7) / 8) + 1) 10 old new header;
  few = header.short;
  size = omega arith;
  packed = record { within = omega arith; each = λ i lt. absurd (omega arith) };
}

length-with_zeros : (xs : List ℕ) → length (with_zeros xs) ≡ length xs + 8
length-with_zeros xs = length-append xs (0 ∷ 0 ∷ 0 ∷ 0 ∷ 0 ∷ 0 ∷ 0 ∷ 0 ∷ [])

pub gathering_more : (w at : ℕ) (xs old mid new group : List ℕ) → at < (length xs + 7) / 8 → group ≡ take 8 (with_zeros (drop (8 * at) xs))
    → Appends (λ bytes used. IsPadded bytes w group used) (packed_size (length group) w) mid new → IsGathering w xs old mid at → IsGathering w xs old new (at + 1)
gathering_more w at xs old mid new group lt is put so_far =
    let zs = with_zeros xs in
    let here : drop (8 * at) zs ≡ with_zeros (drop (8 * at) xs) = drop-append-le (8 * at) xs (0 ∷ 0 ∷ 0 ∷ 0 ∷ 0 ∷ 0 ∷ 0 ∷ 0 ∷ []) (omega arith) in
    let group_is : group ≡ take 8 (drop (8 * at) zs) = is ∙ ap (λ (t : List ℕ). take 8 t) (sym here) in
    let long : 8 ≤ length (drop (8 * at) zs) = omega (arith, length-drop (8 * at) zs, length-with_zeros xs) in
    let count : length group ≡ 8 = ap length group_is ∙ length-take-le 8 (drop (8 * at) zs) long in
    let padded : IsPadded put.text w group (length put.text) = subst (λ (t : List ℕ). IsPadded t w group (length put.text)) (append-nil put.text) (put.stands []) in
    let least : length put.text ≡ (length group * w + 7) / 8 = padded.least in
    let size : length put.text ≡ w = let eights : length group * w ≡ 8 * w = ap (λ (k : ℕ). k * w) count in omega (arith, least, eights) in
    let before : length (take (8 * at) zs) ≡ 8 * at = length-take-le (8 * at) zs (omega (arith, length-with_zeros xs)) in
    let full : 8 * length so_far.body ≡ length (take (8 * at) zs) * w =
    let so_long = so_far.size in ap (λ (k : ℕ). 8 * k) so_long ∙ (let e : 8 * (at * w) ≡ (8 * at) * w = omega arith in e) ∙ ap (λ (k : ℕ). k * w) (sym before) in
    let next : take (8 * (at + 1)) zs ≡ take (8 * at) zs ++ group = ap (λ (k : ℕ). take k zs) (let e : 8 * (at + 1) ≡ 8 * at + 8 = omega arith in e) ∙ take-add (8 * at) 8 zs ∙ ap (λ (t : List ℕ). take (8 * at) zs ++ t) (sym group_is) in
    record {
      varint = so_far.varint;
      body = so_far.body ++ put.text;
      joined = put.joined ∙ ap (λ (t : List ℕ). t ++ put.text) so_far.joined ∙ append_assoc old (so_far.varint ++ so_far.body) put.text ∙ ap (λ (t : List ℕ). old ++ t) (append_assoc so_far.varint so_far.body put.text);
      says = so_far.says;
      few = so_far.few;
      size = omega (arith, length-append so_far.body put.text, so_far.size, size);
      packed = subst (λ (t : List ℕ). IsPacked (so_far.body ++ put.text) w t) (sym next) (packed_more w so_far.body put.text (take (8 * at) zs) group full so_far.packed padded.packed);
    }

pub gathering_ends : (w at : ℕ) (xs old new : List ℕ) → at ≡ (length xs + 7) / 8 → IsGathering w xs old new at → IsPacking w xs old new
gathering_ends w at xs old new all p =
    let groups = (length xs + 7) / 8 in
    let q : IsGathering w xs old new groups = subst (λ (k : ℕ). IsGathering w xs old new k) all p in
    let says = q.says in
    record {
      text = q.varint ++ q.body;
      header = length q.varint;
      joined = q.joined;
      stands = λ rest. record {
        varint = q.varint;
        header = 2 * groups + 1;
        body = q.body;
        spelled = refl;
        says = says.spelled;
        announced = inr (inl (record { groups = groups; odd = refl; size = q.size; count = length-take-le (8 * groups) (with_zeros xs) (omega (arith, length-with_zeros xs)); stands_for = q.packed }));
      };
      size = length-append q.varint q.body ∙ ap (λ (k : ℕ). length q.varint + k) q.size;
      few = q.few;
      shortest = says.shortest;
    }

-- one more of the eight
pub eight_more : (xs eight : List ℕ) (i x : ℕ) → i < 8 → i < length xs → get_or xs i 0 ≡ x → eight ≡ take i xs ++ replicate (8 - i) 0 → set eight i x ≡ take (i + 1) xs ++ replicate (8 - (i + 1)) 0
eight_more xs eight i x few lt is so_far =
    let front = take i xs in
    let long : length front ≡ i = length-take-le i xs (omega arith) in
    let zero_more : 8 - i ≡ suc (8 - (i + 1)) = omega arith in
    let none : i - i ≡ 0 = omega arith in
    ap (λ (t : List ℕ). set t i x) (so_far ∙ ap (λ (k : ℕ). front ++ replicate k 0) zero_more) ∙ set-append_right front (replicate (suc (8 - (i + 1))) 0) i i x long (omega arith) ∙ ap (λ (k : ℕ). front ++ set (0 ∷ replicate (8 - (i + 1)) 0) k x) none
    ∙ sym (append_assoc front (x ∷ []) (replicate (8 - (i + 1)) 0)) ∙ ap (λ (t : List ℕ). t ++ replicate (8 - (i + 1)) 0) (ap (λ (y : ℕ). front ++ y ∷ []) (sym is) ∙ sym (take_more xs i 0 lt))

-- all of the eight
pub eight_all : (xs eight : List ℕ) (i : ℕ) → i ≡ min (length xs) 8 → eight ≡ take i xs ++ replicate (8 - i) 0 → eight ≡ take 8 (with_zeros xs)
eight_all xs eight i is so_far =
    let front : take i xs ≡ take 8 xs = elim (cases_lt (length xs) 8) [ inl few ↦ take_all i xs (omega arith) ∙ sym (take_all 8 xs (omega arith)) | inr many ↦ let e : i ≡ 8 = omega arith in ap (λ (k : ℕ). take k xs) e ] in
    let zeros : 8 - i ≡ 8 - length xs = omega arith in
    so_far ∙ ap (λ (t : List ℕ). t ++ replicate (8 - i) 0) front ∙ ap (λ (k : ℕ). take 8 xs ++ replicate k 0) zeros ∙ ap (λ (t : List ℕ). take 8 xs ++ t) (sym (take-replicate (8 - length xs) 8 0 (omega arith))) ∙ sym (take_both 8 xs (replicate 8 0))

-- what the groups hold is narrow where the numbers are
pub group_narrow : (w k : ℕ) (xs : List ℕ) → All (λ x. x < 2 ^ w) xs → All (λ x. x < 2 ^ w) (take 8 (with_zeros (drop k xs)))
group_narrow w k xs all =
    All-take (λ x. x < 2 ^ w) 8 (with_zeros (drop k xs)) (All-append (λ x. x < 2 ^ w) (drop k xs) (replicate 8 0) (All-drop (λ x. x < 2 ^ w) k xs all) (All-replicate (λ x. x < 2 ^ w) 8 0 (pow_pos w)))

-- the header of one group has one byte
short_header : (header groups : ℕ) → (header ≡ 1) ⊎ (128 ^ (header - 1) ≤ 2 * groups + 1) → groups ≡ 1 → header ≤ 1
short_header header groups (inl one) few = omega arith
short_header header groups (inr power) few =
    elim (cases_lt 1 header) [
      | inl more ↦ let up : 1 ≤ header - 1 = omega arith in absurd (omega (arith, pow_up (header - 1) up, power, few))
      | inr le ↦ le
    ]
  where
    pow_some : (k : ℕ) → 1 ≤ 128 ^ k
    pow_some zero = omega arith
    pow_some (suc k) = omega (arith, pow-suc 128 k, pow_some k)

    pow_up : (k : ℕ) → 1 ≤ k → 128 ≤ 128 ^ k
    pow_up zero le = absurd (omega arith)
    pow_up (suc k) le = omega (arith, pow-suc 128 k, pow_some k)

pub packed_put : (w count : ℕ) (xs old new : List ℕ) → w ≤ 64 → 0 < count → count ≤ length xs → (count < length xs → count % 8 ≡ 0) → IsPacking w (take count xs) old new → IsPut w xs old new count
packed_put w count xs old new wide some within whole p =
    let ys = take count xs in
    let groups = (length ys + 7) / 8 in
    let len : length ys ≡ count = length-take-le count xs within in
    let full : length (filled_up ys) ≡ 8 * groups = length-take-le (8 * groups) (with_zeros ys) (omega (arith, length-with_zeros ys)) in
    let size = p.size in
    let few = p.few in
    let most : groups * w ≤ groups * 64 = mul-le-mul_left groups wide in
    let header : groups ≡ 1 → p.header ≤ 1 = short_header p.header groups p.shortest in
    let same : take count (filled_up ys) ≡ take count xs =
    take-take count (8 * groups) (with_zeros ys) (omega arith) ∙ take-append-le count ys (0 ∷ 0 ∷ 0 ∷ 0 ∷ 0 ∷ 0 ∷ 0 ∷ 0 ∷ []) (omega arith) ∙ take_all count ys (omega arith) in
    record {
      text = p.text;
      run = filled_up ys;
      joined = p.joined;
      stands = p.stands;
      some = some;
      within = within;
      enough = omega arith;
      first = same;
      exact = λ lt. let even = whole lt in omega arith;
      short = λ lt.
          let even = whole lt in
          let eights : count ≡ 8 * groups = omega arith in
          elim (cases_lt 1 groups) [ inl more ↦ omega arith | inr le ↦ let one : groups ≡ 1 = omega arith in let small = header one in omega arith ];
      most = omega arith;
    }

-- ---- one run after the other

-- the first `at` numbers are written: what stands for the others after them stands for all
pub record IsWriting (w : ℕ) (xs old new : List ℕ) (at : ℕ) : Type 0 where
  pub text : List ℕ
  pub joined : new ≡ old ++ text
  pub within : at ≤ length xs
  pub stands : (rest : List ℕ) (u : ℕ) → IsHybrid w rest (length xs - at) (drop at xs) u → IsHybrid w (text ++ rest) (length xs) xs (length text + u)
  pub short : at < length xs → length text ≤ 9 * at
  pub most : length text ≤ 80 + 9 * at

pub writing_begins : (w : ℕ) (xs old : List ℕ) → IsWriting w xs old old 0
writing_begins w xs old = record {
  text = [];
  joined = sym (append-nil old);
  within = omega arith;
  stands = λ rest u p.
      let z : 0 + u ≡ u = omega arith in
      let m : length xs - 0 ≡ length xs = omega arith in
      rw z (subst (λ (k : ℕ). IsHybrid w rest k xs u) m p);
  short = λ lt. omega arith;
  most = omega arith;
}

pub writing_more : (w at count : ℕ) (xs old mid new : List ℕ) → at < length xs → IsPut w (drop at xs) mid new count → IsWriting w xs old mid at → IsWriting w xs old new (at + count)
writing_more w at count xs old mid new lt p so_far =
    let left = length xs - at in
    let here : length (drop at xs) ≡ left = length-drop at xs in
    let inside = p.within in
    let many = p.enough in
    let exact = p.exact in
    let short = p.short in
    let most = p.most in
    let before = so_far.short lt in
    let less : left - length p.run ≡ length xs - (at + count) = elim (cases_lt count left) [ inl fewer ↦ let e = exact (omega arith) in omega arith | inr all ↦ omega arith ] in
    let first : take left p.run ≡ take count (drop at xs) = elim (cases_lt count left) [
      | inl fewer ↦ let e = exact (omega arith) in take_all left p.run (omega arith) ∙ sym (take_all count p.run (omega arith)) ∙ p.first
      | inr all ↦ let e : left ≡ count = omega arith in ap (λ (k : ℕ). take k p.run) e ∙ p.first
    ] in
    let rest_is : take left p.run ++ drop (at + count) xs ≡ drop at xs = ap (λ (t : List ℕ). t ++ drop (at + count) xs) first ∙ ap (λ (t : List ℕ). take count (drop at xs) ++ t) (sym (drop-drop count at xs)) ∙ take-append-drop count (drop at xs) in
    let long : length (so_far.text ++ p.text) ≡ length so_far.text + length p.text = length-append so_far.text p.text in
    record {
      text = so_far.text ++ p.text;
      joined = p.joined ∙ ap (λ (t : List ℕ). t ++ p.text) so_far.joined ∙ append_assoc old so_far.text p.text;
      within = omega arith;
      stands = λ rest u h.
          let after : IsHybrid w rest (left - length p.run) (drop (at + count) xs) u = subst (λ (k : ℕ). IsHybrid w rest k (drop (at + count) xs) u) (sym less) h in
          let both = hybrid_cons w left u (p.text ++ rest) p.text rest p.run (drop (at + count) xs) (omega arith) refl (p.stands rest) after in
          let all = so_far.stands (p.text ++ rest) (length p.text + u) (subst (λ (t : List ℕ). IsHybrid w (p.text ++ rest) left t (length p.text + u)) rest_is both) in
          let end : length so_far.text + (length p.text + u) ≡ length (so_far.text ++ p.text) + u = omega arith in
          subst (λ (k : ℕ). IsHybrid w ((so_far.text ++ p.text) ++ rest) (length xs) xs k) end
          (subst (λ (t : List ℕ). IsHybrid w t (length xs) xs (length so_far.text + (length p.text + u))) (sym (append_assoc so_far.text p.text rest)) all);
      short = λ more. let s = short (omega arith) in omega arith;
      most = omega arith;
    }

pub writing_ends : (w at : ℕ) (xs old new : List ℕ) → length xs ≤ at → IsWriting w xs old new at → Appends (λ bytes used. IsHybrid w bytes (length xs) xs used) (80 + 9 * length xs) old new
writing_ends w at xs old new all p =
    let inside = p.within in
    let none : length xs - at ≡ 0 = omega arith in
    let end : length p.text + 0 ≡ length p.text = omega arith in
    record {
      text = p.text;
      joined = p.joined;
      stands = λ more.
          let last : IsHybrid w more (length xs - at) (drop at xs) 0 = rw (none, drop_all at xs all) (hybrid_end w more) in
          subst (λ (k : ℕ). IsHybrid w (p.text ++ more) (length xs) xs k) end (p.stands more 0 last);
      short = let most = p.most in omega arith;
    }
