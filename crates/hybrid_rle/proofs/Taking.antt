-- What reading one run gives.
use Rattle.std.proofs.Common.{take-add, ◌≡◌, ℕ, zero, suc, ◌∷◌, map, ◌+◌, ◌-◌, ◌*◌, ◌/◌, ◌%◌, ◌^◌, ◌<◌, ◌≤◌, List, ◌++◌, length, take, drop, replicate, refl, sym, ap, subst, ◌∙◌, arith, ◌⊎◌, inl, inr, append_assoc}
use Rattle.std.proofs.lemmas.List.{map-append, take_at, drop_at, take_all, length-append, length-take-le, length-drop, append-nil, drop-drop, length-replicate, take-replicate, drop_all}
use Rattle.std.proofs.lemmas.Nat.{div-add-mod', mod_below}
use Rattle.std.proofs.Math.Nat.{mul-le-mul_right}
use Rattle.std.proofs.lemmas.Bool.{cases_lt}
use Rattle.bits.specs.Bits.{IsPacked}
use Rattle.bits.specs.Varint.{IsUleb}
use Rattle.hybrid_rle.proofs.Varints.{uleb_text}
use Rattle.bits.proofs.Facts.{one_packing, uleb_stays}
use Rattle.hybrid_rle.proofs.Packed.{unpacked, length-unpacked, unpacked_is, packed_take}
use Rattle.hybrid_rle.specs.Hybrid.{little_endian, IsBody, IsRun}
use Rattle.hybrid_rle.specs.inner.Taken.{IsTaken, Lacks}
use Rattle.hybrid_rle.proofs.Runs.{fewer}

-- ---- repeated values

abbrev pub value_size : ℕ → ℕ
value_size w = (w + 7) / 8

pub repeated_taken : (w h left size count : ℕ) (bytes old : List ℕ) → h % 2 ≡ 0 → size ≡ value_size w → size ≤ length bytes → little_endian (take size bytes) < 2 ^ w
    → count ≤ left → count ≤ h / 2 → (count ≡ left) ⊎ (count ≡ h / 2)
    → IsTaken (IsBody w h) bytes left old (old ++ replicate count (little_endian (take size bytes))) size
repeated_taken w h left size count bytes old even is within narrow le few which =
    let value = little_endian (take size bytes) in
    let first : replicate count value ≡ take left (replicate (h / 2) value) =
    elim which [
      | inl e ↦ ap (λ (k : ℕ). replicate k value) e ∙ sym (take-replicate left (h / 2) value (omega arith))
      | inr e ↦ ap (λ (k : ℕ). replicate k value) e ∙ sym (take_all left (replicate (h / 2) value) (omega (arith, length-replicate (h / 2) value)))
    ] in
    record {
      run = replicate (h / 2) value;
      within = within;
      stands = inl (record { count = h / 2; even = omega arith; size = length-take-le size bytes within ∙ is; narrow = narrow; stands_for = refl });
      put = ap (λ (t : List ℕ). old ++ t) first;
    }

map_replicate : {A : Type 0} (f : A → ℕ) (n : ℕ) (x : A) → map f (replicate n x) ≡ replicate n (f x)
map_replicate f zero x = refl
map_replicate f (suc n) x = ap (λ (t : List ℕ). f x ∷ t) (map_replicate f n x)

-- the numbers after a `resize`
pub grown : {A : Type 0} (seen : A → ℕ) (old new : List A) (len count number : ℕ) (value : A) → len ≡ length old → seen value ≡ number → new ≡ take (len + count) old ++ replicate (len + count - length old) value
    → map seen new ≡ map seen old ++ replicate count number
grown {A} seen old new len count number value is sees items =
    let all : take (len + count) old ≡ old = take_all (len + count) old (omega (arith, is)) in
    let more : len + count - length old ≡ count = omega (arith, is) in
    let whole : new ≡ old ++ replicate count value = items ∙ ap (λ (t : List A). t ++ replicate (len + count - length old) value) all ∙ ap (λ (k : ℕ). old ++ replicate k value) more in
    ap (λ (t : List A). map seen t) whole ∙ map-append seen old (replicate count value) ∙ ap (λ (t : List ℕ). map seen old ++ t) (map_replicate seen count value ∙ ap (λ (k : ℕ). replicate count k) sees)

-- a value that is too long, or whose bytes are not all there
pub repeated_lacks : (w h left : ℕ) (bytes : List ℕ) → h % 2 ≡ 0 → (value_size w ≤ length bytes → little_endian (take (value_size w) bytes) < 2 ^ w → ⊥) → Lacks (IsBody w h) bytes left
repeated_lacks w h left bytes even none text rest run same (inl p) =
    let front : take (value_size w) bytes ≡ text = ap (λ (t : List ℕ). take (value_size w) t) same ∙ take_at text rest (value_size w) p.size in
    absurd (none (omega (arith, ap length same, length-append text rest, p.size)) (rw front p.narrow))
repeated_lacks w h left bytes even none text rest run same (inr (inl p)) = absurd (let odd = p.odd in omega arith)
repeated_lacks w h left bytes even none text rest run same (inr (inr p)) = absurd (let odd = p.1.odd in omega arith)

-- ---- packed values

-- all bytes of the run are there, or it is cut
abbrev pub EndsAt : ℕ → ℕ → ℕ → ℕ → Type 0
EndsAt w h size len = ((size ≡ h / 2 * w) × (size ≤ len)) ⊎ ((size ≡ len) × (len < h / 2 * w))

pub ends_whole : (w h size len g k : ℕ) → g ≡ h / 2 → k ≡ w → size ≡ g * k → g * k < len → EndsAt w h size len
ends_whole w h size len g k gs ws is lt =
    let e : g * k ≡ h / 2 * w = ap (λ (x : ℕ). x * k) gs ∙ ap (λ (x : ℕ). h / 2 * x) ws in
    inl (is ∙ e, omega arith)

pub ends_with_bytes : (w h size len g k : ℕ) → g ≡ h / 2 → k ≡ w → size ≡ len → len ≤ g * k → EndsAt w h size len
ends_with_bytes w h size len g k gs ws is le =
    let e : g * k ≡ h / 2 * w = ap (λ (x : ℕ). x * k) gs ∙ ap (λ (x : ℕ). h / 2 * x) ws in
    elim (cases_lt len (h / 2 * w)) [ inl lt ↦ inr (is, lt) | inr ge ↦ inl (omega arith, omega arith) ]

-- the bytes that a packed run takes, and how many of its values are wanted
pub record IsWanted (w h left : ℕ) (bytes : List ℕ) (size count : ℕ) : Type 0 where
  pub end : EndsAt w h size (length bytes)
  pub few : count ≤ left
  pub held : count ≤ 8 * (h / 2)
  pub which : (count ≡ left) ⊎ (count ≡ 8 * (h / 2))

pub size_within : (w h left : ℕ) (bytes : List ℕ) (size count : ℕ) → IsWanted w h left bytes size count → size ≤ length bytes
size_within w h left bytes size count wanted = elim wanted.end [ inl e ↦ omega (arith, e.1) | inr e ↦ omega (arith, e.0) ]

-- the numbers that were unpacked are the first of those that stand there
first_of_run : (w left count m : ℕ) (body numbers : List ℕ) → m * w ≤ 8 * length body → count ≤ m → (count ≡ left) ⊎ (count ≡ m) → count ≤ left
    → length numbers ≡ count → IsPacked body w numbers → numbers ≡ take left (unpacked w m body)
first_of_run w left count m body numbers room le which few size packed =
    let all = unpacked_is w m body room in
    let len = length-unpacked w m body in
    let some = packed_take body w count (unpacked w m body) (omega (arith, len)) all in
    let short : length (take count (unpacked w m body)) ≡ count = length-take-le count (unpacked w m body) (omega (arith, len)) in
    let here : numbers ≡ take count (unpacked w m body) = one_packing body numbers (take count (unpacked w m body)) w (size ∙ sym short) packed some in
    here ∙ elim which [
      | inl e ↦ ap (λ (k : ℕ). take k (unpacked w m body)) e
      | inr e ↦ take_all count (unpacked w m body) (omega (arith, len)) ∙ sym (take_all left (unpacked w m body) (omega (arith, len)))
    ]

pub packed_taken : (w h left size count : ℕ) (bytes old numbers : List ℕ) → h % 2 ≡ 1 → IsWanted w h left bytes size count
    → length numbers ≡ count → IsPacked (take size bytes) w numbers → IsTaken (IsBody w h) bytes left old (old ++ numbers) size
packed_taken w h left size count bytes old numbers odd wanted len packed =
    let g = h / 2 in
    let body = take size bytes in
    let within : size ≤ length bytes = size_within w h left bytes size count wanted in
    let body_size : length body ≡ size = length-take-le size bytes within in
    elim wanted.end [
      | inl whole ↦
          let room : (8 * g) * w ≤ 8 * length body = omega (arith, body_size, whole.0) in
          record {
            run = unpacked w (8 * g) body;
            within = within;
            stands = inr (inl (record { groups = g; odd = omega arith; size = body_size ∙ whole.0; count = length-unpacked w (8 * g) body; stands_for = unpacked_is w (8 * g) body room }));
            put = ap (λ (t : List ℕ). old ++ t) (first_of_run w left count (8 * g) body numbers room wanted.held wanted.which wanted.few len packed);
          }
      | inr cut ↦
          let m = 8 * length body / w in
          let some : 0 < w = elim (cases_lt 0 w) [ inl lt ↦ lt | inr none ↦ absurd (let z : w ≡ 0 = omega arith in let short : length bytes < g * 0 = subst (λ (k : ℕ). length bytes < g * k) z cut.1 in omega arith) ] in
          let parts : m * w + 8 * length body % w ≡ 8 * length body = div-add-mod' (8 * length body) w in
          let small : 8 * length body % w < w = mod_below (8 * length body) w some in
          let room : m * w ≤ 8 * length body = omega arith in
          let every : 8 * length body < (m + 1) * w = omega arith in
          let inside = packed.within in
          let inside_count : count * w ≤ 8 * length body = subst (λ (k : ℕ). k * w ≤ 8 * length body) len inside in
          let le : count ≤ m = fewer w count m (8 * length body) inside_count every in
          let same : count ≡ left = elim wanted.which [
            | inl e ↦ e
            | inr e ↦ absurd (let more : (8 * g) * w ≤ 8 * length body = subst (λ (k : ℕ). k * w ≤ 8 * length body) e inside_count in omega (arith, body_size, cut.0, cut.1))
          ] in
          record {
            run = unpacked w m body;
            within = within;
            stands = inr (inr (drop_all size bytes (omega (arith, cut.0)), record { groups = g; odd = omega arith; short = omega (arith, body_size, cut.0, cut.1); stands_for = unpacked_is w m body room; every = rw (length-unpacked w m body) every }));
            put = ap (λ (t : List ℕ). old ++ t) (first_of_run w left count m body numbers room le (inl same) wanted.few len packed);
          }
    ]

-- where the wanted numbers are not there, no packed run at the front is enough
pub packed_lacks : (w h left size count : ℕ) (bytes : List ℕ) → h % 2 ≡ 1 → IsWanted w h left bytes size count
    → ((numbers : List ℕ) → length numbers ≡ count → IsPacked (take size bytes) w numbers → ⊥) → Lacks (IsBody w h) bytes left
packed_lacks w h left size count bytes odd wanted none text rest run same (inl p) = absurd (let even = p.even in omega arith)
packed_lacks w h left size count bytes odd wanted none text rest run same (inr (inl p)) =
    let g : p.groups ≡ h / 2 = omega (arith, p.odd) in
    let long : length bytes ≡ length text + length rest = ap length same ∙ length-append text rest in
    let full : length text ≡ h / 2 * w = p.size ∙ ap (λ (k : ℕ). k * w) g in
    let end : size ≡ h / 2 * w = elim wanted.end [ inl e ↦ e.0 | inr e ↦ absurd (omega (arith, e.1)) ] in
    let body_size : length (take size bytes) ≡ size = length-take-le size bytes (omega arith) in
    let room : count * w ≤ 8 * length (take size bytes) = let m : count * w ≤ (8 * (h / 2)) * w = mul-le-mul_right w wanted.held in omega arith in
    absurd (none (unpacked w count (take size bytes)) (length-unpacked w count (take size bytes)) (unpacked_is w count (take size bytes) room))
packed_lacks w h left size count bytes odd wanted none text rest run same (inr (inr p)) =
    let g : p.1.groups ≡ h / 2 = omega (arith, p.1.odd) in
    let whole : bytes ≡ text = same ∙ ap (λ (t : List ℕ). text ++ t) p.0 ∙ append-nil text in
    let short : length text < h / 2 * w = subst (λ (k : ℕ). length text < k * w) g p.1.short in
    let size_is : length bytes ≡ length text = ap length whole in
    let end : size ≡ length bytes = elim wanted.end [ inl e ↦ absurd (omega (arith, e.0, e.1)) | inr e ↦ e.0 ] in
    let body : take size bytes ≡ bytes = take_all size bytes (omega arith) in
    let body_size : length (take size bytes) ≡ length bytes = ap length body in (
      p.0,
      elim (cases_lt (length run) left) [
        | inl lt ↦ lt
        | inr le ↦
            let inside = p.1.stands_for.within in
            let few : count * w ≤ length run * w = mul-le-mul_right w (let t = wanted.few in omega arith) in
            absurd (none (unpacked w count (take size bytes)) (length-unpacked w count (take size bytes)) (unpacked_is w count (take size bytes) (omega arith)))
      ],
    )

-- ---- a run, by its header and what stands after it

pub run_taken : (w h at left size : ℕ) (bytes old new : List ℕ) → IsUleb bytes h at → IsTaken (IsBody w h) (drop at bytes) left old new size
    → IsTaken (IsRun w) bytes left old new (at + size)
run_taken w h at left size bytes old new says taken =
    let inside = says.within in
    let room = taken.within in
    let size_at : length (drop at bytes) ≡ length bytes - at = length-drop at bytes in
    let front : length (take at bytes) ≡ at = length-take-le at bytes inside in
    let text : take (at + size) bytes ≡ take at bytes ++ take size (drop at bytes) = take-add at size bytes in
    record {
      run = taken.run;
      within = omega arith;
      stands = record {
        varint = take at bytes;
        header = h;
        body = take size (drop at bytes);
        spelled = text;
        says = uleb_text bytes h at says;
        announced = subst (λ (r : List ℕ). IsBody w h (take size (drop at bytes)) r taken.run) (drop-drop size at bytes) taken.stands;
      };
      put = taken.put;
    }

pub run_lacks : (w h at left : ℕ) (bytes : List ℕ) → ((n used : ℕ) → IsUleb bytes n used → (n ≡ h) × (used ≡ at)) → Lacks (IsBody w h) (drop at bytes) left → Lacks (IsRun w) bytes left
run_lacks w h at left bytes alone none text rest run same p =
    let split : bytes ≡ p.varint ++ (p.body ++ rest) = same ∙ ap (λ (t : List ℕ). t ++ rest) p.spelled ∙ append_assoc p.varint p.body rest in
    let here : IsUleb bytes p.header (length p.varint) = rw split (uleb_stays p.varint (p.body ++ rest) p.header (length p.varint) p.says) in
    let one = alone p.header (length p.varint) here in
    let after : drop at bytes ≡ p.body ++ rest = ap (λ (t : List ℕ). drop at t) split ∙ drop_at p.varint (p.body ++ rest) at one.1 in
    none p.body rest run after (subst (λ (k : ℕ). IsBody w k p.body rest run) one.0 p.announced)

pub no_header : (w left : ℕ) (bytes : List ℕ) → ((n used : ℕ) → IsUleb bytes n used → ⊥) → Lacks (IsRun w) bytes left
no_header w left bytes none text rest run same p =
    let split : bytes ≡ p.varint ++ (p.body ++ rest) = same ∙ ap (λ (t : List ℕ). t ++ rest) p.spelled ∙ append_assoc p.varint p.body rest in
    absurd (none p.header (length p.varint) (rw split (uleb_stays p.varint (p.body ++ rest) p.header (length p.varint) p.says)))
