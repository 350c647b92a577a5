-- Values written as what they share with the value before.
use Rattle.std.proofs.Common.{◌≡◌, ℕ, suc, ◌+◌, ◌-◌, ◌*◌, ◌<◌, ◌≤◌, min, List, [], ◌∷◌, ◌++◌, Bool, true, false, nat_eq, cond, length, get_or, take, drop, map, refl, sym, ap, subst, ◌∙◌, arith, append_assoc, Result, Ok, Err}
use Rattle.std.specs.Result.{is_err, OnOk, OnErr}
use Rattle.bits.specs.declared.refusal.Refusal.{Refusal}
use Rattle.std.specs.Prelude.{ℤ, pos, All}
use Rattle.std.specs.List.{concat}
use Rattle.std.specs.Int.{w32}
use Rattle.std.proofs.lemmas.List.{length-append, length-map, length-drop, drop_at, drop_more, take-append-drop, get_or-map}
use Rattle.std.proofs.lemmas.List.Sums.{common_prefix_len-le}
use Rattle.std.proofs.lemmas.Bool.{eqb-true}
use Rattle.bits.specs.Codec.{Appends}
use Rattle.schema.specs.Values.{ValueTree, null, boolean, integer, bytes, group, list}
use Rattle.schema.specs.declared.value.Kind.TheVariants.{ByteArray}
use Rattle.plain.specs.Plain.{IsOfKind, text_size}
use Rattle.delta.specs.Delta.{IsDelta}
use Rattle.delta.specs.ByteDeltas.{IsByteLengths, IsPrefixed, StandForBytes, AreCompleted, shared_size, longest_prefixes, shortest_suffixes}
use Rattle.delta.specs.inner.Put.{Extends, text_of, before_at, ArePut}
use Rattle.delta.proofs.Joining.{are_bytes}

take_first : (x y : ℕ) (xs ys : List ℕ) (k : ℕ) (b : Bool) → nat_eq x y ≡ b → take k xs ≡ take k ys → take (cond b (1 + k) 0) (x ∷ xs) ≡ take (cond b (1 + k) 0) (y ∷ ys)
take_first x y xs ys k false is rest = refl
take_first x y xs ys k true is rest =
    let same : x ≡ y = eqb-true x y is in
    let one : 1 + k ≡ suc k = omega arith in
    let further : take (1 + k) (x ∷ xs) ≡ x ∷ take k xs = ap (λ (n : ℕ). take n (x ∷ xs)) one in
    let others : take (1 + k) (y ∷ ys) ≡ y ∷ take k ys = ap (λ (n : ℕ). take n (y ∷ ys)) one in
    let whole : x ∷ take k xs ≡ y ∷ take k ys = cc (same, rest) in
    further ∙ whole ∙ sym others

-- what is shared is at the front of both
pub take_shared : (xs ys : List ℕ) → take (shared_size xs ys) xs ≡ take (shared_size xs ys) ys
take_shared [] ys = refl
take_shared (x ∷ xs) [] = refl
take_shared (x ∷ xs) (y ∷ ys) = take_first x y xs ys (shared_size xs ys) (nat_eq x y) refl (take_shared xs ys)

-- each value is its prefix of the value before and its suffix
pub longest_completes : (before : List ℕ) (ts : List (List ℕ)) → AreCompleted before (longest_prefixes before ts) (shortest_suffixes before ts) ts
longest_completes before [] = tt
longest_completes before (t ∷ ts) =
    let k = shared_size before t in
    ((common_prefix_len-le nat_eq before t).0, sym (take-append-drop k t) ∙ ap (λ (u : List ℕ). u ++ drop k t) (sym (take_shared before t)), longest_completes t ts)

pub longest_count : (before : List ℕ) (ts : List (List ℕ)) → length (longest_prefixes before ts) ≡ length ts
longest_count before [] = refl
longest_count before (t ∷ ts) = omega (arith, longest_count t ts)

pub shortest_count : (before : List ℕ) (ts : List (List ℕ)) → length (shortest_suffixes before ts) ≡ length ts
shortest_count before [] = refl
shortest_count before (t ∷ ts) = omega (arith, shortest_count t ts)

-- suffixes are no longer than the values
pub shortest_size : (before : List ℕ) (vs : List ValueTree) → text_size (map bytes (shortest_suffixes before (map text_of vs))) ≤ text_size vs
shortest_size before [] = omega arith
shortest_size before (null ∷ vs) = omega (arith, length-drop {A = ℕ} (shared_size before []) [], shortest_size [] vs)
shortest_size before (boolean b ∷ vs) = omega (arith, length-drop {A = ℕ} (shared_size before []) [], shortest_size [] vs)
shortest_size before (integer z ∷ vs) = omega (arith, length-drop {A = ℕ} (shared_size before []) [], shortest_size [] vs)
shortest_size before (bytes t ∷ vs) = omega (arith, length-drop (shared_size before t) t, shortest_size t vs)
shortest_size before (group ws ∷ vs) = omega (arith, length-drop {A = ℕ} (shared_size before []) [], shortest_size [] vs)
shortest_size before (list ws ∷ vs) = omega (arith, length-drop {A = ℕ} (shared_size before []) [], shortest_size [] vs)

pub same_bytes : (ss ts : List (List ℕ)) → map bytes ss ≡ map bytes ts → ss ≡ ts
same_bytes [] [] same = refl
same_bytes [] (t ∷ ts) same = cc
same_bytes (s ∷ ss) [] same = cc
same_bytes (s ∷ ss) (t ∷ ts) same =
    let here : s ≡ t = cc in
    let left : map bytes ss ≡ map bytes ts = cc in
    let rest : ss ≡ ts = same_bytes ss ts left in
    cc (here, rest)

-- ---- going through the values

next : (ts : List (List ℕ)) (i : ℕ) → get_or ts i [] ≡ before_at ts (i + 1)
next ts i = let one : suc i ≡ i + 1 = omega arith in ap (λ (k : ℕ). before_at ts k) one

-- all that both have is shared
pub shared_ends : (xs ys : List ℕ) (i : ℕ) → i ≡ min (length xs) (length ys) → shared_size xs ys ≡ i + shared_size (drop i xs) (drop i ys) → i ≡ shared_size xs ys
shared_ends xs ys i most is = let le = common_prefix_len-le nat_eq xs ys in omega (arith, most, is, le.0, le.1)

-- the bytes of the value at index i
pub text_at : {V : Type 0} (lent : V → ValueTree) (values : List V) (i : ℕ) (item : V) → i < length values → item ≡ get_or values i item → get_or (map text_of (map lent values)) i [] ≡ text_of (lent item)
text_at lent values i item lt is =
    get_or-map text_of (map lent values) i (lent item) [] (omega (arith, lt, length-map values lent)) ∙ ap text_of (get_or-map lent values i item (lent item) lt ∙ ap lent (sym is))

pub text_before : {V : Type 0} (lent : V → ValueTree) (values : List V) (i : ℕ) (item : V) → 0 < i → i - 1 < length values → item ≡ get_or values (i - 1) item → text_of (lent item) ≡ before_at (map text_of (map lent values)) i
text_before lent values i item some lt is =
    let ts = map text_of (map lent values) in
    let same : i - 1 + 1 ≡ i = omega (arith, some) in
    sym (text_at lent values (i - 1) item lt is) ∙ next ts (i - 1) ∙ ap (λ (k : ℕ). before_at ts k) same

pub prefixes_go_on : (ts : List (List ℕ)) (i : ℕ) (old new whole : List ℤ) (z : ℤ) → i < length ts → z ≡ pos (shared_size (before_at ts i) (get_or ts i [])) → new ≡ old ++ z ∷ []
    → old ++ map pos (longest_prefixes (before_at ts i) (drop i ts)) ≡ whole → new ++ map pos (longest_prefixes (before_at ts (i + 1)) (drop (i + 1) ts)) ≡ whole
prefixes_go_on ts i old new whole z more is put p =
    let later = map pos (longest_prefixes (before_at ts (i + 1)) (drop (i + 1) ts)) in
    let split : map pos (longest_prefixes (before_at ts i) (drop i ts)) ≡ z ∷ later =
    ap (λ (t : List (List ℕ)). map pos (longest_prefixes (before_at ts i) t)) (drop_more ts i [] more) ∙ ap (λ (y : ℤ). y ∷ map pos (longest_prefixes (get_or ts i []) (drop (i + 1) ts))) (sym is)
    ∙ ap (λ (t : List ℕ). z ∷ map pos (longest_prefixes t (drop (i + 1) ts))) (next ts i) in
    ap (λ (t : List ℤ). t ++ later) put ∙ append_assoc old (z ∷ []) later ∙ ap (λ (t : List ℤ). old ++ t) (sym split) ∙ p

pub suffixes_go_on : (ts : List (List ℕ)) (i : ℕ) (old new whole : List ValueTree) (suffix : List ℕ) → i < length ts → suffix ≡ drop (shared_size (before_at ts i) (get_or ts i [])) (get_or ts i []) → new ≡ old ++ bytes suffix ∷ []
    → old ++ map bytes (shortest_suffixes (before_at ts i) (drop i ts)) ≡ whole → new ++ map bytes (shortest_suffixes (before_at ts (i + 1)) (drop (i + 1) ts)) ≡ whole
suffixes_go_on ts i old new whole suffix more is put p =
    let later = map bytes (shortest_suffixes (before_at ts (i + 1)) (drop (i + 1) ts)) in
    let split : map bytes (shortest_suffixes (before_at ts i) (drop i ts)) ≡ bytes suffix ∷ later =
    ap (λ (t : List (List ℕ)). map bytes (shortest_suffixes (before_at ts i) t)) (drop_more ts i [] more) ∙ ap (λ (t : List ℕ). bytes t ∷ map bytes (shortest_suffixes (get_or ts i []) (drop (i + 1) ts))) (sym is)
    ∙ ap (λ (t : List ℕ). bytes suffix ∷ map bytes (shortest_suffixes t (drop (i + 1) ts))) (next ts i) in
    ap (λ (t : List ValueTree). t ++ later) put ∙ append_assoc old (bytes suffix ∷ []) later ∙ ap (λ (t : List ValueTree). old ++ t) (sym split) ∙ p

-- ---- the lengths of the prefixes, and then the suffixes

-- both parts stand for the values
pub prefixed_written : (vs : List ValueTree) (ps : List ℤ) (sv : List ValueTree) (old new : List ℕ) → All (IsOfKind ByteArray) vs → ps ≡ map pos (longest_prefixes [] (map text_of vs))
    → sv ≡ map bytes (shortest_suffixes [] (map text_of vs)) → ArePut ps sv old new → Appends (λ bytes. StandForBytes (IsPrefixed bytes (length vs)) vs) (340 + 10 * length vs + text_size vs) old new
prefixed_written vs ps sv old new all ps_are sv_are p =
    let ts = map text_of vs in
    let ks = longest_prefixes [] ts in
    let ss = shortest_suffixes [] ts in
    let one = p.first.text in
    let two = p.second.text in
    let n : length ps ≡ length vs = ap length ps_are ∙ length-map ks pos ∙ longest_count [] ts ∙ length-map vs text_of in
    let m : length sv ≡ length vs = ap length sv_are ∙ length-map ss bytes ∙ shortest_count [] ts ∙ length-map vs text_of in
    let size = length-append one two in
    record {
      text = one ++ two;
      joined = p.second.joined ∙ ap (λ (t : List ℕ). t ++ two) p.first.joined ∙ append_assoc old one two;
      stands = λ more.
          let whole : (one ++ two) ++ more ≡ one ++ (two ++ more) = append_assoc one two more in
          let left : drop (length one) ((one ++ two) ++ more) ≡ two ++ more = ap (λ (t : List ℕ). drop (length one) t) whole ∙ drop_at one (two ++ more) (length one) refl in
          let first : IsDelta w32 ((one ++ two) ++ more) (length vs) (map pos ks) (length one) =
          subst (λ (t : List ℕ). IsDelta w32 t (length vs) (map pos ks) (length one)) (sym whole) (subst (λ (zs : List ℤ). IsDelta w32 (one ++ (two ++ more)) (length vs) zs (length one)) ps_are
          (subst (λ (k : ℕ). IsDelta w32 (one ++ (two ++ more)) k ps (length one)) n (p.first.stands (two ++ more)))) in
          let later = p.second.stands more in
          let same : later.texts ≡ ss = same_bytes later.texts ss (sym later.are ∙ sv_are) in
          let second : IsByteLengths (drop (length one) ((one ++ two) ++ more)) (length vs) ss (length two) =
          subst (λ (t : List ℕ). IsByteLengths t (length vs) ss (length two)) (sym left) (subst (λ (k : ℕ). IsByteLengths (two ++ more) k ss (length two)) m
          (subst (λ (t : List (List ℕ)). IsByteLengths (two ++ more) (length sv) t (length two)) same later.stand)) in
          record {
            texts = ts;
            stand = record { at = length one; rest = length two; prefixes = ks; suffixes = ss; shared = first; others = second; completed = longest_completes [] ts; ends = size };
            are = are_bytes vs all;
          };
      short = omega (arith, p.first.short, p.second.short, size, n, m, ap text_size sv_are, shortest_size [] vs);
    }

bytes_texts : (ts : List (List ℕ)) → map text_of (map bytes ts) ≡ ts
bytes_texts [] = refl
bytes_texts (t ∷ ts) = ap (λ (us : List (List ℕ)). t ∷ us) (bytes_texts ts)

text_sizes : (ts : List (List ℕ)) → text_size (map bytes ts) ≡ length (concat ts)
text_sizes [] = refl
text_sizes (t ∷ ts) = omega (arith, length-append t (concat ts), text_sizes ts)

-- so they take few bytes
pub prefixed_short : (vs : List ValueTree) (ps : List ℤ) (sv : List ValueTree) (old new : List ℕ) → ps ≡ map pos (longest_prefixes [] (map text_of vs))
    → sv ≡ map bytes (shortest_suffixes [] (map text_of vs)) → ArePut ps sv old new → (texts : List (List ℕ)) → vs ≡ map bytes texts
    → length new ≤ length old + (340 + 10 * length vs + length (concat (shortest_suffixes [] texts)))
prefixed_short vs ps sv old new ps_are sv_are p texts are =
    let ts = map text_of vs in
    let same : ts ≡ texts = ap (λ (us : List ValueTree). map text_of us) are ∙ bytes_texts texts in
    let ss = shortest_suffixes [] ts in
    let n : length ps ≡ length vs = ap length ps_are ∙ length-map (longest_prefixes [] ts) pos ∙ longest_count [] ts ∙ length-map vs text_of in
    let m : length sv ≡ length vs = ap length sv_are ∙ length-map ss bytes ∙ shortest_count [] ts ∙ length-map vs text_of in
    let size : text_size sv ≡ length (concat (shortest_suffixes [] texts)) = ap text_size sv_are ∙ text_sizes ss ∙ ap (λ (t : List (List ℕ)). length (concat (shortest_suffixes [] t))) same in
    omega (arith, p.first.short, p.second.short, n, m, size, ap length p.first.joined, ap length p.second.joined, length-append old p.first.text, length-append p.mid p.second.text)

pub from_ok : {X P : Type 0} (r : Result X Refusal) → is_err r ≡ false → OnOk r P → P
from_ok (Ok x) is p = p
from_ok (Err e) is p = cc

-- only the end is new, whether the second part is written or not
pub both_extend : {X : Type 0} (r : Result X Refusal) (Stands : List ℕ → ℕ → Type 0) (most : ℕ) (old mid new first : List ℕ) → mid ≡ old ++ first → OnOk r (Appends Stands most mid new) → OnErr r (new ≡ mid) → Extends old new
both_extend (Ok x) Stands most old mid new first put p same = (first ++ p.text, p.joined ∙ ap (λ (t : List ℕ). t ++ p.text) put ∙ append_assoc old first p.text)
both_extend (Err e) Stands most old mid new first put p same = (first, same ∙ put)
