-- The values of a first run, and those of the runs after it.
use Rattle.std.proofs.Common.{◌≡◌, ℕ, zero, suc, ◌+◌, ◌-◌, ◌^◌, ◌<◌, ◌≤◌, List, [], ◌∷◌, ◌++◌, length, take, drop, refl, sym, ap, subst, ◌∙◌, arith, inl, inr, append_assoc}
use Rattle.std.specs.List.{concat}
use Rattle.std.proofs.lemmas.List.{take_all, length-append, length-take, length-take-le, append-nil, take-append-drop, take-append-le, drop-drop, length-drop}
use Rattle.std.proofs.Math.Seq.{take-append-add}
use Rattle.std.proofs.lemmas.Bool.{cases_lt}
use Rattle.std.specs.Prelude.{All}
use Rattle.std.proofs.lemmas.List.Elements.{All-nil, All-append, All-take, All-replicate, All-from_get_or}
use Rattle.hybrid_rle.specs.Hybrid.{little_endian, IsBody, IsRun, AreRuns, IsHybrid}
use Rattle.hybrid_rle.proofs.Packed.{packed_narrow}
use Rattle.bits.specs.Codec.{NothingStands, IsFunctional}
use Rattle.hybrid_rle.specs.inner.Taken.{IsTaken, Lacks}
use Rattle.hybrid_rle.proofs.Runs.{run_one}

pub take_both : (n : ℕ) (xs ys : List ℕ) → take n (xs ++ ys) ≡ take n xs ++ take (n - length xs) ys
take_both n xs ys =
    elim (cases_lt (length xs) n) [
      | inl lt ↦
          let e : length xs + (n - length xs) ≡ n = omega arith in
          ap (λ (k : ℕ). take k (xs ++ ys)) (sym e) ∙ take-append-add xs ys (n - length xs) ∙ ap (λ (t : List ℕ). t ++ take (n - length xs) ys) (sym (take_all n xs (omega arith)))
      | inr le ↦
          let z : n - length xs ≡ 0 = omega arith in
          take-append-le n xs ys le ∙ sym (append-nil (take n xs)) ∙ ap (λ (k : ℕ). take n xs ++ take k ys) (sym z)
    ]

-- a run takes at least a byte
pub run_some : (w : ℕ) (front rest run : List ℕ) → IsRun w front rest run → 0 < length front
run_some w front rest run p =
    let some = p.says.begins in
    omega (arith, ap length p.spelled, length-append p.varint p.body)

pub hybrid_end : (w : ℕ) (bytes : List ℕ) → IsHybrid w bytes 0 [] 0
hybrid_end w bytes = record { runs = []; text = []; rest = bytes; front = refl; spelled = refl; enough = omega arith; shortest = λ k lt. absurd (omega arith); first = refl; ends = refl }

shortest_more : (run : List ℕ) (runs : List (List ℕ)) (n : ℕ) → 0 < n → ((k : ℕ) → k < length runs → length (concat (take k runs)) < n - length run)
    → (k : ℕ) → k < length (run ∷ runs) → length (concat (take k (run ∷ runs))) < n
shortest_more run runs n some short zero lt = some
shortest_more run runs n some short (suc k) lt =
    let s = short k (omega arith) in
    omega (arith, length-append run (concat (take k runs)))

pub hybrid_cons : (w n u : ℕ) (bytes front rest run more : List ℕ) → 0 < n → bytes ≡ front ++ rest → IsRun w front rest run → IsHybrid w rest (n - length run) more u
    → IsHybrid w bytes n (take n run ++ more) (length front + u)
hybrid_cons w n u bytes front rest run more some same is p = record {
  runs = run ∷ p.runs;
  text = front ++ p.text;
  rest = p.rest;
  front = same ∙ ap (λ (t : List ℕ). front ++ t) p.front ∙ sym (append_assoc front p.text p.rest);
  spelled = (front, p.text, refl, subst (λ (t : List ℕ). IsRun w front t run) p.front is, p.spelled);
  enough = let e = p.enough in omega (arith, length-append run (concat p.runs));
  shortest = shortest_more run p.runs n some p.shortest;
  first = ap (λ (t : List ℕ). take n run ++ t) p.first ∙ sym (take_both n run (concat p.runs));
  ends = let e = p.ends in omega (arith, length-append front p.text);
}

-- the first run, and the values after it
pub record FirstRun (w : ℕ) (bytes : List ℕ) (n : ℕ) (values : List ℕ) (used : ℕ) : Type 0 where
  pub front : List ℕ
  pub rest : List ℕ
  pub run : List ℕ
  pub more : List ℕ
  pub after : ℕ
  pub same : bytes ≡ front ++ rest
  pub is : IsRun w front rest run
  pub others : IsHybrid w rest (n - length run) more after
  pub values_are : values ≡ take n run ++ more
  pub used_is : used ≡ length front + after

shortest_less : (run : List ℕ) (runs : List (List ℕ)) (n : ℕ) → ((k : ℕ) → k < length (run ∷ runs) → length (concat (take k (run ∷ runs))) < n)
    → (k : ℕ) → k < length runs → length (concat (take k runs)) < n - length run
shortest_less run runs n short k lt =
    let s : length (run ++ concat (take k runs)) < n = short (suc k) (omega arith) in
    omega (arith, length-append run (concat (take k runs)))

first_of : (w n u : ℕ) (bytes values text rest : List ℕ) (runs : List (List ℕ)) → 0 < n → bytes ≡ text ++ rest → AreRuns w text rest runs → n ≤ length (concat runs)
    → ((k : ℕ) → k < length runs → length (concat (take k runs)) < n) → values ≡ take n (concat runs) → u ≡ length text → FirstRun w bytes n values u
first_of w n u bytes values text rest [] some same spelled enough short first ends = absurd (omega arith)
first_of w n u bytes values text rest (run ∷ runs) some same (front, more, parts, is, others) enough short first ends = record {
  front = front;
  rest = more ++ rest;
  run = run;
  more = take (n - length run) (concat runs);
  after = length more;
  same = same ∙ ap (λ (t : List ℕ). t ++ rest) parts ∙ append_assoc front more rest;
  is = is;
  others = record { runs = runs; text = more; rest = rest; front = refl; spelled = others; enough = omega (arith, enough, length-append run (concat runs)); shortest = shortest_less run runs n short; first = refl; ends = refl };
  values_are = first ∙ take_both n run (concat runs);
  used_is = omega (arith, ends, ap length parts, length-append front more);
}

pub hybrid_first : (w n u : ℕ) (bytes values : List ℕ) → 0 < n → IsHybrid w bytes n values u → FirstRun w bytes n values u
hybrid_first w n u bytes values some p = first_of w n u bytes values p.text p.rest p.runs some p.front p.spelled p.enough p.shortest p.first p.ends

-- values after these bytes, of which there are n
abbrev pub SomeHybrid : ℕ → List ℕ → ℕ → Type 0
SomeHybrid w bytes n = (values : List ℕ) × (used : ℕ) × IsHybrid w bytes n values used

-- what was read so far: what stands after it completes it, and what stands at all goes on after it
pub record IsReading (w : ℕ) (bytes : List ℕ) (n : ℕ) (items : List ℕ) (at : ℕ) : Type 0 where
  pub few : length items ≤ n
  pub within : at ≤ length bytes
  pub so_far : (more : List ℕ) (u : ℕ) → IsHybrid w (drop at bytes) (n - length items) more u → IsHybrid w bytes n (items ++ more) (at + u)
  pub only : (values : List ℕ) (used : ℕ) → IsHybrid w bytes n values used → SomeHybrid w (drop at bytes) (n - length items)

pub reading_begins : (w : ℕ) (bytes : List ℕ) (n : ℕ) → IsReading w bytes n [] 0
reading_begins w bytes n = record {
  few = omega arith;
  within = omega arith;
  so_far = λ more u p. let z : 0 + u ≡ u = omega arith in let m : n - 0 ≡ n = omega arith in rw z (subst (λ (k : ℕ). IsHybrid w bytes k more u) m p);
  only = λ values used p. let m : n - 0 ≡ n = omega arith in (values, used, subst (λ (k : ℕ). IsHybrid w bytes k values used) (sym m) p);
}

pub reading_goes_on : (w n at used : ℕ) (bytes items new : List ℕ) → length items < n → IsReading w bytes n items at
    → IsTaken (IsRun w) (drop at bytes) (n - length items) items new used → IsReading w bytes n new (at + used)
reading_goes_on w n at used bytes items new some reading taken =
    let rest = drop at bytes in
    let left = n - length items in
    let run = taken.run in
    let inside = taken.within in
    let before = reading.within in
    let rest_size : length rest ≡ length bytes - at = length-drop at bytes in
    let parts : rest ≡ take used rest ++ drop used rest = sym (take-append-drop used rest) in
    let front_size : length (take used rest) ≡ used = length-take-le used rest inside in
    let put : new ≡ items ++ take left run = taken.put in
    let size : length new ≡ length items + length (take left run) = ap length put ∙ length-append items (take left run) in
    let here = length-take left run in
    let fewer : n - length new ≡ left - length run = omega arith in
    let after : drop used rest ≡ drop (at + used) bytes = drop-drop used at bytes in
    record {
      few = omega arith;
      within = omega arith;
      so_far = λ more u p.
          let q : IsHybrid w (drop used rest) (left - length run) more u = rw after (subst (λ (k : ℕ). IsHybrid w (drop (at + used) bytes) k more u) fewer p) in
          let whole = reading.so_far (take left run ++ more) (length (take used rest) + u) (hybrid_cons w left u rest (take used rest) (drop used rest) run more (omega arith) parts taken.stands q) in
          let e : items ++ (take left run ++ more) ≡ new ++ more = sym (append_assoc items (take left run) more) ∙ ap (λ (t : List ℕ). t ++ more) (sym put) in
          let d : at + (length (take used rest) + u) ≡ at + used + u = omega arith in
          subst (λ (k : ℕ). IsHybrid w bytes n (new ++ more) k) d (subst (λ (t : List ℕ). IsHybrid w bytes n t (at + (length (take used rest) + u))) e whole);
      only = λ values end p.
          let s = reading.only values end p in
          let f = hybrid_first w left s.1 rest s.0 (omega arith) s.2 in
          let one = run_one w f.front f.rest f.run (take used rest) (drop used rest) run f.is taken.stands (sym f.same ∙ parts) in
          let k : left - length f.run ≡ n - length new = ap (λ (t : List ℕ). left - length t) one.run ∙ sym fewer in
          (f.more, f.after, subst (λ (j : ℕ). IsHybrid w (drop (at + used) bytes) j f.more f.after) k (subst (λ (t : List ℕ). IsHybrid w t (left - length f.run) f.more f.after) (one.rest ∙ after) f.others));
    }

pub reading_ends : (w n at : ℕ) (bytes items : List ℕ) → n ≤ length items → IsReading w bytes n items at → IsHybrid w bytes n items at
reading_ends w n at bytes items all reading =
    let z : n - length items ≡ 0 = omega arith in
    let p = reading.so_far [] 0 (rw z (hybrid_end w (drop at bytes))) in
    let e : at + 0 ≡ at = omega arith in
    subst (λ (k : ℕ). IsHybrid w bytes n items k) e (subst (λ (t : List ℕ). IsHybrid w bytes n t (at + 0)) (append-nil items) p)

pub nothing_in_none : (w n u : ℕ) (values : List ℕ) → 0 < n → IsHybrid w [] n values u → ⊥
nothing_in_none w n u values some p =
    let f = hybrid_first w n u [] values some p in
    let long = run_some w f.front f.rest f.run f.is in
    omega (arith, ap length f.same, length-append f.front f.rest)

pub reading_fails : (w n at : ℕ) (bytes items : List ℕ) → length items < n → IsReading w bytes n items at → Lacks (IsRun w) (drop at bytes) (n - length items)
    → (values : List ℕ) (used : ℕ) → IsHybrid w bytes n values used → ⊥
reading_fails w n at bytes items some reading none values used p =
    let left = n - length items in
    let s = reading.only values used p in
    let f = hybrid_first w left s.1 (drop at bytes) s.0 (omega arith) s.2 in
    let lacks = none f.front f.rest f.run f.same f.is in
    nothing_in_none w (left - length f.run) f.after f.more (omega (arith, lacks.1)) (subst (λ (t : List ℕ). IsHybrid w t (left - length f.run) f.more f.after) lacks.0 f.others)

-- nothing stands after the first run
pub nothing_after : (w n : ℕ) (front rest run : List ℕ) → 0 < n → IsRun w front rest run → NothingStands (IsHybrid w rest (n - length run)) → NothingStands (IsHybrid w (front ++ rest) n)
nothing_after w n front rest run some is none values used p =
    let f = hybrid_first w n used (front ++ rest) values some p in
    let one = run_one w f.front f.rest f.run front rest run f.is is (sym f.same) in
    none f.more f.after (subst (λ (b : List ℕ). IsHybrid w b (n - length run) f.more f.after) one.rest (subst (λ (t : List ℕ). IsHybrid w f.rest (n - length t) f.more f.after) one.run f.others))

-- ---- one meaning

none_of : (w n u : ℕ) (values text rest : List ℕ) (runs : List (List ℕ)) → n ≡ 0 → AreRuns w text rest runs → ((k : ℕ) → k < length runs → length (concat (take k runs)) < n)
    → values ≡ take n (concat runs) → u ≡ length text → (values ≡ []) × (u ≡ 0)
none_of w n u values text rest [] none spelled short first ends = (first ∙ ap (λ (k : ℕ). take k (concat [])) none, ends ∙ ap length spelled)
none_of w n u values text rest (run ∷ runs) none spelled short first ends = absurd (let some : 0 < n = short 0 (omega arith) in omega arith)

one_of : (w n u t : ℕ) (bytes values others text rest : List ℕ) (runs : List (List ℕ)) → bytes ≡ text ++ rest → AreRuns w text rest runs → n ≤ length (concat runs)
    → ((k : ℕ) → k < length runs → length (concat (take k runs)) < n) → values ≡ take n (concat runs) → u ≡ length text
    → IsHybrid w bytes n others t → (values ≡ others) × (u ≡ t)
one_of w n u t bytes values others text rest [] same spelled enough short first ends q =
    let none : n ≡ 0 = omega arith in
    let p = none_of w n u values text rest [] none spelled short first ends in
    let r = none_of w n t others q.text q.rest q.runs none q.spelled q.shortest q.first q.ends in
    (p.0 ∙ sym r.0, p.1 ∙ sym r.1)
one_of w n u t bytes values others text rest (run ∷ runs) same (front, more, parts, is, after) enough short first ends q =
    let some : 0 < n = short 0 (omega arith) in
    let f = hybrid_first w n t bytes others some q in
    let left : bytes ≡ front ++ (more ++ rest) = same ∙ ap (λ (x : List ℕ). x ++ rest) parts ∙ append_assoc front more rest in
    let one = run_one w f.front f.rest f.run front (more ++ rest) run f.is is (sym f.same ∙ left) in
    let q2 : IsHybrid w (more ++ rest) (n - length run) f.more f.after =
    subst (λ (xs : List ℕ). IsHybrid w (more ++ rest) (n - length xs) f.more f.after) one.run (subst (λ (b : List ℕ). IsHybrid w b (n - length f.run) f.more f.after) one.rest f.others) in
    let r = one_of w (n - length run) (length more) f.after (more ++ rest) (take (n - length run) (concat runs)) f.more more rest runs refl after (omega (arith, enough, length-append run (concat runs))) (shortest_less run runs n short) refl refl q2 in (
      first ∙ take_both n run (concat runs) ∙ ap (λ (xs : List ℕ). take n run ++ xs) r.0 ∙ ap (λ (xs : List ℕ). take n xs ++ f.more) (sym one.run) ∙ sym f.values_are,
      let size : length f.front ≡ length front = ap length one.text in omega (arith, ends, ap length parts, length-append front more, f.used_is, r.1),
    )

pub one_hybrid : (w n : ℕ) → IsFunctional (λ bytes. IsHybrid w bytes n)
one_hybrid w n = λ bytes values others used taken p q. one_of w n used taken bytes values others p.text p.rest p.runs p.front p.spelled p.enough p.shortest p.first p.ends q

-- ---- how wide

narrow_body : (w h : ℕ) (body rest run : List ℕ) → IsBody w h body rest run → All (λ x. x < 2 ^ w) run
narrow_body w h body rest run (inl p) = subst (λ (t : List ℕ). All (λ x. x < 2 ^ w) t) (sym p.stands_for) (All-replicate (λ x. x < 2 ^ w) p.count (little_endian body) p.narrow)
narrow_body w h body rest run (inr (inl p)) = All-from_get_or (λ x. x < 2 ^ w) run 0 (packed_narrow body w run p.stands_for)
narrow_body w h body rest run (inr (inr p)) = All-from_get_or (λ x. x < 2 ^ w) run 0 (packed_narrow body w run p.1.stands_for)

narrow_runs : (w : ℕ) (text rest : List ℕ) (runs : List (List ℕ)) → AreRuns w text rest runs → All (λ x. x < 2 ^ w) (concat runs)
narrow_runs w text rest [] p = All-nil (λ x. x < 2 ^ w)
narrow_runs w text rest (run ∷ runs) (front, more, parts, is, others) = All-append (λ x. x < 2 ^ w) run (concat runs) (narrow_body w is.header is.body (more ++ rest) run is.announced) (narrow_runs w more rest runs others)

-- what stands has at most w bits
pub hybrid_narrow : (w n u : ℕ) (bytes values : List ℕ) → IsHybrid w bytes n values u → All (λ x. x < 2 ^ w) values
hybrid_narrow w n u bytes values p = subst (λ (t : List ℕ). All (λ x. x < 2 ^ w) t) (sym p.first) (All-take (λ x. x < 2 ^ w) n (concat p.runs) (narrow_runs w p.text p.rest p.runs p.spelled))
