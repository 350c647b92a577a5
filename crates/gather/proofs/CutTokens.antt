-- The tokens of a row, cut into its key and the rest.
use Rattle.std.proofs.Common.{◌≡◌, ℕ, suc, ◌+◌, Bool, true, false, List, [], ◌∷◌, ◌++◌, refl, ap, sym, ◌∙◌, arith}
use Rattle.std.specs.Prelude.{cond, nat_eq, ◌||◌, if◌then◌else◌}
use Rattle.std.proofs.lemmas.List.{append-nil, append_assoc}
use Rattle.std.proofs.lemmas.Bool.{false≢true}
use Rattle.schema.specs.Cutting.{is_among}
use Rattle.schema.specs.Values.{ValueTree, null, boolean, integer, bytes, group, list, ValueTrees, no_values, value}
use Rattle.schema.specs.Keys.{values_besides, width}
use Rattle.assemble.specs.Sinks.{Token, single, group_begins, group_ends, list_begins, list_ends, tokens, tokens_each}
use Rattle.gather.specs.Parts.{kept_value, put_at}
use Rattle.gather.specs.CutRows.{Cut, cut_at, cut_step, cut_run}

-- tokens, and then others
pub run_append : (places : List ℕ) (c : Cut) (ts us : List Token) → cut_run places c (ts ++ us) ≡ cut_run places (cut_run places c ts) us
run_append places c [] us = refl
run_append places c (t ∷ ts) us = run_append places (cut_step places c t) ts us

-- ---- within a group or a list

-- a group or a list between its two tokens
between : (rest inner : List Token) (t u : Token) → ((rest ++ t ∷ []) ++ inner) ++ u ∷ [] ≡ rest ++ (t ∷ (inner ++ u ∷ []))
between rest inner t u = append_assoc (rest ++ t ∷ []) inner (u ∷ []) ∙ append_assoc rest (t ∷ []) (inner ++ u ∷ [])

mutual
  deep : (places : List ℕ) (v : ValueTree) (place depth : ℕ) (rest : List Token) (key : List ValueTree)
      → cut_run places (cut_at place (suc depth) rest key) (tokens v) ≡ cut_at place (suc depth) (rest ++ tokens v) key
  deep places null place depth rest key = refl
  deep places (boolean b) place depth rest key = refl
  deep places (integer z) place depth rest key = refl
  deep places (bytes s) place depth rest key = refl
  deep places (group vs) place depth rest key =
      run_append places (cut_at place (suc (suc depth)) (rest ++ group_begins ∷ []) key) (tokens_each vs) (group_ends ∷ [])
      ∙ ap (λ (c : Cut). cut_run places c (group_ends ∷ [])) (deep_each places vs place (suc depth) (rest ++ group_begins ∷ []) key)
      ∙ ap (λ (ts : List Token). cut_at place (suc depth) ts key) (between rest (tokens_each vs) group_begins group_ends)
  deep places (list vs) place depth rest key =
      run_append places (cut_at place (suc (suc depth)) (rest ++ list_begins ∷ []) key) (tokens_each vs) (list_ends ∷ [])
      ∙ ap (λ (c : Cut). cut_run places c (list_ends ∷ [])) (deep_each places vs place (suc depth) (rest ++ list_begins ∷ []) key)
      ∙ ap (λ (ts : List Token). cut_at place (suc depth) ts key) (between rest (tokens_each vs) list_begins list_ends)

  deep_each : (places : List ℕ) (vs : ValueTrees) (place depth : ℕ) (rest : List Token) (key : List ValueTree)
      → cut_run places (cut_at place (suc depth) rest key) (tokens_each vs) ≡ cut_at place (suc depth) (rest ++ tokens_each vs) key
  deep_each places no_values place depth rest key = ap (λ (ts : List Token). cut_at place (suc depth) ts key) (sym (append-nil rest))
  deep_each places (value v vs) place depth rest key =
      run_append places (cut_at place (suc depth) rest key) (tokens v) (tokens_each vs)
      ∙ ap (λ (c : Cut). cut_run places c (tokens_each vs)) (deep places v place depth rest key)
      ∙ deep_each places vs place depth (rest ++ tokens v) key
      ∙ ap (λ (ts : List Token). cut_at place (suc depth) ts key) (append_assoc rest (tokens v) (tokens_each vs))

-- ---- at the top

pub put_none : (places : List ℕ) (place : ℕ) (v : ValueTree) (key : List ValueTree) → is_among places place ≡ false → put_at places place v key ≡ key
put_none [] place v key none = refl
put_none (at ∷ places) place v [] none = refl
put_none (at ∷ places) place v (k ∷ key) none = by (nat_eq at place) (put_none places place v key) none
  where
    by : (b : Bool) → (is_among places place ≡ false → put_at places place v key ≡ key) → (b || is_among places place) ≡ false → (if b then v ∷ key else k ∷ put_at places place v key) ≡ k ∷ key
    by true rest h = absurd (false≢true (sym h))
    by false rest h = ap (λ (ks : List ValueTree). k ∷ ks) (rest h)

single_besides : (places : List ℕ) (v : ValueTree) (place : ℕ) (rest : List Token) (key : List ValueTree) → is_among places place ≡ false
    → cut_run places (cut_at place 0 rest key) (single v ∷ []) ≡ cut_at (suc place) 0 (rest ++ single v ∷ []) key
single_besides places v place rest key none =
    ap (λ (b : Bool). cut_at (suc place) 0 (if b then rest else rest ++ single v ∷ []) (put_at places place (kept_value v) key)) none
    ∙ ap (cut_at (suc place) 0 (rest ++ single v ∷ [])) (put_none places place (kept_value v) key none)

-- a value besides the key
besides : (places : List ℕ) (v : ValueTree) (place : ℕ) (rest : List Token) (key : List ValueTree) → is_among places place ≡ false
    → cut_run places (cut_at place 0 rest key) (tokens v) ≡ cut_at (suc place) 0 (rest ++ tokens v) key
besides places null place rest key none = single_besides places null place rest key none
besides places (boolean b) place rest key none = single_besides places (boolean b) place rest key none
besides places (integer z) place rest key none = single_besides places (integer z) place rest key none
besides places (bytes s) place rest key none = single_besides places (bytes s) place rest key none
besides places (group vs) place rest key none =
    run_append places (cut_at place 1 (rest ++ group_begins ∷ []) key) (tokens_each vs) (group_ends ∷ [])
    ∙ ap (λ (c : Cut). cut_run places c (group_ends ∷ [])) (deep_each places vs place 0 (rest ++ group_begins ∷ []) key)
    ∙ ap (λ (ts : List Token). cut_at (suc place) 0 ts key) (between rest (tokens_each vs) group_begins group_ends)
besides places (list vs) place rest key none =
    run_append places (cut_at place 1 (rest ++ list_begins ∷ []) key) (tokens_each vs) (list_ends ∷ [])
    ∙ ap (λ (c : Cut). cut_run places c (list_ends ∷ [])) (deep_each places vs place 0 (rest ++ list_begins ∷ []) key)
    ∙ ap (λ (ts : List Token). cut_at (suc place) 0 ts key) (between rest (tokens_each vs) list_begins list_ends)

-- a value as a key has it
pub record IsSingle (v : ValueTree) : Type 0 where
  pub kept : kept_value v ≡ v
  pub token : tokens v ≡ single v ∷ []

of_key : (places : List ℕ) (v : ValueTree) (place : ℕ) (rest : List Token) (key : List ValueTree) → is_among places place ≡ true → IsSingle v
    → cut_run places (cut_at place 0 rest key) (tokens v) ≡ cut_at (suc place) 0 rest (put_at places place v key)
of_key places v place rest key here is =
    ap (cut_run places (cut_at place 0 rest key)) is.token
    ∙ ap (λ (b : Bool). cut_at (suc place) 0 (if b then rest else rest ++ single v ∷ []) (put_at places place (kept_value v) key)) here
    ∙ ap (λ (w : ValueTree). cut_at (suc place) 0 rest (put_at places place w key)) is.kept

-- the values at the places of the key are as a key has them, where the first value has this place
abbrev pub AreSingle : List ℕ → ℕ → ValueTrees → Type 0
AreSingle places place no_values = Unit {0}
AreSingle places place (value v vs) = (is_among places place ≡ true → IsSingle v) × AreSingle places (suc place) vs

-- values put into the key, where the first has this place
abbrev pub put_each : List ℕ → ℕ → ValueTrees → List ValueTree → List ValueTree
put_each places place no_values key = key
put_each places place (value v vs) key = put_each places (suc place) vs (put_at places place v key)

-- a row, cut
pub row_cut : (places : List ℕ) (vs : ValueTrees) (place : ℕ) (rest : List Token) (key : List ValueTree) → AreSingle places place vs
    → cut_run places (cut_at place 0 rest key) (tokens_each vs) ≡ cut_at (place + width vs) 0 (rest ++ tokens_each (values_besides (is_among places) place vs)) (put_each places place vs key)
row_cut places no_values place rest key are =
    ap (λ (n : ℕ). cut_at n 0 rest key) (omega (arith)) ∙ ap (λ (ts : List Token). cut_at (place + 0) 0 ts key) (sym (append-nil rest))
row_cut places (value v vs) place rest key are = by (is_among places place) refl (λ r. row_cut places vs (suc place) r (put_at places place v key) are.1)
  where
    next : suc place + width vs ≡ place + suc (width vs)
    next = omega arith

    by : (b : Bool) → is_among places place ≡ b
        → ((r : List Token) → cut_run places (cut_at (suc place) 0 r (put_at places place v key)) (tokens_each vs)
        ≡ cut_at (suc place + width vs) 0 (r ++ tokens_each (values_besides (is_among places) (suc place) vs)) (put_each places (suc place) vs (put_at places place v key)))
        → cut_run places (cut_at place 0 rest key) (tokens v ++ tokens_each vs)
        ≡ cut_at (place + suc (width vs)) 0 (rest ++ tokens_each (cond b (values_besides (is_among places) (suc place) vs) (value v (values_besides (is_among places) (suc place) vs)))) (put_each places (suc place) vs (put_at places place v key))
    by true here others =
        run_append places (cut_at place 0 rest key) (tokens v) (tokens_each vs)
        ∙ ap (λ (c : Cut). cut_run places c (tokens_each vs)) (of_key places v place rest key here (are.0 here))
        ∙ others rest
        ∙ ap (λ (n : ℕ). cut_at n 0 (rest ++ tokens_each (values_besides (is_among places) (suc place) vs)) (put_each places (suc place) vs (put_at places place v key))) next
    by false here others =
        run_append places (cut_at place 0 rest key) (tokens v) (tokens_each vs)
        ∙ ap (λ (c : Cut). cut_run places c (tokens_each vs)) (besides places v place rest key here ∙ ap (cut_at (suc place) 0 (rest ++ tokens v)) (sym (put_none places place v key here)))
        ∙ others (rest ++ tokens v)
        ∙ ap (λ (ts : List Token). cut_at (suc place + width vs) 0 ts (put_each places (suc place) vs (put_at places place v key))) (append_assoc rest (tokens v) (tokens_each (values_besides (is_among places) (suc place) vs)))
        ∙ ap (λ (n : ℕ). cut_at n 0 (rest ++ (tokens v ++ tokens_each (values_besides (is_among places) (suc place) vs))) (put_each places (suc place) vs (put_at places place v key))) next
