-- What is printed of kept values, step by step.
use Rattle.std.proofs.Common.{◌≡◌, ℕ, zero, suc, ◌+◌, ◌≤◌, Bool, true, false, List, [], ◌∷◌, ◌++◌, length, drop, refl, ap, ap₂, sym, ◌∙◌, arith, append_assoc, append-nil}
use Rattle.std.specs.List.{concat}
use Rattle.serde_json.specs.Written.{comma_if}
use Rattle.schema.specs.declared.value.Value.{Value}
use Rattle.schema.specs.Values.{list, ValueTrees, no_values, value, view, views}
use Rattle.rowtext.specs.declared.row_plan.Slot.{Slot as CodeSlot}
use Rattle.rowtext.specs.inner.Slots.{Slot, Slots, no_slots, slot, slot_view, slots_view, key_in}
use Rattle.rowtext.specs.inner.Kept.{nth, kept_text, kept_items, kept_pieces}

-- ---- members

-- the member at an index
pub nth_there : (ss : List CodeSlot) (vs : List Value) (i : ℕ) (s : CodeSlot) (v : Value) (ts : List CodeSlot) (us : List Value) → drop i ss ≡ s ∷ ts → drop i vs ≡ v ∷ us
    → nth (kept_pieces (slots_view ss) (views vs)) i ≡ key_in (slot_view s) ++ kept_text (slot_view s) (view v)
nth_there ss vs zero s v ts us p q = ap₂ (λ xs ys. nth (kept_pieces (slots_view xs) (views ys)) 0) p q
nth_there [] vs (suc i) s v ts us p q = absurd (cc)
nth_there (t ∷ ss) [] (suc i) s v ts us p q = absurd (cc)
nth_there (t ∷ ss) (u ∷ vs) (suc i) s v ts us p q = nth_there ss vs i s v ts us p q

-- there is none without a field, or without a value
pub nth_no_slot : (ss : List CodeSlot) (vs : ValueTrees) (i : ℕ) → drop i ss ≡ [] → nth (kept_pieces (slots_view ss) vs) i ≡ []
nth_no_slot [] vs i p = refl
nth_no_slot (s ∷ ss) vs zero p = absurd (cc)
nth_no_slot (s ∷ ss) no_values (suc i) p = refl
nth_no_slot (s ∷ ss) (value v vs) (suc i) p = nth_no_slot ss vs i p

pub nth_no_value : (ss : Slots) (vs : List Value) (i : ℕ) → drop i vs ≡ [] → nth (kept_pieces ss (views vs)) i ≡ []
nth_no_value no_slots vs i p = refl
nth_no_value (slot s ss) [] i p = refl
nth_no_value (slot s ss) (v ∷ vs) zero p = absurd (cc)
nth_no_value (slot s ss) (v ∷ vs) (suc i) p = nth_no_value ss vs i p

none_concat : (i : ℕ) → concat (drop i []) ≡ []
none_concat zero = refl
none_concat (suc i) = refl

-- a name and a value
pub member_there : (old mid new key named text piece : List ℕ) → mid ≡ old ++ key → key ≡ named → new ≡ mid ++ text → piece ≡ named ++ text → new ≡ old ++ piece
member_there old mid new key named text piece first same then is = then ∙ ap (λ (s : List ℕ). s ++ text) (first ∙ ap (λ (s : List ℕ). old ++ s) same) ∙ append_assoc old named text ∙ ap (λ (s : List ℕ). old ++ s) (sym is)

concat_more : (ps : List (List ℕ)) (i : ℕ) → concat (drop i ps) ≡ nth ps i ++ concat (drop (i + 1) ps)
concat_more [] i = none_concat i ∙ sym (none_concat (i + 1))
concat_more (p ∷ ps) zero = refl
concat_more (p ∷ ps) (suc i) =
    let next : suc (i + 1) ≡ suc i + 1 = omega arith in
    concat_more ps i ∙ ap (λ n. nth ps i ++ concat (drop n (p ∷ ps))) next

-- one member more, in the order of the fields
pub member_put : (ps : List (List ℕ)) (i : ℕ) (now new all : List ℕ) → now ++ concat (drop i ps) ≡ all → new ≡ now ++ nth ps i → new ++ concat (drop (i + 1) ps) ≡ all
member_put ps i now new all so put = ap (λ (s : List ℕ). s ++ concat (drop (i + 1) ps)) put ∙ append_assoc now (nth ps i) (concat (drop (i + 1) ps)) ∙ ap (λ (s : List ℕ). now ++ s) (sym (concat_more ps i)) ∙ so

-- after all fields there is none
pub none_left : (ss : List CodeSlot) (vs : ValueTrees) (i : ℕ) → length ss ≤ i → concat (drop i (kept_pieces (slots_view ss) vs)) ≡ []
none_left [] vs zero h = refl
none_left [] vs (suc i) h = refl
none_left (s ∷ ss) vs zero h = absurd (omega (arith, h))
none_left (s ∷ ss) no_values (suc i) h = refl
none_left (s ∷ ss) (value v vs) (suc i) h = none_left ss vs i (omega (arith, h))

-- ---- items

-- one item more
pub item_put : (s : Slot) (vs : List Value) (i : ℕ) (v : Value) (us : List Value) (later : Bool) (now mid new all : List ℕ) → drop i vs ≡ v ∷ us
    → now ++ kept_items later s (views (drop i vs)) ≡ all → mid ≡ now ++ comma_if later → new ≡ mid ++ kept_text s (view v) → new ++ kept_items true s (views us) ≡ all
item_put s vs i v us later now mid new all split so comma put =
    let t = kept_text s (view v) in
    let more = kept_items true s (views us) in
    ap (λ (x : List ℕ). x ++ more) (put ∙ ap (λ (x : List ℕ). x ++ t) comma ∙ append_assoc now (comma_if later) t) ∙ append_assoc now (comma_if later ++ t) more
    ∙ ap (λ (x : List ℕ). now ++ x) (append_assoc (comma_if later) t more) ∙ ap (λ (xs : List Value). now ++ kept_items later s (views xs)) (sym split) ∙ so

-- the end of a list
pub list_put : (s : Slot) (vs : List Value) (i : ℕ) (later : Bool) (old first now new : List ℕ) → first ≡ old ++ 91 ∷ [] → drop i vs ≡ [] → now ++ kept_items later s (views (drop i vs)) ≡ first ++ kept_items false s (views vs)
    → new ≡ now ++ 93 ∷ [] → new ≡ old ++ kept_text s (list (views vs))
list_put s vs i later old first now new opened none so closed =
    let items = kept_items false s (views vs) in
    let all : now ≡ first ++ items = sym (append-nil now) ∙ ap (λ (xs : List Value). now ++ kept_items later s (views xs)) (sym none) ∙ so in
    closed ∙ ap (λ (x : List ℕ). x ++ 93 ∷ []) (all ∙ ap (λ (x : List ℕ). x ++ items) opened ∙ append_assoc old (91 ∷ []) items) ∙ append_assoc old (91 ∷ items) (93 ∷ [])
