-- Lists of names and of nodes.
use Rattle.std.proofs.Common.{◌≡◌, ◌≢◌, ◌<◌, ◌≤◌, ⊎_elim, ℕ, zero, suc, List, [], ◌∷◌, ◌++◌, length, take, set, get_or, if◌then◌else◌, ◌==◌, bytes_eq, string_bytes, refl, sym, ◌∙◌, ap, subst, arith}
use Rattle.disk.specs.declared.binding.Binding.{Binding}
use Rattle.mem_disk.specs.declared.name.Name.{Name}
use Rattle.mem_disk.specs.declared.node.Node.{Node}
use Rattle.mem_disk.specs.Tables.{at_first, of_name, name_in, had_in, FindsNone, Finds, of_node, Rebinds, SaysTheSame, AreApart}
use Rattle.mem_disk.proofs.Choices.{same_or_not, at_same, at_other, equal_or_not, at_node, at_other_node}

pub finds_within : (es : List Name) (p : List ℕ) (i : ℕ) → Finds es p i → i < length es
finds_within [] p i f = absurd f
finds_within (e ∷ es) p zero f = omega arith
finds_within (e ∷ es) p (suc i) f = let lt = finds_within es p i f.1 in omega (arith, lt)

pub finds_path : (es : List Name) (p : List ℕ) (i : ℕ) (d : Name) → Finds es p i → string_bytes (get_or es i d).path ≡ p
finds_path [] p i d f = absurd f
finds_path (e ∷ es) p zero d f = f
finds_path (e ∷ es) p (suc i) d f = finds_path es p i d f.1

pub none_more : (es : List Name) (p : List ℕ) (i : ℕ) (d : Name) → i < length es → FindsNone (take i es) p → string_bytes (get_or es i d).path ≢ p → FindsNone (take (suc i) es) p
none_more [] p i d lt before ne = absurd (omega (arith, lt))
none_more (e ∷ es) p zero d lt before ne = (ne, tt)
none_more (e ∷ es) p (suc i) d lt before ne = (before.0, none_more es p i d (omega (arith, lt)) before.1 ne)

pub finds_at : (es : List Name) (p : List ℕ) (i : ℕ) (d : Name) → i < length es → FindsNone (take i es) p → string_bytes (get_or es i d).path ≡ p → Finds es p i
finds_at [] p i d lt before is = absurd (omega (arith, lt))
finds_at (e ∷ es) p zero d lt before is = is
finds_at (e ∷ es) p (suc i) d lt before is = (before.0, finds_at es p i d (omega (arith, lt)) before.1 is)

module _ {T : Type 0} (f : Name → T) (none : List ℕ → T) where
  pub none_of : (es : List Name) (p : List ℕ) → FindsNone es p → of_name f none es p ≡ none p
  none_of [] p away = refl
  none_of (e ∷ es) p away = at_other p (string_bytes e.path) (f e) (of_name f none es p) (λ x. away.0 (sym x)) ∙ none_of es p away.1

  pub found_of : (es : List Name) (p : List ℕ) (i : ℕ) (d : Name) → Finds es p i → of_name f none es p ≡ f (get_or es i d)
  found_of [] p i d at = absurd at
  found_of (e ∷ es) p zero d at = at_same p (string_bytes e.path) (f e) (of_name f none es p) (sym at)
  found_of (e ∷ es) p (suc i) d at = at_other p (string_bytes e.path) (f e) (of_name f none es p) (λ x. at.0 (sym x)) ∙ found_of es p i d at.1

  pub set_of : (es : List Name) (p : List ℕ) (i : ℕ) (e : Name) → Finds es p i → string_bytes e.path ≡ p → (q : List ℕ) → of_name f none (set es i e) q ≡ (if bytes_eq q p then f e else of_name f none es q)
  set_of [] p i e at is q = absurd at
  set_of (x ∷ es) p zero e at is q = ⊎_elim
      (λ yes. at_same q (string_bytes e.path) (f e) (of_name f none es q) (yes.0 ∙ sym is) ∙ sym (at_same q p (f e) (of_name f none (x ∷ es) q) yes.0))
      (λ away. at_other q (string_bytes e.path) (f e) (of_name f none es q) (λ s. away.0 (s ∙ is))
      ∙ sym (at_other q (string_bytes x.path) (f x) (of_name f none es q) (λ s. away.0 (s ∙ at)))
      ∙ sym (at_other q p (f e) (of_name f none (x ∷ es) q) away.0))
      (same_or_not q p)
  set_of (x ∷ es) p (suc i) e at is q = ⊎_elim
      (λ yes. at_other q (string_bytes x.path) (f x) (of_name f none (set es i e) q) (λ s. at.0 (sym s ∙ yes.0))
      ∙ set_of es p i e at.1 is q ∙ at_same q p (f e) (of_name f none es q) yes.0
      ∙ sym (at_same q p (f e) (of_name f none (x ∷ es) q) yes.0))
      (λ away. ap (λ (t : T). if bytes_eq q (string_bytes x.path) then f x else t) (set_of es p i e at.1 is q ∙ at_other q p (f e) (of_name f none es q) away.0)
      ∙ sym (at_other q p (f e) (of_name f none (x ∷ es) q) away.0))
      (same_or_not q p)

  pub push_of : (es : List Name) (p : List ℕ) (e : Name) → FindsNone es p → string_bytes e.path ≡ p → (q : List ℕ) → of_name f none (es ++ e ∷ []) q ≡ (if bytes_eq q p then f e else of_name f none es q)
  push_of [] p e away is q = ap (λ (x : List ℕ). if bytes_eq q x then f e else none q) is
  push_of (x ∷ es) p e away is q = ⊎_elim
      (λ yes. at_other q (string_bytes x.path) (f x) (of_name f none (es ++ e ∷ []) q) (λ s. away.0 (sym s ∙ yes.0))
      ∙ push_of es p e away.1 is q ∙ at_same q p (f e) (of_name f none es q) yes.0
      ∙ sym (at_same q p (f e) (of_name f none (x ∷ es) q) yes.0))
      (λ beside. ap (λ (t : T). if bytes_eq q (string_bytes x.path) then f x else t) (push_of es p e away.1 is q ∙ at_other q p (f e) (of_name f none es q) beside.0)
      ∙ sym (at_other q p (f e) (of_name f none (x ∷ es) q) beside.0))
      (same_or_not q p)

-- a name that was there
pub rebinds_found : (es : List Name) (p : List ℕ) (i : ℕ) (d e : Name) (to : Binding) → Finds es p i → string_bytes e.path ≡ p → e.now ≡ to → e.had.items ≡ (get_or es i d).had.items ++ (get_or es i d).now ∷ [] → Rebinds p to es (set es i e)
rebinds_found es p i d e to at is now had = record {
  names = λ q. set_of (λ (x : Name). x.now) at_first es p i e at is q ∙ ap (λ (b : Binding). if bytes_eq q p then b else name_in es q) now;
  had = λ q. set_of (λ (x : Name). x.had.items) (λ _. []) es p i e at is q ∙ ⊎_elim
      (λ yes. at_same q p e.had.items (had_in es q) yes.0 ∙ had
      ∙ ap (λ (xs : List Binding). xs ++ (get_or es i d).now ∷ []) (sym (found_of (λ (x : Name). x.had.items) (λ _. []) es p i d at))
      ∙ ap (λ (b : Binding). had_in es p ++ b ∷ []) (sym (found_of (λ (x : Name). x.now) at_first es p i d at))
      ∙ ap (λ (x : List ℕ). had_in es x ++ name_in es x ∷ []) (sym yes.0)
      ∙ sym (at_same q p (had_in es q ++ name_in es q ∷ []) (had_in es q) yes.0))
      (λ away. at_other q p e.had.items (had_in es q) away.0 ∙ sym (at_other q p (had_in es q ++ name_in es q ∷ []) (had_in es q) away.0))
      (same_or_not q p);
}

-- a name that stays
pub same_found : (es : List Name) (p : List ℕ) (i : ℕ) (d e : Name) → Finds es p i → string_bytes e.path ≡ p → e.now ≡ (get_or es i d).now → e.had.items ≡ (get_or es i d).had.items → SaysTheSame es (set es i e)
same_found es p i d e at is now had = record {
  names = λ q. set_of (λ (x : Name). x.now) at_first es p i e at is q ∙ stays (λ (x : Name). x.now) at_first now q;
  had = λ q. set_of (λ (x : Name). x.had.items) (λ _. []) es p i e at is q ∙ stays (λ (x : Name). x.had.items) (λ _. []) had q;
}
  where
    stays : {T : Type 0} (f : Name → T) (none : List ℕ → T) → f e ≡ f (get_or es i d) → (q : List ℕ) → (if bytes_eq q p then f e else of_name f none es q) ≡ of_name f none es q
    stays f none same q = ⊎_elim
        (λ yes. at_same q p (f e) (of_name f none es q) yes.0 ∙ same ∙ sym (found_of f none es p i d at) ∙ ap (of_name f none es) (sym yes.0))
        (λ away. at_other q p (f e) (of_name f none es q) away.0)
        (same_or_not q p)

pub same_itself : (es new : List Name) → new ≡ es → SaysTheSame es new
same_itself es new e = record { names = λ q. ap (λ (x : List Name). name_in x q) e; had = λ q. ap (λ (x : List Name). had_in x q) e }

-- a new name
pub rebinds_new : (es : List Name) (p : List ℕ) (e : Name) (to : Binding) → FindsNone es p → string_bytes e.path ≡ p → e.now ≡ to → e.had.items ≡ at_first p ∷ [] → Rebinds p to es (es ++ e ∷ [])
rebinds_new es p e to away is now had = record {
  names = λ q. push_of (λ (x : Name). x.now) at_first es p e away is q ∙ ap (λ (b : Binding). if bytes_eq q p then b else name_in es q) now;
  had = λ q. push_of (λ (x : Name). x.had.items) (λ _. []) es p e away is q ∙ ⊎_elim
      (λ yes. at_same q p e.had.items (had_in es q) yes.0 ∙ had
      ∙ ap (λ (xs : List Binding). xs ++ at_first p ∷ []) (sym (none_of (λ (x : Name). x.had.items) (λ _. []) es p away))
      ∙ ap (λ (b : Binding). had_in es p ++ b ∷ []) (sym (none_of (λ (x : Name). x.now) at_first es p away))
      ∙ ap (λ (x : List ℕ). had_in es x ++ name_in es x ∷ []) (sym yes.0)
      ∙ sym (at_same q p (had_in es q ++ name_in es q ∷ []) (had_in es q) yes.0))
      (λ beside. at_other q p e.had.items (had_in es q) beside.0 ∙ sym (at_other q p (had_in es q ++ name_in es q ∷ []) (had_in es q) beside.0))
      (same_or_not q p);
}

module _ {T : Type 0} (f : Node → T) (none : T) where
  pub node_at : (xs : List Node) (n : ℕ) (d : Node) → n < length xs → of_node f none xs n ≡ f (get_or xs n d)
  node_at [] n d lt = absurd (omega (arith, lt))
  node_at (x ∷ xs) zero d lt = refl
  node_at (x ∷ xs) (suc n) d lt = node_at xs n d (omega (arith, lt))

  pub node_past : (xs : List Node) (n : ℕ) → length xs ≤ n → of_node f none xs n ≡ none
  node_past [] n ge = refl
  node_past (x ∷ xs) zero ge = absurd (omega (arith, ge))
  node_past (x ∷ xs) (suc n) ge = node_past xs n (omega (arith, ge))

  pub node_set : (xs : List Node) (n : ℕ) (v : Node) → n < length xs → of_node f none (set xs n v) n ≡ f v
  node_set [] n v lt = absurd (omega (arith, lt))
  node_set (x ∷ xs) zero v lt = refl
  node_set (x ∷ xs) (suc n) v lt = node_set xs n v (omega (arith, lt))

  pub node_set_other : (xs : List Node) (n : ℕ) (v : Node) (m : ℕ) → m ≢ n → of_node f none (set xs n v) m ≡ of_node f none xs m
  node_set_other [] n v m ne = refl
  node_set_other (x ∷ xs) zero v zero ne = absurd (ne refl)
  node_set_other (x ∷ xs) zero v (suc m) ne = refl
  node_set_other (x ∷ xs) (suc n) v zero ne = refl
  node_set_other (x ∷ xs) (suc n) v (suc m) ne = node_set_other xs n v m (λ e. ne (ap suc e))

  pub node_push : (xs : List Node) (v : Node) → f v ≡ none → (m : ℕ) → of_node f none (xs ++ v ∷ []) m ≡ of_node f none xs m
  node_push [] v is zero = is
  node_push [] v is (suc m) = refl
  node_push (x ∷ xs) v is zero = refl
  node_push (x ∷ xs) v is (suc m) = node_push xs v is m

  -- one node is set, and its part is this
  pub node_if : (xs : List Node) (n : ℕ) (v : Node) (to : ℕ → T) → n < length xs → f v ≡ to n → (m : ℕ) → of_node f none (set xs n v) m ≡ (if m == n then to m else of_node f none xs m)
  node_if xs n v to lt is m = ⊎_elim
      (λ yes. ap (of_node f none (set xs n v)) yes.0 ∙ node_set xs n v lt ∙ is ∙ ap to (sym yes.0) ∙ sym (at_node m n (to m) (of_node f none xs m) yes.0))
      (λ beside. node_set_other xs n v m beside.0 ∙ sym (at_other_node m n (to m) (of_node f none xs m) beside.0))
      (equal_or_not m n)

  pub node_same : (xs : List Node) (n : ℕ) (v d : Node) → n < length xs → f v ≡ f (get_or xs n d) → (m : ℕ) → of_node f none (set xs n v) m ≡ of_node f none xs m
  node_same xs n v d lt is m = ⊎_elim
      (λ yes. ap (of_node f none (set xs n v)) yes.0 ∙ node_set xs n v lt ∙ is ∙ sym (node_at xs n d lt) ∙ ap (of_node f none xs) (sym yes.0))
      (λ beside. node_set_other xs n v m beside.0)
      (equal_or_not m n)

-- ---- no two names have one path

none_push : (es : List Name) (e : Name) (q : List ℕ) → FindsNone es q → string_bytes e.path ≢ q → FindsNone (es ++ e ∷ []) q
none_push [] e q none ne = (ne, tt)
none_push (x ∷ es) e q none ne = (none.0, none_push es e q none.1 ne)

pub apart_push : (es : List Name) (p : List ℕ) (e : Name) → FindsNone es p → string_bytes e.path ≡ p → AreApart es → AreApart (es ++ e ∷ [])
apart_push [] p e none is apart = (tt, tt)
apart_push (x ∷ es) p e none is apart = (none_push es e (string_bytes x.path) apart.0 (λ same. none.0 (sym same ∙ is)), apart_push es p e none.1 is apart.1)

none_set : (es : List Name) (i : ℕ) (e : Name) (q : List ℕ) → FindsNone es q → string_bytes e.path ≢ q → FindsNone (set es i e) q
none_set [] i e q none ne = tt
none_set (x ∷ es) zero e q none ne = (ne, none.1)
none_set (x ∷ es) (suc i) e q none ne = (none.0, none_set es i e q none.1 ne)

pub apart_set : (es : List Name) (p : List ℕ) (i : ℕ) (e : Name) → Finds es p i → string_bytes e.path ≡ p → AreApart es → AreApart (set es i e)
apart_set [] p i e at is apart = absurd at
apart_set (x ∷ es) p zero e at is apart = (subst (FindsNone es) (at ∙ sym is) apart.0, apart.1)
apart_set (x ∷ es) p (suc i) e at is apart = (none_set es i e (string_bytes x.path) apart.0 (λ same. at.0 (sym same ∙ is)), apart_set es p i e at.1 is apart.1)
