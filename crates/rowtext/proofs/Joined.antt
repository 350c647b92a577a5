-- Values that were read, before what is left to read.
use Rattle.std.proofs.Common.{◌≡◌, List, [], ◌∷◌, ◌++◌, Option, Some, None, option_map, refl, sym, ap, ◌∙◌}
use Rattle.schema.specs.declared.value.Value.{Value}
use Rattle.schema.specs.Values.{ValueTree, ValueTrees, no_values, value, view, views}
use Rattle.rowtext.specs.Reading.{value_before}

-- the values, and then others
abbrev pub joined : ValueTrees → ValueTrees → ValueTrees
joined no_values others = others
joined (value v vs) others = value v (joined vs others)

-- the values before those that are left, where they can be read
abbrev pub behind : List Value → Option ValueTrees → Option ValueTrees
behind vs left = option_map (joined (views vs)) left

pub joined-none : (vs : ValueTrees) → joined vs no_values ≡ vs
joined-none no_values = refl
joined-none (value v vs) = ap (value v) (joined-none vs)

pub joined-push : (vs : List Value) (v : Value) (others : ValueTrees) → joined (views vs) (value (view v) others) ≡ joined (views (vs ++ v ∷ [])) others
joined-push [] v others = refl
joined-push (w ∷ vs) v others = ap (value (view w)) (joined-push vs v others)

behind-push : (vs : List Value) (v : Value) (left : Option ValueTrees) → behind vs (value_before (Some (view v)) left) ≡ behind (vs ++ v ∷ []) left
behind-push vs v None = refl
behind-push vs v (Some others) = ap Some (joined-push vs v others)

-- one more was read
pub goes_on : (vs : List Value) (v : Value) (next : Option ValueTree) (all left : Option ValueTrees) → Some (view v) ≡ next → all ≡ behind vs (value_before next left) → all ≡ behind (vs ++ v ∷ []) left
goes_on vs v next all left is e = e ∙ ap (λ n. behind vs (value_before n left)) (sym is) ∙ behind-push vs v left

-- the next cannot be read
pub stops : (vs : List Value) (next : Option ValueTree) (all left : Option ValueTrees) → None ≡ next → all ≡ behind vs (value_before next left) → None ≡ all
stops vs next all left is e = sym (e ∙ ap (λ n. behind vs (value_before n left)) (sym is))

-- all were read
pub ends : (vs : List Value) (all left : Option ValueTrees) → left ≡ Some no_values → all ≡ behind vs left → Some (views vs) ≡ all
ends vs all left is e = sym (e ∙ ap (behind vs) is ∙ ap Some (joined-none (views vs)))

-- what is left cannot be read
pub fails : (vs : List Value) (all left : Option ValueTrees) → left ≡ None → all ≡ behind vs left → None ≡ all
fails vs all left is e = sym (e ∙ ap (behind vs) is)
