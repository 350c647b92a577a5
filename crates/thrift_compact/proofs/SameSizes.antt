-- Lists that show the same have one length.
use Rattle.std.proofs.Common.{◌≡◌, ℕ, suc, List, [], ◌∷◌, length, refl, ap}
use Rattle.thrift_compact.specs.declared.tree.Node.{Node as CodeNode}
use Rattle.thrift_compact.specs.declared.tree.Field.{Field as CodeField}
use Rattle.thrift_compact.specs.Tree as tree
use Rattle.thrift_compact.specs.Tree.{Node, Nodes, node, Pairs, pair, Fields, field}
use Rattle.thrift_compact.specs.View.{views, pair_views, field_views}

pub nodes-length : (a b : List CodeNode) → views a ≡ views b → length a ≡ length b
nodes-length [] [] h = refl
nodes-length [] (y ∷ b) h = cc
nodes-length (x ∷ a) [] h = cc
nodes-length (x ∷ a) (y ∷ b) h = let rest : views a ≡ views b = cc in ap suc (nodes-length a b rest)

pub pairs-length : (a b : List (CodeNode × CodeNode)) → pair_views a ≡ pair_views b → length a ≡ length b
pairs-length [] [] h = refl
pairs-length [] (y ∷ b) h = cc
pairs-length (x ∷ a) [] h = cc
pairs-length (x ∷ a) (y ∷ b) h = let rest : pair_views a ≡ pair_views b = cc in ap suc (pairs-length a b rest)

pub fields-length : (a b : List CodeField) → field_views a ≡ field_views b → length a ≡ length b
fields-length [] [] h = refl
fields-length [] (y ∷ b) h = cc
fields-length (x ∷ a) [] h = cc
fields-length (x ∷ a) (y ∷ b) h = let rest : field_views a ≡ field_views b = cc in ap suc (fields-length a b rest)

-- maps of the same types and pairs are the same, and no others
pub same_map : (j k x y : ℕ) (p q : Pairs) → j ≡ k → x ≡ y → p ≡ q → tree.map j x p ≡ tree.map k y q
same_map j k x y p q e f g = λ i. tree.map (e i) (f i) (g i)

pub map_pairs : (j k x y : ℕ) (p q : Pairs) → tree.map j x p ≡ tree.map k y q → p ≡ q
map_pairs j k x y p q h = cc
