-- What the fields that are written give when they are read.
use Rattle.std.proofs.Common.{◌≡◌, ℕ, ℤ, refl, List, [], ◌∷◌, ◌++◌, Option, Some, None, Bool, true, false, map, ap, append_assoc}
use Rattle.std.proofs.lemmas.List.{append-nil}
use Rattle.std.specs.Prelude.{option_map, if◌then◌else◌}
use Rattle.std.specs.Option.{option_to_list}
use Rattle.std.specs.Ordering.{int_eq}
use Rattle.thrift_compact.specs.Tree.{Node}
use Rattle.thrift_compact.specs.View.{nodes_of}
use Rattle.metadata.specs.FieldValues.{all_with, last_of, known, needed, boolean, each_of, list_by}
use Rattle.metadata.specs.ToTree.{Entry, written, truth, many}

-- the values that stand in a table under an id
abbrev pub picked : ℤ → List Entry → List Node
picked id [] = []
picked id (e ∷ es) = if int_eq e.0 id then option_to_list e.1 ++ picked id es else picked id es

same_both : {X : Type 0} (b : Bool) (x : X) → x ≡ (if b then x else x)
same_both true x = refl
same_both false x = refl

pub all_with-written : (id : ℤ) (es : List Entry) → all_with id (written es) ≡ picked id es
all_with-written id [] = refl
all_with-written id ((z, Some x) ∷ es) = ap (λ (xs : List Node). if int_eq z id then x ∷ xs else xs) (all_with-written id es)
all_with-written id ((z, None) ∷ es) = rw (all_with-written id es) (same_both (int_eq z id) (picked id es))

last-one : {X : Type 0} (read : Node → Option X) (write : X → Node) → ((x : X) → read (write x) ≡ Some x) → (o : Option X) → last_of read (option_to_list (option_map write o) ++ []) ≡ Some o
last-one read write again None = refl
last-one read write again (Some x) = rw (again x)

pub known-written : {X : Type 0} (read : Node → Option X) (write : X → Node) → ((x : X) → read (write x) ≡ Some x) → (id : ℤ) (es : List Entry) (o : Option X) → picked id es ≡ option_to_list (option_map write o) ++ [] → known read id (written es) ≡ Some o
known-written read write again id es o here = rw (all_with-written id es, here) (last-one read write again o)

pub needed-written : {X : Type 0} (read : Node → Option X) (write : X → Node) → ((x : X) → read (write x) ≡ Some x) → (id : ℤ) (es : List Entry) (x : X) → picked id es ≡ write x ∷ [] → needed read id (written es) ≡ Some x
needed-written read write again id es x here =
    let e : known read id (written es) ≡ Some (Some x) = known-written read write again id es (Some x) here in
    rw e

pub list-many : {X : Type 0} (read : Node → Option X) (write : X → Node) (code : ℕ) → ((x : X) → read (write x) ≡ Some x) → (xs : List X) → list_by read (many code write xs) ≡ Some xs
list-many read write code again [] = refl
list-many read write code again (x ∷ xs) =
    let e : each_of read (nodes_of (map write xs)) ≡ Some xs = list-many read write code again xs in
    rw (again x, e)

pub boolean-truth : (b : Bool) → boolean (truth b) ≡ Some b
boolean-truth true = refl
boolean-truth false = refl

-- what was put in ten steps, one behind the other
pub put_by_ten : {X : Type 0} {l0 l1 l2 l3 l4 l5 l6 l7 l8 l9 l10 : List X} (g1 g2 g3 g4 g5 g6 g7 g8 g9 g10 : List X) → l0 ≡ [] → l1 ≡ l0 ++ g1 → l2 ≡ l1 ++ g2 → l3 ≡ l2 ++ g3 → l4 ≡ l3 ++ g4 → l5 ≡ l4 ++ g5 → l6 ≡ l5 ++ g6 → l7 ≡ l6 ++ g7 → l8 ≡ l7 ++ g8 → l9 ≡ l8 ++ g9 → l10 ≡ l9 ++ g10 → l10 ≡ g1 ++ (g2 ++ (g3 ++ (g4 ++ (g5 ++ (g6 ++ (g7 ++ (g8 ++ (g9 ++ (g10 ++ [])))))))))
put_by_ten g1 g2 g3 g4 g5 g6 g7 g8 g9 g10 e0 e1 e2 e3 e4 e5 e6 e7 e8 e9 e10 = rw (e10, e9, e8, e7, e6, e5, e4, e3, e2, e1, e0) (simp (append_assoc, append-nil))
