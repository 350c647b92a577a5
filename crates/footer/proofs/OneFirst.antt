-- The first rows of a file are one list, and the first of all its rows.
use Rattle.std.proofs.Common.{◌≡◌, ◌≤◌, ◌⊎◌, inl, inr, ℕ, zero, suc, ◌-◌, List, [], ◌∷◌, ◌++◌, length, take, refl, sym, ap, subst, ◌∙◌, arith, length-append}
use Rattle.std.specs.Prelude.{flat_map}
use Rattle.lists.proofs.Slices.{take_joined}
use Rattle.bits.specs.Codec.{IsFunctional}
use Rattle.schema.specs.Values.{ValueTrees}
use Rattle.schema.specs.Shape.{Fields}
use Rattle.schema.specs.Law.{IsSchema}
use Rattle.schema.specs.Listing.{ListsMeanOneSchema}
use Rattle.metadata.specs.Records.{FileMeta, GroupMeta}
use Rattle.metadata.specs.FromTree.{file_meta}
use Rattle.metadata.specs.Answers.{StandsFor}
use Rattle.row_group.specs.Chunks.{GroupMeans}
use Rattle.row_group.specs.Laws.{GroupsHaveOneList}
use Rattle.footer.specs.File.{IsFile, AreGroups, GroupsMean}
use Rattle.footer.specs.FirstRows.{counted, first_groups}
use Rattle.footer.specs.Laws.{FirstRowsAreOneList, FirstRowsAreOfTheFile, FilesHaveFirstRows, FirstRowsAreEnough}
use Rattle.footer.proofs.OneFile.{one_file}
use Rattle.footer.proofs.FirstRows.{first_seen}
use Rattle.footer.proofs.OneMeaning.{one_held}

-- a group of these rows leaves so many to be found
left_after : (front : List ℕ) (fs : Fields) (g : GroupMeta) (rows : List ValueTrees) (n : ℕ) → GroupMeans front fs g rows → n - counted g.num_rows ≡ n - length rows
left_after front fs g rows n p = ap (λ k. n - counted k) p.count

-- the rows of the first groups begin as those of all groups
begin_alike : GroupsHaveOneList → (front : List ℕ) (fs : Fields) → IsSchema fs → (count : ℕ) (gs : List GroupMeta) (xs ys : List (List ValueTrees)) → AreGroups front fs (first_groups count gs) xs → AreGroups front fs gs ys
    → take count (flat_map (λ g. g) xs) ≡ take count (flat_map (λ g. g) ys)
begin_alike law front fs schema zero gs xs ys p q = refl
begin_alike law front fs schema (suc n) [] [] [] p q = refl
begin_alike law front fs schema (suc n) [] [] (y ∷ ys) p q = absurd q
begin_alike law front fs schema (suc n) [] (x ∷ xs) ys p q = absurd p
begin_alike law front fs schema (suc n) (g ∷ gs) [] ys p q = absurd p
begin_alike law front fs schema (suc n) (g ∷ gs) (x ∷ xs) [] p q = absurd q
begin_alike law front fs schema (suc n) (g ∷ gs) (x ∷ xs) (y ∷ ys) p q =
    let rest : List (List ValueTrees) → List ValueTrees = λ t. flat_map (λ g. g) t in
    let same : x ≡ y = law front fs g x y schema p.1 q.1 in
    let below = subst (λ (k : ℕ). take k (rest xs) ≡ take k (rest ys)) (left_after front fs g x (suc n) p.1) (begin_alike law front fs schema (suc n - counted g.num_rows) gs xs ys p.2 q.2) in
    take_joined (suc n) x (rest xs) ∙ ap (λ (t : List ValueTrees). take (suc n) x ++ t) below ∙ sym (take_joined (suc n) x (rest ys)) ∙ ap (λ (t : List ValueTrees). take (suc n) (t ++ rest ys)) same

-- where all groups have rows, the first ones have some
first_ones : (front : List ℕ) (fs : Fields) (count : ℕ) (gs : List GroupMeta) (ys : List (List ValueTrees)) → AreGroups front fs gs ys → (xs : List (List ValueTrees)) × AreGroups front fs (first_groups count gs) xs
first_ones front fs zero gs ys q = ([], tt)
first_ones front fs (suc n) [] ys q = ([], tt)
first_ones front fs (suc n) (g ∷ gs) [] q = absurd q
first_ones front fs (suc n) (g ∷ gs) (y ∷ ys) q =
    let below = first_ones front fs (suc n - counted g.num_rows) gs ys q.2 in
    (y ∷ below.0, (q.0, q.1, below.1))

-- the first groups have as many rows as were asked for, or are all groups
enough : (front : List ℕ) (fs : Fields) (count : ℕ) (gs : List GroupMeta) (xs : List (List ValueTrees)) → AreGroups front fs (first_groups count gs) xs
    → (count ≤ length (flat_map (λ g. g) xs)) ⊎ (first_groups count gs ≡ gs)
enough front fs zero gs xs p = inl (omega arith)
enough front fs (suc n) [] xs p = inr refl
enough front fs (suc n) (g ∷ gs) [] p = absurd p
enough front fs (suc n) (g ∷ gs) (x ∷ xs) p =
    elim (enough front fs (suc n - counted g.num_rows) gs xs p.2) [
      | inl many ↦ inl (omega (arith, many, left_after front fs g x (suc n) p.1, length-append x (flat_map (λ g. g) xs)))
      | inr all ↦ inr (ap (λ (t : List GroupMeta). g ∷ t) all)
    ]

pub one_first : IsFunctional (StandsFor file_meta) → ListsMeanOneSchema → GroupsHaveOneList → FirstRowsAreOneList
one_first footer schemas groups count bytes fs gs rows others p q =
    let alone = λ (f : List ℕ) (m : FileMeta) (is : IsFile bytes f m). one_file footer bytes f q.front m q.meta is q.file in
    let same = first_seen count bytes q.front q.meta gs alone schemas q.schema fs rows p in
    (same.0, one_held groups q.front gs (first_groups count q.meta.row_groups) rows others q.schema.valid same.1 q.held)

pub of_all : IsFunctional (StandsFor file_meta) → ListsMeanOneSchema → GroupsHaveOneList → FirstRowsAreOfTheFile
of_all footer schemas groups count bytes fs gs all rows p q =
    let alone = λ (f : List ℕ) (m : FileMeta) (is : IsFile bytes f m). one_file footer bytes f p.front m p.meta is p.file in
    let same = first_seen count bytes p.front p.meta fs alone schemas p.schema gs rows q in
    (same.0, ap (λ (t : List ValueTrees). take count t) same.1.joined ∙ begin_alike groups p.front fs p.schema.valid count p.meta.row_groups same.1.groups p.held.groups same.1.each p.held.each ∙ sym (ap (λ (t : List ValueTrees). take count t) p.held.joined))

pub first_exist : FilesHaveFirstRows
first_exist count bytes fs all p =
    let some = first_ones p.front fs count p.meta.row_groups p.held.groups p.held.each in
    (flat_map (λ g. g) some.0, record { front = p.front; meta = p.meta; file = p.file; schema = p.schema; held = record { groups = some.0; each = some.1; joined = refl } })

pub first_enough : FirstRowsAreEnough
first_enough count bytes fs rows p =
    elim (enough p.front fs count p.meta.row_groups p.held.groups p.held.each) [
      | inl many ↦ inl (subst (λ (t : List ValueTrees). count ≤ length t) (sym p.held.joined) many)
      | inr all ↦ inr (record { front = p.front; meta = p.meta; file = p.file; schema = p.schema; held = subst (λ (gs : List GroupMeta). GroupsMean p.front fs gs rows) all p.held })
    ]
