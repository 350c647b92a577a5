-- A file means one list of rows.
use Rattle.std.proofs.Common.{◌≡◌, ℕ, List, [], ◌∷◌, refl, sym, ap, ◌∙◌}
use Rattle.std.specs.Prelude.{flat_map}
use Rattle.bits.specs.Codec.{IsFunctional}
use Rattle.schema.specs.Values.{ValueTrees}
use Rattle.schema.specs.Shape.{Fields}
use Rattle.schema.specs.Law.{IsSchema}
use Rattle.schema.specs.Listing.{ListsMeanOneSchema}
use Rattle.metadata.specs.Records.{FileMeta, GroupMeta}
use Rattle.metadata.specs.FromTree.{file_meta}
use Rattle.metadata.specs.Answers.{StandsFor}
use Rattle.row_group.specs.Laws.{GroupsHaveOneList}
use Rattle.footer.specs.File.{IsFile, AreGroups, GroupsMean}
use Rattle.footer.specs.Laws.{FilesMeanOneList}
use Rattle.footer.proofs.OneFile.{one_file}
use Rattle.footer.proofs.Meaning.{seen}

one_groups : GroupsHaveOneList → (front : List ℕ) (fs : Fields) (gs : List GroupMeta) (xs ys : List (List ValueTrees)) → IsSchema fs → AreGroups front fs gs xs → AreGroups front fs gs ys → xs ≡ ys
one_groups law front fs [] [] [] schema p q = refl
one_groups law front fs [] [] (b ∷ ys) schema p q = absurd q
one_groups law front fs [] (a ∷ xs) ys schema p q = absurd p
one_groups law front fs (g ∷ gs) [] ys schema p q = absurd p
one_groups law front fs (g ∷ gs) (a ∷ xs) [] schema p q = absurd q
one_groups law front fs (g ∷ gs) (a ∷ xs) (b ∷ ys) schema p q =
    ap (λ (x : List ValueTrees). x ∷ xs) (law front fs g a b schema p.1 q.1) ∙ ap (λ (t : List (List ValueTrees)). b ∷ t) (one_groups law front fs gs xs ys schema p.2 q.2)

pub one_held : GroupsHaveOneList → (front : List ℕ) (fs : Fields) (gs : List GroupMeta) (rows others : List ValueTrees) → IsSchema fs → GroupsMean front fs gs rows → GroupsMean front fs gs others → rows ≡ others
one_held law front fs gs rows others schema p q =
    p.joined ∙ ap (λ (t : List (List ValueTrees)). flat_map (λ g. g) t) (one_groups law front fs gs p.groups q.groups schema p.each q.each) ∙ sym q.joined

pub one_list : IsFunctional (StandsFor file_meta) → ListsMeanOneSchema → GroupsHaveOneList → FilesMeanOneList
one_list footer schemas groups bytes fs gs rows others p q =
    let alone = λ (f : List ℕ) (m : FileMeta) (is : IsFile bytes f m). one_file footer bytes f q.front m q.meta is q.file in
    let same = seen bytes q.front q.meta gs alone schemas q.schema fs rows p in
    (same.0, one_held groups q.front gs q.meta.row_groups rows others q.schema.valid same.1 q.held)
