-- Lines of groups with what is known of their columns, one after another.
use Rattle.std.proofs.Common.{◌≡◌, ◌∙◌, ℕ, ◌+◌, ◌<◌, ◌≤◌, Bool, List, [], ◌∷◌, ◌++◌, length, get_or, take, map, Option, Some, Ok, refl, sym, ap, arith}
use Rattle.std.specs.List.{slice_get}
use Rattle.std.proofs.lemmas.List.{take_more, take_all, map-append, length-map}
use Rattle.std.proofs.lemmas.Simd.{map-map}
use Rattle.std.proofs.lemmas.Option.{slice_get_within, get_or_from_slice_get}
use Rattle.std.specs.Io.KnownBytes.{Appends}
use Rattle.serde_json.specs.Data.{Data}
use Rattle.serde_json.specs.Written.{compact_text}
use Rattle.schema.specs.Stripe.{Leaf}
use Rattle.table.specs.declared.answer.GroupInfo.{GroupInfo}
use Rattle.table.specs.Table.{Table}
use Rattle.table.specs.Plans.{summary}
use Rattle.table.specs.Views.{info_view}
use Rattle.manifest.specs.Groups.{Group, Root}
use Rattle.table_reads.specs.Listing.{told_of, told_by}
use Rattle.jsonrows.specs.GroupColumns.{group_and_columns_json}
use Rattle.answers.specs.GroupColumns.{Told, told_json, AreColumnLines, AreGroupsTold}
use Rattle.answers.proofs.Answered.{ArePrinted, none_printed, printed_more}

-- each of these is told of the described group at the same place, and they are printed
pub record ArePaired (texts : Bool) (leaves : List Leaf) (infos : List GroupInfo) (groups : List Group) (old new : Option (List ℕ)) : Type 0 where
  pub told : List Told
  pub infos_are : map (λ (t : Told). t.0) told ≡ infos
  pub groups_are : map (λ (t : Told). t.1) told ≡ groups
  pub printed : ArePrinted (told_json texts leaves) told old new

module _ (texts : Bool) (leaves : List Leaf) where
  pub none_paired : (old : Option (List ℕ)) → ArePaired texts leaves [] [] old old
  none_paired old = record { told = []; infos_are = refl; groups_are = refl; printed = none_printed (told_json texts leaves) old }

  paired_and : (infos : List GroupInfo) (groups : List Group) (info : GroupInfo) (group : Group) (old mid new : Option (List ℕ)) → ArePaired texts leaves infos groups old mid
      → (d : Data) × (group_and_columns_json texts leaves info group.known.leaves ≡ Ok d) × Appends mid new (compact_text d ++ 10 ∷ []) → ArePaired texts leaves (infos ++ info ∷ []) (groups ++ group ∷ []) old new
  paired_and infos groups info group old mid new so_far last =
      let pair : Told = (info, group) in
      record {
        told = so_far.told ++ pair ∷ [];
        infos_are = map-append (λ (t : Told). t.0) so_far.told (pair ∷ []) ∙ ap (λ (xs : List GroupInfo). xs ++ info ∷ []) so_far.infos_are;
        groups_are = map-append (λ (t : Told). t.1) so_far.told (pair ∷ []) ∙ ap (λ (xs : List Group). xs ++ group ∷ []) so_far.groups_are;
        printed = printed_more (told_json texts leaves) so_far.told pair old mid new so_far.printed last;
      }

  -- one more is printed
  pub paired_more : (infos : List GroupInfo) (groups : List Group) (i : ℕ) (info : GroupInfo) (group : Group) (old mid new : Option (List ℕ)) → i < length infos → info ≡ get_or infos i info
      → slice_get groups i ≡ Some group → ArePaired texts leaves (take i infos) (take i groups) old mid
      → (d : Data) × (group_and_columns_json texts leaves info group.known.leaves ≡ Ok d) × Appends mid new (compact_text d ++ 10 ∷ [])
      → ArePaired texts leaves (take (i + 1) infos) (take (i + 1) groups) old new
  paired_more infos groups i info group old mid new within is at so_far last =
      let first : take (i + 1) infos ≡ take i infos ++ info ∷ [] = take_more infos i info within ∙ ap (λ (x : GroupInfo). take i infos ++ x ∷ []) (sym is) in
      let second : take (i + 1) groups ≡ take i groups ++ group ∷ [] =
      take_more groups i group (slice_get_within groups i group at) ∙ ap (λ (x : Group). take i groups ++ x ∷ []) (get_or_from_slice_get groups i group group at) in
      rw (first, second) (paired_and (take i infos) (take i groups) info group old mid new so_far last)

-- what is told of as many groups, each of one
as_many : (infos : List GroupInfo) (groups : List Group) → map told_by infos ≡ map told_of groups → length infos ≡ length groups
as_many infos groups same = sym (length-map infos told_by) ∙ ap length same ∙ length-map groups told_of

-- all of them are printed
pub all_paired : (texts : Bool) (leaves : List Leaf) (infos : List GroupInfo) (groups : List Group) (n : ℕ) (old new : Option (List ℕ)) → length infos ≤ n → map told_by infos ≡ map told_of groups
    → ArePaired texts leaves (take n infos) (take n groups) old new
    → (told : List Told) × (printed : List ℕ) × (map (λ (t : Told). t.0) told ≡ infos) × (map (λ (t : Told). t.1) told ≡ groups) × AreColumnLines texts leaves told printed × Appends old new printed
all_paired texts leaves infos groups n old new all same so_far =
    let count = as_many infos groups same in
    (so_far.told, so_far.printed.0, so_far.infos_are ∙ take_all n infos all, so_far.groups_are ∙ take_all n groups (omega (arith, all, count)), so_far.printed.1, so_far.printed.2)

-- what is told of all groups of a store, by what is told of them one by one
pub told_all : (texts : Bool) (leaves : List Leaf) (infos : List GroupInfo) (root : Root) (t : Table) (old new : Option (List ℕ)) → map told_by infos ≡ map told_of root.groups
    → map info_view infos ≡ map summary t.groups
    → (told : List Told) × (printed : List ℕ) × (map (λ (x : Told). x.0) told ≡ infos) × (map (λ (x : Told). x.1) told ≡ root.groups) × AreColumnLines texts leaves told printed × Appends old new printed
    → (told : List Told) × (printed : List ℕ) × AreGroupsTold root told × (map (λ (x : Told). info_view x.0) told ≡ map summary t.groups) × AreColumnLines texts leaves told printed × Appends old new printed
told_all texts leaves infos root t old new same summed p =
    let first = p.2 in
    let are : AreGroupsTold root p.0 = record { described = p.3; told_so = sym (map-map told_by (λ (x : Told). x.0) p.0) ∙ ap (map told_by) first ∙ same } in
    (p.0, p.1, are, sym (map-map info_view (λ (x : Told). x.0) p.0) ∙ ap (map info_view) first ∙ summed, p.4, p.5)
