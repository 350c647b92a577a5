-- Which first rows a file has, from its footer, its schema and its first groups.
use Rattle.std.proofs.Common.{◌≡◌, ℕ, List, subst}
use Rattle.std.specs.Prelude.{Contains}
use Rattle.bits.specs.declared.refusal.Refusal.{Refusal}
use Rattle.bits.specs.declared.refusal.Refusal.TheVariants as refusal
use Rattle.schema.specs.Values.{ValueTrees}
use Rattle.schema.specs.Shape.{Fields}
use Rattle.schema.specs.Listing.{IsSchemaOf, IsTooLarge, ListsMeanOneSchema}
use Rattle.schema.specs.Faults.{HasFault as HasSchemaFault}
use Rattle.metadata.specs.Records.{FileMeta, GroupMeta}
use Rattle.row_group.specs.Limits.{IsGroupOver}
use Rattle.footer.specs.File.{IsFile, GroupsMean}
use Rattle.footer.specs.Faults.{IsLong, HasGroupsFault, HasFooterFault}
use Rattle.footer.specs.FirstRows.{first_groups, MeansFirstRows, HasFirstGroup, IsFirstOverLimit, long, large_schema, large_group, HasFirstFault}
use Rattle.footer.proofs.Meaning.{IsOnly}

-- no fields stand for the list
pub no_first_schema : (count : ℕ) (bytes front : List ℕ) (meta : FileMeta) → IsOnly bytes front meta → ((fs : Fields) → IsSchemaOf meta.schema fs → ⊥) → (fs : Fields) (rows : List ValueTrees) → MeansFirstRows count bytes fs rows → ⊥
no_first_schema count bytes front meta alone nothing fs rows p = nothing fs (subst (λ (m : FileMeta). IsSchemaOf m.schema fs) (alone p.front p.meta p.file).1 p.schema)

-- the first rows, seen from the file's one footer and its one schema
pub first_seen : (count : ℕ) (bytes front : List ℕ) (meta : FileMeta) (fs : Fields) → IsOnly bytes front meta → ListsMeanOneSchema → IsSchemaOf meta.schema fs
    → (gs : Fields) (rows : List ValueTrees) → MeansFirstRows count bytes gs rows → (gs ≡ fs) × GroupsMean front fs (first_groups count meta.row_groups) rows
first_seen count bytes front meta fs alone law schema gs rows p =
    let same = alone p.front p.meta p.file in
    let one : gs ≡ fs = law meta.schema gs fs (subst (λ (m : FileMeta). IsSchemaOf m.schema gs) same.1 p.schema) schema in (
      one,
      subst (λ (f : Fields). GroupsMean front f (first_groups count meta.row_groups) rows) one
          (subst (λ (m : FileMeta). GroupsMean front gs (first_groups count m.row_groups) rows) same.1 (subst (λ (b : List ℕ). GroupsMean b gs (first_groups count p.meta.row_groups) rows) same.0 p.held)),
    )

-- no rows are held
pub no_first_rows : (count : ℕ) (bytes front : List ℕ) (meta : FileMeta) (fs : Fields) → IsOnly bytes front meta → ListsMeanOneSchema → IsSchemaOf meta.schema fs
    → ((rows : List ValueTrees) → GroupsMean front fs (first_groups count meta.row_groups) rows → ⊥) → (gs : Fields) (rows : List ValueTrees) → MeansFirstRows count bytes gs rows → ⊥
no_first_rows count bytes front meta fs alone law schema nothing gs rows p = nothing rows (first_seen count bytes front meta fs alone law schema gs rows p).1

-- a fault of the first groups is one of the file
pub of_first_groups : (count : ℕ) (bytes front : List ℕ) (meta : FileMeta) (fs : Fields) → IsFile bytes front meta → IsSchemaOf meta.schema fs → (e : Refusal)
    → HasGroupsFault front fs (first_groups count meta.row_groups) e → HasFirstFault count bytes e
of_first_groups count bytes front meta fs file schema refusal.Codec (g, among, is) = record { front = front; meta = meta; fs = fs; group = g; file = file; schema = schema; among = among; is = is }
of_first_groups count bytes front meta fs file schema refusal.Limit (g, among, over) = large_group (record { front = front; meta = meta; fs = fs; group = g; file = file; schema = schema; among = among; is = over })
of_first_groups count bytes front meta fs file schema refusal.Memory w = tt
of_first_groups count bytes front meta fs file schema refusal.Truncated w = tt
of_first_groups count bytes front meta fs file schema refusal.Thrift w = tt
of_first_groups count bytes front meta fs file schema refusal.Schema w = tt
of_first_groups count bytes front meta fs file schema refusal.Encoding w = tt
of_first_groups count bytes front meta fs file schema refusal.Page w = tt
of_first_groups count bytes front meta fs file schema refusal.Levels w = tt
of_first_groups count bytes front meta fs file schema refusal.Value w = tt
of_first_groups count bytes front meta fs file schema refusal.Utf8 w = tt
of_first_groups count bytes front meta fs file schema e w = absurd w

-- and so is a fault of the schema
pub of_first_schema : (count : ℕ) (bytes front : List ℕ) (meta : FileMeta) → IsFile bytes front meta → (e : Refusal) → HasSchemaFault meta.schema e → HasFirstFault count bytes e
of_first_schema count bytes front meta file refusal.Schema w = tt
of_first_schema count bytes front meta file (refusal.Float path) w = record { front = front; meta = meta; file = file; is = w }
of_first_schema count bytes front meta file (refusal.Int96 path) w = record { front = front; meta = meta; file = file; is = w }
of_first_schema count bytes front meta file refusal.Limit w = large_schema (record { front = front; meta = meta; file = file; is = w })
of_first_schema count bytes front meta file refusal.Memory w = tt
of_first_schema count bytes front meta file e w = absurd w

-- and one of the footer
pub of_footer : (count : ℕ) (bytes : List ℕ) (e : Refusal) → HasFooterFault bytes e → HasFirstFault count bytes e
of_footer count bytes refusal.Truncated w = tt
of_footer count bytes refusal.Magic w = w
of_footer count bytes refusal.Thrift w = tt
of_footer count bytes refusal.Limit w = long w
of_footer count bytes refusal.Memory w = tt
of_footer count bytes e w = absurd w

-- none of the first groups of the file's one footer goes beyond a limit
no_first_group_over : (count : ℕ) (bytes front : List ℕ) (meta : FileMeta) (fs : Fields) → IsOnly bytes front meta → ListsMeanOneSchema → IsSchemaOf meta.schema fs
    → ((g : GroupMeta) → Contains (first_groups count meta.row_groups) g → IsGroupOver front fs g → ⊥) → HasFirstGroup count bytes IsGroupOver → ⊥
no_first_group_over count bytes front meta fs alone law schema none h =
    let same = alone h.front h.meta h.file in
    let one : h.fs ≡ fs = law meta.schema h.fs fs (subst (λ (m : FileMeta). IsSchemaOf m.schema h.fs) same.1 h.schema) schema in
    none h.group (subst (λ (m : FileMeta). Contains (first_groups count m.row_groups) h.group) same.1 h.among)
    (subst (λ (f : Fields). IsGroupOver front f h.group) one (subst (λ (b : List ℕ). IsGroupOver b h.fs h.group) same.0 h.is))

-- what is read of the file is within the limits
pub first_not_over : (count : ℕ) (bytes front : List ℕ) (meta : FileMeta) (fs : Fields) → IsOnly bytes front meta → ListsMeanOneSchema → IsSchemaOf meta.schema fs → (IsLong bytes → ⊥) → (IsTooLarge meta.schema → ⊥)
    → ((g : GroupMeta) → Contains (first_groups count meta.row_groups) g → IsGroupOver front fs g → ⊥) → IsFirstOverLimit count bytes → ⊥
first_not_over count bytes front meta fs alone law schema short small none (long is) = short is
first_not_over count bytes front meta fs alone law schema short small none (large_schema h) = small (subst (λ (m : FileMeta). IsTooLarge m.schema) (alone h.front h.meta h.file).1 h.is)
first_not_over count bytes front meta fs alone law schema short small none (large_group h) = no_first_group_over count bytes front meta fs alone law schema none h
