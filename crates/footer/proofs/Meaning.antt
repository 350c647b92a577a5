-- What a file means, from its footer, its schema and its groups.
use Rattle.std.proofs.Common.{◌≡◌, ℕ, List, subst}
use Rattle.std.specs.Prelude.{Contains}
use Rattle.bits.specs.declared.refusal.Refusal.{Refusal}
use Rattle.bits.specs.declared.refusal.Refusal.TheVariants as refusal
use Rattle.schema.specs.Values.{ValueTrees}
use Rattle.schema.specs.Shape.{Fields}
use Rattle.schema.specs.Listing.{IsSchemaOf, IsTooLarge, ListsMeanOneSchema}
use Rattle.schema.specs.Faults.{HasFault as HasSchemaFault}
use Rattle.metadata.specs.Records.{FileMeta, GroupMeta}
use Rattle.row_group.specs.Limits.{IsGroupOver}
use Rattle.footer.specs.File.{IsFile, GroupsMean, FileMeans}
use Rattle.footer.specs.Faults.{IsLong, HasGroup, HasGroupsFault, IsOverLimit, long, large_schema, HasFault, large_group}

-- the file has this front and this record, and no other
abbrev pub IsOnly : List ℕ → List ℕ → FileMeta → Type 0
IsOnly bytes front meta = (f : List ℕ) (m : FileMeta) → IsFile bytes f m → (f ≡ front) × (m ≡ meta)

-- no fields stand for the list
pub no_schema : (bytes front : List ℕ) (meta : FileMeta) → IsOnly bytes front meta → ((fs : Fields) → IsSchemaOf meta.schema fs → ⊥) → (fs : Fields) (rows : List ValueTrees) → FileMeans bytes fs rows → ⊥
no_schema bytes front meta alone nothing fs rows p = nothing fs (subst (λ (m : FileMeta). IsSchemaOf m.schema fs) (alone p.front p.meta p.file).1 p.schema)

-- what the file means, seen from its one footer and its one schema
pub seen : (bytes front : List ℕ) (meta : FileMeta) (fs : Fields) → IsOnly bytes front meta → ListsMeanOneSchema → IsSchemaOf meta.schema fs
    → (gs : Fields) (rows : List ValueTrees) → FileMeans bytes gs rows → (gs ≡ fs) × GroupsMean front fs meta.row_groups rows
seen bytes front meta fs alone law schema gs rows p =
    let same = alone p.front p.meta p.file in
    let one : gs ≡ fs = law meta.schema gs fs (subst (λ (m : FileMeta). IsSchemaOf m.schema gs) same.1 p.schema) schema in
    (one, subst (λ (f : Fields). GroupsMean front f meta.row_groups rows) one (subst (λ (m : FileMeta). GroupsMean front gs m.row_groups rows) same.1 (subst (λ (b : List ℕ). GroupsMean b gs p.meta.row_groups rows) same.0 p.held)))

-- no rows are held
pub no_rows : (bytes front : List ℕ) (meta : FileMeta) (fs : Fields) → IsOnly bytes front meta → ListsMeanOneSchema → IsSchemaOf meta.schema fs → ((rows : List ValueTrees) → GroupsMean front fs meta.row_groups rows → ⊥)
    → (gs : Fields) (rows : List ValueTrees) → FileMeans bytes gs rows → ⊥
no_rows bytes front meta fs alone law schema nothing gs rows p = nothing rows (seen bytes front meta fs alone law schema gs rows p).1

-- a fault of the groups is one of the file
pub of_groups : (bytes front : List ℕ) (meta : FileMeta) (fs : Fields) → IsFile bytes front meta → IsSchemaOf meta.schema fs → (e : Refusal) → HasGroupsFault front fs meta.row_groups e → HasFault bytes e
of_groups bytes front meta fs file schema refusal.Codec (g, among, is) = record { front = front; meta = meta; fs = fs; group = g; file = file; schema = schema; among = among; is = is }
of_groups bytes front meta fs file schema refusal.Limit (g, among, over) = large_group (record { front = front; meta = meta; fs = fs; group = g; file = file; schema = schema; among = among; is = over })
of_groups bytes front meta fs file schema refusal.Memory w = tt
of_groups bytes front meta fs file schema refusal.Truncated w = tt
of_groups bytes front meta fs file schema refusal.Thrift w = tt
of_groups bytes front meta fs file schema refusal.Schema w = tt
of_groups bytes front meta fs file schema refusal.Encoding w = tt
of_groups bytes front meta fs file schema refusal.Page w = tt
of_groups bytes front meta fs file schema refusal.Levels w = tt
of_groups bytes front meta fs file schema refusal.Value w = tt
of_groups bytes front meta fs file schema refusal.Utf8 w = tt
of_groups bytes front meta fs file schema e w = absurd w

-- and so is a fault of the schema
pub of_schema : (bytes front : List ℕ) (meta : FileMeta) → IsFile bytes front meta → (e : Refusal) → HasSchemaFault meta.schema e → HasFault bytes e
of_schema bytes front meta file refusal.Schema w = tt
of_schema bytes front meta file (refusal.Float path) w = record { front = front; meta = meta; file = file; is = w }
of_schema bytes front meta file (refusal.Int96 path) w = record { front = front; meta = meta; file = file; is = w }
of_schema bytes front meta file refusal.Limit w = large_schema (record { front = front; meta = meta; file = file; is = w })
of_schema bytes front meta file refusal.Memory w = tt
of_schema bytes front meta file e w = absurd w

-- no group of the file's one footer goes beyond a limit
no_group_over : (bytes front : List ℕ) (meta : FileMeta) (fs : Fields) → IsOnly bytes front meta → ListsMeanOneSchema → IsSchemaOf meta.schema fs → ((g : GroupMeta) → Contains meta.row_groups g → IsGroupOver front fs g → ⊥)
    → HasGroup bytes IsGroupOver → ⊥
no_group_over bytes front meta fs alone law schema none h =
    let same = alone h.front h.meta h.file in
    let one : h.fs ≡ fs = law meta.schema h.fs fs (subst (λ (m : FileMeta). IsSchemaOf m.schema h.fs) same.1 h.schema) schema in
    none h.group (subst (λ (m : FileMeta). Contains m.row_groups h.group) same.1 h.among)
    (subst (λ (f : Fields). IsGroupOver front f h.group) one (subst (λ (b : List ℕ). IsGroupOver b h.fs h.group) same.0 h.is))

-- the file is within the limits
pub not_over : (bytes front : List ℕ) (meta : FileMeta) (fs : Fields) → IsOnly bytes front meta → ListsMeanOneSchema → IsSchemaOf meta.schema fs → (IsLong bytes → ⊥) → (IsTooLarge meta.schema → ⊥)
    → ((g : GroupMeta) → Contains meta.row_groups g → IsGroupOver front fs g → ⊥) → IsOverLimit bytes → ⊥
not_over bytes front meta fs alone law schema short small none (long is) = short is
not_over bytes front meta fs alone law schema short small none (large_schema h) = small (subst (λ (m : FileMeta). IsTooLarge m.schema) (alone h.front h.meta h.file).1 h.is)
not_over bytes front meta fs alone law schema short small none (large_group h) = no_group_over bytes front meta fs alone law schema none h
