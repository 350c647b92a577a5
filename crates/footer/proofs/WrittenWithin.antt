-- A written file is over no limit of a reader.
use Rattle.std.proofs.Common.{◌≡◌, ℕ, zero, suc, ◌≤◌, List, [], ◌∷◌, ◌++◌, length, sym, subst, arith}
use Rattle.std.specs.Prelude.{Contains}
use Rattle.bits.specs.Codec.{IsFunctional}
use Rattle.schema.specs.Values.{ValueTrees}
use Rattle.schema.specs.Shape.{Fields}
use Rattle.schema.specs.Listed.{elements_of}
use Rattle.schema.specs.Listing.{IsSchemaOf, IsTooLarge, ListsMeanOneSchema}
use Rattle.metadata.specs.Records.{FileMeta, GroupMeta}
use Rattle.metadata.specs.FromTree.{file_meta}
use Rattle.metadata.specs.Answers.{StandsFor}
use Rattle.row_group.specs.declared.options.ChunkOptions.{ChunkOptions}
use Rattle.row_group.specs.Limits.{IsGroupOver}
use Rattle.row_group.specs.Writing.{AppendsGroup}
use Rattle.footer.specs.Greatest.{most_of_file, most_of_footer}
use Rattle.footer.specs.declared.options.WriteOptions.{WriteOptions}
use Rattle.footer.specs.File.{magic, IsFramed, IsFile}
use Rattle.footer.specs.Faults.{IsOverLimit}
use Rattle.footer.specs.Writing.{chunk_options, groups_of}
use Rattle.footer.specs.Own.{AppendsGroups, own_record, EndsWith}
use Rattle.footer.proofs.Frames.{announced, not_long}
use Rattle.footer.proofs.InGroups.{begins}
use Rattle.footer.proofs.Meaning.{not_over}
use Rattle.footer.proofs.OneFile.{one_file}
use Rattle.footer.proofs.Whole.{AreWritten}

-- a group that was written is over no limit, whatever follows it
abbrev pub GroupsAreWithin : Type 0
GroupsAreWithin = (fs : Fields) (o : ChunkOptions) (old new : List ℕ) (g : GroupMeta) (rows : List ValueTrees) → AppendsGroup fs o old new g rows → (more : List ℕ) → IsGroupOver (new ++ more) fs g → ⊥

-- nor is one of those before the footer
groups_within : GroupsAreWithin → (fs : Fields) (o : ChunkOptions) (old new : List ℕ) (gs : List GroupMeta) (groups : List (List ValueTrees)) → AppendsGroups fs o old new gs groups
    → (g : GroupMeta) → Contains gs g → IsGroupOver new fs g → ⊥
groups_within law fs o old new [] groups p g (k, within, is) over = omega (arith, within)
groups_within law fs o old new (h ∷ gs) [] p g among over = absurd p
groups_within law fs o old new (h ∷ gs) (rows ∷ groups) p g (zero, within, is) over =
    let rest = begins fs o p.0 new gs groups p.2 in
    law fs o old p.0 h rows p.1 rest.0 (subst (λ (t : List ℕ). IsGroupOver t fs h) rest.1 (subst (IsGroupOver new fs) (sym is) over))
groups_within law fs o old new (h ∷ gs) (rows ∷ groups) p g (suc k, within, is) over = groups_within law fs o p.0 new gs groups p.2 g (k, omega (arith, within), is) over

-- neither is the file
pub file_within : GroupsAreWithin → IsFunctional (StandsFor file_meta) → ListsMeanOneSchema → (n : ℕ) (fs : Fields) (o : WriteOptions) (rows : List ValueTrees) (front bytes : List ℕ) (gs : List GroupMeta) (meta : FileMeta) → meta ≡ own_record fs n gs
    → AreWritten fs o rows front gs → EndsWith front meta bytes → IsSchemaOf (elements_of fs) fs → (IsTooLarge (elements_of fs) → ⊥) → length bytes ≤ most_of_file
    → ((before footer : List ℕ) → IsFramed bytes before footer → length footer ≤ most_of_footer) → IsOverLimit bytes → ⊥
file_within law footers schemas n fs o rows front bytes gs meta is p ends schema small short few =
    let groups = groups_of o.group_rows rows in
    let begun = begins fs (chunk_options o) magic front gs groups p in
    let filled = ends begun.0 begun.1 in
    let file : IsFile bytes front meta = record { footer = filled.footer; used = length filled.footer; framed = filled.framed; stands = filled.fills } in
    not_over bytes front meta fs (λ f m other. one_file footers bytes f front m meta other file) schemas (subst (λ (m : FileMeta). IsSchemaOf m.schema fs) (sym is) schema)
    (not_long bytes (length filled.footer) short (sym (announced bytes front filled.footer filled.framed)) (few front filled.footer filled.framed))
    (subst (λ (m : FileMeta). IsTooLarge m.schema → ⊥) (sym is) small)
    (subst (λ (m : FileMeta). (g : GroupMeta) → Contains m.row_groups g → IsGroupOver front fs g → ⊥) (sym is) (groups_within law fs (chunk_options o) magic front gs groups p))

-- and its record is the writer's
pub same_record : IsFunctional (StandsFor file_meta) → (fs : Fields) (o : WriteOptions) (rows : List ValueTrees) (front bytes : List ℕ) (gs : List GroupMeta) (meta : FileMeta)
    → AreWritten fs o rows front gs → EndsWith front meta bytes → (f : List ℕ) (m : FileMeta) → IsFile bytes f m → m ≡ meta
same_record footers fs o rows front bytes gs meta p ends f m other =
    let begun = begins fs (chunk_options o) magic front gs (groups_of o.group_rows rows) p in
    let filled = ends begun.0 begun.1 in
    let file : IsFile bytes front meta = record { footer = filled.footer; used = length filled.footer; framed = filled.framed; stands = filled.fills } in
    (one_file footers bytes f front m meta other file).1
