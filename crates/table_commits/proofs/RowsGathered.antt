-- Rows that are gathered for a table, and why one more is not.
use Rattle.std.proofs.Common.{◌≡◌, ◌∙◌, refl}
use Rattle.bits.specs.declared.refusal.Refusal.{Refusal}
use Rattle.bits.specs.declared.refusal.Refusal.TheVariants.{Memory, RowShape}
use Rattle.bits.specs.Refusals.{HasCause}
use Rattle.footer.specs.declared.options.WriteOptions.{WriteOptions}
use Rattle.gather.specs.declared.gathered.Gathered.{Gathered}
use Rattle.manifest.specs.Groups.{Root}
use Rattle.table_commits.specs.Gathering.{AreGatheredFor, KeepsTable}

-- rows that are gathered for a table stay so
pub keeps_on : {old mid new : Gathered} → KeepsTable old mid → KeepsTable mid new → KeepsTable old new
keeps_on a b = record { schema = b.schema ∙ a.schema; columns = b.columns ∙ a.columns; size = b.size ∙ a.size }

-- what is gathered for a table goes on to be
pub kept_table : {root : Root} {options : WriteOptions} {old new : Gathered} → AreGatheredFor root options old → KeepsTable old new → AreGatheredFor root options new
kept_table t k = record { schema = k.schema ∙ t.schema; columns = k.columns ∙ t.columns; size = k.size ∙ t.size }

-- a row that fits is refused only for memory
pub memory_else : (e : Refusal) → HasCause (λ f. f ≡ RowShape) e → (e ≡ RowShape → ⊥) → HasCause (λ _. ⊥) e
memory_else Memory which fits = tt
memory_else e which fits = fits which

-- memory is such a refusal
pub shape_or_memory : (e : Refusal) → HasCause (λ _. ⊥) e → HasCause (λ f. f ≡ RowShape) e
shape_or_memory Memory h = tt
shape_or_memory e h = absurd h

-- no other cause
pub is_memory : (e : Refusal) → HasCause (λ _. ⊥) e → e ≡ Memory
is_memory Memory h = refl
is_memory e h = absurd h
