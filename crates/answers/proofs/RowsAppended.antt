-- What comes of rows that were gathered for a table, by what the store promises of them.
use Rattle.std.proofs.Common.{◌≡◌, ◌∙◌, ℕ, false, List, Result, Err, sym, ap}
use Rattle.bits.specs.declared.refusal.Refusal.{Refusal}
use Rattle.bits.specs.declared.refusal.Refusal.TheVariants.{Schema}
use Rattle.disk.specs.State.{State as DiskState}
use Rattle.footer.specs.declared.options.WriteOptions.{WriteOptions}
use Rattle.manifest.specs.Groups.{Root, root_of}
use Rattle.schema.specs.Values.{ValueTrees}
use Rattle.gather.specs.declared.gathered.Gathered.{Gathered}
use Rattle.gather.specs.GatheredRows.{holds}
use Rattle.table.specs.State.{State}
use Rattle.table.specs.Calls.{append, done}
use Rattle.table.specs.Views.{answered}
use Rattle.table_state.specs.declared.standing.Core.{Core}
use Rattle.table_commits.specs.Gathering.{AreGatheredFor}
use Rattle.table_state.specs.Stands.{Stands}
use Rattle.table_state.specs.Promises.{Acts}
use Rattle.answers.specs.Appending.{AppendsFrom}

module _ {D : Type 0} (state : D → DiskState) (root : Root) (options : WriteOptions) (given : List ValueTrees) (old new : Core D) (g : Gathered) (result : Result ℕ Refusal) where
  -- gathered rows were appended, or are of another table
  pub appended_from : holds g given → AreGatheredFor root options g
      → ((rows : List ValueTrees) → holds g rows → AreGatheredFor (root_of old.manifest) old.options g → Acts state old new (append rows) (answered done result))
      → ((AreGatheredFor (root_of old.manifest) old.options g → ⊥) → old.closed ≡ false → (result ≡ Err Schema) × (new ≡ old))
      → (state old.vault.disk).honest → (s : State) → Stands state old s → AppendsFrom state root options given old new result s
  appended_from held table acts other honest s stands =
      let shows = stands.shows in
      record {
        still = λ is. acts given held (record {
          schema = table.schema ∙ (is.schema ∙ sym shows.schema);
          columns = table.columns ∙ (is.keys ∙ sym shows.keys);
          size = table.size ∙ (is.size ∙ sym (ap (λ (o : WriteOptions). o.group_rows) shows.options));
        }) honest s stands;
        other = λ none open_yet. other (λ is. none (record {
          schema = sym table.schema ∙ (is.schema ∙ shows.schema);
          keys = sym table.columns ∙ (is.columns ∙ shows.keys);
          size = sym table.size ∙ (is.size ∙ ap (λ (o : WriteOptions). o.group_rows) shows.options);
        })) open_yet;
      }
