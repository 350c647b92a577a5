-- What is told of the groups of a table.
use Rattle.std.proofs.Common.{◌≡◌, ℕ, false, not, List, [], ◌∷◌, map, None, refl, sym, ◌∙◌, ap}
use Rattle.bits.specs.declared.refusal.Refusal.TheVariants.{Closed}
use Rattle.schema.specs.Shape.{Fields}
use Rattle.schema.specs.Keys.{KeyColumn}
use Rattle.disk.specs.State.{State as DiskState}
use Rattle.manifest.specs.Groups.{Group as FileGroup, root_of}
use Rattle.planning.specs.Told.{summary_of, summaries}
use Rattle.table.specs.declared.answer.GroupInfo.{GroupInfo}
use Rattle.table.specs.Table.{Group}
use Rattle.table.specs.Plans.{GroupSummary, summary, plan}
use Rattle.table.specs.State.{State}
use Rattle.table.specs.Faults.{unless}
use Rattle.table.specs.Checks.{closed_fault}
use Rattle.table.specs.Calls.{plan_rewrite, groups, planned, listed}
use Rattle.table.specs.Views.{info_view}
use Rattle.table_state.specs.declared.standing.Core.{Core}
use Rattle.table_reads.specs.Listing.{told_of, told_by}
use Rattle.table_state.specs.Stands.{AreStored, IsStored, Stands}
use Rattle.table_state.specs.Promises.{ActsFrom}
use Rattle.table_commits.proofs.SomeGroups.{rows_told}
use Rattle.table_commits.proofs.UnchangedRefusals.{changes_nothing}

module _ (disk : DiskState) (keys : List KeyColumn) (schema : Fields) (count : ℕ) where
  one_told : (f : FileGroup) (g : Group) → IsStored disk keys schema count f g → summary_of f ≡ summary g
  one_told f g z = ap (λ (n : ℕ). record { number = n; key = f.key; count = f.known.rows }) (sym z.number)
      ∙ ap (λ k. record { number = g.number; key = k; count = f.known.rows }) (sym z.key)
      ∙ ap (λ (n : ℕ). record { number = g.number; key = g.key; count = n }) (rows_told disk keys schema count f g z)

  pub all_told : (files : List FileGroup) (gs : List Group) → AreStored disk keys schema count files gs → summaries files ≡ map summary gs
  all_told [] [] z = refl
  all_told (f ∷ fs) (g ∷ gs) z = ap (λ (x : GroupSummary). x ∷ summaries fs) (one_told f g z.0) ∙ ap (λ (xs : List GroupSummary). summary g ∷ xs) (all_told fs gs z.1)
  all_told [] (g ∷ gs) z = absurd z
  all_told (f ∷ fs) [] z = absurd z

firsts_by : (xs : List GroupInfo) → map (λ (p : GroupSummary × ℕ). p.0) (map told_by xs) ≡ map info_view xs
firsts_by [] = refl
firsts_by (x ∷ xs) = ap (λ (ys : List GroupSummary). info_view x ∷ ys) (firsts_by xs)

firsts_of : (fs : List FileGroup) → map (λ (p : GroupSummary × ℕ). p.0) (map told_of fs) ≡ summaries fs
firsts_of [] = refl
firsts_of (f ∷ fs) = ap (λ (ys : List GroupSummary). summary_of f ∷ ys) (firsts_of fs)

module _ {D : Type 0} (state : D → DiskState) (store : Core D) (is_open : store.closed ≡ false) (s : State) (stands : Stands state store s) where
  sure : s.closed ≡ false
  sure = sym stands.shows.closed ∙ is_open

  unclosed : closed_fault s ≡ None
  unclosed = ap (λ b. unless (not b) Closed) sure

  told : summaries (root_of store.manifest).groups ≡ map summary s.table.groups
  told = all_told (state store.vault.disk) s.table.keys s.table.schema s.next_group (root_of store.manifest).groups s.table.groups (stands.shows.shown sure).version

  pub plans : (least : ℕ) (ns : List ℕ) → ns ≡ plan least (summaries (root_of store.manifest).groups) → ActsFrom state store store (plan_rewrite least) (planned ns) s
  plans least ns e = changes_nothing state store (plan_rewrite least) (planned ns) s stands (unclosed, (ap planned (e ∙ ap (plan least) told), refl))

  pub lists : (infos : List GroupInfo) → map told_by infos ≡ map told_of (root_of store.manifest).groups → ActsFrom state store store groups (listed (map info_view infos)) s
  lists infos e = changes_nothing state store groups (listed (map info_view infos)) s stands (
    unclosed,
    (ap listed (sym (firsts_by infos) ∙ ap (λ (ps : List (GroupSummary × ℕ)). map (λ (p : GroupSummary × ℕ). p.0) ps) e ∙ firsts_of (root_of store.manifest).groups ∙ told), refl),
  )
