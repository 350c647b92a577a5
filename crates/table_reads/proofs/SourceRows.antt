-- The rows of a source, as they are shown.
use Rattle.std.proofs.Common.{◌≡◌, ℕ, List, [], map, Option, Some, None, sym, ◌∙◌, ap, subst}
use Rattle.schema.specs.Fits.{RowsFit}
use Rattle.schema.specs.Shape.{Fields}
use Rattle.schema.specs.Keys.{KeyColumn, AreKeys, places_of, row_without_keys}
use Rattle.schema.specs.Law.{IsSchema}
use Rattle.disk.specs.State.{State as DiskState}
use Rattle.filter.specs.Test.{Test}
use Rattle.filter.specs.Deciding.{satisfies as all_satisfied}
use Rattle.manifest.specs.Groups.{Group as FileGroup, Root}
use Rattle.scan.specs.declared.group_rows.GroupRows.{GroupRows}
use Rattle.scan.specs.Absent.{Lacks, MayLack}
use Rattle.scan.specs.Left.{AreReadFor, rows_held}
use Rattle.scan.specs.Selected.{AreSelected, cut_to}
use Rattle.scan.proofs.SomeChunk.{some_chunk}
use Rattle.table.specs.Table.{Row, Group}
use Rattle.table.proofs.Deciding.{tests_decide}
use Rattle.table_reads.specs.Counting.{IsHeld}
use Rattle.table_commits.specs.Showing.{places_besides, AreShown}
use Rattle.table_reads.proofs.StoredColumns.{cut_each, stored_wanted}
use Rattle.table_reads.proofs.WholeRows.{all_satisfy, stored_fit}

-- with no filter and the columns of the files, all rows are selected, without their keys
selected_stored : (keys : List KeyColumn) (fs : Fields) (rows out : List Row) → RowsFit fs rows → AreSelected [] (places_besides (places_of keys) 0 fs) rows out → out ≡ map (row_without_keys keys) rows
selected_stored keys fs rows out fit are = are (all_satisfied []) (tests_decide []) ∙ ap (map (cut_to (places_besides (places_of keys) 0 fs))) (all_satisfy rows) ∙ cut_each keys fs rows fit

pub shown_so : (disk : DiskState) (root : Root) (f : FileGroup) (held : Group) (tests : List (List Test)) (places : List ℕ) (read : Option GroupRows) → tests ≡ [] → places ≡ places_besides (places_of root.keys) 0 root.schema → IsHeld disk [] root f held
    → AreReadFor tests places held.rows read → AreShown (map (row_without_keys root.keys) held.rows) read
shown_so disk root f held tests places read none all h are = by read (subst (λ (ps : List ℕ). AreReadFor [] ps held.rows read) all (subst (λ (ts : List (List Test)). AreReadFor ts places held.rows read) none are))
  where
    fit : RowsFit root.schema held.rows
    fit = stored_fit disk root.keys root.schema h.count f held h.keyed h.described.0 h.stored.0

    by : (r : Option GroupRows) → AreReadFor [] (places_besides (places_of root.keys) 0 root.schema) held.rows r → AreShown (map (row_without_keys root.keys) held.rows) r
    by None is = sym (selected_stored root.keys root.schema held.rows [] fit is)
    by (Some g) is = subst (rows_held g) (selected_stored root.keys root.schema held.rows is.0 fit is.1) is.2

-- where the part file is absent: each column that the files have is wanted, and there is no filter, so that some chunk is read
pub shown_never : (disk : DiskState) (root : Root) (f : FileGroup) (tests : List (List Test)) (read : Option GroupRows) → tests ≡ [] → IsSchema root.schema → AreKeys root.keys root.schema → Lacks disk root.keys root.schema f
    → MayLack tests root.keys root.schema f (places_besides (places_of root.keys) 0 root.schema) read → ⊥
shown_never disk root f tests None none schema keyed lacks may = may.filtered none
shown_never disk root f tests (Some g) none schema keyed lacks may =
    some_chunk tests root.keys root.schema f (places_besides (places_of root.keys) 0 root.schema) schema keyed lacks.is (stored_wanted (places_of root.keys) root.schema) may
