-- A table with a column more is a table.
use Rattle.std.proofs.Common.{◌≡◌, ◌<◌, ◌≤◌, ℕ, suc, List, [], ◌∷◌, map, length, refl, sym, ◌∙◌, ap, subst}
use Rattle.std.specs.List.{AllByRecursion}
use Rattle.schema.specs.declared.value.Repetition.TheVariants.{Optional}
use Rattle.schema.specs.Shape.{Field, Fields, repetition_of}
use Rattle.schema.specs.Keys.{KeyColumn, AreKeys, AreDistinct}
use Rattle.schema.proofs.Grown.{grown_rows_fit, keys_stay}
use Rattle.partition.specs.Order.{AreInTableOrder}
use Rattle.table.specs.Table.{Row, Key, Group, IsRowIn, IsGroupIn, numbers}
use Rattle.table.specs.Columns.{with_field, with_null, widened, WidenedTablesAreTables}

module _ (fs : Fields) (f : Field) (keys : List KeyColumn) (o : repetition_of f ≡ Optional) (are_keys : AreKeys keys fs) where
  rows_more : (key : Key) (rows : List Row) → AllByRecursion (IsRowIn fs keys key) rows → AllByRecursion (IsRowIn (with_field fs f) keys key) (map with_null rows)
  rows_more key [] h = tt
  rows_more key (row ∷ rows) h = (record { fits = grown_rows_fit fs f row o h.0.fits; keyed = (keys_stay keys fs f are_keys).keyed row ∙ h.0.keyed }, rows_more key rows h.1)

  same_length : (rows : List Row) → length (map with_null rows) ≡ length rows
  same_length [] = refl
  same_length (row ∷ rows) = ap suc (same_length rows)

  groups_more : (gs : List Group) → AllByRecursion (IsGroupIn fs keys) gs → AllByRecursion (IsGroupIn (with_field fs f) keys) (map widened gs)
  groups_more [] h = tt
  groups_more (g ∷ gs) h = (record { some = subst (λ n. 1 ≤ n) (sym (same_length g.rows)) h.0.some; keyed = h.0.keyed; rows_in = rows_more g.key g.rows h.0.rows_in }, groups_more gs h.1)

same_keys : (gs : List Group) → map (λ (g : Group). g.key) (map widened gs) ≡ map (λ (g : Group). g.key) gs
same_keys [] = refl
same_keys (g ∷ gs) = ap (λ ks. g.key ∷ ks) (same_keys gs)

same_numbers : (gs : List Group) → numbers (map widened gs) ≡ numbers gs
same_numbers [] = refl
same_numbers (g ∷ gs) = ap (λ ns. g.number ∷ ns) (same_numbers gs)

below_more : (next : ℕ) (gs : List Group) → AllByRecursion (λ (g : Group). g.number < next) gs → AllByRecursion (λ (g : Group). g.number < next) (map widened gs)
below_more next [] h = tt
below_more next (g ∷ gs) h = (h.0, below_more next gs h.1)

pub widened_tables_are_tables : WidenedTablesAreTables
widened_tables_are_tables t elements f is column = record {
  schema = column.stands_for.valid;
  within = column.within;
  keys = (keys_stay t.keys t.schema f is.keys).are_keys;
  each = groups_more t.schema f t.keys column.optional is.keys t.groups is.each;
  in_order = subst AreInTableOrder (sym (same_keys t.groups)) is.in_order;
  distinct = subst AreDistinct (sym (same_numbers t.groups)) is.distinct;
  below = below_more t.next t.groups is.below;
}
