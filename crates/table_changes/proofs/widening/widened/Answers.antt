use Rattle.std.proofs.Common.{◌≡◌, List, sym, ◌∙◌, ap, subst}
use Rattle.std.specs.List.{AllByRecursion}
use Rattle.schema.specs.Shape.{Fields}
use Rattle.schema.specs.Elements.{elements_view}
use Rattle.schema.specs.Fronts.{with_field}
use Rattle.schema.specs.Growing.{IsColumnFor}
use Rattle.schema.specs.Keys.{KeyColumn, AreKeys, without_keys}
use Rattle.schema.proofs.Grown.{keys_stay}
use Rattle.manifest.specs.Groups.{Group, root_of}
use Rattle.manifest.specs.Records.{IsGroup}
use Rattle.manifest.specs.Root.{CanHave}
use Rattle.manifest.proofs.GrownRoots.{grown_groups}
use Rattle.table_changes.proofs.widening.widened.Goals as goal

pub with_schema-requires : goal.with_schema-requires
with_schema-requires c =
    let root = root_of c.args.table.now in
    let t = c.in_ok-schema.ensures.stands in
    let keyed : AreKeys root.keys root.schema = subst (λ (ks : List KeyColumn). AreKeys ks root.schema) c.keys.ensures.are c.keys.ensures.keyed in
    let is : c.in_ok-schema.schema ≡ with_field root.schema t.0 = t.2 ∙ ap (λ (fs : Fields). with_field fs t.0) c.schema.ensures in
    record {
      keyed = subst (λ (fs : Fields). AreKeys root.keys fs) (sym is) (keys_stay root.keys root.schema t.0 keyed).are_keys;
      each = subst (λ (fs : Fields). AllByRecursion (IsGroup root.keys (without_keys root.keys fs)) root.groups) (sym is)
          (grown_groups root.keys root.schema t.0 root.groups keyed t.1.optional (subst (λ (gs : List Group). CanHave root gs) c.groups.ensures.are c.groups.ensures.each));
    }

pub returns-clause-made : goal.returns-clause-made
returns-clause-made c =
    let root = root_of c.args.table.now in
    let es = elements_view c.args.elements.now in
    let t = c.in_ok-schema.ensures.stands in
    let is : c.in_ok-schema.schema ≡ with_field root.schema t.0 = t.2 ∙ ap (λ (fs : Fields). with_field fs t.0) c.schema.ensures in
    record {
      column = t.0;
      is_column = subst (λ (fs : Fields). IsColumnFor fs es t.0) c.schema.ensures t.1;
      is = c.in_ok-manifest.ensures.made ∙ ap (λ (fs : Fields). record root { schema = fs }) is;
    }
