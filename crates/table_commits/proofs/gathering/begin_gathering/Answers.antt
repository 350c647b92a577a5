use Rattle.std.proofs.Common.{◌∙◌, List, ap, sym, subst}
use Rattle.schema.specs.Law.{IsSchema, IsWithinLimits}
use Rattle.schema.specs.Keys.{KeyColumn, AreKeys, without_keys, key_columns_view}
use Rattle.manifest.specs.Groups.{root_of}
use Rattle.table_commits.proofs.gathering.begin_gathering.Goals as goal

pub new-requires : goal.new-requires
new-requires c =
    let keys = key_columns_view c.keys.result.now in
    let same = c.schema-2.ensures in
    record {
      table = record {
        schema = subst IsSchema (c.schema.ensures ∙ sym same) c.leaves.ensures.valid;
        within = subst IsWithinLimits (c.schema.ensures ∙ sym same) c.leaves.ensures.within;
        keyed = subst (AreKeys keys) (sym same) c.keys.ensures.keyed;
        besides = ap (without_keys keys) same ∙ ap (λ (ks : List KeyColumn). without_keys ks (root_of c.args.table.now).schema) c.keys.ensures.are ∙ sym c.stored.ensures;
      };
    }

pub returns-clause-table : goal.returns-clause-table
returns-clause-table c =
    let made = c.in_ok-gathered.ensures in
    record { schema = made.schema ∙ c.schema-2.ensures; columns = made.columns ∙ c.keys.ensures.are; size = made.size }
