use Rattle.std.proofs.Common.{arith}
use Rattle.schema.specs.Borrowed.{value_ref_view}
use Rattle.dictionary.specs.Entries.{entries_of}
use Rattle.dictionary.proofs.Lookups.{all_looked_up}
use Rattle.dictionary.proofs.dictionary.Dictionary.values_of.Goals as goal

pub returns-clause-stands : goal.returns-clause-stands
returns-clause-stands c = all_looked_up value_ref_view c.loop-index.values.items (entries_of c.args.self.now) c.args.indexes.now c.loop-index.index-index (omega arith) c.loop-index.invariant
