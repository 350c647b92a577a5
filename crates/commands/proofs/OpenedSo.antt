-- What an opening promises, once it is known what it returned.
use Rattle.std.proofs.Common.{◌≡◌, Result, subst}
use Rattle.bits.specs.declared.refusal.Refusal.{Refusal}
use Rattle.disk.specs.State.{State as DiskState}
use Rattle.footer.specs.declared.options.WriteOptions.{WriteOptions}
use Rattle.table_state.specs.declared.standing.Core.{Core}
use Rattle.commands.specs.Opening.{OpensToRead, OpensToChange}

module _ {D : Type 0} {state : D → DiskState} {disk : D} {o : WriteOptions} {result other : Result (Core D) (D × Refusal)} where
  pub read_so : result ≡ other → OpensToRead state disk o result → OpensToRead state disk o other
  read_so is opens = subst (λ (r : Result (Core D) (D × Refusal)). OpensToRead state disk o r) is opens

  pub changed_so : result ≡ other → OpensToChange state disk o result → OpensToChange state disk o other
  changed_so is opens = subst (λ (r : Result (Core D) (D × Refusal)). OpensToChange state disk o r) is opens
