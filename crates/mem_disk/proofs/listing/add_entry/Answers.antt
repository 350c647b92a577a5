use Rattle.std.proofs.Common.{inr, subst, Option, MatchOption}
use Rattle.disk.specs.declared.binding.Entry.{Entry}
use Rattle.mem_disk.specs.Listings.{IsUnlisted, IsEntryOf}
use Rattle.mem_disk.proofs.listing.add_entry.Goals as goal

pub returns-in_ok-push-in-Some : goal.returns-in_ok-push-in-Some
returns-in_ok-push-in-Some c =
    let is = subst (λ (r : Option Entry). MatchOption r (IsUnlisted c.args.folder.now c.args.name.now) (λ entry. IsEntryOf c.args.folder.now c.args.name.now entry)) c.in-Some.is c.in_ok-listed.ensures in
    inr (c.in-Some.entry, is, c.in_ok-push-in-Some.ensures.items)
