use Rattle.std.proofs.Common.{◌≡◌, inr, sym, ◌∙◌, subst, false, rules}
use Rattle.disk.specs.Paths.{IsName}
use Rattle.mem_disk.proofs.Listed.{one_name}
use Rattle.mem_disk.proofs.listing.entry_of.Goals as goal

pub returns-then-not-is_name : goal.returns-then-not-is_name
returns-then-not-is_name c =
    let off : c.is_name.result ≡ false = search rules in
    inr (λ name is e. c.is_name.ensures.no off (subst IsName (one_name c.args.folder.now name c.in-Some-behind.local.now (sym e ∙ sym c.deref.ensures ∙ c.in-Some-behind.ensures) ∙ sym c.as_bytes.ensures.value) is))
