use Rattle.std.proofs.Common.{◌≡◌, sym, subst, true≢false, refl}
use Rattle.std.specs.Prelude.{IfOk, option_map}
use Rattle.rowtext.proofs.Taken.{hex_none, hex_more, hex_one}
use Rattle.rowtext.proofs.row_reading.bytes_of_members.Goals as goal

pub returns-in_default : goal.returns-in_default
returns-in_default c = hex_none c.args.members.entries c.remove.result c.remove.ensures.value c.in_default.is

pub returns-then-are_all_taken : goal.returns-then-are_all_taken
returns-then-are_all_taken c =
    subst (λ r. IfOk c.bytes_of_member.result (λ found. option_map (λ bytes. bytes.items) found ≡ r))
    (hex_one c.args.members.entries c.remove.new.self.entries c.remove.result c.in-Some.member c.remove.ensures.value c.in-Some.is c.remove.ensures.entries (c.if-are_all_taken.ensures.0 refl)) c.bytes_of_member.ensures

pub returns : goal.returns
returns c = hex_more c.args.members.entries c.remove.new.self.entries c.remove.ensures.entries (λ h. true≢false (sym (c.if-are_all_taken.ensures.1 h)))
