use Rattle.std.proofs.Common.{◌≡◌, refl, sym, subst}
use Rattle.dataset_words.specs.declared.call.Call.{Call}
use Rattle.commands.specs.Calls.{ComesUnfiltered, no_filter}
use Rattle.commands.proofs.CallsKept.{comes_before}
use Rattle.commands.proofs.CallMade.{no_filter_of, filtered_so, none_read}
use Rattle.commands.proofs.making.Making.make_with_filter.Goals as goal

pub returns-in_err-bytes-clause-comes : goal.returns-in_err-bytes-clause-comes
returns-in_err-bytes-clause-comes g c =
    no_filter_of c.from_residual.result c.args.path.now c.in_err-bytes.field-0.0 c.from_residual.ensures.1 c.requires.named c.in_err-bytes.ensures.refused c.bytes.ensures.same refl

pub returns-in-Ok-clause-comes : goal.returns-in-Ok-clause-comes
returns-in-Ok-clause-comes g c =
    let is = c.in-Ok.ensures.filtered in
    let S = g.row.S.Denot in
    let state = g.P.Disk.Disk.state in
    let old = g.P.Places.known c.args.places.now in
    let new = g.P.Places.known c.make.new.places in
    let before = g.W.Write.contents c.args.out.now in
    let after = g.W.Write.contents c.make.new.out in
    let own = c.with_call.result.call.now in
    filtered_so (λ (asked : Call). ComesUnfiltered S state g.P.Places.known old new asked before after c.make.result) (after ≡ before) c.args.self.now.call.now c.in-Ok.call own c.make.result c.args.path.now c.in_ok-bytes.bytes.items c.as_slice.result.now
    c.requires.named c.in_ok-bytes.ensures.read c.as_slice.ensures.value is.0 is.1 c.with_call.ensures.call (comes_before c.bytes.ensures.same S state g.P.Places.known own before after c.make.result new c.make.ensures.comes)

pub returns-clause-comes : goal.returns-clause-comes
returns-clause-comes g c =
    let known = g.P.Places.known c.args.places.now in
    let path = c.args.path.now in
    let there = subst (known.file path) (sym c.as_slice.ensures.value) c.in_ok-bytes.ensures.read in
    no_filter path c.in-Err.refusal c.requires.named (none_read known c.args.self.now.call.now.task path c.as_slice.result.now c.requires.named there c.in-Err.refusal c.in-Err.ensures.which)
    c.bytes.ensures.same refl refl
