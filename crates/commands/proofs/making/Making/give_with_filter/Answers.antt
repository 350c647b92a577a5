use Rattle.std.proofs.Common.{◌≡◌, refl, sym, subst}
use Rattle.dataset_words.specs.declared.call.Call.{Call}
use Rattle.commands.specs.Calls.{GivesAsked, no_filter}
use Rattle.commands.proofs.CallsKept.{gives_before}
use Rattle.commands.proofs.CallMade.{no_filter_of, filtered_so, none_read}
use Rattle.commands.proofs.making.Making.give_with_filter.Goals as goal

pub returns-in_err-bytes-clause-gives : goal.returns-in_err-bytes-clause-gives
returns-in_err-bytes-clause-gives g c =
    no_filter_of c.from_residual.result c.args.path.now c.in_err-bytes.field-0.0 c.from_residual.ensures.1 c.requires.named c.in_err-bytes.ensures.refused c.bytes.ensures.same refl

pub returns-in-Ok-clause-gives : goal.returns-in-Ok-clause-gives
returns-in-Ok-clause-gives g c =
    let is = c.in-Ok.ensures.filtered in
    let S = g.row.S.Denot in
    let state = g.P.Disk.Disk.state in
    let old = g.P.Places.known c.args.places.now in
    let new = g.P.Places.known c.give_files.new.places in
    let was = g.K.FileSink.taken c.args.sink.now in
    let got = g.K.FileSink.taken c.give_files.new.sink in
    let own = c.with_call.result.call.now in
    filtered_so (λ (asked : Call). GivesAsked S state old new asked c.args.most was got c.give_files.result) (got ≡ was) c.args.self.now.call.now c.in-Ok.call own c.give_files.result c.args.path.now c.in_ok-bytes.bytes.items c.as_slice.result.now
    c.requires.named c.in_ok-bytes.ensures.read c.as_slice.ensures.value is.0 is.1 c.with_call.ensures.call (gives_before c.bytes.ensures.same S state own c.args.most was got c.give_files.result c.give_files.ensures.gives)

pub returns-clause-gives : goal.returns-clause-gives
returns-clause-gives g c =
    let known = g.P.Places.known c.args.places.now in
    let path = c.args.path.now in
    let there = subst (known.file path) (sym c.as_slice.ensures.value) c.in_ok-bytes.ensures.read in
    no_filter path c.in-Err.refusal c.requires.named (none_read known c.args.self.now.call.now.task path c.as_slice.result.now c.requires.named there c.in-Err.refusal c.in-Err.ensures.which)
    c.bytes.ensures.same refl refl
