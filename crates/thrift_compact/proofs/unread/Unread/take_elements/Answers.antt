use Rattle.std.proofs.Common.{◌-◌, ◌++◌, ap}
use Rattle.thrift_compact.specs.View.{code_of}
use Rattle.thrift_compact.specs.Values.{ReadAs, elements_by}
use Rattle.thrift_compact.specs.inner.Reading.{ListTaken}
use Rattle.thrift_compact.proofs.Refused.{refused}
use Rattle.thrift_compact.proofs.TakenParts.{list_taken, taken_list}
use Rattle.thrift_compact.proofs.unread.Unread.take_elements.Goals as goal

pub returns-in_ok-used-in-List-clause-stands : goal.returns-in_ok-used-in-List-clause-stands
returns-in_ok-used-in-List-clause-stands g c =
    let T = g.T.TakesElements in
    let self = c.args.self in
    taken_list T.step (T.shown c.args.taker.now) (code_of self.kind) self.left self.bytes.now (T.shown c.list_taken_at.new.taker) c.in_ok-used-in-List.used (ap code_of c.in-List.is) c.if-self-eq0.false c.in_ok-used-in-List.ensures.stands

pub returns-in_err-used-in-List-clause-which : goal.returns-in_err-used-in-List-clause-which
returns-in_err-used-in-List-clause-which g c =
    let T = g.T.TakesElements in
    let start = T.shown c.args.taker.now in
    let bytes = c.args.self.bytes.now in
    let code = code_of c.args.self.kind in
    let left = c.args.self.left in
    refused (ListTaken T.step start (left - 1)) bytes (ReadAs (elements_by T.step start) code left) bytes c.from_residual.result c.in_err-used-in-List.field-0.0 c.from_residual.ensures.1 c.in_err-used-in-List.ensures.which
    (λ more nothing held used s. nothing held used (list_taken T.step start code left (bytes ++ more) held used (ap code_of c.in-List.is) s))
