-- At most one record stands at the start of bytes.
use Rattle.std.proofs.Common.{Option, ap}
use Rattle.bits.specs.Codec.{IsFunctional}
use Rattle.thrift_compact.specs.Tree.{Fields}
use Rattle.thrift_compact.specs.Compact.{IsThrift}
use Rattle.metadata.specs.Answers.{StandsFor}

-- at most one record stands where at most one struct does
pub one_record : {Y : Type 0} (is : Fields → Option Y) → IsFunctional IsThrift → IsFunctional (StandsFor is)
one_record is one bytes y z used taken s t =
    let both = one bytes s.fields t.fields used taken s.spelled t.spelled in
    let e = ap is both.0 in
    let r = s.record_of in
    let q = t.record_of in
    (cc, both.1)
