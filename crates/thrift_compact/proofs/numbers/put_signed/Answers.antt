use Rattle.std.proofs.Common.{ℕ, ap, subst, ◌∙◌}
use Rattle.std.specs.Prelude.{OnOk}
use Rattle.std.specs.Int.{w64}
use Rattle.std.proofs.lemmas.Int.{to_z-of_z}
use Rattle.bits.specs.Codec.{Appends}
use Rattle.bits.specs.Varint.{IsShortestUleb, zigzag_of}
use Rattle.thrift_compact.specs.Length.{size_i64}
use Rattle.thrift_compact.specs.inner.Writing.{IsShortestSigned}
use Rattle.thrift_compact.proofs.Appending.{appends_as, ok_then}
use Rattle.thrift_compact.proofs.Sizes.{length_size}
use Rattle.thrift_compact.proofs.numbers.put_signed.Goals as goal

pub returns-clause-stands : goal.returns-clause-stands
returns-clause-stands c =
    let z = c.args.z in
    let old = c.args.out.now.items in
    let new = c.write_uleb.new.out.items in
    let put = subst (λ (n : ℕ). OnOk c.write_uleb.result (Appends (λ bytes used. IsShortestUleb bytes n used) 10 old new)) (c.zigzag.ensures ∙ ap zigzag_of (to_z-of_z w64 z c.ranges.z)) c.write_uleb.ensures.stands in
    ok_then c.write_uleb.result
    (appends_as (IsShortestSigned z) (IsShortestSigned z) 10 (size_i64 z) old new (λ bytes used s. s) (λ bytes used s. length_size bytes (zigzag_of z) used s)) put
