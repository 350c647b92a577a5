use Rattle.std.proofs.Common.{ℕ, List}
use Rattle.bits.specs.Varint.{IsUleb, IsShortestUleb}
use Rattle.thrift_compact.specs.Length.{size_length}
use Rattle.thrift_compact.proofs.Appending.{appends_as, ok_then}
use Rattle.thrift_compact.proofs.Sizes.{length_size}
use Rattle.thrift_compact.proofs.numbers.put_size.Goals as goal

pub returns-clause-stands : goal.returns-clause-stands
returns-clause-stands c =
    ok_then c.write_uleb.result
    (appends_as (λ (bytes : List ℕ) (used : ℕ). IsShortestUleb bytes c.args.size used) (λ (bytes : List ℕ). IsUleb bytes c.args.size) 10 (size_length c.args.size) c.args.out.now.items c.write_uleb.new.out.items
    (λ bytes used s. s.spelled) (λ bytes used s. length_size bytes c.args.size used s)) c.write_uleb.ensures.stands
