use Rattle.std.proofs.Common.{List, length, subst}
use Rattle.std.specs.Prelude.{ℤ, OnOk}
use Rattle.std.specs.Int.{w32}
use Rattle.std.proofs.lemmas.List.{map-id}
use Rattle.bits.specs.Codec.{Appends}
use Rattle.delta.specs.Delta.{IsDelta, most_bytes}
use Rattle.delta.specs.Written.{AppendsWrittenDelta}
use Rattle.delta.proofs.writing.encode_i32.Goals as goal

pub returns-clause-stands : goal.returns-clause-stands
returns-clause-stands c =
    subst (λ (xs : List ℤ). OnOk c.encode.result (Appends (λ bytes. IsDelta w32 bytes (length xs) xs) (most_bytes w32 (length xs)) c.args.out.now.items c.encode.new.out.items)) (map-id c.args.values.now) c.encode.ensures.stands

pub returns-clause-written : goal.returns-clause-written
returns-clause-written c = subst (λ (xs : List ℤ). OnOk c.encode.result (AppendsWrittenDelta w32 xs c.args.out.now.items c.encode.new.out.items)) (map-id c.args.values.now) c.encode.ensures.written
