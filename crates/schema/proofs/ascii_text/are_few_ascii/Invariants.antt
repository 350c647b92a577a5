use Rattle.schema.specs.inner.Ascii.{AreAsciiBetween}
use Rattle.schema.proofs.ascii_text.are_few_ascii.Given as goal

abbrev pub invariant-loop-byte : goal.invariant-loop-byte
invariant-loop-byte l = AreAsciiBetween l.bytes 0 l.byte-index
