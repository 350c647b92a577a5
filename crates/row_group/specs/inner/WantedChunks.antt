-- The chunks of some of a group's leaves, and their readers.
use Rattle.std.specs.Prelude.{ℕ, List}
use Rattle.schema.specs.Shape.{Fields}
use Rattle.schema.specs.Stripe.{Entry, leaves_of}
use Rattle.schema.specs.Cutting.{at_places}
use Rattle.metadata.specs.Records.{GroupMeta}
use Rattle.row_group.specs.declared.chunk_reader.ChunkReader.{ChunkReader}
use Rattle.row_group.specs.Wanted.{AreWantedChunks}
use Rattle.row_group.specs.inner.Readers.{AreReaders, AreSound}

-- a reader for the chunk of each leaf at these places
abbrev pub AreReadersAt : List ℕ → List ℕ → Fields → GroupMeta → List ChunkReader → Type 0
AreReadersAt front places fs g = AreReaders front (at_places places g.columns) (at_places places (leaves_of fs))

-- the chunks of these leaves hold these columns, and none is over a limit
abbrev pub AreSoundAt : List ℕ → List ℕ → Fields → GroupMeta → List (List Entry) → Type 0
AreSoundAt front places fs g = AreSound front (at_places places g.columns) (at_places places (leaves_of fs))

-- the chunks of these leaves hold no columns, or there are not as many chunks as leaves
abbrev pub HoldNothingAt : List ℕ → List ℕ → Fields → GroupMeta → Type 0
HoldNothingAt front places fs g = (columns : List (List Entry)) → AreWantedChunks front places fs g columns → ⊥
