-- Which refusal of a file comes when.
use Rattle.std.specs.Prelude.{◌≡◌, ◌≢◌, ◌⊎◌, ℕ, ◌-◌, ◌^◌, ◌<◌, ◌≤◌, List, ◌++◌, length, take, drop, Contains, string_bytes}
use Rattle.byteorder.specs.Endian.{little_bytes}
use Rattle.bits.specs.declared.refusal.Refusal.{Refusal}
use Rattle.bits.specs.declared.refusal.Refusal.TheVariants.{Truncated, Magic, Thrift, Schema, Codec, Float, Int96, Encoding, Page, Levels, Value, Utf8, Limit, Memory}
use Rattle.schema.specs.Shape.{Fields}
use Rattle.schema.specs.Listing.{IsSchemaOf, ListHasLeaf, is_floating, is_int96, IsTooLarge}
use Rattle.metadata.specs.Records.{FileMeta, GroupMeta}
use Rattle.row_group.specs.Limits.{IsGroupOver, HasCodec, IsOfChunks}
use Rattle.footer.specs.Greatest.{most_of_file, most_of_footer}
use Rattle.footer.specs.File.{magic, IsFile}

-- the first or the last four bytes are not `PAR1`
abbrev pub LacksMagic : List ℕ → Type 0
LacksMagic bytes = (12 ≤ length bytes) × ((take 4 bytes ≢ magic) ⊎ (drop (length bytes - 4) bytes ≢ magic))

-- the length of the footer is announced with more than a footer may have
pub record AnnouncesLongFooter (bytes : List ℕ) : Type 0 where
  pub before : List ℕ
  pub size : ℕ
  pub short : size < 2 ^ 32
  pub announced : bytes ≡ magic ++ before ++ little_bytes 4 size ++ magic
  pub over : most_of_footer < size

-- the file, or its footer, is too long
pub data IsLong (bytes : List ℕ) : Type 0 where
  long_file : most_of_file < length bytes → IsLong bytes
  long_footer : AnnouncesLongFooter bytes → IsLong bytes

-- the file has a footer, whose record is so
pub record HasFooter (bytes : List ℕ) (Is : FileMeta → Type 0) : Type 0 where
  pub front : List ℕ
  pub meta : FileMeta
  pub file : IsFile bytes front meta
  pub is : Is meta

-- the file has a schema, and a group of it is so, in the bytes before the footer
pub record HasGroup (bytes : List ℕ) (Is : List ℕ → Fields → GroupMeta → Type 0) : Type 0 where
  pub front : List ℕ
  pub meta : FileMeta
  pub fs : Fields
  pub group : GroupMeta
  pub file : IsFile bytes front meta
  pub schema : IsSchemaOf meta.schema fs
  pub among : Contains meta.row_groups group
  pub is : Is front fs group

-- that fault is in the groups, where the refusal names one that others can see
abbrev pub HasGroupsFault : List ℕ → Fields → List GroupMeta → Refusal → Type 0
HasGroupsFault front fs gs Codec = (g : GroupMeta) × Contains gs g × HasCodec g
HasGroupsFault front fs gs Limit = (g : GroupMeta) × Contains gs g × IsGroupOver front fs g
HasGroupsFault front fs gs Memory = Unit {0}
HasGroupsFault front fs gs e = IsOfChunks e

-- a limit that the file goes beyond, by its own or an announced length or count, or by a value
pub data IsOverLimit (bytes : List ℕ) : Type 0 where
  long : IsLong bytes → IsOverLimit bytes
  large_schema : HasFooter bytes (λ m. IsTooLarge m.schema) → IsOverLimit bytes
  large_group : HasGroup bytes IsGroupOver → IsOverLimit bytes

-- that fault is in the file, where the refusal names one that others can see; no other refusal comes
abbrev pub HasFault : List ℕ → Refusal → Type 0
HasFault bytes Truncated = Unit {0}
HasFault bytes Magic = LacksMagic bytes
HasFault bytes Thrift = Unit {0}
HasFault bytes Schema = Unit {0}
HasFault bytes Codec = HasGroup bytes (λ front fs g. HasCodec g)
HasFault bytes (Float path) = HasFooter bytes (λ m. ListHasLeaf is_floating m.schema (string_bytes path))
HasFault bytes (Int96 path) = HasFooter bytes (λ m. ListHasLeaf is_int96 m.schema (string_bytes path))
HasFault bytes Encoding = Unit {0}
HasFault bytes Page = Unit {0}
HasFault bytes Levels = Unit {0}
HasFault bytes Value = Unit {0}
HasFault bytes Utf8 = Unit {0}
HasFault bytes Limit = IsOverLimit bytes
HasFault bytes Memory = Unit {0}
HasFault bytes _ = ⊥

-- that fault is in the frame or the footer of the file, where the refusal names one that others can see; no other refusal comes
abbrev pub HasFooterFault : List ℕ → Refusal → Type 0
HasFooterFault bytes Truncated = Unit {0}
HasFooterFault bytes Magic = LacksMagic bytes
HasFooterFault bytes Thrift = Unit {0}
HasFooterFault bytes Limit = IsLong bytes
HasFooterFault bytes Memory = Unit {0}
HasFooterFault bytes _ = ⊥
