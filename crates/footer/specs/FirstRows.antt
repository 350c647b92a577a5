-- The first rows of a file, those of the first groups that have so many by their records; and which refusal comes for them.
use Rattle.std.specs.Prelude.{ℕ, zero, suc, ◌-◌, ℤ, pos, negsuc, List, [], ◌∷◌, Contains}
use Rattle.bits.specs.declared.refusal.Refusal.{Refusal}
use Rattle.bits.specs.declared.refusal.Refusal.TheVariants.{Codec, Limit}
use Rattle.schema.specs.Values.{ValueTrees}
use Rattle.schema.specs.Shape.{Fields}
use Rattle.schema.specs.Listing.{IsSchemaOf, IsTooLarge}
use Rattle.metadata.specs.Records.{FileMeta, GroupMeta}
use Rattle.row_group.specs.Limits.{IsGroupOver, HasCodec}
use Rattle.footer.specs.File.{IsFile, GroupsMean}
use Rattle.footer.specs.Faults.{IsLong, HasFooter, HasFault}

-- a count of rows; a negative number counts none
abbrev pub counted : ℤ → ℕ
counted (pos n) = n
counted (negsuc n) = 0

-- the first groups that have `count` rows together by their records; all groups where they have fewer
abbrev pub first_groups : ℕ → List GroupMeta → List GroupMeta
first_groups zero gs = []
first_groups (suc n) [] = []
first_groups (suc n) (g ∷ gs) = g ∷ first_groups (suc n - counted g.num_rows) gs

-- The first groups that have `count` rows have these, of this schema. The groups after them can be anything.
pub record MeansFirstRows (count : ℕ) (bytes : List ℕ) (fs : Fields) (rows : List ValueTrees) : Type 0 where
  pub front : List ℕ
  pub meta : FileMeta
  pub file : IsFile bytes front meta
  pub schema : IsSchemaOf meta.schema fs
  pub held : GroupsMean front fs (first_groups count meta.row_groups) rows

-- the file has a schema, and one of the first groups that have `count` rows is so, in the bytes before the footer
pub record HasFirstGroup (count : ℕ) (bytes : List ℕ) (Is : List ℕ → Fields → GroupMeta → Type 0) : Type 0 where
  pub front : List ℕ
  pub meta : FileMeta
  pub fs : Fields
  pub group : GroupMeta
  pub file : IsFile bytes front meta
  pub schema : IsSchemaOf meta.schema fs
  pub among : Contains (first_groups count meta.row_groups) group
  pub is : Is front fs group

-- a limit that the file goes beyond in its length, its footer, its schema or its first groups that have `count` rows
pub data IsFirstOverLimit (count : ℕ) (bytes : List ℕ) : Type 0 where
  long : IsLong bytes → IsFirstOverLimit count bytes
  large_schema : HasFooter bytes (λ m. IsTooLarge m.schema) → IsFirstOverLimit count bytes
  large_group : HasFirstGroup count bytes IsGroupOver → IsFirstOverLimit count bytes

-- that fault is in the file, in no group but the first ones that have `count` rows, where the refusal names one that others can see
abbrev pub HasFirstFault : ℕ → List ℕ → Refusal → Type 0
HasFirstFault count bytes Codec = HasFirstGroup count bytes (λ front fs g. HasCodec g)
HasFirstFault count bytes Limit = IsFirstOverLimit count bytes
HasFirstFault count bytes e = HasFault bytes e
