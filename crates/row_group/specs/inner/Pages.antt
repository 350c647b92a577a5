-- Pages that are read off what is left of a chunk.
use Rattle.std.specs.Prelude.{◌≡◌, ℕ, ◌+◌, ◌<◌, ◌≤◌, Bool, true, List, [], ◌++◌, length, drop, Option, Some, None, Result, Ok, Err}
use Rattle.bits.specs.Codec.{NothingStands}
use Rattle.bits.specs.Faults.{refusal_of}
use Rattle.bits.specs.declared.fault.Fault.{Fault}
use Rattle.bits.specs.declared.fault.Fault.TheVariants as fault
use Rattle.bits.specs.declared.refusal.Refusal.{Refusal}
use Rattle.bits.specs.declared.refusal.Refusal.TheVariants.{Memory, Limit}
use Rattle.schema.specs.Stripe.{Entry}
use Rattle.pages.specs.declared.data_page.DataPage.{DataPage}
use Rattle.pages.specs.Page.{Page, skipped, dictionary, entries, IsPage}
use Rattle.pages.specs.Chunk.{entries_of}
use Rattle.pages.specs.Left.{entries_left}
use Rattle.pages.specs.Limits.{IsOfPages}
use Rattle.row_group.specs.PageLeft.{values_fit}
use Rattle.row_group.specs.Rest.{Known, known, dictionary_of, ChunkLeft, HoldsRest, HasRestOver}

-- a fault is kept, unless it is Memory
abbrev pub kept_fault : Fault → Option Fault
kept_fault fault.Memory = None
kept_fault f = Some f

-- what is left holds entries, and no page of it is over a limit: it has been read before
abbrev pub IsAccepted : ChunkLeft → Type 0
IsAccepted s = (NothingStands (HoldsRest s) → ⊥) × (HasRestOver s → ⊥)

-- where the flag is set, what is left holds entries, and no page of it is over a limit
abbrev pub AcceptedWhere : Bool → ChunkLeft → Type 0
AcceptedWhere flag s = flag ≡ true → IsAccepted s

-- `new` is what is left of `old` after pages that hold these entries
pub record Passes (old new : ChunkLeft) (es : List Entry) : Type 0 where
  pub used : ℕ
  pub within : used ≤ length old.bytes
  pub leaf : new.leaf ≡ old.leaf
  pub bytes : new.bytes ≡ drop used old.bytes
  pub lacking : new.lacking + length es ≡ old.lacking
  pub onward : (all : List Entry) (u : ℕ) → HoldsRest old all u → (rest : List Entry) × (v : ℕ) × (all ≡ es ++ rest) × (u ≡ used + v) × HoldsRest new rest v
  pub back : (rest : List Entry) (v : ℕ) → HoldsRest new rest v → HoldsRest old (es ++ rest) (used + v)
  pub over_onward : HasRestOver old → HasRestOver new
  pub over_back : HasRestOver new → HasRestOver old

-- out of memory some pages without entries may have passed; Limit: a page is over a limit; else nothing stood
abbrev pub IsRefusedAt : ChunkLeft → ChunkLeft → Refusal → Type 0
IsRefusedAt old new Memory = Passes old new []
IsRefusedAt old new Limit = HasRestOver old
IsRefusedAt old new e = IsOfPages e × NothingStands (HoldsRest old)

-- a page stood next, and what is left are the bytes after it
abbrev pub PassesPage : ChunkLeft → ChunkLeft → Type 0
PassesPage old new = (page : Page) × (used : ℕ) × IsPage old.leaf (dictionary_of old.known) old.bytes page used × (new.bytes ≡ drop used old.bytes)

-- one page is read: one with entries, whose values are the leaf's, or one that has none
abbrev pub ReadsPage : ChunkLeft → ChunkLeft → Result (Option DataPage) Fault → Type 0
ReadsPage old new (Ok (Some page)) = Passes old new (entries_left page) × (0 < length (entries_left page)) × (values_fit new.leaf.leaf_type (entries_left page) ≡ true)
ReadsPage old new (Ok None) = Passes old new [] × PassesPage old new
ReadsPage old new (Err f) = IsRefusedAt old new (refusal_of f)

-- the next page with entries, whose values are the leaf's, or none where no entries are lacking
abbrev pub NextPage : ChunkLeft → ChunkLeft → Result (Option DataPage) Fault → Type 0
NextPage old new (Ok (Some page)) = Passes old new (entries_left page) × (0 < length (entries_left page)) × (values_fit new.leaf.leaf_type (entries_left page) ≡ true)
NextPage old new (Ok None) = Passes old new [] × (new.lacking ≡ 0)
NextPage old new (Err f) = IsRefusedAt old new (refusal_of f)

-- all pages are read, and these are their entries
abbrev pub PassesAll : ChunkLeft → ChunkLeft → List Entry → Type 0
PassesAll old new es = Passes old new es × (new.lacking ≡ 0)

-- Limit: a page is over a limit; else, out of memory aside, nothing stood
abbrev pub IsRefusedWithin : ChunkLeft → Refusal → Type 0
IsRefusedWithin old Memory = Unit {0}
IsRefusedWithin old Limit = HasRestOver old
IsRefusedWithin old e = IsOfPages e × NothingStands (HoldsRest old)

-- whether the page may come next: a dictionary only before all pages that are read
abbrev pub MayCome : Known → Page → Type 0
MayCome (known d) (dictionary vs) = ⊥
MayCome _ _ = Unit {0}

-- what is known of the dictionary after the page
abbrev pub known_after : Known → Page → Known
known_after k skipped = k
known_after k (dictionary vs) = known (Some vs)
known_after k (entries es) = known (dictionary_of k)

-- `new` is `old` after this page, its bytes aside
pub record IsAfter (old new : ChunkLeft) (page : Page) : Type 0 where
  pub leaf : new.leaf ≡ old.leaf
  pub known : new.known ≡ known_after old.known page
  pub bytes : new.bytes ≡ old.bytes
  pub lacking : new.lacking + length (entries_of page) ≡ old.lacking

-- the entries of a page are given where there are some
abbrev pub GivesEntries : DataPage → Option DataPage → Type 0
GivesEntries page (Some given) = (entries_left given ≡ entries_left page) × (0 < length (entries_left given))
GivesEntries page None = entries_left page ≡ []

-- the page may come, and its entries are given where there are some; or it may not
abbrev pub TakesPage : ChunkLeft → ChunkLeft → Page → Result (Option DataPage) Fault → Type 0
TakesPage old new page (Ok (Some given)) = MayCome old.known page × IsAfter old new page × (entries_left given ≡ entries_of page) × (0 < length (entries_left given))
TakesPage old new page (Ok None) = MayCome old.known page × IsAfter old new page × (entries_of page ≡ [])
TakesPage old new page (Err f) = (f ≡ fault.Page) × (MayCome old.known page → ⊥)
