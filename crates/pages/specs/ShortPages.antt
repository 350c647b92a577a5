-- That a page whose values are short goes beyond no limit, also where nobody has read it.
use Rattle.std.specs.Prelude.{ℕ, List, [], Option}
use Rattle.std.specs.List.{AllByRecursion}
use Rattle.schema.specs.Values.{ValueTree}
use Rattle.schema.specs.Stripe.{Leaf}
use Rattle.plain.specs.Plain.{IsTooLong}
use Rattle.pages.specs.Page.{Page, skipped, dictionary, entries, values, IsPage}
use Rattle.pages.specs.Limits.{IsPageOver}

-- the values of a dictionary's page, or of a page's entries
abbrev pub values_of : Page → List ValueTree
values_of skipped = []
values_of (dictionary vs) = vs
values_of (entries es) = values es

-- none of the values of a page is longer than a value may be
abbrev pub HasShortValues : Page → Type 0
HasShortValues page = AllByRecursion (λ v. IsTooLong v → ⊥) (values_of page)

-- a page that stands, and has no value that is too long, is over no limit, whatever dictionary its chunk has
abbrev pub ShortPagesAreWithinLimits : Type 0
ShortPagesAreWithinLimits =
    (leaf : Leaf) (d : Option (List ValueTree)) (bytes : List ℕ) (page : Page) (used : ℕ) → IsPage leaf d bytes page used → HasShortValues page → IsPageOver leaf bytes → ⊥
