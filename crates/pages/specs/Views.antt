-- What pages of the program stand for.
use Rattle.std.specs.Prelude.{map, List, Option, option_map}
use Rattle.std.specs.Borrow.{Bor}
use Rattle.schema.specs.Values.{ValueTree}
use Rattle.schema.specs.declared.borrowed.ValueRef.{ValueRef}
use Rattle.schema.specs.Borrowed.{value_ref_view}
use Rattle.pages.specs.declared.page.PageRef.{PageRef}
use Rattle.pages.specs.declared.page.PageRef.TheVariants.{Skipped, Dictionary, Data}
use Rattle.pages.specs.Page.{Page, skipped, dictionary, entries}
use Rattle.pages.specs.Left.{entries_left}

-- what a page of the program stands for: a data page for the entries that it still has to give
abbrev pub page_view : PageRef → Page
page_view (Skipped body) = skipped
page_view (Dictionary vs) = dictionary (map value_ref_view vs.items)
page_view (Data page) = entries (entries_left page)

-- a borrowed dictionary
abbrev pub dictionary_view : Option (Bor (List ValueRef)) → Option (List ValueTree)
dictionary_view d = option_map (λ x. map value_ref_view x.now) d
