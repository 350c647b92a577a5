-- What is left of the page that a reader of a chunk read last.
use Rattle.std.specs.Prelude.{Bool, true, List, [], Option, option_map, unwrap_or}
use Rattle.std.specs.List.{list_all}
use Rattle.std.specs.Option.{option_map_or}
use Rattle.schema.specs.Annotations.{LeafType}
use Rattle.schema.specs.Fits.{fits_leaf}
use Rattle.schema.specs.Stripe.{Entry}
use Rattle.pages.specs.declared.data_page.DataPage.{DataPage}
use Rattle.pages.specs.Left.{entries_left}

-- the entries that are not taken yet of the page that was read last
abbrev pub page_left : Option DataPage → List Entry
page_left page = unwrap_or (option_map entries_left page) []

-- the value of an entry is of the type, where it has one
abbrev pub value_fits : LeafType → Entry → Bool
value_fits t e = option_map_or (fits_leaf t) e.value true

-- the value of each entry is of the type, where it has one
abbrev pub values_fit : LeafType → List Entry → Bool
values_fit t es = list_all (value_fits t) es
