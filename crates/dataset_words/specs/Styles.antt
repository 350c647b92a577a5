-- The words for the styles.
use Rattle.std.specs.Prelude.{ℕ, List, Option, Some, None, codes, bytes_eq, if◌then◌else◌}
use Rattle.row_group.specs.declared.options.Style.{Style}
use Rattle.row_group.specs.declared.options.Style.TheVariants.{Plain, Dictionary, Delta, Lengths, Split}

-- the style that an argument names; PLAIN where there is none
abbrev pub style_named : Option (List ℕ) → Style
style_named None = Plain
style_named (Some s) = if bytes_eq s (codes "dictionary") then Dictionary else if bytes_eq s (codes "delta") then Delta else if bytes_eq s (codes "lengths") then Lengths else if bytes_eq s (codes "split") then Split else Plain
