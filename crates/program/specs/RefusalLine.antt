-- The line of a refusal.
use Rattle.std.specs.Prelude.{ℕ, List, ◌∷◌, ◌++◌, [], Option, codes, decimal}
use Rattle.std.specs.Io.KnownBytes.{Appends}
use Rattle.bits.specs.declared.refusal.Refusal.{Refusal}
use Rattle.bits.specs.declared.refusal.Refusal.TheVariants.{Float, Int96}
use Rattle.jsonrows.specs.Answers.{refusal_name, refusal_number}

-- `refused`, and the number and the name of a refusal
abbrev pub refusal_words : Refusal → List ℕ
refusal_words e = codes "refused " ++ (decimal (refusal_number e) ++ (32 ∷ refusal_name e))

-- these, and a line feed
abbrev pub refusal_line : Refusal → List ℕ
refusal_line e = codes "refused " ++ (decimal (refusal_number e) ++ (32 ∷ (refusal_name e ++ 10 ∷ [])))

-- after what a writer held, where that is known, stand the words of a refusal for a column, and more: the column's name
abbrev pub WritesColumnRefusal : Refusal → Option (List ℕ) → Option (List ℕ) → Type 0
WritesColumnRefusal e old new = (column : List ℕ) × Appends old new (refusal_words e ++ column)

-- after what a writer held, where that is known, stands the line of a refusal (of Float and Int96, in whose lines a column is named, its
-- words first)
abbrev pub WritesRefusal : Refusal → Option (List ℕ) → Option (List ℕ) → Type 0
WritesRefusal (Float path) old new = WritesColumnRefusal (Float path) old new
WritesRefusal (Int96 path) old new = WritesColumnRefusal (Int96 path) old new
WritesRefusal e old new = Appends old new (refusal_line e)
