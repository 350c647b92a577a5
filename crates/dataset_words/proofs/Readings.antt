-- What clap reads of a subcommand.
use Rattle.std.proofs.Common.{◌≡◌, ◌∙◌, ◌↔◌, ℕ, List, refl, sym, ap}
use Rattle.std.proofs.lemmas.Bool.{false≢true}
use Rattle.std.specs.Prelude.{Option, Some, None, IsSome, IfSome, IfNone, option_map}
use Rattle.clap.specs.declared.parser.matches.ArgMatches.{ArgMatches}
use Rattle.clap.specs.declared.parser.matches.ArgMatches.TheViews.{out-ArgMatches}
use Rattle.clap.specs.Matches.{subcommand_name_of}
use Rattle.clap.specs.Walk.{Row, rows_of}
use Rattle.clap.specs.declared.parser.matches.Found.{Found}
use Rattle.dataset_words.specs.Asked.{HasMet}
use Rattle.clap.specs.Simple.{subcommand_rows_of}

by_parts : {A B C : Type 0} (f : C → A) (g : C → B) (pair : C → A × B) → ((c : C) → pair c ≡ (f c, g c)) → (b : Option C) (x : A) (y : B) → option_map f b ≡ Some x
    → option_map (λ (p : A × B). p.1) (option_map pair b) ≡ Some y → option_map pair b ≡ Some (x, y)
by_parts f g pair parts None x y e h = cc
by_parts f g pair parts (Some c) x y e h =
    let first : f c ≡ x = cc in
    let both : (pair c).1 ≡ y = cc in
    let second : g c ≡ y = rw (← both, parts c) refl in
    rw (parts c, first, second) refl

-- the subcommand, by its name and by what was found for its arguments
subcommand_found : (m : ArgMatches) (word : List ℕ) (rows : List Row) → subcommand_name_of m ≡ Some word
    → option_map (λ (p : List ℕ × List Row). p.1) (subcommand_rows_of m) ≡ Some rows → subcommand_rows_of m ≡ Some (word, rows)
subcommand_found m word rows name found = by_parts _ _ _ (λ c. refl) (out-ArgMatches m).subcommand word rows name found

-- where there are matches of the subcommand of a word, it is the one that was met
pub met : {M : Type 0} (m : ArgMatches) (word : List ℕ) (rows : M → List Row) (r : Option M) → (IsSome r ↔ (subcommand_name_of m ≡ Some word))
    → IfSome r (λ x. option_map (λ (p : List ℕ × List Row). p.1) (subcommand_rows_of m) ≡ Some (rows x)) → IfSome r (λ x. subcommand_rows_of m ≡ Some (word, rows x))
met m word rows None is has = tt
met m word rows (Some x) is has = subcommand_found m word (rows x) (is.0 refl) has

first_of_pair : {A B C : Type 0} (f : C → A) (g : C → B) (pair : C → A × B) → ((c : C) → pair c ≡ (f c, g c)) → (b : Option C) (x : A) (y : B) → option_map pair b ≡ Some (x, y) → option_map f b ≡ Some x
first_of_pair f g pair parts None x y h = cc
first_of_pair {A} {B} f g pair parts (Some c) x y h =
    let both : pair c ≡ (x, y) = cc in
    let parted : (f c, g c) ≡ (x, y) = sym (parts c) ∙ both in
    ap (λ (p : A × B). Some p.0) parted

-- where there are no matches of the subcommand of a word, none was met
pub unmet : {M : Type 0} (m : ArgMatches) (word : List ℕ) (r : Option M) → (IsSome r ↔ (subcommand_name_of m ≡ Some word)) → IfNone r ((found : Found) → HasMet m word found → ⊥)
unmet m word (Some x) is = tt
unmet m word None is = λ found met. false≢true (is.1 (first_of_pair _ _ _ (λ c. refl) (out-ArgMatches m).subcommand word (rows_of found) met))
