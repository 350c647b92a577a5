-- The sections of levels, and how wide levels are.
use Rattle.std.proofs.Common.{◌≡◌, ℕ, zero, suc, ◌+◌, ◌-◌, ◌*◌, ◌^◌, ◌<◌, ◌≤◌, List, ◌++◌, length, Option, sym, subst, ◌∙◌, arith, pow-suc}
use Rattle.std.specs.Prelude.{ℤ, pos, All}
use Rattle.std.specs.Int.Count.{count_leading_zeros}
use Rattle.std.proofs.lemmas.Nat.{leading_length}
use Rattle.hybrid_rle.specs.Hybrid.{IsHybrid}
use Rattle.schema.specs.Stripe.{Leaf}
use Rattle.metadata.specs.Records.{DataPageHeader, DataPageHeaderV2}
use Rattle.pages.specs.Encodings.{IsPrefixed}
use Rattle.pages.specs.Page.{AreLevels, IsSectionV1, IsSectionV2, AreLevelsV1, AreLevelsV2}
use Rattle.pages.proofs.OneList.{HybridsAreOne, one_front, one_prefix, one_width, one_levels, one_section_v1, one_section_v2}

-- ---- widths

even : (a m : ℕ) → 0 < a → 2 ^ m ≤ 2 * a + 1 → 2 ^ m ≤ 2 * a
even a zero some most = omega (arith, some)
even a (suc m) some most = let twice : 2 ^ suc m ≡ 2 ^ m * 2 = pow-suc 2 m in omega (arith, most, twice)

-- as many binary digits as the number has
pub digits : (a k r : ℕ) → 0 < a → a < 2 ^ k → r ≡ k - count_leading_zeros k a → (a < 2 ^ r) × (2 ^ r ≤ 2 * a)
digits a k r some fits is =
    let l = leading_length k a fits in
    let same : l.0 ≡ r = omega (arith, l.1, is) in
    subst (λ (n : ℕ). (a < 2 ^ n) × (2 ^ n ≤ 2 * a)) same (l.2, even a l.0 some l.3)

-- levels are of the width that the greatest has
pub of_width : (g w : ℕ) (text ls : List ℕ) → g < 2 ^ w → 2 ^ w ≤ 2 * g → (p : AreLevels g text ls) → IsHybrid w text (length ls) ls p.used
of_width g w text ls holds least p = subst (λ (v : ℕ). IsHybrid v text (length ls) ls p.used) (one_width g p.width w p.holds p.least holds least) p.packed

pub of_width_and_count : (g w n : ℕ) (text ls : List ℕ) → g < 2 ^ w → 2 ^ w ≤ 2 * g → length ls ≡ n → (p : AreLevels g text ls) → IsHybrid w text n ls p.used
of_width_and_count g w n text ls holds least size p = subst (λ (k : ℕ). IsHybrid w text k ls p.used) size (of_width g w text ls holds least p)

-- where levels stand, others are no others
pub none_within : HybridsAreOne → (g n : ℕ) (text known : List ℕ) → AreLevels g text known → length known ≡ n → (All (λ l. l ≤ g) known → ⊥) → (ls : List ℕ) → length ls ≡ n → AreLevels g text ls → All (λ l. l ≤ g) ls → ⊥
none_within law g n text known stand size above ls count p within = above (subst (All (λ l. l ≤ g)) (one_levels law g text ls known (count ∙ sym size) p stand) within)

-- ---- sections

-- the levels of a section of version 1 stand in the bytes after their length
pub in_section_v1 : (g : ℕ) (e : Option ℤ) (text inside behind ls rest : List ℕ) → 0 < g → IsPrefixed text inside behind → IsSectionV1 g e text ls rest → AreLevels g inside ls
in_section_v1 zero e text inside behind ls rest some known p = absurd (omega (arith, some))
in_section_v1 (suc g) e text inside behind ls rest some known p = subst (λ (t : List ℕ). AreLevels (suc g) t ls) (one_prefix text p.1.0 inside rest behind p.1.1 known).0 p.1.2

-- and of one of version 2
pub in_section_v2 : (g : ℕ) (z : ℤ) (text inside behind ls rest : List ℕ) → 0 < g → z ≡ pos (length inside) → text ≡ inside ++ behind → IsSectionV2 g z text ls rest → AreLevels g inside ls
in_section_v2 zero z text inside behind ls rest some size known p = absurd (omega (arith, some))
in_section_v2 (suc g) z text inside behind ls rest some size known p =
    let a = p.1 in
    let long : length p.0 ≡ length inside = cc in
    subst (λ (t : List ℕ). AreLevels (suc g) t ls) (one_front p.0 inside rest behind long (sym p.2 ∙ known)).0 p.3

-- ---- where the repetition levels stand, the definition levels stand after them

pub count_is : (z : ℤ) (m n : ℕ) → z ≡ pos m → z ≡ pos n → m ≡ n
count_is z m n a b = cc

pub second_v1 : HybridsAreOne → (leaf : Leaf) (h : DataPageHeader) (body rs ds text known between : List ℕ) (n : ℕ) → h.num_values ≡ pos n → length known ≡ n → IsSectionV1 leaf.greatest_repetition h.repetition_level_encoding body known between
    → AreLevelsV1 leaf h body rs ds text → (length ds ≡ n) × IsSectionV1 leaf.greatest_definition h.definition_level_encoding between ds text
second_v1 law leaf h body rs ds text known between n count size stands p =
    let many = count_is h.num_values (length ds) n p.count count in
    let same = one_section_v1 law leaf.greatest_repetition h.repetition_level_encoding body rs known p.between between (p.paired ∙ many ∙ sym size) p.first stands in
    (many, subst (λ (t : List ℕ). IsSectionV1 leaf.greatest_definition h.definition_level_encoding t ds text) same.1 p.second)

pub second_v2 : HybridsAreOne → (leaf : Leaf) (h : DataPageHeaderV2) (body rs ds text known between : List ℕ) (n : ℕ) → h.num_values ≡ pos n → length known ≡ n → IsSectionV2 leaf.greatest_repetition h.repetition_levels_byte_length body known between
    → AreLevelsV2 leaf h body rs ds text → (length ds ≡ n) × IsSectionV2 leaf.greatest_definition h.definition_levels_byte_length between ds text
second_v2 law leaf h body rs ds text known between n count size stands p =
    let many = count_is h.num_values (length ds) n p.count count in
    let same = one_section_v2 law leaf.greatest_repetition h.repetition_levels_byte_length body rs known p.between between (p.paired ∙ many ∙ sym size) p.first stands in
    (many, subst (λ (t : List ℕ). IsSectionV2 leaf.greatest_definition h.definition_levels_byte_length t ds text) same.1 p.second)
