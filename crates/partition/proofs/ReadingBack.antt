-- What a path is read as.
use Rattle.std.proofs.Common.{◌≡◌, ℕ, zero, suc, ◌+◌, ◌<◌, ◌≤◌, Bool, true, false, not, List, [], ◌∷◌, ◌++◌, length, get_or, drop, IsTrue, refl, ap, sym, subst, ◌∙◌, arith, append_assoc, add-one}
use Rattle.std.specs.List.{AllByRecursion}
use Rattle.std.proofs.lemmas.Bool.{false≢true, and_parts}
use Rattle.std.proofs.lemmas.List.{append-nil}
use Rattle.std.proofs.lemmas.List.Elements.{recursion_from_All, All-from_recursion}
use Rattle.percent_encoding.specs.AsciiSet.{contains, should_percent_encode}
use Rattle.percent_encoding.specs.Percent.{percent_decode}
use Rattle.percent_encoding.proofs.PercentLemmas.{IsByte, IsEscapeByte, round_trip, All-percent_encode}
use Rattle.partition.specs.declared.escape.TheConstants.{ESCAPED}
use Rattle.schema.specs.declared.key.KeyKind.{KeyKind}
use Rattle.schema.specs.Values.{ValueTree}
use Rattle.schema.specs.declared.key.KeyColumn.{KeyColumn as CodeKeyColumn}
use Rattle.schema.specs.Keys.{KeyColumn, key_column_view, key_columns_view}
use Rattle.partition.specs.Folders.{is_plain, escaped, value_text, folder, folders, path, is_key_value, is_key}
use Rattle.partition.specs.inner.Reading.{Begins, HasNo, IsCutBefore, ReadsOn}
use Rattle.partition.proofs.Escapes.{escaped_is, escape_is}
use Rattle.partition.proofs.Naming.{kind_of, text_bytes, join_is, rest_of}
use Rattle.partition.proofs.Cutting.{one_cut}

-- ---- no sign stands in an escaped text

kept_no : (s : ℕ) → is_plain s ≡ false → (b : ℕ) → should_percent_encode ESCAPED b ≡ false → HasNo s b
kept_no s plain b kept is = not_so (is_plain b) (sym (escape_is b) ∙ kept) (ap is_plain is ∙ plain)
  where
    not_so : (t : Bool) → not t ≡ false → t ≡ false → ⊥
    not_so true p q = false≢true (sym q)
    not_so false p q = false≢true (sym p)

escape_no_equals : (b : ℕ) → IsEscapeByte b → HasNo 61 b
escape_no_equals b h is = omega (arith, h)

pub escaped_no_equals : (s : List ℕ) → AllByRecursion (HasNo 61) (escaped s)
escaped_no_equals s = subst (AllByRecursion (HasNo 61)) (escaped_is s) (recursion_from_All (HasNo 61) _ (All-percent_encode (HasNo 61) ESCAPED s (kept_no 61 refl) escape_no_equals))

escape_no_slash : (b : ℕ) → IsEscapeByte b → HasNo 47 b
escape_no_slash b h is = omega (arith, h)

pub escaped_no_slash : (s : List ℕ) → AllByRecursion (HasNo 47) (escaped s)
escaped_no_slash s = subst (AllByRecursion (HasNo 47)) (escaped_is s) (recursion_from_All (HasNo 47) _ (All-percent_encode (HasNo 47) ESCAPED s (kept_no 47 refl) escape_no_slash))

both_no : (s : ℕ) (a b : List ℕ) → AllByRecursion (HasNo s) a → AllByRecursion (HasNo s) b → AllByRecursion (HasNo s) (a ++ b)
both_no s [] b h k = k
both_no s (x ∷ a) b h k = (h.0, both_no s a b h.1 k)

pub folder_no_slash : (c : KeyColumn) (v : ValueTree) → AllByRecursion (HasNo 47) (folder c v)
folder_no_slash c v = both_no 47 (escaped c.name) (61 ∷ escaped (value_text v)) (escaped_no_slash c.name) ((λ is. omega (arith, is)), escaped_no_slash (value_text v))

-- ---- the value of a folder

percent_is_escaped : contains ESCAPED 37 ≡ true
percent_is_escaped = refl

decoded : (s : List ℕ) → AllByRecursion IsByte s → percent_decode (escaped s) ≡ s
decoded s h = ap percent_decode (sym (escaped_is s)) ∙ round_trip ESCAPED s percent_is_escaped (All-from_recursion IsByte s h)

pub text_of_folder : (kind : KeyKind) (whole first after text name : List ℕ) (v : ValueTree) → IsCutBefore 61 whole first after → text ≡ percent_decode (drop 1 after)
    → is_key_value kind v ≡ true → whole ≡ escaped name ++ 61 ∷ escaped (value_text v) → text ≡ value_text v
text_of_folder kind whole first after text name v cut is key e =
    let parts = one_cut 61 first (escaped name) after (61 ∷ escaped (value_text v)) cut.before (escaped_no_equals name) cut.from refl (cut.whole ∙ e) in
    is ∙ ap (λ (rest : List ℕ). percent_decode (drop 1 rest)) parts.1 ∙ decoded (value_text v) (text_bytes kind v (kind_of kind v key))

-- ---- one folder after another

later_path : (columns : List KeyColumn) (key : List ValueTree) → drop 1 (rest_of (folders columns key)) ≡ path columns key
later_path [] [] = refl
later_path [] (v ∷ vs) = refl
later_path (c ∷ cs) [] = refl
later_path (c ∷ cs) (v ∷ vs) = refl

rest_begins : (fs : List (List ℕ)) → Begins 47 (rest_of fs)
rest_begins [] = tt
rest_begins (f ∷ fs) = refl

-- what the next folder is, and what is left after it
pub record Next (c : KeyColumn) (columns : List KeyColumn) (key done : List ValueTree) (first after : List ℕ) : Type 0 where
  pub value : ValueTree
  pub is_value : is_key_value c.kind value ≡ true
  pub is_folder : first ≡ folder c value
  pub goes_on : ReadsOn columns key (done ++ value ∷ []) (drop 1 after)

pub next_folder : (c : KeyColumn) (columns : List KeyColumn) (key done : List ValueTree) (rest first after : List ℕ) → IsCutBefore 47 rest first after → ReadsOn (c ∷ columns) key done rest → Next c columns key done first after
next_folder c columns key done rest first after cut on = by on.later on.split on.keyed on.left
  where
    by : (later : List ValueTree) → key ≡ done ++ later → IsTrue (is_key (c ∷ columns) later) → path (c ∷ columns) later ≡ rest → Next c columns key done first after
    by [] split keyed left = absurd (false≢true keyed)
    by (v ∷ vs) split keyed left =
        let parts = and_parts (is_key_value c.kind v) (is_key columns vs) keyed in
        let whole : first ++ after ≡ folder c v ++ rest_of (folders columns vs) = cut.whole ∙ sym left ∙ join_is (folder c v) (folders columns vs) in
        let same = one_cut 47 first (folder c v) after (rest_of (folders columns vs)) cut.before (folder_no_slash c v) cut.from (rest_begins (folders columns vs)) whole in
        record {
          value = v;
          is_value = parts.0;
          is_folder = same.0;
          goes_on = record { later = vs; split = split ∙ sym (append_assoc done (v ∷ []) vs); keyed = parts.1; left = sym (later_path columns vs) ∙ ap (drop 1) (sym same.1) };
        }

pub all_read : (key done : List ValueTree) (rest : List ℕ) → ReadsOn [] key done rest → key ≡ done
all_read key done rest on = by on.later on.split on.keyed
  where
    by : (later : List ValueTree) → key ≡ done ++ later → IsTrue (is_key [] later) → key ≡ done
    by [] split keyed = split ∙ append-nil done
    by (v ∷ vs) split keyed = absurd (false≢true keyed)

-- ---- the columns from a place on

pub columns_from : (columns : List CodeKeyColumn) (i : ℕ) (column : CodeKeyColumn) → i < length columns → column ≡ get_or columns i column → key_columns_view (drop i columns) ≡ key_column_view column ∷ key_columns_view (drop (i + 1) columns)
columns_from columns i column h is = rw add-one (by columns i h is)
  where
    by : (cs : List CodeKeyColumn) (i : ℕ) → i < length cs → column ≡ get_or cs i column → key_columns_view (drop i cs) ≡ key_column_view column ∷ key_columns_view (drop (suc i) cs)
    by [] i h is = absurd (omega (arith, h))
    by (c ∷ cs) zero h is = ap (λ (d : CodeKeyColumn). key_column_view d ∷ key_columns_view cs) (sym is)
    by (c ∷ cs) (suc i) h is = by cs i (omega (arith, h)) is

pub columns_end : (columns : List CodeKeyColumn) (i : ℕ) → length columns ≤ i → key_columns_view (drop i columns) ≡ []
columns_end [] zero h = refl
columns_end [] (suc i) h = refl
columns_end (c ∷ cs) zero h = absurd (omega (arith, h))
columns_end (c ∷ cs) (suc i) h = columns_end cs i (omega (arith, h))
