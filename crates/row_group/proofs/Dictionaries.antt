-- The dictionary of a chunk, where it has one.
use Rattle.std.proofs.Common.{◌≡◌, ◌≢◌, ◌<◌, List, length, get_or, Option, None, Some, Result, Ok, Err, sym, subst}
use Rattle.std.specs.Prelude.{◌↔◌, All, IsTrue, IfOk, IfSome, IfNone}
use Rattle.std.specs.List.{AllByRecursion}
use Rattle.bits.specs.declared.refusal.Refusal.{Refusal}
use Rattle.bits.specs.Refusals.{OnFault}
use Rattle.schema.specs.declared.value.Kind.{Kind}
use Rattle.schema.specs.declared.value.Kind.TheVariants.{Boolean, Int32, Int64, ByteArray, FixedLenByteArray}
use Rattle.schema.specs.Values.{ValueTree, null, boolean, integer, bytes, group, list}
use Rattle.schema.specs.Stripe.{Leaf, Entry}
use Rattle.schema.specs.Fits.{fits_kind}
use Rattle.schema.specs.Law.{IsEntryOf}
use Rattle.plain.specs.Plain.{IsOfKind}
use Rattle.dictionary.specs.declared.dictionary.Dictionary.{Dictionary}
use Rattle.dictionary.specs.Entries.{IsLeafValue, IsIndexed, AreMoreThan, entries_of, indexes_of}
use Rattle.pages.specs.Page.{values}
use Rattle.pages.proofs.WrittenPages.{kinds_in}
use Rattle.row_group.specs.declared.options.Style.{Style}
use Rattle.row_group.specs.declared.options.Style.TheVariants as style
use Rattle.row_group.specs.Styles.{SuitsDictionary}

pub fault_weaker : {X : Type 0} {P Q : Type 0} (r : Result X Refusal) → (P → Q) → OnFault r P → OnFault r Q
fault_weaker (Ok x) f p = tt
fault_weaker (Err e) f p = λ fault. f (p fault)

pub found_some : (s : Style) (kind : Kind) (es : List Entry) (vs : List ValueTree) (r : Result (Option Dictionary) Refusal) → (s ≡ style.Dictionary) × (kind ≢ Boolean) → vs ≡ values es → 0 < length vs
    → IfOk r (λ built. IfSome built (λ d. AreMoreThan 65536 vs → ⊥)) → IfOk r (λ found. IfSome found (λ d. SuitsDictionary s kind es))
found_some s kind es vs (Err e) may shown some few = tt
found_some s kind es vs (Ok None) may shown some few = tt
found_some s kind es vs (Ok (Some d)) may shown some few = record {
  style = may.0;
  not_boolean = may.1;
  some = subst (λ (t : List ValueTree). 0 < length t) shown some;
  few = λ more. few (subst (AreMoreThan 65536) (sym shown) more);
}

pub found_indexed : (vs ws : List ValueTree) → vs ≡ ws → (r : Result (Option Dictionary) Refusal) → IfOk r (λ built. IfSome built (λ d. IsIndexed vs (entries_of d) (indexes_of d))) → IfOk r (λ built. IfSome built (λ d. IsIndexed ws (entries_of d) (indexes_of d)))
found_indexed vs ws same (Err e) p = tt
found_indexed vs ws same (Ok None) p = tt
found_indexed vs ws same (Ok (Some d)) p = subst (λ (t : List ValueTree). IsIndexed t (entries_of d) (indexes_of d)) same p

pub found_none : (s : Style) (kind : Kind) (es : List Entry) (vs : List ValueTree) → vs ≡ values es → (r : Result (Option Dictionary) Refusal) → IfOk r (λ built. IfNone built (AreMoreThan 65536 vs)) → IfOk r (λ found. IfNone found (SuitsDictionary s kind es → ⊥))
found_none s kind es vs shown (Err e) p = tt
found_none s kind es vs shown (Ok (Some d)) p = tt
found_none s kind es vs shown (Ok None) p = λ has. has.few (subst (AreMoreThan 65536) shown p)

leaf_value : (kind : Kind) (v : ValueTree) → IsOfKind kind v → IsLeafValue v
leaf_value kind (boolean b) p = tt
leaf_value kind (integer z) p = tt
leaf_value kind (bytes text) p = tt
leaf_value Boolean null p = absurd p
leaf_value Int32 null p = absurd p
leaf_value Int64 null p = absurd p
leaf_value ByteArray null p = absurd p
leaf_value (FixedLenByteArray n) null p = absurd p
leaf_value Boolean (group fs) p = absurd p
leaf_value Int32 (group fs) p = absurd p
leaf_value Int64 (group fs) p = absurd p
leaf_value ByteArray (group fs) p = absurd p
leaf_value (FixedLenByteArray n) (group fs) p = absurd p
leaf_value Boolean (list fs) p = absurd p
leaf_value Int32 (list fs) p = absurd p
leaf_value Int64 (list fs) p = absurd p
leaf_value ByteArray (list fs) p = absurd p
leaf_value (FixedLenByteArray n) (list fs) p = absurd p

-- the values of a leaf's entries are values of a leaf
pub leaf_values : (leaf : Leaf) (es : List Entry) (vs : List ValueTree) → vs ≡ values es → ((kind : Kind) (v : ValueTree) → IsOfKind kind v ↔ IsTrue (fits_kind kind v)) → AllByRecursion (IsEntryOf leaf) es → All IsLeafValue vs
leaf_values leaf es vs shown law all = subst (All IsLeafValue) (sym shown) (λ i d lt. leaf_value leaf.leaf_type.kind (get_or (values es) i d) (kinds_in leaf es law all i d lt))
