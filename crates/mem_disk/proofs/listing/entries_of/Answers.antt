use Rattle.std.proofs.Common.{◌≡◌, ◌<◌, ◌++◌, ◌∷◌, [], inl, inr, sym, ◌∙◌, ap, subst, refl, List, ℕ, suc, add-one, get_or, length, drop, append_assoc}
use Rattle.disk.specs.declared.binding.Entry.{Entry}
use Rattle.mem_disk.specs.declared.name.Name.{Name}
use Rattle.mem_disk.specs.Listings.{AreListed, IsUnlisted, IsEntryOf, AddsEntry}
use Rattle.mem_disk.proofs.Listed.{listed_next, listed_with, listed_end}
use Rattle.mem_disk.proofs.listing.entries_of.Goals as goal

behind_all : (es : List Entry) → es ++ [] ≡ es
behind_all [] = refl
behind_all (e ∷ es) = ap (λ (xs : List Entry). e ∷ xs) (behind_all es)

next : (folder : List ℕ) (names : List Name) (i : ℕ) (x : Name) (old new : List Entry) → i < length names → x ≡ get_or names i x → AddsEntry folder x old new
    → ((rest : List Entry) → AreListed folder (drop i names) rest → AreListed folder names (old ++ rest)) → (rest : List Entry) → AreListed folder (drop (suc i) names) rest → AreListed folder names (new ++ rest)
next folder names i x old new lt is (inl skip) before rest so =
    subst (λ (es : List Entry). AreListed folder names (es ++ rest)) (sym skip.1) (before rest (listed_next folder names i x rest lt (subst (IsUnlisted folder) is skip.0) so))
next folder names i x old new lt is (inr adds) before rest so =
    subst (λ (es : List Entry). AreListed folder names es) (sym (ap (λ (es : List Entry). es ++ rest) adds.2 ∙ append_assoc old (adds.0 ∷ []) rest))
    (before (adds.0 ∷ rest) (listed_with folder names i x adds.0 rest lt (subst (λ (y : Name). IsEntryOf folder y adds.0) is adds.1) so))

pub loop-name-init : goal.loop-name-init
loop-name-init c rest so = subst (λ (es : List Entry). AreListed c.args.folder.now c.args.names.now (es ++ rest)) (sym c.new-entries.ensures.items) so

pub loop-name-preserved : goal.loop-name-preserved
loop-name-preserved c rest so =
    next c.args.folder.now c.args.names.now c.loop-name.name-index c.name-item.result c.loop-name.entries.items c.add_entry.new.entries.items c.loop-name-test.true c.name-item.is c.in_ok-add_entry.ensures c.loop-name.invariant rest
    (subst (λ (k : ℕ). AreListed c.args.folder.now (drop k c.args.names.now) rest) (add-one c.loop-name.name-index) so)

pub returns : goal.returns
returns c = subst (λ (es : List Entry). AreListed c.args.folder.now c.args.names.now es) (behind_all c.loop-name.entries.items)
    (c.loop-name.invariant [] (listed_end c.args.folder.now c.args.names.now c.loop-name.name-index c.loop-name-test.false))
