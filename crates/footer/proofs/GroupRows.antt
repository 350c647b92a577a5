-- The groups of a file, one after the other.
use Rattle.std.proofs.Common.{◌≡◌, ◌<◌, ℕ, zero, suc, ◌+◌, List, [], ◌∷◌, ◌++◌, length, map, drop, get_or, refl, sym, ap, subst, ◌∙◌, arith}
use Rattle.std.specs.Prelude.{flat_map, Contains}
use Rattle.std.proofs.Math.Seq.{drop-cons}
use Rattle.lists.proofs.Slices.{contains_mapped as among}
use Rattle.bits.specs.declared.refusal.Refusal.{Refusal}
use Rattle.bits.specs.declared.refusal.Refusal.TheVariants as refusal
use Rattle.bits.specs.Refusals.{HasCause}
use Rattle.schema.specs.Values.{ValueTrees}
use Rattle.schema.specs.Shape.{Fields}
use Rattle.metadata.specs.Records.{GroupMeta}
use Rattle.row_group.specs.Chunks.{GroupMeans}
use Rattle.row_group.specs.Limits.{IsGroupOver, HasCodec, IsOfChunks}
use Rattle.row_group.specs.Limits.{IsReadable}
use Rattle.footer.specs.File.{LiesHere, AreGroups, GroupsMean}
use Rattle.footer.specs.Faults.{HasGroupsFault}
use Rattle.footer.specs.Left.{GroupsHold}

-- a group with rows before others that have rows
pub one_more : {X : Type 0} (f : X → GroupMeta) (front : List ℕ) (fs : Fields) (xs : List X) (i : ℕ) (x : X) → i < length xs → x ≡ get_or xs i x
    → LiesHere (f x) → ((rows : List ValueTrees) × IsReadable front fs (f x) rows) → (rest : List ValueTrees) → GroupsHold front fs (map f (drop (i + 1) xs)) rest
    → (rows : List ValueTrees) × GroupsHold front fs (map f (drop i xs)) rows
one_more {X = X} f front fs xs i x within is here readable rest held =
    let after : suc i ≡ i + 1 = omega arith in
    let next : drop (suc i) xs ≡ drop (i + 1) xs = ap (λ (n : ℕ). drop n xs) after in
    let split : drop i xs ≡ x ∷ drop (i + 1) xs = drop-cons xs i x within ∙ ap (λ (t : List X). get_or xs i x ∷ t) next ∙ ap (λ (y : X). y ∷ drop (i + 1) xs) (sym is) in
    (readable.0 ++ rest, subst (λ (t : List X). GroupsHold front fs (map f t) (readable.0 ++ rest)) (sym split) (readable.0, rest, refl, here, readable.1, held))

-- a group's refusal is one of the file's groups
pub faulty : (front : List ℕ) (fs : Fields) (g : GroupMeta) (gs : List GroupMeta) (e : Refusal) → Contains gs g
    → (e ≡ refusal.Limit → IsGroupOver front fs g) → (e ≡ refusal.Codec → HasCodec g) → HasCause IsOfChunks e → HasGroupsFault front fs gs e
faulty front fs g gs refusal.Limit among limit codec which = (g, among, limit refl)
faulty front fs g gs refusal.Codec among limit codec which = (g, among, codec refl)
faulty front fs g gs refusal.Memory among limit codec which = tt
faulty front fs g gs refusal.Truncated among limit codec which = tt
faulty front fs g gs refusal.Thrift among limit codec which = tt
faulty front fs g gs refusal.Schema among limit codec which = tt
faulty front fs g gs refusal.Encoding among limit codec which = tt
faulty front fs g gs refusal.Page among limit codec which = tt
faulty front fs g gs refusal.Levels among limit codec which = tt
faulty front fs g gs refusal.Value among limit codec which = tt
faulty front fs g gs refusal.Utf8 among limit codec which = tt
faulty front fs g gs e among limit codec which = which

-- each group of a file has its rows
each : (front : List ℕ) (fs : Fields) (gs : List GroupMeta) (groups : List (List ValueTrees)) → AreGroups front fs gs groups
    → (g : GroupMeta) → Contains gs g → LiesHere g × ((rows : List ValueTrees) × GroupMeans front fs g rows)
each front fs [] [] p g (k, within, is) = absurd (omega (arith, within))
each front fs [] (rows ∷ groups) p g among = absurd p
each front fs (h ∷ gs) [] p g among = absurd p
each front fs (h ∷ gs) (rows ∷ groups) p g (zero, within, is) = subst (λ (x : GroupMeta). LiesHere x × ((rows : List ValueTrees) × GroupMeans front fs x rows)) is (p.0, (rows, p.1))
each front fs (h ∷ gs) (rows ∷ groups) p g (suc k, within, is) = each front fs gs groups p.2 g (k, omega (arith, within), is)

pub has_rows : (front : List ℕ) (fs : Fields) (gs : List GroupMeta) (rows : List ValueTrees) → GroupsMean front fs gs rows
    → (g : GroupMeta) → Contains gs g → LiesHere g × ((rows : List ValueTrees) × GroupMeans front fs g rows)
has_rows front fs gs rows p g among = each front fs gs p.groups p.each g among

-- rows that groups hold are rows that they mean
means : (front : List ℕ) (fs : Fields) (gs : List GroupMeta) (rows : List ValueTrees) → GroupsHold front fs gs rows
    → (groups : List (List ValueTrees)) × AreGroups front fs gs groups × (rows ≡ flat_map (λ g. g) groups)
means front fs [] rows p = ([], tt, p)
means front fs (g ∷ gs) rows (first, rest, joined, here, readable, others) =
    let below = means front fs gs rest others in
    (first ∷ below.0, (here, readable.means, below.1), joined ∙ ap (λ (t : List ValueTrees). first ++ t) below.2)

pub hold_means : (front : List ℕ) (fs : Fields) (gs : List GroupMeta) (rows : List ValueTrees) → GroupsHold front fs gs rows → GroupsMean front fs gs rows
hold_means front fs gs rows p = let m = means front fs gs rows p in record { groups = m.0; each = m.1; joined = m.2 }

-- none of them goes beyond a limit
pub none_over : (front : List ℕ) (fs : Fields) (gs : List GroupMeta) (rows : List ValueTrees) → GroupsHold front fs gs rows → (g : GroupMeta) → Contains gs g → IsGroupOver front fs g → ⊥
none_over front fs [] rows p g (k, within, is) over = absurd (omega (arith, within))
none_over front fs (h ∷ gs) rows (first, rest, joined, here, readable, others) g (zero, within, is) over = readable.within_limits (subst (IsGroupOver front fs) (sym is) over)
none_over front fs (h ∷ gs) rows (first, rest, joined, here, readable, others) g (suc k, within, is) over = none_over front fs gs rest others g (k, omega (arith, within), is) over

-- whatever rows groups mean that hold some, they hold
held_again : (front : List ℕ) (fs : Fields) (gs : List GroupMeta) (some : List ValueTrees) → GroupsHold front fs gs some
    → (groups : List (List ValueTrees)) → AreGroups front fs gs groups → GroupsHold front fs gs (flat_map (λ g. g) groups)
held_again front fs [] some p [] q = refl
held_again front fs [] some p (rows ∷ groups) q = absurd q
held_again front fs (g ∷ gs) some p [] q = absurd q
held_again front fs (g ∷ gs) some (first, rest, joined, here, readable, others) (rows ∷ groups) q =
    (rows, flat_map (λ g. g) groups, refl, here, record { means = q.1; within_limits = readable.within_limits }, held_again front fs gs rest others groups q.2)

pub mean_holds : (front : List ℕ) (fs : Fields) (gs : List GroupMeta) (some rows : List ValueTrees) → GroupsHold front fs gs some → GroupsMean front fs gs rows → GroupsHold front fs gs rows
mean_holds front fs gs some rows p q = subst (GroupsHold front fs gs) (sym q.joined) (held_again front fs gs some p q.groups q.each)
