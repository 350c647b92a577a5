-- The pieces of values that were read from a line.
use Rattle.std.proofs.Common.{◌≡◌, ℕ, zero, suc, ◌<◌, List, [], ◌∷◌, ◌++◌, length, drop, get_or, Option, option_map, String, Vec, Global, refl, sym, ap, ◌∙◌, arith, append_assoc, rules}
use Rattle.std.proofs.lemmas.List.{map-append}
use Rattle.json.specs.Print.{quoted}
use Rattle.schema.specs.Annotations.{LeafType}
use Rattle.serde_json.specs.Written.{compact_text}
use Rattle.schema.specs.declared.value.Repetition.{Repetition}
use Rattle.schema.specs.declared.annotation.GroupAnnotation.{GroupAnnotation}
use Rattle.schema.specs.declared.field.Field.{Field as CodeField, Group}
use Rattle.schema.specs.Shape.{Field, leaf, fields, name_of}
use Rattle.schema.specs.Values.{bytes}
use Rattle.schema.specs.Views.{field_view, field_views}
use Rattle.schema.specs.Fits.{fits_leaf}
use Rattle.schema.proofs.Seen.{view-Group}
use Rattle.rowtext.specs.Json.{leaf_json}
use Rattle.rowtext.specs.declared.cursor.Cursor.{Cursor}
use Rattle.rowtext.specs.declared.row_plan.Slot.{Slot as CodeSlot, the_lemmas as of_slots}
use Rattle.rowtext.specs.declared.row_plan.Slot.TheVariants.{Group as SlotGroup}
use Rattle.rowtext.specs.declared.pieces.Piece.{Piece}
use Rattle.rowtext.specs.inner.Lines.{rest_of, Takes}
use Rattle.rowtext.specs.inner.Pieces.{token_of, tokens_of, Grows, IsAdded, IsRead}
use Rattle.rowtext.specs.inner.Slots.{Slot, key_in, key_of, group_slot, slot_view, slots_view, slot_of, slots_made, order_of, vec_items}
use Rattle.assemble.specs.Sinks.{Token}

-- ---- slots

pub slot_there : (fs : List CodeField) (ss : List CodeSlot) (i : ℕ) (f : CodeField) (s : CodeSlot) → slots_view ss ≡ slots_made (field_views fs) → i < length fs → i < length ss → f ≡ get_or fs i f → s ≡ get_or ss i s → slot_view s ≡ slot_of (field_view f)
slot_there [] ss i f s same less within is at = absurd (omega (arith, less))
slot_there (g ∷ fs) [] i f s same less within is at = absurd (omega (arith, within))
slot_there (g ∷ fs) (t ∷ ss) zero f s same less within is at =
    let first : slot_view t ≡ slot_of (field_view g) = cc in
    ap slot_view at ∙ first ∙ ap (λ x. slot_of (field_view x)) (sym is)
slot_there (g ∷ fs) (t ∷ ss) (suc i) f s same less within is at =
    let others : slots_view ss ≡ slots_made (field_views fs) = cc in
    slot_there fs ss i f s others (omega (arith, less)) (omega (arith, within)) is at

view-SlotGroup : (k : List ℕ) (ss : Vec CodeSlot Global) (o : Option (Vec ℕ Global)) → slot_view (SlotGroup k ss o) ≡ group_slot k (slots_view ss.items) (option_map vec_items o)
view-SlotGroup k ss o = search (rules, of_slots)

-- what stands at the fields of a group
pub group_slots : (f : CodeField) (n : String Global) (r : Repetition) (a : Option GroupAnnotation) (fs : Vec CodeField Global) (s : CodeSlot) (k : List ℕ) (ss : Vec CodeSlot Global) (o : Option (Vec ℕ Global)) → f ≡ Group n r a fs → s ≡ SlotGroup k ss o
    → slot_view s ≡ slot_of (field_view f) → (slots_view ss.items ≡ slots_made (field_views fs.items)) × (option_map vec_items o ≡ order_of (field_views fs.items))
group_slots f n r a fs s k ss o is at same =
    let here = sym (view-SlotGroup k ss o) ∙ ap slot_view (sym at) ∙ same ∙ ap (λ x. slot_of x) (ap field_view is ∙ view-Group n r a fs) in
    let slots_are : slots_view ss.items ≡ slots_made (field_views fs.items) = cc in
    let order_is : option_map vec_items o ≡ order_of (field_views fs.items) = cc in
    (slots_are, order_is)

key_named : (f : Field) → key_in (slot_of f) ≡ key_of (name_of f)
key_named (leaf n r t) = refl
key_named (fields n r a fs) = refl

-- the name of a field after the comma of its key
pub slot_name : (f : Field) (s : Slot) (x : ℕ) (key name : List ℕ) → s ≡ slot_of f → key ≡ key_in s → key ≡ x ∷ name → name ≡ quoted (name_of f) ++ 58 ∷ []
slot_name f s x key name same is split = ap (drop 1) (sym split ∙ is ∙ ap key_in same ∙ key_named f)

-- ---- pieces

-- pieces after those that were added
pub grows_then : (ks bs cs : List Piece) (ts us : List Token) → Grows ks bs ts → Grows bs cs us → Grows ks cs (ts ++ us)
grows_then ks bs cs ts us h g = g ∙ ap (λ x. x ++ us) h ∙ append_assoc (tokens_of ks) ts us

-- one piece more
pub one_more : (ks bs : List Piece) (p : Piece) → bs ≡ ks ++ p ∷ [] → Grows ks bs (token_of p ∷ [])
one_more ks bs p is = ap tokens_of is ∙ map-append token_of ks (p ∷ [])

-- pieces between those that begin and end a group or a list
pub between : (ks bs cs ds : List Piece) (p q : Piece) (ts : List Token) → bs ≡ ks ++ p ∷ [] → Grows bs cs ts → ds ≡ cs ++ q ∷ [] → Grows ks ds (token_of p ∷ (ts ++ token_of q ∷ []))
between ks bs cs ds p q ts first inside last =
    grows_then ks bs ds (token_of p ∷ []) (ts ++ token_of q ∷ []) (one_more ks bs p first) (grows_then bs cs ds ts (token_of q ∷ []) inside (one_more cs ds q last))

-- ---- leaves

-- a string, whose bytes were added
pub string_read : (t : LeafType) (s : List ℕ) (old new : Cursor) (ks ls : List Piece) → Takes old new (quoted s) → IsAdded t s ks ls → IsRead (fits_leaf t) (leaf_json t) old new ks ls
string_read t s old new ks ls taken h = (bytes h.0, ((h.1.0, taken ∙ ap (λ d. compact_text d ++ rest_of new) (sym h.1.1.0)), h.1.1.1))
