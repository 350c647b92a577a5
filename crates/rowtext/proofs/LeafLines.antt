-- The values of leaves that were read from a line.
use Rattle.std.proofs.Common.{◌≡◌, ℕ, ℤ, true, false, List, [], ◌∷◌, ◌++◌, Option, Some, None, option_map, option_and_then, if◌then◌else◌, ap, ◌∙◌}
use Rattle.std.specs.Option.{option_or}
use Rattle.std.proofs.lemmas.Bool.{and_parts as and_true}
use Rattle.serde_json.specs.Data.{Num}
use Rattle.serde_json.specs.Data as json
use Rattle.schema.specs.Annotations.{LeafType, is_text, order_of}
use Rattle.schema.specs.Fits.{fits_kind, fits_leaf}
use Rattle.schema.specs.Values.{ValueTree, null, boolean, integer, bytes, group, list}
use Rattle.leaftext.specs.declared.leaf_form.Form.{Form}
use Rattle.leaftext.specs.Forms.{form_read, form_bytes_read}
use Rattle.json.specs.Print.{quoted}
use Rattle.rowtext.specs.Json.{number_json, leaf_json}
use Rattle.rowtext.specs.Reading.{leaf_read_by}
use Rattle.rowtext.specs.declared.cursor.Cursor.{Cursor}
use Rattle.rowtext.specs.declared.pieces.Piece.{Piece}
use Rattle.rowtext.specs.inner.Lines.{Takes}
use Rattle.rowtext.specs.inner.Pieces.{tokens_of, IsScalar, IsTextLexed, IsRead, IsIntegerRead, IsNumberAdded, IsLeafRead}
use Rattle.rowtext.proofs.Lexing.{scalar_taken}
use Rattle.rowtext.proofs.JsonTexts.{IsExact, number_back, number_there}
use Rattle.rowtext.proofs.RowJson.{number_exact}
use Rattle.rowtext.proofs.LinePieces.{one_more}
use Rattle.rowtext.proofs.RowsBack.{leaf_back}
use Rattle.rowtext.proofs.TextLeaves.{text_read}

number_scalar : (n : Num) → IsExact n → IsScalar (json.number n)
number_scalar n h = (number_there n h, number_back n h)

scalar : (t : LeafType) (v : ValueTree) → fits_leaf t v ≡ true → IsScalar (leaf_json t v)
scalar t null h = tt
scalar t (boolean b) h = tt
scalar t (integer z) h = number_scalar (number_json t.kind (order_of t) z) (number_exact t.kind (order_of t) z (and_true (fits_kind t.kind (integer z)) _ h).0)
scalar t (bytes s) h = tt
scalar t (group vs) h = tt
scalar t (list vs) h = tt

-- a value as it is shown without texts
pub leaf_line : (o : Option Form) (t : LeafType) (old new : Cursor) (ks bs : List Piece) → None ≡ o → IsRead (fits_leaf t) (leaf_json t) old new ks bs → IsLeafRead o t old new ks bs
leaf_line (Some form) t old new ks bs is h = absurd (cc)
leaf_line None t old new ks bs is h = (leaf_json t h.0, h.0, scalar_taken (leaf_json t h.0) old new (scalar t h.0 h.1.0.0) h.1.0.1, leaf_back false t h.0 h.1.0.0, h.1.1)

pub integer_shown : (t : LeafType) (old new : Cursor) (ks bs : List Piece) → IsIntegerRead t old new ks bs → IsRead (fits_leaf t) (leaf_json t) old new ks bs
integer_shown t old new ks bs h = (integer h.0, ((h.1, h.2), h.3))

-- a number where values have texts
pub integer_line : (form : Form) (t : LeafType) (old new : Cursor) (ks bs : List Piece) → IsIntegerRead t old new ks bs → IsLeafRead (Some form) t old new ks bs
integer_line form t old new ks bs h = (json.number (number_json t.kind (order_of t) h.0), integer h.0, scalar_taken (json.number (number_json t.kind (order_of t) h.0)) old new (scalar t (integer h.0) h.1) h.2, leaf_back false t (integer h.0) h.1, h.3)

formed : (form : Form) (t : LeafType) (s : List ℕ) (z : ℤ) → form_read form s ≡ Some z → fits_leaf t (integer z) ≡ true → leaf_read_by (Some form) t (json.string s) ≡ Some (integer z)
formed form t s z read fit =
    ap (λ x. option_and_then (λ (v : ValueTree). if fits_leaf t v then Some v else None) (option_or (option_map integer x) (option_map bytes (form_bytes_read form s)))) read
    ∙ ap (λ b. if b then Some (integer z) else None) fit

-- the text of a number
pub formed_line : (form : Form) (t : LeafType) (s : List ℕ) (old new : Cursor) (ks bs : List Piece) → Takes old new (quoted s) → IsNumberAdded form t s ks bs → IsLeafRead (Some form) t old new ks bs
formed_line form t s old new ks bs taken h = (json.string s, integer h.0, scalar_taken (json.string s) old new tt taken, formed form t s h.0 h.1 h.2, h.3)

-- a text, whose string may have escapes in any form
pub text_line : (t : LeafType) (old new : Cursor) (p : Piece) (ks bs : List Piece) → is_text t.kind t.annotation ≡ true → IsTextLexed old new p → bs ≡ ks ++ p ∷ [] → IsLeafRead None t old new ks bs
text_line t old new p ks bs is h more =
    let s = h.0 in
    (json.string s, bytes s, (tt, λ ended. h.3), text_read t s is h.1.0 h.1.1, one_more ks bs p more ∙ ap (λ k. tokens_of ks ++ k ∷ []) h.2)
