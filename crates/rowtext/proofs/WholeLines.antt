-- A line that was read to its end is the row of the values that were read.
use Rattle.std.proofs.Common.{◌≡◌, ℕ, List, [], ◌∷◌, Bool, refl, sym, ap, subst, ◌∙◌}
use Rattle.json.specs.Token.{begin_object}
use Rattle.json.specs.Lex.{fresh, after_value, between, lex, punctuate, token}
use Rattle.serde_json.specs.Data.{object}
use Rattle.schema.specs.Shape.{Fields}
use Rattle.schema.specs.Values.{ValueTrees}
use Rattle.assemble.specs.Sinks.{tokens_each}
use Rattle.rowtext.specs.Reader.{IsRowAs}
use Rattle.rowtext.specs.declared.cursor.Cursor.{Cursor}
use Rattle.rowtext.specs.declared.pieces.Piece.{Piece}
use Rattle.rowtext.specs.inner.Lines.{rest_of, lexemes_of, tokens_at}
use Rattle.rowtext.specs.inner.Pieces.{Grows, AreMembersTaken}
use Rattle.rowtext.proofs.Fitting.{read_fits}
use Rattle.rowtext.proofs.Lexing.{object_opened, nothing_left}
use Rattle.rowtext.proofs.Turns.{line_read}

whole : (texts : Bool) (fs : Fields) (text : List ℕ) (start begun open_at end : Cursor) (ks bs : List Piece) → rest_of start ≡ text → lexemes_of begun ≡ lexemes_of start → lexemes_of begun ≡ token begin_object ∷ lexemes_of open_at
    → AreMembersTaken texts fs 126 open_at end ks bs → rest_of end ≡ [] → (vs : ValueTrees) × (IsRowAs texts fs text vs × Grows ks bs (tokens_each vs))
whole texts fs text start begun open_at end ks bs is same opened h none =
    let all = ap (λ r. punctuate fresh (lex between r)) is in
    let first = object_opened start open_at fresh (sym same ∙ opened) refl in
    let line = line_read texts text fs (tokens_at fresh start) (tokens_at fresh open_at) (tokens_at after_value end) h.0 all first (nothing_left end none) h.1 in
    (h.0, ((object line.0, (line.1, (line.2, read_fits texts fs line.0 h.0 (sym line.2)))), h.2))

pub whole_read : (texts : Bool) (fs gs : Fields) (text : List ℕ) (start begun open_at end : Cursor) (ks bs : List Piece) → fs ≡ gs → rest_of start ≡ text → lexemes_of begun ≡ lexemes_of start → lexemes_of begun ≡ token begin_object ∷ lexemes_of open_at
    → AreMembersTaken texts fs 126 open_at end ks bs → rest_of end ≡ [] → (vs : ValueTrees) × (IsRowAs texts gs text vs × Grows ks bs (tokens_each vs))
whole_read texts fs gs text start begun open_at end ks bs same_fields is same opened h none = whole texts gs text start begun open_at end ks bs is same opened (subst (λ x. AreMembersTaken texts x 126 open_at end ks bs) same_fields h) none
