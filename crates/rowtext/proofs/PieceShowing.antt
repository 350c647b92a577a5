-- What a sink is shown of pieces.
use Rattle.std.proofs.Common.{◌≡◌, ℕ, ◌+◌, ◌<◌, List, [], ◌∷◌, ◌++◌, length, take, get_or, sym, ap, subst, ◌∙◌}
use Rattle.std.proofs.lemmas.List.{take_more, map-append}
use Rattle.assemble.specs.Sinks.{Token, Adds}
use Rattle.assemble.proofs.Showing.{adds_then}
use Rattle.rowtext.specs.declared.pieces.Piece.{Piece}
use Rattle.rowtext.specs.inner.Pieces.{token_of, tokens_of}

-- one piece more
pub piece_shown : (S T U : List Token → Type 0) (ps : List Piece) (i : ℕ) (d : Piece) → i < length ps → Adds S T (tokens_of (take i ps)) → Adds T U (token_of (get_or ps i d) ∷ []) → Adds S U (tokens_of (take (i + 1) ps))
piece_shown S T U ps i d lt a b =
    let p = get_or ps i d in
    let all : tokens_of (take (i + 1) ps) ≡ tokens_of (take i ps) ++ token_of p ∷ [] = ap tokens_of (take_more ps i d lt) ∙ map-append token_of (take i ps) (p ∷ []) in
    subst (Adds S U) (sym all) (adds_then S T U (tokens_of (take i ps)) (token_of p ∷ []) a b)
