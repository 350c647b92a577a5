-- What the lexer makes of the parts of a line.
use Rattle.std.proofs.Common.{◌≡◌, ◌≢◌, ℕ, suc, ◌+◌, ◌<◌, nat_lt, Bool, true, false, cond, ◌&&◌, ◌||◌, ◌==◌, List, [], ◌∷◌, ◌++◌, length, take, drop, get_or, Option, Some, None, option_map, option_and_then, ◌⊎◌, inl, inr, refl, sym, ap, ap₂, subst, ◌∙◌, arith, append_assoc}
use Rattle.std.specs.Char.{encode_utf8}
use Rattle.std.proofs.lemmas.Bool.{true≢false, eqb-true, ne_eqb, or_cases}
use Rattle.std.proofs.lemmas.List.{take-append-drop, drop_more, drop-drop}
use Rattle.json.specs.Token.{Token, begin_object, end_object, begin_array, end_array, key, string, number, boolean, null, bad}
use Rattle.json.specs.Text.{Within, plain, after_backslash, after_u, after_high, prepend, content, code_unit, short_escape, is_high_surrogate, is_low_surrogate, surrogate_pair}
use Rattle.json.specs.Json.{value, after_end_array, read_key}
use Rattle.json.specs.Word.{is_operator, is_space, ends_word, word}
use Rattle.json.specs.Lex.{Lexeme, token, comma, colon, Class, quote, backslash, operator, space, other, class, operator_lexeme, string_token, Mode, lex_byte, lex, between, in_string, Place, fresh, after_value, after_comma, after_key, begins_colon, may_begin, if_allowed, place_token, punctuate}
use Rattle.json.specs.Print.{escape, quoted}
use Rattle.json.proofs.Grammar.{value_is}
use Rattle.json.proofs.Printed.Strings.{content-escape, lex-escape}
use Rattle.json.proofs.Printed.Numbers.{lex-number, in_word-ended}
use Rattle.serde_json.specs.Data.{Data}
use Rattle.serde_json.specs.Data as json
use Rattle.serde_json.specs.Read.{of_json, converted}
use Rattle.serde_json.specs.Written.{compact_text, number_text}
use Rattle.rowtext.specs.declared.cursor.Cursor.{Cursor}
use Rattle.rowtext.specs.inner.Lines.{rest_of, lexemes_of, tokens_at, place_of, Takes, EndsValue, IsKeyAt, IsValueAt, IsMore, IsClosed}
use Rattle.schema.specs.Shape.{Fields}
use Rattle.schema.specs.Values.{bytes}
use Rattle.assemble.specs.Sinks.{single}
use Rattle.rowtext.specs.declared.pieces.Piece.{Piece}
use Rattle.rowtext.specs.inner.Escapes.{IsText, first_string, string_in, IsStringBefore}
use Rattle.rowtext.specs.inner.Fill.{IsCalled}
use Rattle.rowtext.specs.inner.Spans.{IsNameBefore, IsNameAt}
use Rattle.rowtext.specs.inner.Pieces.{token_of, IsTextLexed, IsScalar, scalar_token, IsScalarAt}
use Rattle.rowtext.proofs.Conversion.{null_read, scalar_read_is}

-- ---- blanks and marks

last_of : (P : ℕ → Type 0) (x c : ℕ) (b : Bool) → P c → (b ≡ true → P x) → (b || (x == c)) ≡ true → P x
last_of P x c b p f h = go (or_cases b (x == c) h)
  where
    go : (b ≡ true) ⊎ ((x == c) ≡ true) → P x
    go (inl e) = f e
    go (inr e) = subst P (sym (eqb-true x c e)) p

four : (P : ℕ → Type 0) → P 32 → P 9 → P 10 → P 13 → (x : ℕ) → is_space x ≡ true → P x
four P a b c d x h = last_of P x 13 _ d (last_of P x 10 _ c (last_of P x 9 _ b (λ e. subst P (sym (eqb-true x 32 e)) a))) h

abbrev is_operator_class : Class → Bool
is_operator_class quote = false
is_operator_class backslash = false
is_operator_class operator = true
is_operator_class space = false
is_operator_class other = false

tested : (q b o s : Bool) → is_operator_class (cond q quote (cond b backslash (cond o operator (cond s space other)))) ≡ true → o ≡ true
tested true b o s h = absurd (true≢false (sym h))
tested false true o s h = absurd (true≢false (sym h))
tested false false true s h = refl
tested false false false true h = absurd (true≢false (sym h))
tested false false false false h = absurd (true≢false (sym h))

six : (P : ℕ → Type 0) → P 123 → P 125 → P 91 → P 93 → P 58 → P 44 → (x : ℕ) → class x ≡ operator → P x
six P a b c d e f x k =
    last_of P x 44 _ f (last_of P x 58 _ e (last_of P x 93 _ d (last_of P x 91 _ c (last_of P x 125 _ b (λ m. subst P (sym (eqb-true x 123 m)) a))))) (tested (x == 34) (x == 92) (is_operator x) (is_space x) (ap is_operator_class k))

-- a blank between tokens is passed over
pub blank : (x : ℕ) (r : List ℕ) → is_space x ≡ true → lex between (x ∷ r) ≡ lex between r
unfolding lex
blank x r h = four (λ y. lex between (y ∷ r) ≡ lex between r) refl refl refl refl x h

-- and ends a value
pub blank_ends : (x : ℕ) (r : List ℕ) → is_space x ≡ true → ends_word (x ∷ r) ≡ true
blank_ends x r h = four (λ y. ends_word (y ∷ r) ≡ true) refl refl refl refl x h

pub mark : (x : ℕ) (r : List ℕ) → class x ≡ operator → lex between (x ∷ r) ≡ operator_lexeme x ∷ lex between r
unfolding lex
mark x r h = six (λ y. lex between (y ∷ r) ≡ operator_lexeme y ∷ lex between r) refl refl refl refl refl refl x h

-- a comma and a closing bracket end a value, and are no colon
pub end_of : (x : ℕ) (r : List ℕ) → (x ≡ 44) ⊎ ((x ≡ 125) ⊎ (x ≡ 93)) → (ends_word (x ∷ r) ≡ true) × (begins_colon (lex between (x ∷ r)) ≡ false)
unfolding lex
end_of x r (inl e) = rw e (refl, refl)
end_of x r (inr (inl e)) = rw e (refl, refl)
end_of x r (inr (inr e)) = rw e (refl, refl)

-- ---- strings and words

allowed : (b : Bool) (t : Token) (k : Place → List Token) (next : Place) → b ≡ true → if_allowed b t k next ≡ t ∷ k next
allowed b t k next e = ap (λ x. if_allowed x t k next) e

lex-quoted : (s r : List ℕ) → lex between (quoted s ++ r) ≡ token (string s) ∷ lex between r
unfolding lex
lex-quoted s r =
    let e = append_assoc (escape s) (34 ∷ []) r in
    ap (λ l. lex between (34 ∷ l)) e ∙ ap₂ (λ o l. token (string_token o) ∷ l) (content-escape s r) (lex-escape s r)

-- a name and its colon
keyed : (s r : List ℕ) (p : Place) → may_begin p ≡ true → punctuate p (token (string s) ∷ colon ∷ lex between r) ≡ key s ∷ punctuate fresh (lex between r)
unfolding punctuate
keyed s r p may = allowed (may_begin p) (key s) (λ n. punctuate n (colon ∷ lex between r)) after_key may

pub key_read : (s : List ℕ) (old new : Cursor) (r : List ℕ) → rest_of old ≡ (quoted s ++ 58 ∷ []) ++ r → lexemes_of new ≡ lex between r → IsKeyAt s old new
unfolding lex
key_read s old new r is same p may =
    ap (λ x. punctuate p (lex between x)) (is ∙ append_assoc (quoted s) (58 ∷ []) r) ∙ ap (punctuate p) (lex-quoted s (58 ∷ r)) ∙ keyed s r p may ∙ ap (λ ls. key s ∷ punctuate fresh ls) (sym same)

-- a string that was read as it is printed
pub string_taken : (s : List ℕ) (old new : Cursor) → Takes old new (quoted s) → lexemes_of old ≡ token (string s) ∷ lexemes_of new
string_taken s old new is = ap (lex between) is ∙ lex-quoted s (rest_of new)

-- ---- strings in any form

-- more bytes after the closing quote change nothing
abbrev Keeps : Option (List ℕ) → Option (List ℕ) → Type 0
Keeps o p = (s : List ℕ) → o ≡ Some s → p ≡ Some s

none_keeps : (p : Option (List ℕ)) → Keeps None p
none_keeps p s h = absurd (cc)

one_keeps : (o : Option (List ℕ)) → Keeps o o
one_keeps o s h = h

cond_keeps : (b : Bool) (o p u v : Option (List ℕ)) → Keeps o u → Keeps p v → Keeps (cond b o p) (cond b u v)
cond_keeps true o p u v f g = f
cond_keeps false o p u v f g = g

prepend_keeps : (xs : List ℕ) (o p : Option (List ℕ)) → Keeps o p → Keeps (prepend xs o) (prepend xs p)
prepend_keeps xs None p f s h = absurd (cc)
prepend_keeps xs (Some t) p f s h = ap (prepend xs) (f t refl) ∙ h

then_keeps : (o : Option ℕ) (f g : ℕ → Option (List ℕ)) → ((n : ℕ) → Keeps (f n) (g n)) → Keeps (option_and_then f o) (option_and_then g o)
then_keeps None f g k s h = absurd (cc)
then_keeps (Some n) f g k s h = k n s h

content_more : (w : Within) (xs ys : List ℕ) → Keeps (content w xs) (content w (xs ++ ys))
unfolding content
content_more plain [] ys = none_keeps (content plain ys)
content_more plain (x ∷ xs) ys =
    cond_keeps (x == 34) _ _ _ _ (one_keeps (Some [])) (cond_keeps (x == 92) _ _ _ _ (content_more after_backslash xs ys) (cond_keeps (nat_lt x 32) _ _ _ _ (one_keeps None) (prepend_keeps (x ∷ []) _ _ (content_more plain xs ys))))
content_more after_backslash [] ys = none_keeps (content after_backslash ys)
content_more after_backslash (x ∷ xs) ys =
    cond_keeps (x == 117) _ _ _ _ (content_more after_u xs ys) (then_keeps (short_escape x) _ _ (λ c. prepend_keeps (c ∷ []) _ _ (content_more plain xs ys)))
content_more after_u [] ys = none_keeps (content after_u ys)
content_more after_u (a ∷ []) ys = none_keeps (content after_u (a ∷ ys))
content_more after_u (a ∷ b ∷ []) ys = none_keeps (content after_u (a ∷ b ∷ ys))
content_more after_u (a ∷ b ∷ c ∷ []) ys = none_keeps (content after_u (a ∷ b ∷ c ∷ ys))
content_more after_u (a ∷ b ∷ c ∷ d ∷ xs) ys =
    then_keeps (code_unit a b c d) _ _ (λ u. cond_keeps (is_high_surrogate u) _ _ _ _ (content_more (after_high u) xs ys) (cond_keeps (is_low_surrogate u) _ _ _ _ (one_keeps None) (prepend_keeps (encode_utf8 u) _ _ (content_more plain xs ys))))
content_more (after_high h) [] ys = none_keeps (content (after_high h) ys)
content_more (after_high h) (s ∷ []) ys = none_keeps (content (after_high h) (s ∷ ys))
content_more (after_high h) (s ∷ u ∷ []) ys = none_keeps (content (after_high h) (s ∷ u ∷ ys))
content_more (after_high h) (s ∷ u ∷ a ∷ []) ys = none_keeps (content (after_high h) (s ∷ u ∷ a ∷ ys))
content_more (after_high h) (s ∷ u ∷ a ∷ b ∷ []) ys = none_keeps (content (after_high h) (s ∷ u ∷ a ∷ b ∷ ys))
content_more (after_high h) (s ∷ u ∷ a ∷ b ∷ c ∷ []) ys = none_keeps (content (after_high h) (s ∷ u ∷ a ∷ b ∷ c ∷ ys))
content_more (after_high h) (s ∷ u ∷ a ∷ b ∷ c ∷ d ∷ xs) ys =
    cond_keeps ((s == 92) && (u == 117)) _ _ _ _ (then_keeps (code_unit a b c d) _ _ (λ l. cond_keeps (is_low_surrogate l) _ _ _ _ (prepend_keeps (encode_utf8 (surrogate_pair h l)) _ _ (content_more plain xs ys)) (one_keeps None))) (one_keeps None)

first_of : (o : Option (List ℕ)) (b : Bool) (k : Place → List Token) (s : List ℕ) → first_string (place_token fresh (string_token o) b k) ≡ Some s → o ≡ Some s
first_of None b k s h = absurd (cc)
first_of (Some x) true k s h = absurd (cc)
first_of (Some x) false k s h = h

string_first : (q r s : List ℕ) → IsStringBefore q r → string_in q ≡ Some s → lex between (q ++ r) ≡ token (string s) ∷ lex between r
unfolding lex punctuate
string_first q r s there read =
    let xs = there.0 in
    let inside : content plain xs ≡ Some s = first_of (content plain xs) (begins_colon (lex in_string xs)) (λ n. punctuate n (lex in_string xs)) s (ap string_in (sym there.1) ∙ read) in
    ap (λ t. lex between (t ++ r)) there.1 ∙ ap₂ (λ o l. token (string_token o) ∷ l) (content_more plain xs r s inside) there.2

-- the bytes of a string, up to its closing quote
other_passed : (q b o s : Bool) (x : ℕ) (r : List ℕ) (k : Mode → List Lexeme) → q ≡ false → b ≡ false → lex_byte in_string (cond q quote (cond b backslash (cond o operator (cond s space other)))) x r k ≡ k in_string
other_passed true b o s x r k differs apart = absurd (true≢false differs)
other_passed false true o s x r k differs apart = absurd (true≢false apart)
other_passed false false true s x r k differs apart = refl
other_passed false false false true x r k differs apart = refl
other_passed false false false false x r k differs apart = refl

other_lexed : (x : ℕ) (r : List ℕ) → x ≢ 34 → x ≢ 92 → lex in_string (x ∷ r) ≡ lex in_string r
unfolding lex
other_lexed x r differs apart = other_passed (x == 34) (x == 92) (is_operator x) (is_space x) x r (λ m. lex m r) (ne_eqb x 34 differs) (ne_eqb x 92 apart)

escape_lexed : (r : List ℕ) → lex in_string (92 ∷ r) ≡ lex in_string (drop 1 r)
unfolding lex
escape_lexed [] = refl
escape_lexed (x ∷ r) = refl

pub byte_passed : (text : List ℕ) (at : ℕ) → at < length text → get_or text at 0 ≢ 34 → get_or text at 0 ≢ 92 → lex in_string (drop at text) ≡ lex in_string (drop (at + 1) text)
byte_passed text at there differs apart = ap (lex in_string) (drop_more text at 0 there) ∙ other_lexed (get_or text at 0) (drop (at + 1) text) differs apart

pub escape_passed : (text : List ℕ) (at : ℕ) → at < length text → get_or text at 0 ≡ 92 → lex in_string (drop at text) ≡ lex in_string (drop (at + 2) text)
escape_passed text at there is =
    ap (lex in_string) (drop_more text at 0 there ∙ ap (λ x. x ∷ drop (at + 1) text) is) ∙ escape_lexed (drop (at + 1) text) ∙ ap (lex in_string) (drop-drop 1 (at + 1) text ∙ ap (λ n. drop n text) (omega arith))

quote_lexed : (r : List ℕ) → lex in_string (34 ∷ r) ≡ lex between r
unfolding lex
quote_lexed r = refl

-- a string that was passed over up to its closing quote
passed : (b : ℕ) (r : List ℕ) (at : ℕ) → b ≡ 34 → at < length (b ∷ r) → get_or (b ∷ r) at 0 ≡ 34 → lex in_string r ≡ lex in_string (drop at (b ∷ r)) → IsStringBefore (take (at + 1) (b ∷ r)) (drop (at + 1) (b ∷ r))
passed b r at first there last same =
    let next : at + 1 ≡ suc at = omega arith in
    let whole : take at r ++ drop (at + 1) (b ∷ r) ≡ r = ap (λ n. take at r ++ drop n (b ∷ r)) next ∙ take-append-drop at r in
    let quote_there : drop at (b ∷ r) ≡ 34 ∷ drop (at + 1) (b ∷ r) = drop_more (b ∷ r) at 0 there ∙ ap (λ x. x ∷ drop (at + 1) (b ∷ r)) last in
    (take at r, ap (λ n. take n (b ∷ r)) next ∙ ap (λ x. x ∷ take at r) first, ap (lex in_string) whole ∙ same ∙ ap (lex in_string) quote_there ∙ quote_lexed (drop (at + 1) (b ∷ r)))

pub string_passed : (text : List ℕ) (b : ℕ) (r : List ℕ) (at : ℕ) → text ≡ b ∷ r → b ≡ 34 → at < length text → get_or text at 0 ≡ 34 → lex in_string (drop 1 text) ≡ lex in_string (drop at text) → IsStringBefore (take (at + 1) text) (drop (at + 1) text)
string_passed text b r at is first there last same = rw is (passed b r at first (subst (λ x. at < length x) is there) (ap (λ x. get_or x at 0) (sym is) ∙ last) (ap (λ x. lex in_string (drop 1 x)) (sym is) ∙ same ∙ ap (λ x. lex in_string (drop at x)) is))

-- a string that was read by the lexer
pub string_lexed : (q s : List ℕ) (old new : Cursor) → Takes old new q → IsStringBefore q (rest_of new) → string_in q ≡ Some s → lexemes_of old ≡ token (string s) ∷ lexemes_of new
string_lexed q s old new is there read = ap (lex between) is ∙ string_first q (rest_of new) s there read

-- a text, with escapes or without
pub plain_text : (s : List ℕ) (old new : Cursor) (p : Piece) → IsText s → token_of p ≡ single (bytes s) → Takes old new (quoted s) → IsTextLexed old new p
plain_text s old new p text shown is = (s, text, shown, string_taken s old new is)

pub quoted_text : (q s : List ℕ) (old new : Cursor) (p : Piece) → IsText s → token_of p ≡ single (bytes s) → Takes old new q → IsStringBefore q (rest_of new) → string_in q ≡ Some s → IsTextLexed old new p
quoted_text q s old new p text shown is there read = (s, text, shown, string_lexed q s old new is there read)

key_then : (s : List ℕ) (old name mid new : Cursor) → lexemes_of old ≡ token (string s) ∷ lexemes_of name → lexemes_of mid ≡ lexemes_of name → lexemes_of mid ≡ colon ∷ lexemes_of new → IsKeyAt s old new
key_then s old name mid new is same mark p may =
    ap (punctuate p) (is ∙ ap (λ ls. token (string s) ∷ ls) (sym same ∙ mark)) ∙ keyed s (rest_of new) p may

-- a name that stands where nothing was read before
key_from : (k : List ℕ) (old mid new : Cursor) → rest_of mid ≡ rest_of old → IsKeyAt k mid new → IsKeyAt k old new
key_from k old mid new same h p may = ap (λ r. punctuate p (lex between r)) (sym same) ∙ h p may

-- a name, with escapes or without
pub plain_name : (fs : Fields) (i : ℕ) (s : List ℕ) (old new : Cursor) → IsCalled fs i s → Takes old new (quoted s) → IsNameBefore fs i old new
plain_name fs i s old new called is = (s, called, string_taken s old new is)

pub quoted_name : (fs : Fields) (i : ℕ) (q s : List ℕ) (old new : Cursor) → IsCalled fs i s → Takes old new q → IsStringBefore q (rest_of new) → string_in q ≡ Some s → IsNameBefore fs i old new
quoted_name fs i q s old new called is there read = (s, called, string_lexed q s old new is there read)

-- a name that was looked up
pub name_then : (fs : Fields) (i : ℕ) (old name mid new : Cursor) → IsNameBefore fs i old name → lexemes_of mid ≡ lexemes_of name → lexemes_of mid ≡ colon ∷ lexemes_of new → IsNameAt fs i old new
name_then fs i old name mid new h same mark_is = (h.0, h.1, key_then h.0 old name mid new h.2 same mark_is)

-- a name, before which nothing was read
pub name_from : (fs : Fields) (i : ℕ) (old mid new : Cursor) → rest_of mid ≡ rest_of old → IsNameAt fs i mid new → IsNameAt fs i old new
name_from fs i old mid new same h = (h.0, h.1, key_from h.0 old mid new same h.2)

scalar_lexed : (d : Data) (r : List ℕ) → IsScalar d → ends_word r ≡ true → lex between (compact_text d ++ r) ≡ token (scalar_token d) ∷ lex between r
unfolding lex word
scalar_lexed json.null r h ended = ap₂ (λ b l. token (cond b null bad) ∷ l) ended (in_word-ended r ended)
scalar_lexed (json.boolean true) r h ended = ap₂ (λ b l. token (cond b (boolean true) bad) ∷ l) ended (in_word-ended r ended)
scalar_lexed (json.boolean false) r h ended = ap₂ (λ b l. token (cond b (boolean false) bad) ∷ l) ended (in_word-ended r ended)
scalar_lexed (json.number n) r h ended = lex-number (number_text n) r h.0 ended
scalar_lexed (json.string s) r h ended = lex-quoted s r
scalar_lexed (json.array ds) r h ended = absurd h
scalar_lexed (json.object ms) r h ended = absurd h

string_placed : (s : List ℕ) (ls : List Lexeme) (p : Place) (b : Bool) → begins_colon ls ≡ b → b ≡ false → may_begin p ≡ true → punctuate p (token (string s) ∷ ls) ≡ string s ∷ punctuate after_value ls
unfolding punctuate
string_placed s ls p b is none may = rw (is ∙ none) (allowed (may_begin p) (string s) (λ n. punctuate n ls) after_value may)

placed : (d : Data) (ls : List Lexeme) (p : Place) → IsScalar d → begins_colon ls ≡ false → may_begin p ≡ true → punctuate p (token (scalar_token d) ∷ ls) ≡ scalar_token d ∷ punctuate after_value ls
unfolding punctuate
placed json.null ls p h none may = allowed (may_begin p) null (λ n. punctuate n ls) after_value may
placed (json.boolean b) ls p h none may = allowed (may_begin p) (boolean b) (λ n. punctuate n ls) after_value may
placed (json.number n) ls p h none may = allowed (may_begin p) (number (number_text n)) (λ m. punctuate m ls) after_value may
placed (json.string s) ls p h none may = string_placed s ls p (begins_colon ls) refl none may
placed (json.array ds) ls p h none may = absurd h
placed (json.object ms) ls p h none may = absurd h

scalar_is : (deep : ℕ) (d : Data) (ts : List Token) → IsScalar d → converted of_json (value deep (scalar_token d ∷ ts)) ≡ Some (d, ts)
scalar_is deep json.null ts h = null_read deep ts
scalar_is deep (json.boolean b) ts h = scalar_read_is deep (boolean b) ts (json.boolean b) refl
scalar_is deep (json.number n) ts h = scalar_read_is deep (number (number_text n)) ts (json.number n) (ap (option_map json.number) h.1)
scalar_is deep (json.string s) ts h = scalar_read_is deep (string s) ts (json.string s) refl
scalar_is deep (json.array ds) ts h = absurd h
scalar_is deep (json.object ms) ts h = absurd h

-- such a value was read as it is printed
pub scalar_taken : (d : Data) (old new : Cursor) → IsScalar d → Takes old new (compact_text d) → IsScalarAt d old new
scalar_taken d old new h taken = (h, λ ended. ap (lex between) taken ∙ scalar_lexed d (rest_of new) h ended)

-- a value that is no array and no object was read, and has ended
pub scalar_read : (deep : ℕ) (d : Data) (old mid new : Cursor) → IsScalarAt d old mid → EndsValue mid new → IsValueAt deep d old new
scalar_read deep d old mid new h ended p may =
    let none : begins_colon (lexemes_of mid) ≡ false = ap begins_colon (sym ended.1) ∙ ended.2 in
    let placed_so : tokens_at p old ≡ scalar_token d ∷ tokens_at after_value new =
    ap (punctuate p) (h.1 ended.0) ∙ placed d (lexemes_of mid) p h.0 none may ∙ ap (λ ls. scalar_token d ∷ punctuate after_value ls) (sym ended.1) in
    ap (λ ts. converted of_json (value deep ts)) placed_so ∙ scalar_is deep d (tokens_at after_value new) h.0

-- ---- brackets and commas

pub comma_more : (old new : Cursor) → lexemes_of old ≡ comma ∷ lexemes_of new → IsMore false old new
unfolding punctuate
comma_more old new is = (after_comma, refl, ap (punctuate after_value) is)

pub first_more : (old new : Cursor) → rest_of new ≡ rest_of old → IsMore true old new
first_more old new same = (fresh, refl, ap (λ r. punctuate fresh (lex between r)) (sym same))

pub closed_later : (closing : ℕ) (old mid new : Cursor) → rest_of mid ≡ rest_of old → IsClosed closing mid new → IsClosed closing old new
closed_later closing old mid new same is = ap (lex between) (sym same) ∙ is

closed_key : (b : Bool) (ls : List Lexeme) → read_key (punctuate (place_of b) (token end_object ∷ ls)) ≡ Some (None, punctuate after_value ls)
unfolding punctuate
closed_key true ls = refl
closed_key false ls = refl

closed_array : (b : Bool) (ls : List Lexeme) → after_end_array (punctuate (place_of b) (token end_array ∷ ls)) ≡ Some (punctuate after_value ls)
unfolding punctuate
closed_array true ls = refl
closed_array false ls = refl

pub object_closed : (b : Bool) (old new : Cursor) → IsClosed 125 old new → read_key (tokens_at (place_of b) old) ≡ Some (None, tokens_at after_value new)
object_closed b old new is = ap (λ ls. read_key (punctuate (place_of b) ls)) is ∙ closed_key b (lexemes_of new)

pub array_closed : (b : Bool) (old new : Cursor) → IsClosed 93 old new → after_end_array (tokens_at (place_of b) old) ≡ Some (tokens_at after_value new)
array_closed b old new is = ap (λ ls. after_end_array (punctuate (place_of b) ls)) is ∙ closed_array b (lexemes_of new)

pub object_opened : (old new : Cursor) (p : Place) → lexemes_of old ≡ token begin_object ∷ lexemes_of new → may_begin p ≡ true → tokens_at p old ≡ begin_object ∷ tokens_at fresh new
unfolding punctuate
object_opened old new p is may = ap (punctuate p) is ∙ allowed (may_begin p) begin_object (λ n. punctuate n (lexemes_of new)) fresh may

pub array_opened : (old new : Cursor) (p : Place) → lexemes_of old ≡ token begin_array ∷ lexemes_of new → may_begin p ≡ true → tokens_at p old ≡ begin_array ∷ tokens_at fresh new
unfolding punctuate
array_opened old new p is may = ap (punctuate p) is ∙ allowed (may_begin p) begin_array (λ n. punctuate n (lexemes_of new)) fresh may

-- the name of a member, where one may begin
pub key_there : (k : List ℕ) (is_first : Bool) (old mid new : Cursor) → IsMore is_first old mid → IsKeyAt k mid new → read_key (tokens_at (place_of is_first) old) ≡ Some (Some k, tokens_at fresh new)
key_there k is_first old mid new more there = ap read_key (more.2 ∙ there more.0 more.1)

-- what begins with a value closes no array
pub no_end : (deep : ℕ) (ts r : List Token) (d : Data) → converted of_json (value deep ts) ≡ Some (d, r) → after_end_array ts ≡ None
no_end deep [] r d h = refl
no_end deep (begin_object ∷ ts) r d h = refl
no_end deep (end_object ∷ ts) r d h = refl
no_end deep (begin_array ∷ ts) r d h = refl
no_end deep (end_array ∷ ts) r d h = let none = ap (converted of_json) (value_is deep (end_array ∷ ts)) in absurd (cc)
no_end deep (key s ∷ ts) r d h = refl
no_end deep (string s ∷ ts) r d h = refl
no_end deep (number s ∷ ts) r d h = refl
no_end deep (boolean b ∷ ts) r d h = refl
no_end deep (null ∷ ts) r d h = refl
no_end deep (bad ∷ ts) r d h = refl

-- nothing is left of a line
pub nothing_left : (l : Cursor) → rest_of l ≡ [] → tokens_at after_value l ≡ []
unfolding lex punctuate
nothing_left l is = ap (λ r. punctuate after_value (lex between r)) is
