-- What is known of a file that is read in blocks, and of the lines that are read so far.
use Rattle.std.proofs.Common.{◌≡◌, ◌∙◌, ◌<◌, ◌+◌, ◌^◌, ◌⊎◌, inl, inr, ℕ, Bool, true, false, List, [], ◌∷◌, ◌++◌, length, take, drop, Option, Some, None, Result, Ok, Err, OnOk, refl, sym, ap, subst, append_assoc, append-nil, take-append-drop, take_all, le_of_eq}
use Rattle.std.specs.Prelude.{IsUtf8}
use Rattle.std.specs.Str.Lines.{lines}
use Rattle.std.specs.Io.KnownBytes.{Consumes, IsAtEnd}
use Rattle.std.proofs.KnownBytes.{Consumes-trans, Consumes-nil}
use Rattle.std.proofs.lemmas.Str.{IsUtf8-append, IsUtf8-nil}
use Rattle.bits.specs.declared.refusal.Refusal.{Refusal}
use Rattle.bits.specs.declared.refusal.Refusal.TheVariants.{Memory, Device, Limit, Script}
use Rattle.bits.specs.Refusals.{HasCause, RefusedOnly}
use Rattle.schema.specs.Shape.{Fields}
use Rattle.schema.specs.Values.{ValueTrees}
use Rattle.rowtext.specs.Reader.{schema_of as fields_of}
use Rattle.footer.specs.declared.options.WriteOptions.{WriteOptions}
use Rattle.manifest.specs.Groups.{Root}
use Rattle.gather.specs.declared.gathered.Gathered.{Gathered}
use Rattle.gather.specs.GatheredRows.{holds}
use Rattle.table_commits.specs.Gathering.{AreGatheredFor, KeepsTable}
use Rattle.commands.specs.RowLines.{AreRowTexts, IsRefusedLine}
use Rattle.places.specs.Blocks.{AreKnown, ReadsBlock}
use Rattle.commands.specs.FileLines.{IsRefusedIn, HasFirstFaultIn, AreRefusedIn, AreRefusedOf}
use Rattle.commands.specs.inner.LineCuts.{IsLineLength, IsWholeLength}
use Rattle.commands.specs.inner.GatheredRows.{AddsLine, HoldsLines, GathersLines, GathersBytes, HasRead, HasReadAll, GathersBlock}
use Rattle.commands.specs.declared.gathering.LineGatherer.{LineGatherer}
use Rattle.commands.proofs.Told.{one_more, with_cause}
use Rattle.commands.proofs.WholeLines.{lines_of_both, both_whole, long_first, no_text_line}

-- ---- bytes

-- what is left to be read, as far as it is known
abbrev rest_of : Option (List ℕ) → List ℕ
rest_of None = []
rest_of (Some bytes) = bytes

-- bytes that were read and those that are left are all
known_so : (start left : Option (List ℕ)) (bytes : List ℕ) → Consumes start left bytes → AreKnown start (bytes ++ rest_of left)
known_so None left bytes gone = tt
known_so (Some all) None bytes gone = absurd gone
known_so (Some all) (Some more) bytes gone = sym gone

-- at the end, those that were read are all
known_all : (start left : Option (List ℕ)) (bytes : List ℕ) → Consumes start left bytes → IsAtEnd left → AreKnown start bytes
known_all None left bytes gone over = tt
known_all (Some all) None bytes gone over = absurd gone
known_all (Some all) (Some more) bytes gone over = sym (gone ∙ (ap (λ (t : List ℕ). bytes ++ t) over ∙ append-nil bytes))

-- ---- refusals

-- a line after others, whose rows are read, is the first that is refused
pub refused_here : (texts : Bool) (fs : Fields) (all before after : List (List ℕ)) (line : List ℕ) (rows : List ValueTrees) → all ≡ before ++ line ∷ after
    → AreRowTexts texts fs before rows → (e : Refusal) → HasCause (IsRefusedIn texts fs line) e → AreRefusedIn texts fs all e
refused_here texts fs all before after line rows joined read =
    with_cause (IsRefusedIn texts fs line) (HasFirstFaultIn texts fs all)
    (λ e refused. record { before = before; line = line; after = after; rows = rows; joined = joined; read = read; refused = refused })

-- lines that are refused are so with more lines after them
pub refused_with : (texts : Bool) (fs : Fields) (some more all : List (List ℕ)) → all ≡ some ++ more → (e : Refusal) → AreRefusedIn texts fs some e → AreRefusedIn texts fs all e
refused_with texts fs some more all joined =
    with_cause (HasFirstFaultIn texts fs some) (HasFirstFaultIn texts fs all)
    (λ e fault. record {
      before = fault.before;
      line = fault.line;
      after = fault.after ++ more;
      rows = fault.rows;
      joined = joined ∙ (ap (λ (t : List (List ℕ)). t ++ more) fault.joined ∙ append_assoc fault.before (fault.line ∷ fault.after) more);
      read = fault.read;
      refused = fault.refused;
    })

module _ (IsShut : Type 0) (HasBytes : List ℕ → Type 0) (texts : Bool) (fs : Fields) where
  -- the lines of a file are refused as those of its bytes are
  pub of_lines : (bytes : List ℕ) → HasBytes bytes → (e : Refusal) → AreRefusedIn texts fs (lines bytes) e → AreRefusedOf IsShut HasBytes texts fs e
  of_lines bytes are =
      with_cause (HasFirstFaultIn texts fs (lines bytes)) (λ f. ((f ≡ Device) × IsShut) ⊎ ((all : List ℕ) × HasBytes all × HasFirstFaultIn texts fs (lines all) f))
      (λ e fault. inr (bytes, are, fault))

  -- or it cannot be read
  pub of_device : (e : Refusal) → HasCause (λ f. (f ≡ Device) × IsShut) e → AreRefusedOf IsShut HasBytes texts fs e
  of_device =
      with_cause (λ f. (f ≡ Device) × IsShut) (λ f. ((f ≡ Device) × IsShut) ⊎ ((all : List ℕ) × HasBytes all × HasFirstFaultIn texts fs (lines all) f)) (λ e shut. inl shut)

  -- or memory ran out
  pub of_memory : (e : Refusal) → HasCause (λ _. ⊥) e → AreRefusedOf IsShut HasBytes texts fs e
  of_memory =
      with_cause (λ _. ⊥) (λ f. ((f ≡ Device) × IsShut) ⊎ ((all : List ℕ) × HasBytes all × HasFirstFaultIn texts fs (lines all) f)) (λ e never. absurd never)

-- where a file can be read if another one can, it is refused as that one is
pub of_shut : {A B : Type 0} → (A → B) → (HasBytes HasOthers : List ℕ → Type 0) → ((bytes : List ℕ) → HasBytes bytes → HasOthers bytes) → (texts : Bool) (fs : Fields)
    → (e : Refusal) → AreRefusedOf A HasBytes texts fs e → AreRefusedOf B HasOthers texts fs e
of_shut {A} {B} shuts HasBytes HasOthers gives texts fs =
    with_cause (λ f. ((f ≡ Device) × A) ⊎ ((all : List ℕ) × HasBytes all × HasFirstFaultIn texts fs (lines all) f))
    (λ f. ((f ≡ Device) × B) ⊎ ((all : List ℕ) × HasOthers all × HasFirstFaultIn texts fs (lines all) f)) by
  where
    by : (f : Refusal) → ((f ≡ Device) × A) ⊎ ((all : List ℕ) × HasBytes all × HasFirstFaultIn texts fs (lines all) f)
        → ((f ≡ Device) × B) ⊎ ((all : List ℕ) × HasOthers all × HasFirstFaultIn texts fs (lines all) f)
    by f (inl shut) = inl (shut.0, shuts shut.1)
    by f (inr refused) = inr (refused.0, gives refused.0 refused.1, refused.2)

-- ---- lines

-- another gatherer with the same rows
pub held_by : (texts : Bool) (root : Root) (options : WriteOptions) (all : List (List ℕ)) (old new : LineGatherer) → new.gathered ≡ old.gathered → new.reader ≡ old.reader → new.texts ≡ old.texts
    → HoldsLines texts root options all old → HoldsLines texts root options all new
held_by texts root options all old new rows reader form held = record {
  rows = held.rows;
  read = held.read;
  held = subst (λ (g : Gathered). holds g held.rows) (sym rows) held.held;
  table = subst (AreGatheredFor root options) (sym rows) held.table;
  fields = ap fields_of reader ∙ held.fields;
  as_texts = form ∙ held.as_texts;
}

-- the rows of lines that are the same
pub held_of : (texts : Bool) (root : Root) (options : WriteOptions) (all others : List (List ℕ)) (g : LineGatherer) → all ≡ others → HoldsLines texts root options all g
    → HoldsLines texts root options others g
held_of texts root options all others g same held = subst (λ (t : List (List ℕ)). HoldsLines texts root options t g) same held

-- a line that a text has is refused as one of bytes is
refused_in : (texts : Bool) (fs : Fields) (line : List ℕ) (e : Refusal) → HasCause (IsRefusedLine texts fs line) e → HasCause (IsRefusedIn texts fs line) e
refused_in texts fs line Memory h = tt
refused_in texts fs line Script h = inr h
refused_in texts fs line Limit h = absurd h
refused_in texts fs line e h = h

-- a line more is gathered, or refused
pub line_added : {T : Type 0} (line : List ℕ) (old new : LineGatherer) (result : Result T Refusal) → OnOk result (AddsLine old.texts (fields_of old.reader) line old.gathered new.gathered)
    → RefusedOnly (IsRefusedLine old.texts (fields_of old.reader) line) result → KeepsTable old.gathered new.gathered → fields_of new.reader ≡ fields_of old.reader → new.texts ≡ old.texts
    → GathersLines (line ∷ []) old new result
line_added line old new (Ok x) adds which keeps same form = λ texts root options all held.
    let table = held.table in
    let adds : AddsLine texts root.schema line old.gathered new.gathered =
    subst (λ (t : Fields). AddsLine texts t line old.gathered new.gathered) held.fields (subst (λ (b : Bool). AddsLine b (fields_of old.reader) line old.gathered new.gathered) held.as_texts adds) in
    let more = adds held.rows held.held table.schema in
    record {
      rows = held.rows ++ more.0 ∷ [];
      read = one_more texts root.schema all held.rows line more.0 held.read more.1.0;
      held = more.1.1;
      table = record { schema = keeps.schema ∙ table.schema; columns = keeps.columns ∙ table.columns; size = keeps.size ∙ table.size };
      fields = same ∙ held.fields;
      as_texts = form ∙ held.as_texts;
    }
line_added line old new (Err e) adds which keeps same form = λ texts root options all held.
    let which : HasCause (IsRefusedLine texts root.schema line) e =
    subst (λ (t : Fields). HasCause (IsRefusedLine texts t line) e) held.fields (subst (λ (b : Bool). HasCause (IsRefusedLine b (fields_of old.reader) line) e) held.as_texts which) in
    refused_here texts root.schema (all ++ line ∷ []) all [] line held.rows refl held.read e (refused_in texts root.schema line e which)

-- the rows of the lines of bytes are gathered that are a text
pub text_gathered : {T : Type 0} (bytes text : List ℕ) → text ≡ bytes → IsUtf8 bytes → (old new : LineGatherer) (result : Result T Refusal) → GathersLines (lines text) old new result
    → GathersBytes bytes old new result
text_gathered bytes text same is old new (Ok x) gathers = λ texts root options all held.
    (is, held_of texts root options (all ++ lines text) (all ++ lines bytes) new (ap (λ (t : List ℕ). all ++ lines t) same) (gathers texts root options all held))
text_gathered bytes text same is old new (Err e) gathers = λ texts root options all held.
    subst (λ (t : List ℕ). AreRefusedIn texts root.schema (all ++ lines t) e) same (gathers texts root options all held)

-- a line that is no text is refused
pub no_text : (T : Type 0) (bytes : List ℕ) → IsLineLength bytes (length bytes) → (IsUtf8 bytes → ⊥) → (old new : LineGatherer) → GathersBytes {T = T} bytes old new (Err Script)
no_text T bytes is lacks old new = λ texts root options all held.
    let l = no_text_line bytes is lacks in
    refused_here texts root.schema (all ++ lines bytes) all [] l.0 held.rows (ap (λ (t : List (List ℕ)). all ++ t) l.1) held.read Script (inl l.2)

-- ---- blocks

module _ (texts : Bool) (root : Root) (options : WriteOptions) (start : Option (List ℕ)) where
  -- nothing is read yet
  pub none_read : (g : LineGatherer) → HoldsLines texts root options [] g → HasRead texts root options start start [] g
  none_read g held = record { given = []; gone = Consumes-nil start; whole = inl refl; utf8 = IsUtf8-nil; held = held }

  -- the same of another gatherer with the same rows
  pub read_by : (left : Option (List ℕ)) (waiting : List ℕ) (old new : LineGatherer) → new.gathered ≡ old.gathered → new.reader ≡ old.reader → new.texts ≡ old.texts
      → HasRead texts root options start left waiting old → HasRead texts root options start left waiting new
  read_by left waiting old new rows reader form h = record {
    given = h.given;
    gone = h.gone;
    whole = h.whole;
    utf8 = h.utf8;
    held = held_by texts root options (lines h.given) old new rows reader form h.held;
  }

  pub all_read_by : (old new : LineGatherer) → new.gathered ≡ old.gathered → new.reader ≡ old.reader → new.texts ≡ old.texts
      → HasReadAll texts root options start old → HasReadAll texts root options start new
  all_read_by old new rows reader form h = record {
    bytes = h.bytes;
    known = h.known;
    utf8 = h.utf8;
    held = held_by texts root options (lines h.bytes) old new rows reader form h.held;
  }

  -- a block more waits
  pub block_read : (old left : Option (List ℕ)) (before after : List ℕ) (some : Bool) (g : LineGatherer) → ReadsBlock old left before after some
      → HasRead texts root options start old before g → HasRead texts root options start left after g
  block_read old left before after some g r h = record {
    given = h.given;
    gone = subst (Consumes start left) (append_assoc h.given before r.block ∙ ap (λ (t : List ℕ). h.given ++ t) (sym r.joined))
        (Consumes-trans start old left (h.given ++ before) r.block h.gone r.gone);
    whole = h.whole;
    utf8 = h.utf8;
    held = h.held;
  }

  module _ (left : Option (List ℕ)) (waiting : List ℕ) (g : LineGatherer) (h : HasRead texts root options start left waiting g) (IsShut : Type 0) where
    -- all bytes, as far as they are known
    abbrev bytes_so : List ℕ
    bytes_so = (h.given ++ waiting) ++ rest_of left

    lines_so : (a b : List ℕ) → waiting ≡ a ++ b → lines bytes_so ≡ lines h.given ++ lines (a ++ (b ++ rest_of left))
    lines_so a b same =
        ap lines (append_assoc h.given waiting (rest_of left) ∙ ap (λ (t : List ℕ). h.given ++ (t ++ rest_of left)) same ∙ ap (λ (t : List ℕ). h.given ++ t) (append_assoc a b (rest_of left)))
        ∙ lines_of_both h.given (a ++ (b ++ rest_of left)) h.whole

    abbrev Refuses : Refusal → Type 0
    Refuses f = ((f ≡ Device) × IsShut) ⊎ ((all : List ℕ) × AreKnown start all × HasFirstFaultIn texts root.schema (lines all) f)

    -- the first line that waits is too long
    pub too_long : (n : ℕ) → 2 ^ 30 + 2 < n → IsLineLength waiting n → AreRefusedOf IsShut (AreKnown start) texts root.schema Limit
    too_long n long is =
        let l = long_first waiting (rest_of left) n (2 ^ 30) is long in
        let all : lines bytes_so ≡ lines h.given ++ l.0 ∷ l.1 =
        ap lines (append_assoc h.given waiting (rest_of left)) ∙ lines_of_both h.given (waiting ++ rest_of left) h.whole ∙ ap (λ (t : List (List ℕ)). lines h.given ++ t) l.2 in
        of_lines IsShut (AreKnown start) texts root.schema bytes_so (known_so start left (h.given ++ waiting) h.gone) Limit
        (refused_here texts root.schema (lines bytes_so) (lines h.given) l.1 l.0 h.held.rows all h.held.read Limit l.3)

    pub length_refused : (e : Refusal) → HasCause (λ f. (f ≡ Limit) × (n : ℕ) × (2 ^ 30 + 2 < n) × IsLineLength waiting n) e
        → AreRefusedOf IsShut (AreKnown start) texts root.schema e
    length_refused =
        with_cause (λ f. (f ≡ Limit) × (n : ℕ) × (2 ^ 30 + 2 < n) × IsLineLength waiting n) Refuses
        (λ e long. subst Refuses (sym long.0) (too_long long.1 long.2 long.3))

    -- the lines of a piece are refused
    pub piece_refused : (some : Bool) (n : ℕ) → IsWholeLength waiting some n → (some ≡ false → IsAtEnd left) → (e : Refusal)
        → AreRefusedIn texts root.schema (lines h.given ++ lines (take n waiting)) e → AreRefusedOf IsShut (AreKnown start) texts root.schema e
    piece_refused true n whole over e refused =
        let piece = take n waiting in
        let more = lines (drop n waiting ++ rest_of left) in
        let all : lines bytes_so ≡ (lines h.given ++ lines piece) ++ more =
        lines_so piece (drop n waiting) (sym (take-append-drop n waiting)) ∙ ap (λ (t : List (List ℕ)). lines h.given ++ t) (lines_of_both piece (drop n waiting ++ rest_of left) whole)
        ∙ sym (append_assoc (lines h.given) (lines piece) more) in
        of_lines IsShut (AreKnown start) texts root.schema bytes_so (known_so start left (h.given ++ waiting) h.gone) e
        (refused_with texts root.schema (lines h.given ++ lines piece) more (lines bytes_so) all e refused)
    piece_refused false n whole over e refused =
        let all : lines h.given ++ lines (take n waiting) ≡ lines (h.given ++ waiting) =
        ap (λ (t : List ℕ). lines h.given ++ lines t) (take_all n waiting (le_of_eq (sym whole))) ∙ sym (lines_of_both h.given waiting h.whole) in
        of_lines IsShut (AreKnown start) texts root.schema (h.given ++ waiting) (known_all start left (h.given ++ waiting) h.gone (over refl)) e
        (subst (λ (t : List (List ℕ)). AreRefusedIn texts root.schema t e) all refused)

    -- the rows of the lines of a piece are gathered
    pub piece_gathered : (some : Bool) (n : ℕ) → IsWholeLength waiting some n → (some ≡ false → IsAtEnd left) → (new : LineGatherer) (kept : List ℕ) → kept ≡ drop n waiting
        → IsUtf8 (take n waiting) → HoldsLines texts root options (lines h.given ++ lines (take n waiting)) new
        → GathersBlock texts root options start left IsShut kept new (Ok some)
    piece_gathered true n whole over new kept same is held =
        let piece = take n waiting in
        record {
          given = h.given ++ piece;
          gone = subst (Consumes start left)
              (ap (λ (t : List ℕ). h.given ++ t) (sym (take-append-drop n waiting)) ∙ (sym (append_assoc h.given piece (drop n waiting)) ∙ ap (λ (t : List ℕ). (h.given ++ piece) ++ t) (sym same))) h.gone;
          whole = both_whole h.given piece h.whole whole;
          utf8 = IsUtf8-append h.given piece h.utf8 is;
          held = held_of texts root options (lines h.given ++ lines piece) (lines (h.given ++ piece)) new (sym (lines_of_both h.given piece h.whole)) held;
        }
    piece_gathered false n whole over new kept same is held =
        let piece = take n waiting in
        let all : piece ≡ waiting = take_all n waiting (le_of_eq (sym whole)) in
        record {
          bytes = h.given ++ piece;
          known = subst (λ (t : List ℕ). AreKnown start (h.given ++ t)) (sym all) (known_all start left (h.given ++ waiting) h.gone (over refl));
          utf8 = IsUtf8-append h.given piece h.utf8 is;
          held = held_of texts root options (lines h.given ++ lines piece) (lines (h.given ++ piece)) new (sym (lines_of_both h.given piece h.whole)) held;
        }
