-- What a writer has as it is shown rows.
use Rattle.std.proofs.Common.{◌≡◌, ℕ, zero, suc, true, List, [], ◌∷◌, ◌++◌, length, map, refl, ap, sym, subst, ◌∙◌}
use Rattle.std.specs.Prelude.{pos, Result, Ok, Err, OnOk, OnErr}
use Rattle.bits.specs.declared.refusal.Refusal.{Refusal}
use Rattle.schema.specs.Values.{ValueTrees, integer, group, no_values, value}
use Rattle.schema.specs.Shape.{Fields}
use Rattle.schema.specs.Fits.{fits_each}
use Rattle.metadata.specs.Views.{group_meta_view}
use Rattle.assemble.specs.Sinks.{Token, single, tokens_each, Adds}
use Rattle.shred.specs.Buffer as buffer
use Rattle.shred.specs.Buffer.{Holds, holds, buffer_shows}
use Rattle.shred.specs.inner.Opening.{schema_token, rows_token, rows_said}
use Rattle.shred.proofs.Openings.{one_schema, rows_back}
use Rattle.row_group.specs.declared.options.Style.{Style}
use Rattle.row_group.specs.declared.options.Style.TheVariants.{Plain, Dictionary, Delta, Lengths, Split}
use Rattle.footer.specs.declared.options.WriteOptions.{WriteOptions}
use Rattle.footer.specs.declared.file_writer.FileWriter.{FileWriter}
use Rattle.footer.specs.Writer.{schema_of, options_of, has_rows, AreGiven, style_number, options_token, IsShown, writer_shows, BeginsRow, ShowsRow}
use Rattle.footer.specs.inner.Waiting.{HasRoom}
use Rattle.footer.proofs.Written.{given_of, one_given}

-- ---- a token says the options

abbrev style_said : ℕ → Style
style_said zero = Plain
style_said (suc zero) = Dictionary
style_said (suc (suc zero)) = Delta
style_said (suc (suc (suc zero))) = Lengths
style_said (suc (suc (suc (suc n)))) = Split

abbrev some_options : ℕ → ℕ → ℕ → Style → WriteOptions
some_options g p v s = record { group_rows = g; page_rows = p; page_version = v; style = s }

abbrev options_said : Token → WriteOptions
options_said (single (group (value (integer (pos g)) (value (integer (pos p)) (value (integer (pos v)) (value (integer (pos s)) no_values)))))) = some_options g p v (style_said s)
options_said _ = some_options 0 0 0 Plain

style_back : (s : Style) → style_said (style_number s) ≡ s
style_back Plain = refl
style_back Dictionary = refl
style_back Delta = refl
style_back Lengths = refl
style_back Split = refl

options_back : (o : WriteOptions) → options_said (options_token o) ≡ o
options_back o = ap (some_options o.group_rows o.page_rows o.page_version) (style_back o.style)

pub one_options : (o q : WriteOptions) → options_token o ≡ options_token q → o ≡ q
one_options o q same = sym (options_back o) ∙ ap options_said same ∙ options_back q

-- ---- rows that are shown

-- what the buffer was shown, where the writer was shown these tokens of a row
pub buffer_shown : (w : FileWriter) (rows : List ValueTrees) (ts : List Token) (so : IsShown w rows ts) → buffer_shows w.waiting (schema_token (schema_of w) ∷ rows_token so.waiting ∷ ts)
buffer_shown w rows ts so = (refl, subst (λ (rs : List ValueTrees). Holds w.waiting rs ts) (sym (rows_back so.waiting)) so.held)

-- one token more, of which the buffer was shown
pub shown_more : (old new : FileWriter) (t : Token) → options_of new ≡ options_of old → new.bytes.items ≡ old.bytes.items → new.groups.items ≡ old.groups.items → new.written ≡ old.written
    → Adds (buffer_shows old.waiting) (buffer_shows new.waiting) (t ∷ []) → Adds (writer_shows old) (writer_shows new) (t ∷ [])
shown_more old new t options bytes groups written adds [] h = absurd h
shown_more old new t options bytes groups written adds (x ∷ []) h = absurd h
shown_more old new t options bytes groups written adds (x ∷ y ∷ []) h = absurd h
shown_more old new t options bytes groups written adds (x ∷ y ∷ o ∷ ts) h =
    let so = h.1.1 in
    let after = adds (schema_token (schema_of old) ∷ rows_token so.waiting ∷ ts) (buffer_shown old (rows_said y) ts so) in
    let schema : schema_of new ≡ schema_of old = sym (one_schema (schema_of old) (schema_of new) after.0) in (
      h.0 ∙ ap schema_token (sym schema),
      (
        h.1.0 ∙ ap options_token (sym options),
        record {
          waiting = so.waiting;
          held = subst (λ (rs : List ValueTrees). Holds new.waiting rs (ts ++ t ∷ [])) (rows_back so.waiting) after.1;
          given = given_of _ _ _ _ _ _ _ _ _ _ _ _ schema options bytes (ap (map group_meta_view) groups) written so.given;
          few = rw options so.few;
        },
      ),
    )

-- a row begins
pub row_begins : (w : FileWriter) (fs : Fields) (o : WriteOptions) (rows : List ValueTrees) → schema_of w ≡ fs → options_of w ≡ o → HasRoom w rows → BeginsRow w fs o rows
row_begins w fs o rows schema options room =
    let so : IsShown w rows [] = record { waiting = room.has.waiting; held = room.has.held; given = room.has.given; few = room.few } in
    (ap schema_token (sym schema), (ap options_token (sym options), subst (λ (rs : List ValueTrees). IsShown w rs []) (sym (rows_back rows)) so))

-- where a row may begin, or not, the writer has the rows that it had
pub kept_anyhow : {X : Type 0} (old new : FileWriter) (r : Result X Refusal) → OnOk r ((rows : List ValueTrees) → has_rows old rows → HasRoom new rows) → OnErr r ((rows : List ValueTrees) → has_rows old rows → has_rows new rows)
    → (rows : List ValueTrees) → has_rows old rows → has_rows new rows
kept_anyhow old new (Ok x) stands unchanged rows so = (stands rows so).has
kept_anyhow old new (Err e) stands unchanged rows so = unchanged rows so

-- a row ends, and the buffer has it
pub row_ends : (old new : FileWriter) (fs : Fields) (o : WriteOptions) (rows : List ValueTrees) (values : ValueTrees) → schema_of new ≡ schema_of old → options_of new ≡ options_of old
    → new.bytes.items ≡ old.bytes.items → new.groups.items ≡ old.groups.items → new.written ≡ old.written
    → ((gs : Fields) (rs : List ValueTrees) (vs : ValueTrees) → buffer.ShowsRow old.waiting gs rs vs → fits_each gs vs ≡ true → holds new.waiting (rs ++ vs ∷ []))
    → ShowsRow old fs o rows values → fits_each fs values ≡ true → has_rows new (rows ++ values ∷ [])
row_ends old new fs o rows values schema options bytes groups written ended shown fit =
    let so : IsShown old rows (tokens_each values) = subst (λ (rs : List ValueTrees). IsShown old rs (tokens_each values)) (rows_back rows) shown.1.1 in
    let fits = subst (λ (gs : Fields). fits_each gs values ≡ true) (one_schema fs (schema_of old) shown.0) fit in
    let more = one_given (schema_of old) (options_of old) old.bytes.items (map group_meta_view old.groups.items) so.waiting old.written rows values so.few so.given in
    record {
      waiting = so.waiting ++ values ∷ [];
      held = ended (schema_of old) so.waiting values (buffer_shown old rows (tokens_each values) so) fits;
      given = given_of _ _ _ _ _ _ _ _ _ _ _ _ schema options bytes (ap (map group_meta_view) groups) written more;
    }
