-- A writer whose row is dropped.
use Rattle.std.proofs.Common.{◌≡◌, List, [], ◌∷◌, ◌<◌, length, map, ap, sym, subst, ◌∙◌}
use Rattle.schema.specs.Values.{ValueTrees}
use Rattle.metadata.specs.Views.{group_meta_view}
use Rattle.assemble.specs.Sinks.{Token}
use Rattle.shred.specs.Buffer as buffer
use Rattle.shred.specs.Buffer.{Holds, holds, HoldsBelow, buffer_shows}
use Rattle.shred.specs.inner.Opening.{schema_token, rows_token, rows_said}
use Rattle.shred.proofs.Openings.{rows_back}
use Rattle.footer.specs.declared.file_writer.FileWriter.{FileWriter}
use Rattle.footer.specs.Writer.{schema_of, options_of, has_rows, options_token, IsShown, writer_shows, Base, base_of, HasBelow, shows_whole, goes_back}
use Rattle.footer.proofs.Written.{given_of}
use Rattle.footer.proofs.ShownWriter.{buffer_shown}

-- another writer that differs at most in the rows that wait
pub record IsSame (old new : FileWriter) : Type 0 where
  pub schema : schema_of new ≡ schema_of old
  pub options : options_of new ≡ options_of old
  pub bytes : new.bytes.items ≡ old.bytes.items
  pub groups : new.groups.items ≡ old.groups.items
  pub written : new.written ≡ old.written

abbrev pub base_at : FileWriter → buffer.Base → Base
base_at writer waiting = record { waiting = waiting; options = options_of writer; bytes = writer.bytes.items; groups = map group_meta_view writer.groups.items; written = writer.written }

-- what is not changed by showing a value
pub same_base : (writer : FileWriter) (new old : buffer.Base) → new ≡ old → base_at writer new ≡ base_at writer old
same_base writer new old waiting = ap (base_at writer) waiting

-- the buffer holds the same rows, and can go back to them
abbrev pub Marks : FileWriter → FileWriter → Type 0
Marks old new = (rows : List ValueTrees) → holds old.waiting rows → holds new.waiting rows × HoldsBelow (buffer.base_of new.waiting) rows

abbrev pub Drops : FileWriter → FileWriter → Type 0
Drops old new = (rows : List ValueTrees) → HoldsBelow (buffer.base_of old.waiting) rows → holds new.waiting rows

-- a row begins
marked : (old new : FileWriter) (rows : List ValueTrees) → IsSame old new → Marks old new → IsShown old rows [] → IsShown new rows [] × HasBelow (base_of new) rows
marked old new rows same marks so =
    let m = marks so.waiting so.held in
    let given = given_of _ _ _ _ _ _ _ _ _ _ _ _ same.schema same.options same.bytes (ap (map group_meta_view) same.groups) same.written so.given in
    let few : length so.waiting < (options_of new).group_rows = rw same.options so.few in
    (record { waiting = so.waiting; held = m.0; given = given; few = few }, record { waiting = so.waiting; held = m.1; given = given; few = few })

pub whole_marked : (old new : FileWriter) → IsSame old new → Marks old new → (ts : List Token) → shows_whole old ts → shows_whole new ts × goes_back (base_of new) ts
whole_marked old new same marks [] h = absurd h
whole_marked old new same marks (t ∷ []) h = absurd h
whole_marked old new same marks (t ∷ u ∷ []) h = absurd h
whole_marked old new same marks (t ∷ u ∷ o ∷ []) h =
    let schema = h.0 ∙ ap schema_token (sym same.schema) in
    let options = h.1.0 ∙ ap options_token (sym same.options) in
    let m = marked old new (rows_said u) same marks h.1.1 in
    ((schema, (options, m.0)), (schema, (options, m.1)))
whole_marked old new same marks (t ∷ u ∷ o ∷ w ∷ ts) h = absurd h

-- what was shown of a row is shown
pub shown_marked : (old new : FileWriter) → IsSame old new → ((ts : List Token) → buffer_shows old.waiting ts → buffer_shows new.waiting ts) → (ts : List Token) → writer_shows old ts → writer_shows new ts
shown_marked old new same shows [] h = absurd h
shown_marked old new same shows (t ∷ []) h = absurd h
shown_marked old new same shows (t ∷ u ∷ []) h = absurd h
shown_marked old new same shows (t ∷ u ∷ o ∷ ts) h =
    let so = h.1.1 in
    let after = shows (schema_token (schema_of old) ∷ rows_token so.waiting ∷ ts) (buffer_shown old (rows_said u) ts so) in (
      h.0 ∙ ap schema_token (sym same.schema),
      (
        h.1.0 ∙ ap options_token (sym same.options),
        record {
          waiting = so.waiting;
          held = subst (λ (rs : List ValueTrees). Holds new.waiting rs ts) (rows_back so.waiting) after.1;
          given = given_of _ _ _ _ _ _ _ _ _ _ _ _ same.schema same.options same.bytes (ap (map group_meta_view) same.groups) same.written so.given;
          few = rw same.options so.few;
        },
      ),
    )

-- the row is dropped
dropped_shown : (old new : FileWriter) (rows : List ValueTrees) → IsSame old new → Drops old new → HasBelow (base_of old) rows → IsShown new rows []
dropped_shown old new rows same drops below = record {
  waiting = below.waiting;
  held = drops below.waiting below.held;
  given = given_of _ _ _ _ _ _ _ _ _ _ _ _ same.schema same.options same.bytes (ap (map group_meta_view) same.groups) same.written below.given;
  few = rw same.options below.few;
}

pub dropped : (old new : FileWriter) (rows : List ValueTrees) → IsSame old new → Drops old new → HasBelow (base_of old) rows → has_rows new rows
dropped old new rows same drops below =
    let so = dropped_shown old new rows same drops below in
    record { waiting = so.waiting; held = so.held; given = so.given }

pub whole_dropped : (old new : FileWriter) → IsSame old new → Drops old new → (ts : List Token) → goes_back (base_of old) ts → shows_whole new ts × writer_shows new ts
whole_dropped old new same drops [] h = absurd h
whole_dropped old new same drops (t ∷ []) h = absurd h
whole_dropped old new same drops (t ∷ u ∷ []) h = absurd h
whole_dropped old new same drops (t ∷ u ∷ o ∷ []) h =
    let shown = dropped_shown old new (rows_said u) same drops h.1.1 in
    let is : shows_whole new (t ∷ u ∷ o ∷ []) = (h.0 ∙ ap schema_token (sym same.schema), (h.1.0 ∙ ap options_token (sym same.options), shown)) in
    (is, is)
whole_dropped old new same drops (t ∷ u ∷ o ∷ w ∷ ts) h = absurd h
