use Rattle.std.proofs.Common.{◌≡◌, ◌++◌, ◌∷◌, [], List, map, false, ap, sym, subst, Result, Ok, Err}
use Rattle.std.specs.Prelude.{OnErr}
use Rattle.bits.specs.declared.refusal.Refusal.{Refusal}
use Rattle.bits.specs.declared.refusal.Refusal.TheVariants.{RowShape, Limit, Memory}
use Rattle.bits.specs.Refusals.{IsFault, HasCause}
use Rattle.bits.proofs.Passing.{passes}
use Rattle.schema.specs.Values.{ValueTrees}
use Rattle.schema.specs.Shape.{Fields}
use Rattle.schema.specs.Fits.{fits_each}
use Rattle.schema.specs.Views.{row_view}
use Rattle.metadata.specs.Views.{group_meta_view}
use Rattle.footer.specs.Writer.{schema_of, options_of, has_rows, AreGiven}
use Rattle.footer.specs.Writing.{IsTooMuch}
use Rattle.footer.proofs.Whole.{passes_limit}
use Rattle.footer.proofs.Written.{one_given}
use Rattle.footer.proofs.file_writer.FileWriter.push.Goals as goal

refused : {X : Type 0} (r : Result X Refusal) {P : Type 0} → P → OnErr r P
refused (Ok x) p = tt
refused (Err e) p = p

not_limit : (e : Refusal) → HasCause (λ f. f ≡ RowShape) e → e ≡ Limit → ⊥
not_limit e h is = let k : Limit ≡ RowShape = subst (HasCause (λ f. f ≡ RowShape)) is h in cc

pub returns-clause-stands : goal.returns-clause-stands
returns-clause-stands c = λ rows so.
    let w = c.make_room.new.self in
    let room = c.in_ok-make_room.ensures.stands rows so in
    let more = one_given (schema_of w) (options_of w) w.bytes.items (map group_meta_view w.groups.items) room.has.waiting w.written rows (row_view c.args.row) room.few room.has.given in
    record {
      waiting = room.has.waiting ++ row_view c.args.row ∷ [];
      held = c.in_ok-push.ensures.stands room.has.waiting room.has.held;
      given = subst (λ (f : Fields). AreGiven f (options_of w) w.bytes.items (map group_meta_view w.groups.items) (room.has.waiting ++ row_view c.args.row ∷ []) w.written (rows ++ row_view c.args.row ∷ [])) (sym c.in_ok-push.ensures.same_schema) more;
    }

pub returns-in_err-make_room-clause-only : goal.returns-in_err-make_room-clause-only
returns-in_err-make_room-clause-only c =
    let w = c.args.self.now in
    passes (λ e. IsFault e → (rows : List ValueTrees) → has_rows w rows → fits_each (schema_of w) (row_view c.args.row) ≡ false) c.from_residual.result c.in_err-make_room.field-0.0 c.from_residual.ensures.1
    (λ fault rows so. absurd (c.in_err-make_room.ensures.only fault rows so))

-- a fault that is RowShape
row_shape : (e : Refusal) → HasCause (λ f. f ≡ RowShape) e → IsFault e → e ≡ RowShape
row_shape Limit h fault = absurd fault
row_shape Memory h fault = absurd fault
row_shape e h fault = h

pub returns-in_err-push-clause-only : goal.returns-in_err-push-clause-only
returns-in_err-push-clause-only c =
    let w = c.args.self.now in
    passes (λ e. IsFault e → (rows : List ValueTrees) → has_rows w rows → fits_each (schema_of w) (row_view c.args.row) ≡ false) c.from_residual-in_err-push.result c.in_err-push.field-0.0 c.from_residual-in_err-push.ensures.1
    (λ fault rows so. subst (λ (f : Fields). fits_each f (row_view c.args.row) ≡ false) c.in_ok-make_room.ensures.same_schema
    (c.in_err-push.ensures.only (ap Err (row_shape c.in_err-push.field-0.0 c.in_err-push.ensures.which fault))))

pub returns-in_err-push-clause-limit : goal.returns-in_err-push-clause-limit
returns-in_err-push-clause-limit c =
    let old = c.args.self.now in
    passes_limit ((rows later : List ValueTrees) → has_rows old rows → IsTooMuch (schema_of old) (options_of old) (rows ++ later)) c.from_residual-in_err-push.result c.in_err-push.field-0.0 c.from_residual-in_err-push.ensures.1
    (λ is. absurd (not_limit c.in_err-push.field-0.0 c.in_err-push.ensures.which is))

pub returns-in_err-push-clause-unchanged : goal.returns-in_err-push-clause-unchanged
returns-in_err-push-clause-unchanged c =
    let w = c.make_room.new.self in
    refused c.from_residual-in_err-push.result
    (λ rows so.
    let room = c.in_ok-make_room.ensures.stands rows so in
    record {
      waiting = room.has.waiting;
      held = c.in_err-push.ensures.unchanged room.has.waiting room.has.held;
      given = subst (λ (f : Fields). AreGiven f (options_of w) w.bytes.items (map group_meta_view w.groups.items) room.has.waiting w.written rows) (sym c.in_err-push.ensures.same_schema) room.has.given;
    })
