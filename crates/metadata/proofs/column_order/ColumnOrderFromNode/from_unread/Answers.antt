use Rattle.std.proofs.Common.{◌≡◌, ℕ, List, refl, subst, ◌∙◌, Option, Some, None}
use Rattle.std.specs.Prelude.{Bool, true, false, is_some, option_map, if◌then◌else◌}
use Rattle.thrift_compact.specs.Values.{ReadAs}
use Rattle.metadata.specs.FieldValues.{record_by}
use Rattle.metadata.specs.FromTree.{column_order}
use Rattle.metadata.specs.Records.{type_order, other_order}
use Rattle.metadata.proofs.Rows.{column_order_made, column_order_same}
use Rattle.metadata.proofs.Readings.{refused, made_read, made_refused}
use Rattle.metadata.proofs.column_order.ColumnOrderFromNode.from_unread.Goals as goal

some_shown : {A B : Type 0} (f : A → B) (o : Option A) → is_some (option_map f o) ≡ is_some o
some_shown f None = refl
some_shown f (Some x) = refl

-- the order is the type's where the member is there
order_read : {A : Type 0} (f : A → Unit {0}) (o : Option A) (b : Bool) (code left : ℕ) (bytes : List ℕ) (used : ℕ) → is_some o ≡ b → ReadAs (record_by column_order) code left bytes (column_order_made (option_map f o, tt)) used
    → ReadAs (record_by column_order) code left bytes (if b then type_order else other_order) used
order_read f o b code left bytes used e whole = subst (λ (t : Bool). ReadAs (record_by column_order) code left bytes (if t then type_order else other_order) used) (some_shown f o ∙ e) whole

pub returns-then-is_some-clause-stands : goal.returns-then-is_some-clause-stands
returns-then-is_some-clause-stands c =
    let e : is_some c.in_ok-found.found ≡ true = (let is = c.is_some.ensures in let test = c.if-is_some.true in cc) in
    order_read _ c.in_ok-found.found true _ _ _ _ e (made_read _ column_order column_order_made _ _ _ _ _ (column_order_same _ c.places.ensures) c.in_ok-found.ensures.stands)

pub returns-else-is_some-clause-stands : goal.returns-else-is_some-clause-stands
returns-else-is_some-clause-stands c =
    let e : is_some c.in_ok-found.found ≡ false = (let is = c.is_some.ensures in let test = c.if-is_some.false in cc) in
    order_read _ c.in_ok-found.found false _ _ _ _ e (made_read _ column_order column_order_made _ _ _ _ _ (column_order_same _ c.places.ensures) c.in_ok-found.ensures.stands)

pub returns-in_err-found-clause-which : goal.returns-in_err-found-clause-which
returns-in_err-found-clause-which c =
    refused _ _ c.args.value.bytes.now c.from_residual.result c.in_err-found.field-0.0 c.from_residual.ensures.1 c.in_err-found.ensures.which
    (made_refused _ column_order column_order_made _ _ (column_order_same _ c.places.ensures))
