use Rattle.std.proofs.Common.{◌≡◌, ◌∙◌, sym, subst, arith, ℕ, suc, ◌-◌, ◌+◌, drop, string_bytes}
use Rattle.bits.proofs.Passing.{passes}
use Rattle.schema.specs.Elements.{elements_view}
use Rattle.schema.specs.Shape.{no_fields}
use Rattle.schema.specs.Views.{field_view, field_views}
use Rattle.schema.specs.Listing.{Branch, Branches}
use Rattle.schema.specs.inner.Reading.{forest, take_branches, AreRead, IsRead, IsFaultAmong, IsFaultOf, OnFirst, join_fields}
use Rattle.schema.proofs.Forest.{first_read, first_behind, first_fault, later_fault, join-none, group_twins, group_done}
use Rattle.schema.proofs.reading.+reading.Goals as goal

pub read_fields-returns-in_err-field-clause-which : goal.read_fields-returns-in_err-field-clause-which
read_fields-returns-in_err-field-clause-which t c =
    let k : ℕ = c.args.count - c.loop.counter in
    let m : ℕ = k - 1 in
    let e : k ≡ suc m = omega arith in
    passes (IsFaultAmong c.args.deep (take_branches c.args.count (forest (elements_view (drop c.args.at c.args.elements.now))))) c.from_residual.result c.in_err-field.field-0.0 c.from_residual.ensures.1
    (c.loop.invariant.fault _ (first_fault c.args.deep k m _ _ e c.loop.invariant.enough c.in_err-field.ensures.which))

pub read_fields-loop-preserved : goal.read_fields-loop-preserved
read_fields-loop-preserved t c =
    let k : ℕ = c.args.count - c.loop.counter in
    let m : ℕ = c.args.count - (c.loop.counter + 1) in
    let e : k ≡ suc m = omega arith in
    let F : Branches = forest (elements_view (drop c.loop.at c.args.elements.now)) in
    let G : Branches = forest (elements_view (drop c.in_ok-field.next c.args.elements.now)) in
    let whole : Branches = take_branches c.args.count (forest (elements_view (drop c.args.at c.args.elements.now))) in
    let P : Branch → Type 0 = λ b. IsRead c.args.deep b (field_view c.in_ok-field.field) in
    let behind = first_behind P k m F G _ e c.loop.invariant.enough c.in_ok-field.ensures.stands c.loop.invariant.behind in
    record {
      in_range = omega arith;
      well = c.in_ok-field.ensures.well_formed;
      enough = behind.1;
      behind = behind.0;
      read = λ gs r. subst (λ xs. AreRead c.args.deep whole (join_fields (field_views xs) gs)) (sym c.in_ok-push.ensures.items)
          (first_read c.args.deep k m whole F G c.loop.fields.items c.in_ok-field.field e c.loop.invariant.enough c.loop.invariant.read c.in_ok-field.ensures.stands gs r);
      fault = λ r bad. c.loop.invariant.fault r (later_fault P c.args.deep k m F G r e c.loop.invariant.enough c.in_ok-field.ensures.stands bad);
    }

pub read_fields-returns-clause-stands : goal.read_fields-returns-clause-stands
read_fields-returns-clause-stands t c =
    let F : Branches = forest (elements_view (drop c.loop.at c.args.elements.now)) in
    let whole : Branches = take_branches c.args.count (forest (elements_view (drop c.args.at c.args.elements.now))) in
    let none : 0 ≡ c.args.count - c.loop.counter = omega arith in
    subst (AreRead c.args.deep whole) (join-none (field_views c.loop.fields.items)) (c.loop.invariant.read no_fields (subst (λ n. AreRead c.args.deep (take_branches n F) no_fields) none tt))

pub read_field-returns-in_err-field-clause-which : goal.read_field-returns-in_err-field-clause-which
read_field-returns-in_err-field-clause-which t c =
    passes (λ e. OnFirst (forest (elements_view (drop c.args.at c.args.elements.now))) (λ b bs. IsFaultOf c.args.deep b e)) c.from_residual-in_err-field.result c.in_err-field.field-0.0 c.from_residual-in_err-field.ensures.1
    (group_twins c.args.elements.now c.args.at c.index-elements-at.result c.children.result (c.args.deep - 1) c.args.deep (field_views c.in-Ok.x.0.items) c.in_err-field.field-0.0 c.requires.within c.index-elements-at.is c.children.ensures
    c.in-Ok.ensures.stands c.in_err-field.ensures.which)

pub read_field-returns-clause-stands : goal.read_field-returns-clause-stands
read_field-returns-clause-stands t c =
    let deeper : c.args.deep ≡ suc (c.args.deep - 1) = omega arith in
    group_done c.args.elements.now c.args.at c.index-elements-at.result c.children.result c.in-Ok.x.1 (c.args.deep - 1) c.args.deep (string_bytes c.in_ok-name.name) c.in-Some.repetition (field_views c.in-Ok.x.0.items) _
    c.requires.within c.index-elements-at.is c.requires.well_formed deeper c.in_ok-name.ensures.stands.0 c.in_ok-name.ensures.stands.1 (sym c.repetition_of.ensures ∙ c.in-Some.is) c.in_default-kind.is c.children.ensures
    c.in-Ok.ensures.stands c.in-Ok.ensures.remaining c.in_ok-field.ensures.stands
