use Rattle.std.proofs.Common.{◌≡◌, [], get_or, string_bytes, ap, sym, subst, ◌∙◌, arith, refl}
use Rattle.std.proofs.Math.ListN.{set}
use Rattle.std.proofs.lemmas.Result.{IfErr-weaker, on_ok_weaker}
use Rattle.bits.specs.Faults.{refusal_of}
use Rattle.schema.specs.declared.value.Repetition.TheVariants.{Optional}
use Rattle.schema.specs.Law.{IsValid}
use Rattle.schema.specs.Shape.{repetition_of}
use Rattle.schema.specs.Views.{field_view, leaf_type_view}
use Rattle.schema.proofs.OneLevel.{view_leaf}
use Rattle.assemble.specs.Sinks.{tokens}
use Rattle.assemble.specs.inner.Fronts.{stripes, stripes_inside, wants, wants_inside, Fit, FitInside}
use Rattle.assemble.specs.inner.ReadValues.{Reads, IsFaulty}
use Rattle.assemble.specs.inner.Steps.{IsLeafFaulty, IsOptionalFaulty, ReadsLeaf, ReadsOptional}
use Rattle.assemble.proofs.Groups.{faulty_leaf_at, faulty_optional_at}
use Rattle.assemble.proofs.Readings.{faulty_required}
use Rattle.assemble.proofs.Showing.{visits_up}
use Rattle.assemble.proofs.Standing.{same_self, stand_get, stand_length, causes_set, refused_at}
use Rattle.assemble.proofs.Taking.{reads_required, reads_leaf, reads_optional}
use Rattle.assemble.proofs.reading.read_single.Goals as goal

pub returns-in-Required-clause-reads : goal.returns-in-Required-clause-reads
returns-in-Required-clause-reads g c =
    let S = g.S.EntrySource.stands in
    let xs = c.args.sources.now in
    let y = c.read_leaf.new.source in
    let r = c.args.place.repetition in
    let d = c.args.place.definition in
    let k = c.args.place.own in
    let lt = leaf_type_view c.in-Leaf.leaf_type in
    let f = field_view c.args.field.now in
    let is = ap field_view c.in-Leaf.is ∙ view_leaf c.in-Leaf.name c.in-Leaf.repetition c.in-Leaf.leaf_type in
    on_ok_weaker c.read_leaf.result
    (visits_up (g.K.RowSink.shows c.args.sink.now) (g.K.RowSink.shows c.read_leaf.new.sink) tokens (ReadsLeaf lt r d (S (get_or xs 0 c.index-sources-0.result)) (S y)) (Reads S (Fit f) (stripes f r d k) k xs (set xs 0 y))
    (λ v h. reads_required S f (sym c.repetition.ensures ∙ c.in-Required.is) r d k xs (set xs 0 y) v (same_self S xs)
    (subst (λ h. Reads S (FitInside h) (stripes_inside h r d k) k xs (set xs 0 y) v) (sym is) (reads_leaf S (string_bytes c.in-Leaf.name) c.in-Leaf.repetition lt r d k xs c.index-sources-0.result y v c.requires.room h.fits h.first))))
    c.read_leaf.ensures.reads

pub returns-in-Required-clause-refused : goal.returns-in-Required-clause-refused
returns-in-Required-clause-refused g c =
    let S = g.S.EntrySource.stands in
    let R = g.S.EntrySource.refused in
    let xs = c.args.sources.now in
    let y = c.read_leaf.new.source in
    let r = c.args.place.repetition in
    let d = c.args.place.definition in
    let k = c.args.place.own in
    let lt = leaf_type_view c.in-Leaf.leaf_type in
    let f = field_view c.args.field.now in
    let is = ap field_view c.in-Leaf.is ∙ view_leaf c.in-Leaf.name c.in-Leaf.repetition c.in-Leaf.leaf_type in
    let some = c.requires.room in
    IfErr-weaker c.read_leaf.result _ _
    (λ x. refused_at S R g.S.EntrySource.cause xs xs 0 c.index-sources-0.result y (IsLeafFaulty r d lt) (IsFaulty (Fit f) (stripes f r d k) k (wants f d)) (refusal_of x) some refl (λ _ h. h)
    (λ cs s.
    let size = stand_length S xs cs s in (
      get_or cs 0 [],
      (
        stand_get S xs cs 0 c.index-sources-0.result some s,
        λ h. faulty_required f (sym c.repetition.ensures ∙ c.in-Required.is) r d k cs (refusal_of x)
            (subst (λ f. IsFaulty (FitInside f) (stripes_inside f r d k) k (wants_inside f d) cs (refusal_of x)) (sym is) (faulty_leaf_at (string_bytes c.in-Leaf.name) c.in-Leaf.repetition lt r d k cs (omega (arith, size, some)) (refusal_of x) h)),
      ),
    )))
    c.read_leaf.ensures.refused

pub returns-in-Optional-clause-reads : goal.returns-in-Optional-clause-reads
returns-in-Optional-clause-reads g c =
    let S = g.S.EntrySource.stands in
    let xs = c.args.sources.now in
    let y = c.read_optional.new.source in
    let r = c.args.place.repetition in
    let d = c.args.place.definition in
    let k = c.args.place.own in
    let lt = leaf_type_view c.in-Leaf.leaf_type in
    let f = field_view c.args.field.now in
    let is = ap field_view c.in-Leaf.is ∙ view_leaf c.in-Leaf.name c.in-Leaf.repetition c.in-Leaf.leaf_type in
    let x : c.in-Leaf.repetition ≡ Optional = sym (ap repetition_of is) ∙ sym c.repetition.ensures ∙ c.in-Optional.is in
    on_ok_weaker c.read_optional.result
    (visits_up (g.K.RowSink.shows c.args.sink.now) (g.K.RowSink.shows c.read_optional.new.sink) tokens (ReadsOptional lt r d (S (get_or xs 0 c.index-sources-0-in-Optional.result)) (S y)) (Reads S (Fit f) (stripes f r d k) k xs (set xs 0 y))
    (λ v h. subst (λ h. Reads S (Fit h) (stripes h r d k) k xs (set xs 0 y) v) (sym is)
    (reads_optional S (string_bytes c.in-Leaf.name) c.in-Leaf.repetition lt x (subst IsValid is c.requires.valid) r d k xs c.index-sources-0-in-Optional.result y v c.requires.room h)))
    c.read_optional.ensures.reads

pub returns-in-Optional-clause-refused : goal.returns-in-Optional-clause-refused
returns-in-Optional-clause-refused g c =
    let S = g.S.EntrySource.stands in
    let R = g.S.EntrySource.refused in
    let xs = c.args.sources.now in
    let y = c.read_optional.new.source in
    let r = c.args.place.repetition in
    let d = c.args.place.definition in
    let k = c.args.place.own in
    let lt = leaf_type_view c.in-Leaf.leaf_type in
    let f = field_view c.args.field.now in
    let is = ap field_view c.in-Leaf.is ∙ view_leaf c.in-Leaf.name c.in-Leaf.repetition c.in-Leaf.leaf_type in
    let x : c.in-Leaf.repetition ≡ Optional = sym (ap repetition_of is) ∙ sym c.repetition.ensures ∙ c.in-Optional.is in
    let some = c.requires.room in
    IfErr-weaker c.read_optional.result _ _
    (λ e. refused_at S R g.S.EntrySource.cause xs xs 0 c.index-sources-0-in-Optional.result y (IsOptionalFaulty r d lt) (IsFaulty (Fit f) (stripes f r d k) k (wants f d)) (refusal_of e) some refl (λ _ h. h)
    (λ cs s.
    let size = stand_length S xs cs s in
    (get_or cs 0 [], (stand_get S xs cs 0 c.index-sources-0-in-Optional.result some s, λ h. subst (λ f. IsFaulty (Fit f) (stripes f r d k) k (wants f d) cs (refusal_of e)) (sym is) (faulty_optional_at (string_bytes c.in-Leaf.name) c.in-Leaf.repetition lt x r d k cs (omega (arith, size, some)) (refusal_of e) h)))))
    c.read_optional.ensures.refused

pub returns-in-Required-clause-causes_stay : goal.returns-in-Required-clause-causes_stay
returns-in-Required-clause-causes_stay g c = causes_set g.S.EntrySource.cause c.args.sources.now 0 c.index-sources-0.result c.read_leaf.new.source c.requires.room c.read_leaf.ensures.causes_stay

pub returns-in-Optional-clause-causes_stay : goal.returns-in-Optional-clause-causes_stay
returns-in-Optional-clause-causes_stay g c = causes_set g.S.EntrySource.cause c.args.sources.now 0 c.index-sources-0-in-Optional.result c.read_optional.new.source c.requires.room c.read_optional.ensures.causes_stay
