use Rattle.std.proofs.Common.{◌≡◌, ◌∷◌, [], ◌∙◌, Bool, Ok, List, refl, sym, subst}
use Rattle.schema.specs.Shape.{Fields}
use Rattle.schema.specs.Fits.{RowsFit}
use Rattle.row_group.specs.Left.{TakesRowTo}
use Rattle.footer.specs.Writer.{has_rows, schema_of, options_of, writer_shows, options_token}
use Rattle.shred.specs.inner.Opening.{schema_token, rows_token}
use Rattle.scan.specs.Left.{rows_stand}
use Rattle.answers.proofs.PartsGiven.{pushed}
use Rattle.answers.proofs.part_writer.PartWriter.push_next.Goals as goal

pub returns-then-not-branch-clause-takes : goal.returns-then-not-branch-clause-takes
returns-then-not-branch-clause-takes g c = λ rows s.
    let S = rows_stand c.args.rows.now in
    let T = rows_stand c.show_next.new.self in
    let takes = subst (λ (b : Bool). TakesRowTo S T (writer_shows c.begin_row.new.self) (writer_shows c.show_next.new.sink) (Ok b)) c.if-not-branch.true c.in_ok-show_next.ensures.takes in
    (takes rows s).0

pub returns-clause-takes : goal.returns-clause-takes
returns-clause-takes g c = λ rows s fit.
    let S = rows_stand c.args.rows.now in
    let T = rows_stand c.show_next.new.self in
    let room = c.make_room.new.self in
    let fs = schema_of room.writer in
    let o = options_of room.writer in
    let takes = subst (λ (b : Bool). TakesRowTo S T (writer_shows c.begin_row.new.self) (writer_shows c.show_next.new.sink) (Ok b)) c.if-not-branch.false c.in_ok-show_next.ensures.takes in
    let t = takes rows s in
    let fits : RowsFit c.args.self.now.schema.now (t.first ∷ t.rest) = subst (RowsFit c.args.self.now.schema.now) t.split fit in
    record {
      first = t.first;
      rest = t.rest;
      split = t.split;
      stands = t.stands;
      takes = λ from had has.
          let given = c.in_ok-make_room.ensures.goes_on from had has in
          let same : c.args.self.now.schema.now ≡ fs = sym (given.schema ∙ c.make_room.ensures.same.0) in
          let shows = λ (held : List _) (are : has_rows room.writer held). t.shown (schema_token fs ∷ rows_token held ∷ options_token o ∷ []) (c.in_ok-begin_row.ensures.begins held are) in
          let of = c.end_row.ensures.of fs o given.waiting t.first (shows given.waiting given.has) in
          pushed room _ (refl, refl, refl) from _ had t.first given (λ held are. c.in_ok-end_row.ensures.stands fs o held t.first (shows held are) (subst (λ (f : Fields). RowsFit f (t.first ∷ [])) same (fits.0, tt)).0) of.0 of.1;
    }
