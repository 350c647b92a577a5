use Rattle.std.proofs.Common.{◌∙◌, Bool, ℕ, List, Ok, refl, sym, subst}
use Rattle.std.specs.Prelude.{MatchResult}
use Rattle.vault.proofs.Chained.{refused}
use Rattle.places.specs.Blocks.{AreKnown}
use Rattle.commands.specs.FileLines.{AreRefusedOf}
use Rattle.commands.specs.inner.GatheredRows.{HasRead, HasReadAll, GathersBlock}
use Rattle.commands.proofs.BlocksRead.{none_read, of_shut}
use Rattle.commands.proofs.gathering.LineGatherer.gather_file.Goals as goal

pub reads-init : goal.reads-init
reads-init g c = record {
  read = λ texts root options held.
      let start = g.B.BlockReader.left c.args.file.now in
      subst (λ (waiting : List ℕ). HasRead texts root options start start waiting c.args.self.now) (sym c.new-waiting.ensures.items) (none_read texts root options start c.args.self.now held);
  shut = λ h. h;
  quiet = λ hidden. refl;
  hidden = refl;
}

pub reads-preserved : goal.reads-preserved
reads-preserved g c =
    let l = c.reads in
    let left = g.B.BlockReader.left in
    let shut = g.B.BlockReader.is_shut l.file in
    let block = c.in_ok-gather_block.ensures in
    record {
      read = λ texts root options held.
          let start = left c.args.file.now in
          subst (λ (b : Bool). GathersBlock texts root options start (left c.gather_block.new.file) shut c.gather_block.new.waiting.items c.gather_block.new.self (Ok b)) c.if-not-branch.false
          (block.gathers texts root options start (l.invariant.read texts root options held));
      shut = λ h. l.invariant.shut (c.gather_block.ensures.shut h);
      quiet = λ hidden. c.gather_block.ensures.quiet (l.invariant.hidden ∙ hidden) ∙ l.invariant.quiet hidden;
      hidden = c.gather_block.ensures.hidden ∙ l.invariant.hidden;
    }

pub returns-then-not-branch-clause-gathers : goal.returns-then-not-branch-clause-gathers
returns-then-not-branch-clause-gathers g c = λ texts root options held.
    let l = c.reads in
    let left = g.B.BlockReader.left in
    let start = left c.args.file.now in
    subst (λ (b : Bool). GathersBlock texts root options start (left c.gather_block.new.file) (g.B.BlockReader.is_shut l.file) c.gather_block.new.waiting.items c.gather_block.new.self (Ok b))
    c.if-not-branch.true (c.in_ok-gather_block.ensures.gathers texts root options start (l.invariant.read texts root options held))

pub returns-in_err-gather_block-clause-gathers : goal.returns-in_err-gather_block-clause-gathers
returns-in_err-gather_block-clause-gathers g c = λ texts root options held.
    let l = c.reads in
    let start = g.B.BlockReader.left c.args.file.now in
    let shut = g.B.BlockReader.is_shut in
    let e = c.in_err-gather_block.field-0.0 in
    refused (λ r. MatchResult r (λ _. HasReadAll texts root options start c.gather_block.new.self) (AreRefusedOf (shut c.args.file.now) (AreKnown start) texts root.schema))
    c.from_residual.result e c.from_residual.ensures.1
    (of_shut l.invariant.shut (AreKnown start) (AreKnown start) (λ bytes are. are) texts root.schema e
    (c.in_err-gather_block.ensures.gathers texts root options start (l.invariant.read texts root options held)))
