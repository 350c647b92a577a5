use Rattle.std.proofs.Common.{◌≡◌, ◌∙◌, ◌<◌, ◌+◌, ◌^◌, ◌++◌, ℕ, List, take, false, refl, ap, subst}
use Rattle.std.specs.Prelude.{IsUtf8}
use Rattle.std.specs.Str.Lines.{lines}
use Rattle.bits.specs.declared.refusal.Refusal.TheVariants.{Limit}
use Rattle.bits.specs.Refusals.{HasCause}
use Rattle.vault.proofs.Chained.{refused}
use Rattle.places.specs.Blocks.{AreKnown}
use Rattle.commands.specs.FileLines.{AreRefusedIn}
use Rattle.commands.specs.inner.LineCuts.{IsLineLength, IsWholeLength}
use Rattle.commands.specs.inner.GatheredRows.{HoldsLines, GathersBlock}
use Rattle.commands.proofs.BlocksRead.{of_device, block_read, read_by, length_refused, piece_refused, piece_gathered}
use Rattle.commands.proofs.gathering.LineGatherer.gather_block.Goals as goal

pub returns-in_err-is_more-clause-gathers : goal.returns-in_err-is_more-clause-gathers
returns-in_err-is_more-clause-gathers g c = λ texts root options start h.
    let shut = g.B.BlockReader.is_shut c.args.file.now in
    let e = c.in_err-is_more.field-0.0 in
    refused (GathersBlock texts root options start (g.B.BlockReader.left c.read_block.new.self) shut c.read_block.new.buffer.items c.args.self.now) c.from_residual.result e c.from_residual.ensures.1
    (of_device shut (AreKnown start) texts root.schema e c.in_err-is_more.ensures.refused)

pub returns-in_err-check_length-clause-gathers : goal.returns-in_err-check_length-clause-gathers
returns-in_err-check_length-clause-gathers g c = λ texts root options start h.
    let left = g.B.BlockReader.left in
    let shut = g.B.BlockReader.is_shut c.args.file.now in
    let waiting = c.read_block.new.buffer.items in
    let read = block_read texts root options start (left c.args.file.now) (left c.read_block.new.self) c.args.waiting.now.items waiting c.in_ok-is_more.is_more c.args.self.now
    c.in_ok-is_more.ensures.read h in
    let e = c.in_err-check_length.field-0.0 in
    refused (GathersBlock texts root options start (left c.read_block.new.self) shut waiting _) c.from_residual-in_err-check_length.result e c.from_residual-in_err-check_length.ensures.1
    (length_refused texts root options start (left c.read_block.new.self) waiting c.args.self.now read shut e
    (subst (λ (t : List ℕ). HasCause (λ f. (f ≡ Limit) × (n : ℕ) × (2 ^ 30 + 2 < n) × IsLineLength t n) e) c.as_slice-bytes.ensures.value c.in_err-check_length.ensures.which))

pub returns-in_err-gather_bytes-clause-gathers : goal.returns-in_err-gather_bytes-clause-gathers
returns-in_err-gather_bytes-clause-gathers g c = λ texts root options start h.
    let left = g.B.BlockReader.left in
    let shut = g.B.BlockReader.is_shut c.args.file.now in
    let waiting = c.read_block.new.buffer.items in
    let some = c.in_ok-is_more.is_more in
    let read = read_by texts root options start (left c.read_block.new.self) waiting c.args.self.now _ refl refl refl
    (block_read texts root options start (left c.args.file.now) (left c.read_block.new.self) c.args.waiting.now.items waiting some c.args.self.now c.in_ok-is_more.ensures.read h) in
    let is_whole = subst (λ (t : List ℕ). IsWholeLength t some c.whole_length-whole.result) c.as_slice-bytes.ensures.value c.whole_length-whole.ensures.is in
    let piece = c.split_at.ensures.front ∙ ap (take c.whole_length-whole.result) c.as_slice-bytes.ensures.value in
    let over = λ (none : some ≡ false). (c.in_ok-is_more.ensures.read.over none).1 in
    let e = c.in_err-gather_bytes.field-0.0 in
    refused (GathersBlock texts root options start (left c.read_block.new.self) shut waiting _) c.from_residual-in_err-gather_bytes.result e c.from_residual-in_err-gather_bytes.ensures.1
    (piece_refused texts root options start (left c.read_block.new.self) waiting _ read shut some c.whole_length-whole.result is_whole over e
    (subst (λ (t : List ℕ). AreRefusedIn texts root.schema (lines read.given ++ lines t) e) piece (c.in_err-gather_bytes.ensures.gathers texts root options (lines read.given) read.held)))

pub returns-clause-gathers : goal.returns-clause-gathers
returns-clause-gathers g c = λ texts root options start h.
    let left = g.B.BlockReader.left in
    let shut = g.B.BlockReader.is_shut c.args.file.now in
    let waiting = c.read_block.new.buffer.items in
    let some = c.in_ok-is_more.is_more in
    let read = read_by texts root options start (left c.read_block.new.self) waiting c.args.self.now _ refl refl refl
    (block_read texts root options start (left c.args.file.now) (left c.read_block.new.self) c.args.waiting.now.items waiting some c.args.self.now c.in_ok-is_more.ensures.read h) in
    let is_whole = subst (λ (t : List ℕ). IsWholeLength t some c.whole_length-whole.result) c.as_slice-bytes.ensures.value c.whole_length-whole.ensures.is in
    let piece = c.split_at.ensures.front ∙ ap (take c.whole_length-whole.result) c.as_slice-bytes.ensures.value in
    let over = λ (none : some ≡ false). (c.in_ok-is_more.ensures.read.over none).1 in
    let got = c.in_ok-gather_bytes.ensures.gathers texts root options (lines read.given) read.held in
    piece_gathered texts root options start (left c.read_block.new.self) waiting _ read shut some c.whole_length-whole.result is_whole over c.gather_bytes.new.self
    c.forget.new.bytes.items c.forget.ensures (subst IsUtf8 piece got.0)
    (subst (λ (t : List ℕ). HoldsLines texts root options (lines read.given ++ lines t) c.gather_bytes.new.self) piece got.1)
