use Rattle.std.proofs.Common.{◌≡◌, ℕ, ◌+◌, ◌-◌, ◌*◌, ◌/◌, ◌^◌, ◌<◌, ◌≤◌, ◌++◌, ◌∙◌, length, map, take, drop, replicate, sym, ap, subst, arith, rules, FitsSigned}
use Rattle.std.specs.Prelude.{pos, ◌+ℤ◌, slice_index}
use Rattle.std.specs.Int.{w64, byte_len}
use Rattle.std.proofs.lemmas.Int.{to_z-of_z}
use Rattle.std.proofs.lemmas.List.{length-map}
use Rattle.std.proofs.lemmas.List.Elements.{All-take, All-drop}
use Rattle.bits.specs.Codec.{Appends}
use Rattle.bits.specs.Varint.{zigzag_of}
use Rattle.delta.specs.inner.Taken.{Adds, deltas_of}
use Rattle.delta.specs.Written.{deltas_from, IsLeast, IsWrittenBlock}
use Rattle.delta.specs.inner.Put.{block_count}
use Rattle.delta.proofs.Putting.{block_put}
use Rattle.delta.proofs.WrittenBlocks.{extends, written_block, deltas_count}
use Rattle.delta.proofs.writing.put_block.Goals as goal

pub returns-clause-put : goal.returns-clause-put
returns-clause-put g c =
    let see = g.T.Integer.seen in
    let seen = map see c.args.values.now in
    let w = g.T.Integer.width in
    let at = c.args.at in
    let k = c.div_ceil-needed.result in
    let least = c.least_delta-least.result in
    let numbers = c.block_numbers-numbers.result in
    let ws = c.widths_of-widths.result in
    let fits : FitsSigned w64 least = search rules in
    let size : length seen ≡ length c.args.values.now = length-map c.args.values.now see in
    let needed : k ≡ (block_count seen at + 31) / 32 = omega (arith, c.div_ceil-needed.ensures, c.min.ensures, size) in
    let number : zigzag_of least ≡ c.zigzag.result = sym (simp to_z-of_z at c.zigzag.ensures) in
    let added : Adds w (deltas_of least (take (block_count seen at) numbers)) (take at seen) (take (at + block_count seen at) seen) = simp to_z-of_z at c.block_numbers-numbers.ensures.added in
    block_put w seen at k c.zigzag.result least ws numbers c.args.out.now.items c.write_uleb.new.out.items c.extend_from_slice.new.self.items c.put_miniblocks.new.out.items c.block_numbers-numbers.ensures.count needed number
    c.in_ok-write_uleb.ensures.stands c.widths_of-widths.ensures.count c.in_ok-extend_from_slice.ensures.items
    (c.in_ok-put_miniblocks.ensures.stands (byte_len w) (λ m lt. c.widths_of-widths.ensures.wide (8 * byte_len w) m lt (All-take (λ x. x < 2 ^ (8 * byte_len w)) 32 (drop (32 * m) numbers) (All-drop (λ x. x < 2 ^ (8 * byte_len w)) (32 * m) numbers c.block_numbers-numbers.ensures.narrow)))) added

pub returns-clause-written : goal.returns-clause-written
returns-clause-written g c =
    let see = g.T.Integer.seen in
    let seen = map see c.args.values.now in
    let w = g.T.Integer.width in
    let at = c.args.at in
    let k = c.div_ceil-needed.result in
    let least = c.least_delta-least.result in
    let numbers = c.block_numbers-numbers.result in
    let ws = c.widths_of-widths.result in
    let deltas = deltas_from w seen (at - 1) in
    let fits : FitsSigned w64 least = search rules in
    let size : length seen ≡ length c.args.values.now = length-map c.args.values.now see in
    let needed : k ≡ (block_count seen at + 31) / 32 = omega (arith, c.div_ceil-needed.ensures, c.min.ensures, size) in
    let count : length deltas ≡ block_count seen at = deltas_count w seen at c.requires.begun in
    let number : zigzag_of least ≡ c.zigzag.result = sym (simp to_z-of_z at c.zigzag.ensures) in
    let least_is : IsLeast deltas least = c.least_delta-least.ensures.least in
    let above : map (λ x. least +ℤ pos x) numbers ≡ deltas ++ replicate (128 - length deltas) least = (simp to_z-of_z at c.block_numbers-numbers.ensures.exact) c.least_delta-least.ensures.fits least_is in
    let narrow : (m : ℕ) → m < 4 → slice_index ws m ≤ 8 * byte_len w =
    λ m lt. c.widths_of-widths.ensures.wide (8 * byte_len w) m lt (All-take (λ x. x < 2 ^ (8 * byte_len w)) 32 (drop (32 * m) numbers) (All-drop (λ x. x < 2 ^ (8 * byte_len w)) (32 * m) numbers c.block_numbers-numbers.ensures.narrow)) in
    subst (λ (i : ℕ). Appends (λ bytes. IsWrittenBlock w bytes deltas) (14 + 32 * byte_len w * i) c.args.out.now.items c.put_miniblocks.new.out.items) needed
    (written_block w deltas least k c.zigzag.result ws numbers c.args.out.now.items c.write_uleb.new.out.items c.extend_from_slice.new.self.items c.put_miniblocks.new.out.items number (needed ∙ ap (λ (n : ℕ). (n + 31) / 32) (sym count)) least_is above
    (λ m lt. record { enough = c.widths_of-widths.ensures.narrow m lt; fewest = λ b. c.widths_of-widths.ensures.wide b m lt }) narrow c.in_ok-write_uleb.ensures.stands c.widths_of-widths.ensures.count c.in_ok-extend_from_slice.ensures.items
    (c.in_ok-put_miniblocks.ensures.stands (byte_len w) narrow))

pub returns-clause-front : goal.returns-clause-front
returns-clause-front g c =
    let head = c.in_ok-write_uleb.ensures.stands in
    let body = c.in_ok-put_miniblocks.ensures.front in
    extends c.args.out.now.items c.extend_from_slice.new.self.items c.put_miniblocks.new.out.items body.0
    (extends c.args.out.now.items c.write_uleb.new.out.items c.extend_from_slice.new.self.items c.widths_of-widths.result (head.text, head.joined) c.in_ok-extend_from_slice.ensures.items) body.1

pub returns-in_err-put_miniblocks-clause-front : goal.returns-in_err-put_miniblocks-clause-front
returns-in_err-put_miniblocks-clause-front g c =
    let head = c.in_ok-write_uleb.ensures.stands in
    let body = c.in_err-put_miniblocks.ensures.front in
    extends c.args.out.now.items c.extend_from_slice.new.self.items c.put_miniblocks.new.out.items body.0
    (extends c.args.out.now.items c.write_uleb.new.out.items c.extend_from_slice.new.self.items c.widths_of-widths.result (head.text, head.joined) c.in_ok-extend_from_slice.ensures.items) body.1
