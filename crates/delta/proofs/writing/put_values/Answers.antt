use Rattle.std.proofs.Common.{◌≡◌, ℕ, [], ◌∷◌, ◌+◌, length, map, sym, subst, arith, rules, FitsSigned}
use Rattle.std.specs.Int.{w64}
use Rattle.std.proofs.lemmas.Int.{to_z-of_z}
use Rattle.std.proofs.lemmas.List.{length-map}
use Rattle.bits.specs.Codec.{InTurn, Appends}
use Rattle.bits.specs.Varint.{IsShortestUleb, zigzag_of}
use Rattle.delta.specs.inner.Put.{Extends, block_count}
use Rattle.delta.proofs.Putting.{IsWriting, writing_begins, writing_goes_on, writing_ends, header_written}
use Rattle.delta.proofs.WrittenBlocks.{extends, AreBegun, blocks_begin, blocks_go_on, blocks_end, written_header}
use Rattle.delta.proofs.writing.put_values.Goals as goal

pub blocks-2-init : goal.blocks-2-init
blocks-2-init g c =
    let a = c.in_ok-write_uleb.ensures.stands in
    let b = c.in_ok-write_uleb-2.ensures.stands in
    let old = c.args.out.now.items in
    let first : Extends old c.extend_from_slice.new.self.items = (128 ∷ 1 ∷ 4 ∷ [], c.in_ok-extend_from_slice.ensures.items) in
    let second = extends old c.extend_from_slice.new.self.items c.write_uleb.new.out.items a.text first a.joined in
    record {
      writing = writing_begins g.T.Integer.width (map g.T.Integer.seen c.args.values.now) c.write_uleb-2.new.out.items;
      begun = blocks_begin g.T.Integer.width (map g.T.Integer.seen c.args.values.now) c.write_uleb-2.new.out.items;
      front = extends old c.write_uleb.new.out.items c.write_uleb-2.new.out.items b.text second b.joined;
    }

pub returns-in_err-put_block-clause-front : goal.returns-in_err-put_block-clause-front
returns-in_err-put_block-clause-front g c =
    extends c.args.out.now.items c.blocks-2.out.items c.put_block.new.out.items c.in_err-put_block.ensures.front.0 c.blocks-2.invariant.front c.in_err-put_block.ensures.front.1

pub blocks-2-preserved : goal.blocks-2-preserved
blocks-2-preserved g c =
    let see = g.T.Integer.seen in
    let w = g.T.Integer.width in
    let seen = map see c.args.values.now in
    let at = c.blocks-2.at in
    let size : length seen ≡ length c.args.values.now = length-map c.args.values.now see in
    let next : at + block_count seen at ≡ c.min-at.result + at = omega (arith, c.min-at.ensures, size) in
    let begun = c.write_uleb-2.new.out.items in
    record {
      writing = subst (λ (k : ℕ). IsWriting w seen begun c.put_block.new.out.items k) next
          (writing_goes_on w seen begun c.blocks-2.out.items c.put_block.new.out.items at (omega (arith, size, c.blocks-2-test.true)) c.in_ok-put_block.ensures.put c.blocks-2.invariant.writing);
      begun = subst (λ (k : ℕ). AreBegun w seen begun c.put_block.new.out.items k) next
          (blocks_go_on w seen begun c.blocks-2.out.items c.put_block.new.out.items at (omega (arith, size, c.blocks-2-test.true)) c.in_ok-put_block.ensures.written c.blocks-2.invariant.begun);
      front = extends c.args.out.now.items c.blocks-2.out.items c.put_block.new.out.items c.in_ok-put_block.ensures.front.0 c.blocks-2.invariant.front c.in_ok-put_block.ensures.front.1;
    }

pub returns-clause-stands : goal.returns-clause-stands
returns-clause-stands g c =
    let see = g.T.Integer.seen in
    let w = g.T.Integer.width in
    let values = c.args.values.now in
    let seen = map see values in
    let first = c.first_number-first.result in
    let fits : FitsSigned w64 first = search rules in
    let size : length seen ≡ length values = length-map values see in
    let number : zigzag_of first ≡ c.zigzag.result = sym (simp to_z-of_z at c.zigzag.ensures) in
    let counted : Appends (λ bytes used. IsShortestUleb bytes (length seen) used) 10 c.extend_from_slice.new.self.items c.write_uleb.new.out.items =
    subst (λ (k : ℕ). Appends (λ bytes used. IsShortestUleb bytes k used) 10 c.extend_from_slice.new.self.items c.write_uleb.new.out.items) (sym size) c.in_ok-write_uleb.ensures.stands in
    let header = header_written (length seen) c.zigzag.result first c.args.out.now.items c.extend_from_slice.new.self.items c.write_uleb.new.out.items c.write_uleb-2.new.out.items number c.in_ok-extend_from_slice.ensures.items counted c.in_ok-write_uleb-2.ensures.stands in
    writing_ends w seen first c.blocks-2.at c.args.out.now.items c.write_uleb-2.new.out.items c.blocks-2.out.items (omega (arith, size, c.blocks-2-test.false)) c.first_number-first.ensures.is header c.blocks-2.invariant.writing

pub returns-clause-written : goal.returns-clause-written
returns-clause-written g c =
    let see = g.T.Integer.seen in
    let w = g.T.Integer.width in
    let values = c.args.values.now in
    let seen = map see values in
    let first = c.first_number-first.result in
    let fits : FitsSigned w64 first = search rules in
    let size : length seen ≡ length values = length-map values see in
    let number : zigzag_of first ≡ c.zigzag.result = sym (simp to_z-of_z at c.zigzag.ensures) in
    let counted : Appends (λ bytes used. IsShortestUleb bytes (length seen) used) 10 c.extend_from_slice.new.self.items c.write_uleb.new.out.items =
    subst (λ (k : ℕ). Appends (λ bytes used. IsShortestUleb bytes k used) 10 c.extend_from_slice.new.self.items c.write_uleb.new.out.items) (sym size) c.in_ok-write_uleb.ensures.stands in
    let start : Appends (λ bytes used. InTurn IsShortestUleb bytes (128 ∷ 4 ∷ length seen ∷ zigzag_of first ∷ []) used) 23 c.args.out.now.items c.write_uleb-2.new.out.items =
    written_header (length seen) c.zigzag.result first c.args.out.now.items c.extend_from_slice.new.self.items c.write_uleb.new.out.items c.write_uleb-2.new.out.items number c.in_ok-extend_from_slice.ensures.items counted c.in_ok-write_uleb-2.ensures.stands in
    blocks_end w seen first c.blocks-2.at c.args.out.now.items c.write_uleb-2.new.out.items c.blocks-2.out.items (omega (arith, size, c.blocks-2-test.false)) c.first_number-first.ensures.first start c.blocks-2.invariant.begun
    (returns-clause-stands g c)
