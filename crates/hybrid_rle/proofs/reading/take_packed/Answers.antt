use Rattle.std.proofs.Common.{◌≡◌, ◌∙◌, List, ℕ, inl, inr, arith, length, map, take, sym, subst}
use Rattle.std.proofs.lemmas.List.{map-append, length-map}
use Rattle.bits.specs.Refusals.{IsFault}
use Rattle.bits.specs.Bits.{IsPacked}
use Rattle.bits.proofs.Passing.{passes}
use Rattle.hybrid_rle.specs.Hybrid.{IsBody}
use Rattle.hybrid_rle.specs.inner.Taken.{Lacks}
use Rattle.hybrid_rle.proofs.Taking.{EndsAt, ends_whole, ends_with_bytes, IsWanted, packed_taken, packed_lacks}
use Rattle.hybrid_rle.proofs.reading.take_packed.Goals as goal
use Rattle.hybrid_rle.proofs.reading.take_packed.Goals.{then-whole-bytes, else-whole-bytes, then-groups-left, else-groups-left}

pub returns-in_err-packed-clause-only : goal.returns-in_err-packed-clause-only
returns-in_err-packed-clause-only g c =
    let w = c.args.width in
    let h = c.args.header in
    let bytes = c.args.bytes.now in
    let size = c.if-whole-bytes.size in
    let count = c.if-groups-left.count in
    let end : EndsAt w h size (length bytes) = elim c.if-whole-bytes.branch [
      | then-whole-bytes b ↦ ends_whole w h size (length bytes) c.from-groups.result c.from.result c.from-groups.ensures c.from.ensures b.size-is b.if-whole-bytes.true
      | else-whole-bytes b ↦ ends_with_bytes w h size (length bytes) c.from-groups.result c.from.result c.from-groups.ensures c.from.ensures b.size-is b.if-whole-bytes.false
    ] in
    let wanted : IsWanted w h c.args.left bytes size count = elim c.if-groups-left.branch [
      | then-groups-left b ↦ record { end = end; few = omega (arith, c.from-groups.ensures); held = omega (arith, c.from-groups.ensures); which = inr (omega (arith, c.from-groups.ensures)) }
      | else-groups-left b ↦ record { end = end; few = omega (arith, c.from-groups.ensures); held = omega (arith, c.from-groups.ensures); which = inl (omega (arith, c.from-groups.ensures)) }
    ] in
    passes (λ e. IsFault e → Lacks (IsBody w h) bytes c.args.left) c.from_residual.result c.in_err-packed.field-0.0 c.from_residual.ensures.1
    (λ fault. packed_lacks w h c.args.left size count bytes c.requires.odd wanted (subst (λ (t : List ℕ). (numbers : List ℕ) → length numbers ≡ count → IsPacked t w numbers → ⊥) c.split_at.ensures.front (c.in_err-packed.ensures.only fault)))

pub returns-clause-numbers : goal.returns-clause-numbers
returns-clause-numbers g c =
    let w = c.args.width in
    let h = c.args.header in
    let bytes = c.args.bytes.now in
    let size = c.if-whole-bytes.size in
    let count = c.if-groups-left.count in
    let seen = g.T.Number.seen in
    let packed = c.in_ok-packed.packed in
    let old = c.args.numbers.now.items in
    let end : EndsAt w h size (length bytes) = elim c.if-whole-bytes.branch [
      | then-whole-bytes b ↦ ends_whole w h size (length bytes) c.from-groups.result c.from.result c.from-groups.ensures c.from.ensures b.size-is b.if-whole-bytes.true
      | else-whole-bytes b ↦ ends_with_bytes w h size (length bytes) c.from-groups.result c.from.result c.from-groups.ensures c.from.ensures b.size-is b.if-whole-bytes.false
    ] in
    let wanted : IsWanted w h c.args.left bytes size count = elim c.if-groups-left.branch [
      | then-groups-left b ↦ record { end = end; few = omega (arith, c.from-groups.ensures); held = omega (arith, c.from-groups.ensures); which = inr (omega (arith, c.from-groups.ensures)) }
      | else-groups-left b ↦ record { end = end; few = omega (arith, c.from-groups.ensures); held = omega (arith, c.from-groups.ensures); which = inl (omega (arith, c.from-groups.ensures)) }
    ] in
    let read = c.in_ok-packed.ensures.stands in
    let len : packed.len ≡ length packed.items = packed.ok.0 in
    let many : length (map seen packed.items) ≡ count = length-map packed.items seen ∙ sym len ∙ read.0 in
    let stand : IsPacked (take size bytes) w (map seen packed.items) = subst (λ (t : List ℕ). IsPacked t w (map seen packed.items)) c.split_at.ensures.front read.1 in
    rw (c.in_ok-extend_from_slice.ensures.items, c.deref.ensures.value, map-append seen old packed.items) (packed_taken w h c.args.left size count bytes (map seen old) (map seen packed.items) c.requires.odd wanted many stand)
