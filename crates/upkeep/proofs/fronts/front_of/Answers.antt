use Rattle.std.proofs.Common.{◌≡◌, ◌-◌, length, ap, ◌∙◌, arith}
use Rattle.byteorder.specs.Endian.{little_number}
use Rattle.footer.proofs.Frames.{parts}
use Rattle.upkeep.proofs.Fronting.{front_is, fits}
use Rattle.upkeep.proofs.fronts.front_of.Goals as goal

pub returns-then-bytes-lt12 : goal.returns-then-bytes-lt12
returns-then-bytes-lt12 c = λ front meta file.
    let q = parts c.args.bytes.now front file.footer file.framed in
    absurd (let a = q.enough in let b = c.if-bytes-lt12.true in omega (arith, a, b))

pub returns-then-size-head : goal.returns-then-size-head
returns-then-size-head c = λ front meta file.
    let bytes = c.args.bytes.now in
    let is = c.read_u32-size.ensures ∙ ap (λ t. little_number 4 t) c.split_at.ensures.back in
    let both = fits bytes front file.footer file.framed c.read_u32-size.result is in
    absurd (let a = both.1 in let b = c.if-size-head.true in let d = both.0 in omega (arith, a, b, d, c.split_at.ensures.front_len))

pub returns : goal.returns
returns c = λ front meta file.
    let bytes = c.args.bytes.now in
    let is = c.read_u32-size.ensures ∙ ap (λ t. little_number 4 t) c.split_at.ensures.back in
    let both = fits bytes front file.footer file.framed c.read_u32-size.result is in
    let e = both.0 in
    let n : length c.split_at.result.0.now ≡ length bytes - 8 = omega (arith, e, c.split_at.ensures.front_len) in
    rw (c.split_at-2.ensures.front, n, c.split_at.ensures.front) (front_is bytes front file.footer file.framed c.read_u32-size.result is)
