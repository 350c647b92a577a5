use Rattle.std.proofs.Common.{get_or, Fits, w8, ◌≡◌, ◌∙◌, ◌-◌, ◌<◌, List, ℕ, length, ap, arith}
use Rattle.byteorder.specs.Endian.{little_number}
use Rattle.footer.specs.Faults.{long_footer}
use Rattle.footer.proofs.Frames.{framed, not_framed, over, not_long}
use Rattle.footer.proofs.footer_reading.parts_of.Goals as goal

below : (bytes : List ℕ) → ((i : ℕ) → Fits w8 (get_or bytes i 0)) → (i : ℕ) → get_or bytes i 0 < 256
below bytes are i = let b = are i in omega (arith, b)

pub returns-then-size-gt-MOST_BYTES_OF_FOOTER-clause-which : goal.returns-then-size-gt-MOST_BYTES_OF_FOOTER-clause-which
returns-then-size-gt-MOST_BYTES_OF_FOOTER-clause-which c =
    let bytes = c.args.bytes.now in
    let magics = c.has_magic.ensures.magic c.if-not-has_magic.false in
    long_footer (over bytes (below bytes c.type_inv.bytes) c.if-bytes-lt12.false magics.0 magics.1 c.read_u32-size.result (c.read_u32-size.ensures ∙ ap (λ t. little_number 4 t) c.split_at.ensures.back) c.read_u32-size.type_inv c.if-size-gt-MOST_BYTES_OF_FOOTER.true)

pub returns-then-size-head-clause-only : goal.returns-then-size-head-clause-only
returns-then-size-head-clause-only c = λ fault front footer p.
    let bytes = c.args.bytes.now in
    not_framed bytes front footer p c.read_u32-size.result (c.read_u32-size.ensures ∙ ap (λ t. little_number 4 t) c.split_at.ensures.back) (let h = c.if-size-head.true in let e = c.if-bytes-lt12.false in omega (arith, h, e, c.split_at.ensures.front_len))

pub returns-clause-framed : goal.returns-clause-framed
returns-clause-framed c =
    let bytes = c.args.bytes.now in
    let magics = c.has_magic.ensures.magic c.if-not-has_magic.false in
    let size = c.read_u32-size.result in
    let e = c.if-bytes-lt12.false in
    let f = c.if-size-head.false in
    let n : length c.split_at.result.0.now ≡ length bytes - 8 = omega (arith, e, c.split_at.ensures.front_len) in
    let r = framed bytes (below bytes c.type_inv.bytes) e magics.0 magics.1 size (c.read_u32-size.ensures ∙ ap (λ t. little_number 4 t) c.split_at.ensures.back) c.read_u32-size.type_inv (omega (arith, e, f, n)) in
    rw (c.split_at-2.ensures.front, c.split_at-2.ensures.back, n, c.split_at.ensures.front) r

pub returns-clause-within_limits : goal.returns-clause-within_limits
returns-clause-within_limits c =
    not_long c.args.bytes.now c.read_u32-size.result (omega arith) (c.read_u32-size.ensures ∙ ap (λ t. little_number 4 t) c.split_at.ensures.back) (omega arith)
