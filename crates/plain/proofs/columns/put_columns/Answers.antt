use Rattle.std.proofs.Common.{◌≡◌, ◌+◌, ◌-◌, ◌*◌, ◌++◌, ℕ, List, length, take, drop, sym, ap, subst, ◌∙◌, arith, take_at, replicate}
use Rattle.std.specs.Prelude.{vec_len}
use Rattle.plain.specs.inner.ByColumns.{AppendsColumns}
use Rattle.plain.proofs.ByColumns.{columns_put}
use Rattle.plain.proofs.PlacedTexts.{kept_front}
use Rattle.plain.proofs.columns.put_columns.Goals as goal

pub returns-clause-stands : goal.returns-clause-stands
returns-clause-stands c =
    let a = c.args in
    let old = a.out.now.items in
    let room = c.as_mut_slice.result.now in
    let new = c.place_columns.new.room in
    let kept : c.len-kept.result ≡ length old = omega (arith, c.len-kept.ensures) in
    let size : length room ≡ length old + a.columns * a.rows = omega (arith, c.as_mut_slice.ensures.len, c.in_ok-resize.ensures.len, kept) in
    let n = c.len-kept.result + a.columns * a.rows in
    let items : c.resize.new.self.items ≡ take n old ++ replicate (n - vec_len a.out.now) 0 = c.in_ok-resize.ensures.items in
    let front : take (length old) room ≡ old = kept_front old room c.resize.new.self.items (replicate (n - vec_len a.out.now) 0) n (omega (arith, kept)) c.as_mut_slice.ensures.value items in
    let whole : take c.resize.new.self.len (new ++ drop (length new) c.resize.new.self.items) ≡ new = take_at new (drop (length new) c.resize.new.self.items) c.resize.new.self.len (omega (arith, c.place_columns.ensures.len, c.as_mut_slice.ensures.len)) in
    subst (λ (t : List ℕ). AppendsColumns a.rows a.columns a.bytes.now old t) (sym whole)
    (columns_put a.rows a.columns c.len-kept.result a.bytes.now old room new c.place_columns.ensures.len (omega (arith, size, kept)) kept (ap (λ (k : ℕ). take k room) kept ∙ front) c.place_columns.ensures.before c.place_columns.ensures.each)
