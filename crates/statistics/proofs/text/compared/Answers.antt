use Rattle.std.proofs.Common.{◌≡◌, ◌<◌, ◌≤◌, ◌+◌, ℕ, List, length, drop, get_or, sym, ap, ◌∙◌, arith}
use Rattle.std.proofs.lemmas.List.{drop-drop, get_or-drop, length-drop}
use Rattle.byteorder.specs.Endian.{big_number}
use Rattle.statistics.proofs.Fronts.{numbers_decide, rests_decide}
use Rattle.statistics.proofs.text.compared.Goals as goal

pub returns-then-number-other_number : goal.returns-then-number-other_number
returns-then-number-other_number c =
    let rest = drop c.words.at c.args.bytes.now in
    let other_rest = drop c.words.at c.args.other.now in
    let low : (i : ℕ) → get_or rest i 0 < 256 = λ i. rw (get_or-drop c.words.at c.args.bytes.now i 0) (omega (arith, c.type_inv.bytes (c.words.at + i))) in
    let other : (i : ℕ) → get_or other_rest i 0 < 256 = λ i. rw (get_or-drop c.words.at c.args.other.now i 0) (omega (arith, c.type_inv.other (c.words.at + i))) in
    let number : c.read_u64-number.result ≡ big_number 8 rest = c.read_u64-number.ensures ∙ ap (λ (t : List ℕ). big_number 8 t) c.split_at.ensures.back in
    let other_number : c.read_u64-other_number.result ≡ big_number 8 other_rest = c.read_u64-other_number.ensures ∙ ap (λ (t : List ℕ). big_number 8 t) c.split_at-in-words.ensures.back in
    c.cmp.ensures ∙ numbers_decide rest other_rest c.read_u64-number.result c.read_u64-other_number.result low other number other_number c.if-number-other_number.true ∙ c.words.invariant.same

pub words-preserved : goal.words-preserved
words-preserved c =
    let rest = drop c.words.at c.args.bytes.now in
    let other_rest = drop c.words.at c.args.other.now in
    let low : (i : ℕ) → get_or rest i 0 < 256 = λ i. rw (get_or-drop c.words.at c.args.bytes.now i 0) (omega (arith, c.type_inv.bytes (c.words.at + i))) in
    let other : (i : ℕ) → get_or other_rest i 0 < 256 = λ i. rw (get_or-drop c.words.at c.args.other.now i 0) (omega (arith, c.type_inv.other (c.words.at + i))) in
    let number : c.read_u64-number.result ≡ big_number 8 rest = c.read_u64-number.ensures ∙ ap (λ (t : List ℕ). big_number 8 t) c.split_at.ensures.back in
    let other_number : c.read_u64-other_number.result ≡ big_number 8 other_rest = c.read_u64-other_number.ensures ∙ ap (λ (t : List ℕ). big_number 8 t) c.split_at-in-words.ensures.back in
    let same = sym number ∙ c.if-number-other_number.false ∙ other_number in
    let within : c.words.at + 8 ≤ length c.args.bytes.now = omega (arith, c.words-test.true, c.words.invariant.within) in
    let other_within : c.words.at + 8 ≤ length c.args.other.now = omega (arith, c.if-other-at-gt8.true, c.words.invariant.other_within) in
    let enough : 8 ≤ length rest = rw (length-drop c.words.at c.args.bytes.now) (omega (arith, within)) in
    let other_enough : 8 ≤ length other_rest = rw (length-drop c.words.at c.args.other.now) (omega (arith, other_within)) in
    let moved : drop (c.words.at + 8) c.args.bytes.now ≡ drop 8 rest = sym (drop-drop 8 c.words.at c.args.bytes.now) in
    let other_moved : drop (c.words.at + 8) c.args.other.now ≡ drop 8 other_rest = sym (drop-drop 8 c.words.at c.args.other.now) in
    record {
      same = rw (moved, other_moved) (rests_decide rest other_rest low other enough other_enough same ∙ c.words.invariant.same);
      within = within;
      other_within = other_within;
    }
