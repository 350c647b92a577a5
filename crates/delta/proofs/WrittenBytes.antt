-- Byte values as a writer writes them.
use Rattle.std.proofs.Common.{◌≡◌, ℕ, List, [], ◌++◌, length, drop, map, refl, sym, ap, subst, ◌∙◌, arith, append_assoc}
use Rattle.std.specs.Prelude.{ℤ, pos, All}
use Rattle.std.specs.List.{concat}
use Rattle.std.specs.Int.{w32}
use Rattle.std.proofs.lemmas.List.{length-append, length-map, drop_at}
use Rattle.schema.specs.declared.value.Kind.TheVariants.{ByteArray}
use Rattle.schema.specs.Values.{ValueTree, bytes}
use Rattle.plain.specs.Plain.{IsOfKind, text_size}
use Rattle.delta.specs.ByteDeltas.{sizes, longest_prefixes, shortest_suffixes}
use Rattle.delta.specs.Written.{IsWrittenDelta, AppendsWrittenDelta}
use Rattle.delta.specs.WrittenBytes.{IsWrittenLengths, AppendsWrittenLengths, AppendsWrittenPrefixes}
use Rattle.delta.specs.inner.Put.{text_of, ArePut}
use Rattle.delta.proofs.Joining.{are_bytes, size_of}
use Rattle.delta.proofs.Sharing.{same_bytes, longest_count, shortest_count, shortest_size}

-- the lengths and the values
pub written_lengths : (vs : List ValueTree) (lengths : List ℤ) (old mid new : List ℕ) → All (IsOfKind ByteArray) vs → lengths ≡ sizes (map text_of vs) → AppendsWrittenDelta w32 lengths old mid
    → new ≡ mid ++ concat (map text_of vs) → AppendsWrittenLengths vs old new
written_lengths vs lengths old mid new all are p put =
    let texts = map text_of vs in
    let joined = concat texts in
    let count : length lengths ≡ length vs = ap length are ∙ length-map texts (λ t. pos (length t)) ∙ length-map vs text_of in
    let size = length-append p.text joined in
    record {
      text = p.text ++ joined;
      joined = put ∙ ap (λ (t : List ℕ). t ++ joined) p.joined ∙ append_assoc old p.text joined;
      stands = λ more.
          let whole : (p.text ++ joined) ++ more ≡ p.text ++ (joined ++ more) = append_assoc p.text joined more in
          let first : IsWrittenDelta w32 (sizes texts) ((p.text ++ joined) ++ more) (length p.text) =
          subst (λ (t : List ℕ). IsWrittenDelta w32 (sizes texts) t (length p.text)) (sym whole) (subst (λ (zs : List ℤ). IsWrittenDelta w32 zs (p.text ++ (joined ++ more)) (length p.text)) are (p.stands (joined ++ more))) in
          record {
            texts = texts;
            stand = record { at = length p.text; rest = more; lengths = first; joined = ap (λ (t : List ℕ). drop (length p.text) t) whole ∙ drop_at p.text (joined ++ more) (length p.text) refl; ends = size };
            are = are_bytes vs all;
          };
      short = omega (arith, p.short, size, count, size_of vs);
    }

-- the lengths of the prefixes, and the suffixes
pub written_prefixes : (vs : List ValueTree) (ps : List ℤ) (sv : List ValueTree) (old new : List ℕ) → All (IsOfKind ByteArray) vs → ps ≡ map pos (longest_prefixes [] (map text_of vs))
    → sv ≡ map bytes (shortest_suffixes [] (map text_of vs)) → ArePut ps sv old new → AppendsWrittenPrefixes vs old new
written_prefixes vs ps sv old new all ps_are sv_are p =
    let ts = map text_of vs in
    let ks = longest_prefixes [] ts in
    let ss = shortest_suffixes [] ts in
    let one = p.first_written.text in
    let two = p.second_written.text in
    let n : length ps ≡ length vs = ap length ps_are ∙ length-map ks pos ∙ longest_count [] ts ∙ length-map vs text_of in
    let m : length sv ≡ length vs = ap length sv_are ∙ length-map ss bytes ∙ shortest_count [] ts ∙ length-map vs text_of in
    let size = length-append one two in
    record {
      text = one ++ two;
      joined = p.second_written.joined ∙ ap (λ (t : List ℕ). t ++ two) p.first_written.joined ∙ append_assoc old one two;
      stands = λ more.
          let whole : (one ++ two) ++ more ≡ one ++ (two ++ more) = append_assoc one two more in
          let left : drop (length one) ((one ++ two) ++ more) ≡ two ++ more = ap (λ (t : List ℕ). drop (length one) t) whole ∙ drop_at one (two ++ more) (length one) refl in
          let first : IsWrittenDelta w32 (map pos ks) ((one ++ two) ++ more) (length one) =
          subst (λ (t : List ℕ). IsWrittenDelta w32 (map pos ks) t (length one)) (sym whole) (subst (λ (zs : List ℤ). IsWrittenDelta w32 zs (one ++ (two ++ more)) (length one)) ps_are (p.first_written.stands (two ++ more))) in
          let later = p.second_written.stands more in
          let same : later.texts ≡ ss = same_bytes later.texts ss (sym later.are ∙ sv_are) in
          let second : IsWrittenLengths (drop (length one) ((one ++ two) ++ more)) ss (length two) =
          subst (λ (t : List ℕ). IsWrittenLengths t ss (length two)) (sym left) (subst (λ (t : List (List ℕ)). IsWrittenLengths (two ++ more) t (length two)) same later.stand) in
          record { texts = ts; stand = record { at = length one; rest = length two; prefixes = first; suffixes = second; ends = size }; are = are_bytes vs all };
      short = omega (arith, p.first_written.short, p.second_written.short, size, n, m, ap text_size sv_are, shortest_size [] vs);
    }
