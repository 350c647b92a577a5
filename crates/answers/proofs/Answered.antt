-- Lines that are printed, one after another.
use Rattle.std.proofs.Common.{◌≡◌, ◌∙◌, ℕ, List, [], ◌∷◌, ◌++◌, Result, Ok, Option, refl, ap, sym, append_assoc}
use Rattle.std.proofs.lemmas.List.{append-nil}
use Rattle.std.specs.Io.KnownBytes.{Appends}
use Rattle.std.proofs.KnownBytes.{Appends-trans, Appends-nil}
use Rattle.serde_json.specs.Data.{Data}
use Rattle.serde_json.specs.Written.{compact_text}
use Rattle.bits.specs.declared.refusal.Refusal.{Refusal}
use Rattle.answers.specs.Lines.{AreShownLines}

module _ {A : Type 0} (shown : A → Result Data Refusal) where
  line_more : (xs : List A) (x : A) (printed : List ℕ) (d : Data) → AreShownLines shown xs printed → shown x ≡ Ok d → AreShownLines shown (xs ++ x ∷ []) (printed ++ (compact_text d ++ 10 ∷ []))
  line_more [] x printed d so_far is = (d, [], is, ap (λ (t : List ℕ). t ++ (compact_text d ++ 10 ∷ [])) so_far ∙ sym (append-nil (compact_text d ++ 10 ∷ [])), refl)
  line_more (y ∷ ys) x printed d so_far is =
      let line = compact_text so_far.0 ++ 10 ∷ [] in
      let last = compact_text d ++ 10 ∷ [] in
      (so_far.0, so_far.1 ++ last, so_far.2, ap (λ (t : List ℕ). t ++ last) so_far.3 ∙ append_assoc line so_far.1 last, line_more ys x so_far.1 d so_far.4 is)

  -- what was printed of some things so far
  abbrev pub ArePrinted : List A → Option (List ℕ) → Option (List ℕ) → Type 0
  ArePrinted xs old new = (printed : List ℕ) × AreShownLines shown xs printed × Appends old new printed

  pub none_printed : (old : Option (List ℕ)) → ArePrinted [] old old
  none_printed old = ([], refl, Appends-nil old)

  pub printed_more : (xs : List A) (x : A) (old mid new : Option (List ℕ)) → ArePrinted xs old mid → (d : Data) × (shown x ≡ Ok d) × Appends mid new (compact_text d ++ 10 ∷ []) → ArePrinted (xs ++ x ∷ []) old new
  printed_more xs x old mid new so_far last =
      (so_far.0 ++ (compact_text last.0 ++ 10 ∷ []), line_more xs x so_far.0 last.0 so_far.1 last.1, Appends-trans old mid new so_far.0 (compact_text last.0 ++ 10 ∷ []) so_far.2 last.2)
