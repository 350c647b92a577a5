-- Where nothing is loose, a stop leaves the disk as it reads.
use Rattle.std.proofs.Common.{◌≡◌, ◌≢◌, ◌≤◌, ⊎_elim, ℕ, zero, suc, List, [], ◌∷◌, length, false, IsTrue, refl, sym, ◌∙◌, ap, subst, arith}
use Rattle.std.proofs.lemmas.List.{length-take}
use Rattle.std.proofs.lemmas.Bool.{false≢true as not_true}
use Rattle.disk.specs.Paths.{folder_of}
use Rattle.disk.specs.State.{Image, IsWhole, IsAtRest}
use Rattle.disk.specs.declared.binding.Binding.TheVariants.{Nothing, Folder}
use Rattle.disk.proofs.Texts.{ends_before}
use Rattle.mem_disk.specs.declared.call.Call.{Call}
use Rattle.mem_disk.specs.Tables.{Among}
use Rattle.mem_disk.specs.Loose.{Loose, empty, replayed, image_of, MayLeave}
use Rattle.mem_disk.specs.States.{state_with}
use Rattle.mem_disk.proofs.Choices.{folder_or_not, nothing_or_not}
use Rattle.mem_disk.proofs.Passing.{leaves_now}

pub shorter : (b : ℕ) (q : List ℕ) → length (folder_of (b ∷ q)) ≤ length q
shorter b q = ⊎_elim
    (λ none. let long = ap length none in omega (arith, long))
    (λ some. let long = ap length some.3 in let cut = length-take some.0 (b ∷ q) in let lt = some.1 in omega (arith, long, cut, lt))
    (ends_before (b ∷ q) (length (b ∷ q)))

module _ (l : Loose) (firm : (q : List ℕ) → l.had q ≡ []) (whole : IsWhole (image_of l)) (c : Image) (may : MayLeave l c) where
  same_name : (n : ℕ) (q : List ℕ) → length q ≤ n → c.names q ≡ l.names q
  same_name n [] le = may.whole.top ∙ sym whole.top
  same_name zero (b ∷ q) le = absurd (omega (arith, le))
  same_name (suc n) (b ∷ q) le =
      let up : c.names (folder_of (b ∷ q)) ≡ l.names (folder_of (b ∷ q)) = same_name n (folder_of (b ∷ q)) (let s = shorter b q in omega (arith, s, le)) in
      ⊎_elim
      (λ there. ⊎_elim (λ e. e) (λ a. absurd (subst (Among (c.names (b ∷ q))) (firm (b ∷ q)) a)) (may.named (b ∷ q) there))
      (λ away. ⊎_elim
      (λ gone. ⊎_elim
      (λ also. gone ∙ sym also)
      (λ some. absurd (away (up ∙ whole.below (b ∷ q) some)))
      (nothing_or_not (l.names (b ∷ q))))
      (λ some. absurd (away (may.whole.below (b ∷ q) some)))
      (nothing_or_not (c.names (b ∷ q))))
      (folder_or_not (c.names (folder_of (b ∷ q))))

  module _ (synced : (n : ℕ) → l.synced n ≡ length (l.bytes n)) where
    same_bytes : (n : ℕ) → c.bytes n ≡ l.bytes n
    same_bytes n = (may.holds n).untouched (synced n)

    pub same_image : c ≡ image_of l
    same_image = λ i. record { names = λ q. same_name (length q) q (omega arith) i; bytes = λ n. same_bytes n i }

pub at_rest : (calls : List Call) (f r : ℕ) → let l = replayed empty calls in ((q : List ℕ) → l.had q ≡ []) → ((n : ℕ) → l.synced n ≡ length (l.bytes n)) → ((n : ℕ) → l.doubted n ≡ false) → IsWhole (image_of l) → IsAtRest (state_with calls f r)
at_rest calls f r firm synced sure whole = record {
  firm = λ c may. same_image (replayed empty calls) firm whole c (leaves_now calls f r c may) synced;
  sure = λ n d. not_true (subst IsTrue (sure n) d);
}

pub empty_whole : IsWhole (image_of empty)
empty_whole = record { top = refl; below = below }
  where
    below : (path : List ℕ) → (image_of empty).names path ≢ Nothing → (image_of empty).names (folder_of path) ≡ Folder
    below [] some = refl
    below (b ∷ path) some = absurd (some refl)
