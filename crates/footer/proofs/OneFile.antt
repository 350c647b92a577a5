-- A file has one footer.
use Rattle.std.proofs.Common.{◌≡◌, ℕ, List, subst}
use Rattle.bits.specs.Codec.{IsFunctional, NothingStands}
use Rattle.metadata.specs.Records.{FileMeta}
use Rattle.metadata.specs.FromTree.{file_meta}
use Rattle.metadata.specs.Answers.{StandsFor}
use Rattle.footer.specs.File.{IsFramed, IsFile}
use Rattle.footer.proofs.Frames.{one_frame}

-- the same bytes have one front and one record
pub one_file : IsFunctional (StandsFor file_meta) → (bytes f g : List ℕ) (m n : FileMeta) → IsFile bytes f m → IsFile bytes g n → (f ≡ g) × (m ≡ n)
one_file law bytes f g m n p q =
    let same = one_frame bytes f g p.footer q.footer p.framed q.framed in
    (same.0, (law q.footer m n p.used q.used (subst (λ t. StandsFor file_meta t m p.used) same.1 p.stands) q.stands).0)

-- no record stands in the footer
pub no_file : (bytes front footer : List ℕ) → IsFramed bytes front footer → NothingStands (StandsFor file_meta footer) → (f : List ℕ) (m : FileMeta) → IsFile bytes f m → ⊥
no_file bytes front footer framed nothing f m p = nothing m p.used (subst (λ t. StandsFor file_meta t m p.used) (one_frame bytes f front p.footer footer p.framed framed).1 p.stands)
