use Rattle.std.proofs.Common.{◌≡◌, ◌≢◌, ◌∙◌, ap, arith, ℕ, List, Some}
use Rattle.std.specs.HashMap.{get_by_text}
use Rattle.std.proofs.lemmas.Map.Text.{text_keys}
use Rattle.program.specs.Paths.{Holds}
use Rattle.memory_places.specs.Files.{place_at, place_in, made_or}
use Rattle.memory_places.proofs.Made.{becomes}
use Rattle.memory_places.proofs.memory_paths.MemoryPaths.add.Goals as goal

pub returns-clause-made : goal.returns-clause-made
returns-clause-made c =
    let layout = c.args.self.now.layout.now in
    let old = c.args.self.now.made in
    let new = c.insert.new.self in
    let path = c.args.path.now in
    let there : get_by_text new path ≡ Some c.in_ok-copy.copy = grind (arith, text_keys) in
    let others : (q : List ℕ) → q ≢ path → get_by_text new q ≡ get_by_text old q = grind (arith, text_keys) in
    record {
      made = becomes (place_at layout old path) (place_at layout new path) c.args.bytes.now c.requires
          (ap (λ made. made_or made (place_in layout path)) there ∙ ap (λ (bytes : List ℕ). Holds bytes) c.in_ok-copy.ensures.items);
      others = λ q apart. ap (λ made. made_or made (place_in layout q)) (others q apart);
    }
