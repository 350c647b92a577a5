use Rattle.std.proofs.Common.{ℕ, ◌+◌, ◌*◌, List, length, refl, sym, subst}
use Rattle.std.specs.Prelude.{OnOk}
use Rattle.bits.specs.Codec.{Appends}
use Rattle.dictionary.specs.IndexPages.{IsIndexPage}
use Rattle.dictionary.proofs.Pages.{seen_same}
use Rattle.dictionary.proofs.codec.IndexesValueCodec.encode.Goals as goal

pub returns-clause-stands : goal.returns-clause-stands
returns-clause-stands c =
    subst (λ (l : List ℕ). OnOk c.encode_indexes.result (Appends (λ bytes used. IsIndexPage c.args.self.now.size bytes (length l) l used) (81 + 9 * length l) c.args.out.now.items c.encode_indexes.new.out.items))
    (sym (seen_same _ (λ n. refl) c.args.values.now)) c.encode_indexes.ensures.stands
