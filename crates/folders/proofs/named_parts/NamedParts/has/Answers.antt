use Rattle.std.proofs.Common.{◌≡◌, ◌<◌, ◌^◌, ℕ, List, false, true, Some, None, option_map, string_bytes, sym, ◌∙◌, ap, arith}
use Rattle.std.proofs.lemmas.Bool.{false≢true}
use Rattle.std.proofs.lemmas.Option.{same_Some}
use Rattle.std.proofs.lemmas.Slice.Eq.{bytes_eq-Decides}
use Rattle.folders.specs.Named.{folder_in}
use Rattle.folders.proofs.Named.{named_where_found, found_where_named, bytes_of}
use Rattle.folders.proofs.named_parts.NamedParts.has.Goals as goal

pub returns-in-Some : goal.returns-in-Some
returns-in-Some c =
    let named = c.args.self.now in
    let folder = c.args.folder.now in
    let number = c.args.number in
    let text = c.as_str.result.now in
    let own = bytes_of c.in-Some.named.now in
    let small : number < 2 ^ 64 = omega (arith, c.ranges.number.fits) in
    let at : folder_in named number ≡ Some own = ap (option_map bytes_of) (sym c.in-Some.ensures.value) in
    let is_own : text ≡ own = c.as_str.ensures.value ∙ ap string_bytes c.deref.ensures in (
      (λ is. named_where_found named folder number small (at ∙ ap Some (sym is_own ∙ (bytes_eq-Decides text folder).0 (sym c.eq.ensures ∙ is)))),
      (λ among. c.eq.ensures ∙ (bytes_eq-Decides text folder).1 (is_own ∙ same_Some own folder (sym at ∙ found_where_named named folder number small among))),
    )

no_folder : (folder : List ℕ) → None ≡ Some folder → false ≡ true
no_folder folder is = cc

pub returns-in-None : goal.returns-in-None
returns-in-None c =
    let named = c.args.self.now in
    let folder = c.args.folder.now in
    let number = c.args.number in
    let small : number < 2 ^ 64 = omega (arith, c.ranges.number.fits) in
    let at : folder_in named number ≡ None = ap (option_map bytes_of) (sym c.in-None.ensures.value) in (
      (λ is. absurd (false≢true is)),
      (λ among. no_folder folder (sym at ∙ found_where_named named folder number small among)),
    )
