use Rattle.std.proofs.Common.{◌++◌, [], ◌∷◌, ◌≡◌, string_bytes}
use Rattle.std.proofs.lemmas.Option.{MatchOption-at_some, MatchOption-at_none}
use Rattle.lists.proofs.Options.{on_ok_weaker as ok_map}
use Rattle.folders.specs.Named.{IsIn}
use Rattle.folders.specs.Entries.{IsStrayFile, IsNoStrayFile}
use Rattle.upkeep.specs.inner.Walk.{FindsFile, paths_of}
use Rattle.upkeep.proofs.Walking.{one_found, none_found}
use Rattle.upkeep.proofs.walk.find_file.Goals as goal

pub returns-in-Some-clause-finds : goal.returns-in-Some-clause-finds
returns-in-Some-clause-finds c =
    let Named = IsIn c.args.named.now in
    let folder = c.args.folder.now in
    let entry = c.args.entry.now in
    let old = paths_of c.args.found.now in
    let new = paths_of c.push_path.new.found in
    let stray = string_bytes c.in-Some.path in
    let is = MatchOption-at_some (IsNoStrayFile Named folder entry) (λ s. IsStrayFile Named folder entry (string_bytes s)) c.in-Some.path c.in-Some.is c.in_ok-path.ensures.stands in
    ok_map (new ≡ old ++ stray ∷ []) (FindsFile Named folder entry old new) c.push_path.result (one_found Named folder entry old new stray is) c.push_path.ensures.adds

pub returns-in-None-clause-finds : goal.returns-in-None-clause-finds
returns-in-None-clause-finds c =
    let Named = IsIn c.args.named.now in
    let folder = c.args.folder.now in
    let entry = c.args.entry.now in
    none_found Named folder entry (paths_of c.args.found.now) (MatchOption-at_none (IsNoStrayFile Named folder entry) (λ s. IsStrayFile Named folder entry (string_bytes s)) c.in-None.is c.in_ok-path.ensures.stands)
