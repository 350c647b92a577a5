use Rattle.std.proofs.Common.{◌≡◌, ◌∙◌, sym, ap, false, List, ℕ, Option, Some, None, is_some, string_bytes, refl}
use Rattle.std.specs.HashMap.{get_by_text}
use Rattle.std.specs.Map.{update}
use Rattle.std.specs.Str.{bytes_eq}
use Rattle.std.proofs.lemmas.Map.Text.{hash_map_updates_text}
use Rattle.std.proofs.lemmas.Bool.{false≢true as not_true}
use Rattle.mem_disk.proofs.Places.{placed_new}
use Rattle.mem_disk.proofs.names.place.Goals as goal

none_there : (o : Option ℕ) → is_some o ≡ false → o ≡ None
none_there None is = refl
none_there (Some i) is = absurd (not_true (sym is))

pub returns-in_ok-insert : goal.returns-in_ok-insert
returns-in_ok-insert c q =
    let old = get_by_text c.args.places.now in
    let key = c.in_ok-from_str.field-0 in
    let none : old c.args.path.now ≡ None = none_there (old c.args.path.now) (sym c.if-not-contains_key.ensures) in
    hash_map_updates_text (string_bytes key) c.args.places.now c.insert.new.self (Some c.args.at) c.in_ok-insert.ensures.updates q
    ∙ ap (λ (p : List ℕ). update bytes_eq old p (Some c.args.at) q) c.in_ok-from_str.ensures.ok
    ∙ placed_new old c.args.path.now c.args.at none q
