use Rattle.std.proofs.Common.{◌≡◌, ◌++◌, drop}
use Rattle.schema.specs.Keys.{key_columns_view, places_of}
use Rattle.schema.specs.Views.{field_views}
use Rattle.table_commits.specs.Showing.{places_besides}
use Rattle.table_reads.proofs.showing.stored_places.Given as goal

-- the places so far, and those that are left
abbrev pub invariant-loop-place : goal.invariant-loop-place
invariant-loop-place l =
    l.places.items ++ places_besides (places_of (key_columns_view l.keys)) l.place (field_views (drop l.place l.fields)) ≡ places_besides (places_of (key_columns_view l.keys)) 0 (field_views l.fields)
