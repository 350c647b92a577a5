-- A store with another style for its new groups.
use Rattle.std.proofs.Common.{[], ap, refl, sym, subst}
use Rattle.row_group.specs.declared.options.Style.{Style}
use Rattle.footer.specs.declared.options.WriteOptions.{WriteOptions}
use Rattle.footer.specs.Writing.{IsOutOfRange, empty_groups, large_groups, empty_pages, other_version}
use Rattle.disk.specs.State.{State as DiskState}
use Rattle.table.specs.Table.{Table}
use Rattle.table.specs.State.{opened}
use Rattle.table.specs.Refusing.{no_calls}
use Rattle.table_state.specs.declared.standing.Core.{Core}
use Rattle.table_state.specs.Stands.{Stands}
use Rattle.answers.specs.Kept.{IsRestyled, StaysOpened}

-- the style is in no range
out_of_range : (o : WriteOptions) (style : Style) → IsOutOfRange (record o { style = style }) → IsOutOfRange o
out_of_range o style (empty_groups e) = empty_groups e
out_of_range o style (large_groups e) = large_groups e
out_of_range o style (empty_pages e) = empty_pages e
out_of_range o style (other_version e f) = other_version e f

module _ {D : Type 0} (state : D → DiskState) where
  with_style : (store : Core D) (style : Style) (o : WriteOptions) (t : Table) → Stands state store (opened o t)
      → Stands state (record store { options = record store.options { style = style } }) (opened (record o { style = style }) t)
  with_style store style o t stands =
      let shows = stands.shows in
      record {
        reached = record { options = record o { style = style }; table = t; is_table = shows.valid; calls = []; answers = []; run = no_calls };
        shows = record {
          valid = shows.valid;
          apart = shows.apart;
          one_root = shows.one_root;
          options = ap (λ (w : WriteOptions). record w { style = style }) shows.options;
          in_range = λ out. shows.in_range (out_of_range store.options style out);
          schema = shows.schema;
          keys = shows.keys;
          next_job = shows.next_job;
          next_cursor = shows.next_cursor;
          next_group = shows.next_group;
          counted = shows.counted;
          closed = shows.closed;
          room = shows.room;
          sound = shows.sound;
          shown = λ unclosed.
              let is = shows.shown unclosed in
              record {
                sure = is.sure;
                root = is.root;
                root_kept = is.root_kept;
                means = is.means;
                next = is.next;
                current = is.current;
                version = is.version;
                jobs = is.jobs;
                cursors = is.cursors;
                tracks_jobs = is.tracks_jobs;
                tracks_cursors = is.tracks_cursors;
                numbered_jobs = is.numbered_jobs;
                numbered_cursors = is.numbered_cursors;
                parted = is.parted;
                files = is.files;
                tracked = is.tracked;
              };
        };
      }

  pub restyled : (old new : Core D) → IsRestyled old new → StaysOpened state old new
  restyled old new same = λ o t stands. subst (λ (store : Core D). Stands state store (opened (record o { style = new.options.style }) t)) (sym same) (with_style old new.options.style o t stands)
