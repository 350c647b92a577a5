-- Which calls fail.
use Rattle.std.specs.Prelude.{◌≡◌, ◌≢◌, ℕ, zero, suc, ◌%◌, Result, Err}
use Rattle.disk.specs.declared.fault.Fault.{Fault}
use Rattle.disk.specs.declared.fault.Fault.TheVariants.{Failed}
use Rattle.mem_disk.specs.declared.fuse.Done.{Done}
use Rattle.mem_disk.specs.declared.fuse.Done.TheVariants.{Nothing, Whole, Part}
use Rattle.mem_disk.specs.declared.fuse.Fuse.{Fuse}
use Rattle.mem_disk.specs.declared.fuse.Fuse.TheVariants.{Never, After, Once}
use Rattle.mem_disk.specs.declared.fuse.Trip.{Trip}
use Rattle.mem_disk.specs.declared.fuse.Trip.TheVariants.{Passes, Fails}

-- what a failed call has done, by a number: 0 nothing, 1 the whole, 2 or more a part
abbrev pub done_at : ℕ → Done
done_at zero = Nothing
done_at (suc zero) = Whole
done_at (suc (suc n)) = Part

-- what a failed call has done, by the pick: its number is the pick modulo 3
abbrev pub done_of : ℕ → Done
done_of pick = done_at (pick % 3)

-- whether the next call fails, and what it has done then
abbrev pub trip_of : Fuse → Trip
trip_of Never = Passes
trip_of (After zero done) = Fails done
trip_of (After (suc left) done) = Passes
trip_of (Once zero done) = Fails done
trip_of (Once (suc left) done) = Passes

-- the fuse after one call: `After` goes on to fail each call, `Once` fails no other
abbrev pub burnt : Fuse → Fuse
burnt Never = Never
burnt (After zero done) = After zero done
burnt (After (suc left) done) = After left done
burnt (Once zero done) = Never
burnt (Once (suc left) done) = Once left done

-- each call burns the fuse, and fails where the fuse says so
pub record Burns {T : Type 0} (old new : Fuse) (result : Result T Fault) : Type 0 where
  pub left : new ≡ burnt old
  pub fails : trip_of old ≢ Passes → result ≡ Err Failed
