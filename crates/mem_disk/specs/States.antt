-- What a record of calls says of a disk.
use Rattle.std.specs.Prelude.{◌≡◌, ◌⊎◌, ℕ, List, length, take, IsTrue, Result, Err}
use Rattle.disk.specs.State.{State}
use Rattle.disk.specs.Calls.{Synced}
use Rattle.disk.specs.declared.fault.Fault.{Fault}
use Rattle.disk.specs.declared.fault.Fault.TheVariants.{Failed}
use Rattle.mem_disk.specs.declared.call.Call.{Call}
use Rattle.mem_disk.specs.Loose.{empty, replayed, image_of, MayLeave}

-- the state of a disk, by the record of its calls: each call is a moment
abbrev pub state_with : List Call → ℕ → ℕ → State
state_with calls failures reads = record {
  seen = image_of (replayed empty calls);
  moment = length calls;
  images = λ m image. MayLeave (replayed empty (take m calls)) image;
  doubted = λ n. IsTrue ((replayed empty calls).doubted n);
  failures = failures;
  reads = reads;
  honest = Unit {0};
}

-- a fact holds of this result, and of `Failed` in its place
abbrev pub AlsoFailed : {T : Type 0} → (Result T Fault → Type 0) → Result T Fault → Type 0
AlsoFailed P result = P result × P (Err Failed)

-- this result, or `Failed` in its place
abbrev pub IsAnswer : {T : Type 0} → Result T Fault → Result T Fault → Type 0
IsAnswer done result = (result ≡ done) ⊎ (result ≡ Err Failed)

-- a sync of this file that fails
abbrev pub FailsToSync : List ℕ → State → State → Type 0
FailsToSync path old new = let failed : Result (Unit {0}) Fault = Err Failed in Synced path old new failed
