-- What holds of each record.
use Rattle.std.proofs.Common.{◌≡◌, ◌≤◌, inl, ℕ, List, length, take, refl, sym, ap, subst, arith}
use Rattle.std.proofs.lemmas.List.{take_all}
use Rattle.disk.specs.State.{Image, IsLawful, may_leave}
use Rattle.mem_disk.specs.declared.call.Call.{Call}
use Rattle.mem_disk.specs.Loose.{Loose, empty, replayed, image_of, MayHold, MayLeave, IsSound}
use Rattle.mem_disk.specs.States.{state_with}

-- a node reads as it may be left
pub holds_now : (synced : ℕ) (now : List ℕ) → synced ≤ length now → MayHold synced now now
holds_now synced now le = record { sectors = refl; no_shorter = le; no_longer = omega arith; untouched = λ e. refl }

-- a stop may leave the disk as it reads
pub reads_may_stay : (l : Loose) (count : ℕ) → IsSound l count → MayLeave l (image_of l)
reads_may_stay l count sound = record {
  whole = sound.whole;
  named = λ q _. inl refl;
  holds = λ n. holds_now (l.synced n) (l.bytes n) (sound.synced n);
}

-- a record and its prefix of its own length make the same of a disk
pub of_all : (calls : List Call) → replayed empty (take (length calls) calls) ≡ replayed empty calls
of_all calls = ap (replayed empty) (take_all (length calls) calls (omega arith))

-- what the whole record may leave is what a stop may leave now
pub now_leaves : (calls : List Call) (f r : ℕ) (c : Image) → MayLeave (replayed empty calls) c → may_leave (state_with calls f r) c
now_leaves calls f r c may = subst (λ (l : Loose). MayLeave l c) (sym (of_all calls)) may

-- the state of a sound record is lawful, whatever its counts of failures and reads
pub lawful_with : (calls : List Call) (count f r : ℕ) → IsSound (replayed empty calls) count → IsLawful (state_with calls f r)
lawful_with calls count f r sound = record {
  seen_may_stay = λ _. now_leaves calls f r (image_of (replayed empty calls)) (reads_may_stay (replayed empty calls) count sound);
  whole = λ _ m c may. may.whole;
}
