-- A file by its ends: what its footer is read from where the rest is not read.
use Rattle.std.specs.Prelude.{ℕ, ◌+◌, ◌-◌, ◌≤◌, List, ◌++◌, length, take, drop}
use Rattle.byteorder.specs.Endian.{little_number}
use Rattle.footer.specs.File.{magic, IsFramed}

-- how many bytes of footer a file announces
abbrev pub announces : List ℕ → ℕ
announces file = little_number 4 (drop (length file - 8) file)

-- the first four bytes of a file, and its last ones: a footer of so many bytes, and the eight after it
abbrev pub ends : ℕ → List ℕ → List ℕ
ends size file = take 4 file ++ drop (length file - (size + 8)) file

-- the footer of a file is that of the other bytes, which have nothing but `PAR1` before it
pub record HaveOneFooter (file other : List ℕ) : Type 0 where
  pub there : (front footer : List ℕ) → IsFramed file front footer → IsFramed other magic footer
  pub back : (front footer : List ℕ) → IsFramed other front footer → (before : List ℕ) × IsFramed file before footer

-- a file whose footer fits into it has the footer of its ends
abbrev pub EndsHaveTheFooter : Type 0
EndsHaveTheFooter = (file : List ℕ) → announces file + 12 ≤ length file → HaveOneFooter file (ends (announces file) file)
