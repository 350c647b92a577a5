-- What every reader and every writer of bytes promises.
-- A format is a relation `Stands bytes y used`: the first `used` of the bytes stand for y, whatever follows them.
use Rattle.std.specs.Prelude.{◌≡◌, ℕ, ◌+◌, ◌≤◌, List, [], ◌∷◌, ◌++◌, length, drop}

-- nothing stands there
abbrev pub NothingStands : {Y : Type 0} → (Y → ℕ → Type 0) → Type 0
NothingStands {Y} Stands = (y : Y) (used : ℕ) → Stands y used → ⊥

-- nothing stands in a prefix of the bytes, whatever follows them
abbrev pub NothingStandsEver : {Y : Type 0} → (List ℕ → Y → ℕ → Type 0) → List ℕ → Type 0
NothingStandsEver Stands bytes = (more : List ℕ) → NothingStands (Stands (bytes ++ more))

-- a prefix of the bytes stands for at most one y, in one number of bytes
abbrev pub IsFunctional : {Y : Type 0} → (List ℕ → Y → ℕ → Type 0) → Type 0
IsFunctional {Y} Stands = (bytes : List ℕ) (y z : Y) (used taken : ℕ) → Stands bytes y used → Stands bytes z taken → (y ≡ z) × (used ≡ taken)

-- the bytes of `new` are those of `old` and at most `most` that stand, whatever follows them
pub record Appends (Stands : List ℕ → ℕ → Type 0) (most : ℕ) (old new : List ℕ) : Type 0 where
  pub text : List ℕ
  pub joined : new ≡ old ++ text
  pub stands : (more : List ℕ) → Stands (text ++ more) (length text)
  pub short : length text ≤ most

-- the bytes of `new` are those of `old` and at most `most` that stand for these n values
abbrev pub AppendsValues : {Y : Type 0} → (ℕ → List ℕ → List Y → ℕ → Type 0) → ℕ → List Y → List ℕ → List ℕ → Type 0
AppendsValues Stands most values old new = Appends (λ bytes. Stands (length values) bytes values) most old new

-- the values stand one after the other, each as `Each` says
abbrev pub InTurn : {Y : Type 0} → (List ℕ → Y → ℕ → Type 0) → List ℕ → List Y → ℕ → Type 0
InTurn Each bytes [] used = used ≡ 0
InTurn Each bytes (y ∷ ys) used = (first : ℕ) × (rest : ℕ) × Each bytes y first × InTurn Each (drop first bytes) ys rest × (used ≡ first + rest)

-- n values stand one after the other
abbrev pub AreInTurn : {Y : Type 0} → (List ℕ → Y → ℕ → Type 0) → ℕ → List ℕ → List Y → ℕ → Type 0
AreInTurn Each n bytes ys used = (length ys ≡ n) × InTurn Each bytes ys used
