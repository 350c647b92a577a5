-- Which of the images that a stop may leave a list of words picks.
use Rattle.std.specs.Prelude.{◌≡◌, ◌≤◌, ◌<◌, ◌+◌, ◌-◌, ◌*◌, ◌/◌, ◌%◌, ℕ, zero, suc, List, [], ◌∷◌, ◌++◌, length, drop, slice_index, slice_index_or, nat_lt, if◌then◌else◌, bit_xor, string_bytes}
use Rattle.disk.specs.declared.binding.Binding.{Binding}
use Rattle.disk.specs.State.{Image}
use Rattle.mem_disk.specs.declared.name.Name.{Name}
use Rattle.mem_disk.specs.declared.node.Node.{Node}
use Rattle.mem_disk.specs.declared.crash.Picks.{Picks}
use Rattle.mem_disk.specs.Tables.{of_node}
use Rattle.mem_disk.specs.Left.{left_in}

-- the words that were not asked for yet
abbrev pub words_left : Picks → List ℕ
words_left picks = drop picks.next picks.words.now

-- the next of these words; a missing one is 0
abbrev pub next_word : List ℕ → ℕ
next_word words = slice_index words 0

-- the binding that a name picks by a word: one of those since its folder's last sync, in the order of time
abbrev pub binding_by : Name → ℕ → Binding
binding_by name word = slice_index_or (name.had.items ++ name.now ∷ []) (word % (length name.had.items + 1)) name.now

-- the words after the choice among these bindings: where there is only one, none is asked for
abbrev pub after_had : List Binding → List ℕ → List ℕ
after_had [] words = words
after_had (binding ∷ had) words = drop 1 words

-- the words after a name's choice
abbrev pub after_name : Name → List ℕ → List ℕ
after_name name words = after_had name.had.items words

-- how long a node with unsynced bytes is left by a word: the length of the last sync first
abbrev pub long_by : Node → ℕ → ℕ
long_by node word = node.synced + word % (length node.bytes.items - node.synced + 1)

-- a byte of a touched sector, by its word: 0 as at the last sync, 1 as it was written, 2 zero, 3 any other
abbrev pub byte_as : ℕ → Node → ℕ → ℕ → ℕ
byte_as zero node at word = if nat_lt at node.synced then slice_index node.bytes.items at else 0
byte_as (suc zero) node at word = slice_index node.bytes.items at
byte_as (suc (suc zero)) node at word = 0
byte_as (suc (suc (suc kind))) node at word = bit_xor (word / 4 % 256) (at % 256)

-- a byte of a touched sector, by its word, whose kind is the word modulo 4
abbrev pub byte_by : Node → ℕ → ℕ → ℕ
byte_by node at word = byte_as (word % 4) node at word

-- how many sectors below this length were touched
abbrev pub touched : Node → ℕ → ℕ
touched node long = (long + 511) / 512 - node.synced / 512

-- a node that is durable asks for no word, another for its length's and for one for each touched sector below that
abbrev pub after_node : Node → List ℕ → List ℕ
after_node node words = if nat_lt node.synced (length node.bytes.items) then drop (1 + touched node (long_by node (next_word words))) words else words

-- the name has the binding that the next word picks
pub record PicksBinding (name : Name) (words : List ℕ) (new : Name) : Type 0 where
  pub path : string_bytes new.path ≡ string_bytes name.path
  pub now : new.now ≡ binding_by name (next_word words)

-- the node has the bytes that the next words pick
pub record PicksBytes (node : Node) (words bytes : List ℕ) : Type 0 where
  pub firm : length node.bytes.items ≤ node.synced → bytes ≡ node.bytes.items
  pub long : node.synced < length node.bytes.items → length bytes ≡ long_by node (next_word words)
  pub torn : node.synced < length node.bytes.items → (at : ℕ) → 512 * (node.synced / 512) ≤ at → at < length bytes → slice_index bytes at ≡ byte_by node at (slice_index words (at / 512 - node.synced / 512 + 1))

-- the node that is left has the bytes that the next words pick
abbrev pub PicksNode : Node → List ℕ → Node → Type 0
PicksNode node words new = PicksBytes node words new.bytes.items

-- the words that remain after these
abbrev pub words_after : {A : Type 0} → (A → List ℕ → List ℕ) → List A → List ℕ → List ℕ
words_after after [] words = words
words_after after (x ∷ xs) words = words_after after xs (after x words)

-- each picks by the words that those before it have left
abbrev pub PickInTurn : {A B : Type 0} → (A → List ℕ → B → Type 0) → (A → List ℕ → List ℕ) → List A → List ℕ → List B → Type 0
PickInTurn R after [] words [] = Unit {0}
PickInTurn R after [] words (y ∷ ys) = ⊥
PickInTurn R after (x ∷ xs) words [] = ⊥
PickInTurn R after (x ∷ xs) words (y ∷ ys) = R x words y × PickInTurn R after xs (after x words) ys

-- the image that the words pick: first each name in turn, and then each node
pub record ArePickedBy (names : List Name) (nodes : List Node) (words : List ℕ) (image : Image) : Type 0 where
  pub picked : List Name
  pub files : List Node
  pub bindings : PickInTurn PicksBinding after_name names words picked
  pub contents : PickInTurn PicksNode after_node nodes (words_after after_name names words) files
  pub named : (path : List ℕ) → image.names path ≡ left_in picked path
  pub holds : (node : ℕ) → image.bytes node ≡ of_node (λ (x : Node). x.bytes.items) [] files node
