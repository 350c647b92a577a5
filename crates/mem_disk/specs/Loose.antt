-- What a disk holds, what of it is loose, and what the calls make of it.
use Rattle.std.specs.Prelude.{◌≡◌, ◌≢◌, ◌⊎◌, ◌≤◌, ◌<◌, ◌*◌, ◌/◌, ℕ, List, [], ◌∷◌, ◌++◌, length, take, Bool, true, false, if◌then◌else◌, ◌==◌, bytes_eq, string_bytes}
use Rattle.disk.specs.declared.binding.Binding.{Binding}
use Rattle.disk.specs.declared.binding.Binding.TheVariants.{Nothing, Folder, File}
use Rattle.disk.specs.Paths.{folder_of}
use Rattle.disk.specs.State.{Image, IsWhole}
use Rattle.mem_disk.specs.declared.name.Name.{Name}
use Rattle.mem_disk.specs.declared.node.Node.{Node}
use Rattle.mem_disk.specs.declared.call.Call.{Call}
use Rattle.mem_disk.specs.declared.call.Call.TheVariants.{Begin, Bind, Append, Sync, SyncFolder, Doubt}
use Rattle.mem_disk.specs.Tables.{at_first, name_in, had_in, of_node, Among}

-- what a disk holds, and what of it is loose
pub record Loose : Type 0 where
  -- what each path names
  pub names : List ℕ → Binding
  -- what else each path has named since its folder's last sync
  pub had : List ℕ → List Binding
  -- the bytes of each node
  pub bytes : ℕ → List ℕ
  -- how many bytes of each node were there at its last sync
  pub synced : ℕ → ℕ
  -- whether a sync of each node has failed
  pub doubted : ℕ → Bool

-- the empty folder, nothing loose
abbrev pub empty : Loose
empty = record { names = at_first; had = λ q. []; bytes = λ n. []; synced = λ n. 0; doubted = λ n. false }

-- what these names and these nodes hold, and what of it is loose
abbrev pub loose_of : List Name → List Node → Loose
loose_of names nodes = record {
  names = name_in names;
  had = had_in names;
  bytes = of_node (λ (x : Node). x.bytes.items) [] nodes;
  synced = of_node (λ (x : Node). x.synced) 0 nodes;
  doubted = of_node (λ (x : Node). x.doubted) false nodes;
}

-- the image that a disk reads
abbrev pub image_of : Loose → Image
image_of l = record { names = l.names; bytes = l.bytes }

-- this path is bound
abbrev pub bound : Loose → List ℕ → Binding → Loose
bound l path to = record {
  names = λ q. if bytes_eq q path then to else l.names q;
  had = λ q. if bytes_eq q path then l.had q ++ l.names q ∷ [] else l.had q;
  bytes = l.bytes;
  synced = l.synced;
  doubted = l.doubted;
}

-- this node has more bytes
abbrev pub appended : Loose → ℕ → List ℕ → Loose
appended l node more = record {
  names = l.names;
  had = l.had;
  bytes = λ n. if n == node then l.bytes n ++ more else l.bytes n;
  synced = l.synced;
  doubted = l.doubted;
}

-- this node's bytes are durable
abbrev pub node_synced : Loose → ℕ → Loose
node_synced l node = record {
  names = l.names;
  had = l.had;
  bytes = l.bytes;
  synced = λ n. if n == node then length (l.bytes n) else l.synced n;
  doubted = l.doubted;
}

-- the names in this folder are durable
abbrev pub folder_synced : Loose → List ℕ → Loose
folder_synced l folder = record {
  names = l.names;
  had = λ q. if bytes_eq (folder_of q) folder then [] else l.had q;
  bytes = l.bytes;
  synced = l.synced;
  doubted = l.doubted;
}

-- a sync of this node has failed
abbrev pub node_doubted : Loose → ℕ → Loose
node_doubted l node = record {
  names = l.names;
  had = l.had;
  bytes = l.bytes;
  synced = l.synced;
  doubted = λ n. if n == node then true else l.doubted n;
}

-- what a call makes of a disk
abbrev pub after : Loose → Call → Loose
after l (Begin names nodes) = loose_of names.items nodes.items
after l (Bind path to) = bound l (string_bytes path) to
after l (Append node more) = appended l node more.items
after l (Sync node) = node_synced l node
after l (SyncFolder folder) = folder_synced l (string_bytes folder)
after l (Doubt node) = node_doubted l node

-- what calls, one after another, make of a disk
abbrev pub replayed : Loose → List Call → Loose
replayed l [] = l
replayed l (call ∷ calls) = replayed (after l call) calls

-- a name's bindings since its folder's last sync
abbrev pub MayName : Loose → List ℕ → Binding → Type 0
MayName l q b = (b ≡ l.names q) ⊎ Among b (l.had q)

-- bytes of a node that had `synced` bytes at its last sync and has `now`: any length between, and any bytes in each
-- sector of 512 bytes that was touched since
pub record MayHold (synced : ℕ) (now bytes : List ℕ) : Type 0 where
  pub sectors : take (512 * (synced / 512)) bytes ≡ take (512 * (synced / 512)) now
  pub no_shorter : synced ≤ length bytes
  pub no_longer : length bytes ≤ length now
  pub untouched : synced ≡ length now → bytes ≡ now

-- What a stop may leave: each name in a folder that is there has one of its bindings, each by itself, and each node
-- bytes that it may hold. Below a folder that is not there is nothing.
pub record MayLeave (l : Loose) (image : Image) : Type 0 where
  pub whole : IsWhole image
  pub named : (q : List ℕ) → image.names (folder_of q) ≡ Folder → MayName l q (image.names q)
  pub holds : (n : ℕ) → MayHold (l.synced n) (l.bytes n) (image.bytes n)

-- what holds of each disk that calls have made: `count` nodes were made so far
pub record IsSound (l : Loose) (count : ℕ) : Type 0 where
  pub whole : IsWhole (image_of l)
  -- folders are never removed
  pub grounded : (q : List ℕ) (b : Binding) → Among b (l.had q) → b ≢ Nothing → l.names (folder_of q) ≡ Folder
  pub synced : (n : ℕ) → l.synced n ≤ length (l.bytes n)
  pub named : (q : List ℕ) (n : ℕ) → MayName l q (File n) → n < count
  pub empty : (n : ℕ) → count ≤ n → l.bytes n ≡ []
  pub sure : (n : ℕ) → count ≤ n → l.doubted n ≡ false

-- the names and nodes that are kept say what the record of the calls says
pub record Shows (entries : List Name) (files : List Node) (l : Loose) : Type 0 where
  pub names : (q : List ℕ) → l.names q ≡ name_in entries q
  pub had : (q : List ℕ) → l.had q ≡ had_in entries q
  pub bytes : (n : ℕ) → l.bytes n ≡ of_node (λ (x : Node). x.bytes.items) [] files n
  pub synced : (n : ℕ) → l.synced n ≡ of_node (λ (x : Node). x.synced) 0 files n
  pub doubted : (n : ℕ) → l.doubted n ≡ of_node (λ (x : Node). x.doubted) false files n

-- the names and nodes that are kept next to a record of calls
pub record Keeps (names : List Name) (nodes : List Node) (calls : List Call) : Type 0 where
  pub shows : Shows names nodes (replayed empty calls)
  pub sound : IsSound (replayed empty calls) (length nodes)

-- the record goes on by one call, which makes this of the disk
pub record GoesOn (old new : List Call) (l : Loose) : Type 0 where
  pub call : Call
  pub more : new ≡ old ++ call ∷ []
  pub made : after (replayed empty old) call ≡ l
