-- Files that were brought in, and which of the versions that came one after another named them.
use Rattle.std.specs.Prelude.{Vec, ℕ, Bool, true, false, not, ◌&&◌, ◌||◌, nat_lt, nat_le, nat_eq, if◌then◌else◌, List, [], ◌∷◌, map, flat_map, filter, Option, Some, None, is_none, is_some}
use Rattle.std.specs.List.{list_any}
use Rattle.std.specs.Rc.{rc_value}
use Rattle.std.specs.declared.rc.Rc.{Rc}
use Rattle.std.specs.declared.alloc.Global.{Global}
use Rattle.snapshots.specs.State.{File, Version, file_of, is_same}
use Rattle.snapshots.specs.declared.others.Others.{Others}
use Rattle.snapshots.specs.declared.other.Other.{Other as CodeOther}
use Rattle.snapshots.specs.inner.Found.{file_in}

-- a file that the versions which came at the time `from` or later, and before `to`, named; and the job that wrote it, if one did
pub record Other : Type 0 where
  pub file : File
  pub from : ℕ
  pub to : ℕ
  pub writer : Option ℕ

-- what an `Other` of the program stands for
abbrev pub other_view : CodeOther → Other
other_view o = record { file = file_in o.group; from = o.from; to = o.to; writer = o.writer }

-- what the entries stand for, in their order
abbrev pub others_view : List CodeOther → List Other
others_view os = map other_view os

-- what the entries of blocks stand for, one block after another
abbrev pub others_of_blocks : List (Rc (Vec CodeOther Global) Global) → List Other
others_of_blocks blocks = flat_map (λ (b : Rc (Vec CodeOther Global) Global). others_view (rc_value b).items) blocks

-- what the entries of an `Others` stand for, in the order of its blocks
abbrev pub others_in : Others → List Other
others_in os = others_of_blocks (rc_value os.blocks).items

-- one of the entries has this file
abbrev pub is_listed : List Other → File → Bool
is_listed os f = list_any (λ (o : Other). is_same o.file f) os

-- the number, if there is one, is `n`
abbrev pub is_number : Option ℕ → ℕ → Bool
is_number None n = false
is_number (Some m) n = nat_eq m n

-- the files that a job wrote
abbrev pub written_by : ℕ → List Other → List File
written_by n os = map (λ (o : Other). o.file) (filter (λ (o : Other). is_number o.writer n) os)

-- the entry, as if the job of this number had not written its file
abbrev pub unwritten_by : ℕ → Other → Other
unwritten_by n o = record { file = o.file; from = o.from; to = o.to; writer = if is_number o.writer n then None else o.writer }

-- one of these jobs wrote the file
abbrev pub is_by_one : List ℕ → Other → Bool
is_by_one jobs o = list_any (is_number o.writer) jobs

-- a version that came at one of these times named the file
abbrev pub is_seen : List ℕ → Other → Bool
is_seen ats o = list_any (λ at. nat_le o.from at && nat_lt at o.to) ats

-- a file that the next version has stays where it is; another one left now, if it is known when it came
abbrev pub left_one : File → ℕ → Bool → Option ℕ → List Other → List Other
left_one f now true came rest = rest
left_one f now false None rest = rest
left_one f now false (Some at) rest = record { file = f; from = at; to = now; writer = None } ∷ rest

-- the files of a version that the next one does not have
abbrev pub left_over : (File → Option ℕ) → (File → Option ℕ) → ℕ → Version → List Other
left_over before next now [] = []
left_over before next now (g ∷ gs) = left_one (file_of g) now (is_some (next (file_of g))) (before (file_of g)) (left_over before next now gs)

-- the entry is kept at a commit: the new version does not name its file, or an earlier version named it, or an open job wrote it
abbrev pub stays : (File → Option ℕ) → List ℕ → Other → Bool
stays next jobs o = is_none (next o.file) || (nat_lt o.from o.to || is_by_one jobs o)

-- something open needs the file: a version that came at one of these times named it, or one of these jobs wrote it
abbrev pub is_pinned : List ℕ → List ℕ → Other → Bool
is_pinned ats jobs o = is_seen ats o || is_by_one jobs o

-- the file is neither of the current version nor pinned
abbrev pub is_free : (File → Option ℕ) → (File → Bool) → File → Bool
is_free current pinned f = is_none (current f) && not (pinned f)
