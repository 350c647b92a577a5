-- Rows that a writer was given one by one.
use Rattle.std.proofs.Common.{◌≡◌, ◌⊎◌, inl, inr, ℕ, ◌+◌, ◌≤◌, ◌<◌, List, [], ◌∷◌, ◌++◌, length, map, take, drop, refl, sym, ap, subst, ◌∙◌, arith, append_assoc, length-append}
use Rattle.std.specs.Prelude.{Result, Ok, Err, OnOk, IfOk}
use Rattle.std.specs.List.{AllByRecursion}
use Rattle.bits.specs.declared.refusal.Refusal.{Refusal}
use Rattle.std.proofs.Math.Seq.{take-append_seam, drop-append_seam}
use Rattle.std.proofs.lemmas.List.{append-nil, take_all, drop_all}
use Rattle.schema.specs.Values.{ValueTrees}
use Rattle.schema.specs.Shape.{Fields}
use Rattle.metadata.specs.Records.{GroupMeta}
use Rattle.metadata.specs.Views.{group_meta_view}
use Rattle.row_group.specs.Writing.{AppendsGroup, AreTaken, IsGroupTooMuch}
use Rattle.footer.specs.declared.options.WriteOptions.{WriteOptions}
use Rattle.footer.specs.File.{magic}
use Rattle.footer.specs.Writing.{chunk_options, groups_of, IsOutOfRange, IsTooMuch}
use Rattle.footer.specs.declared.file_writer.FileWriter.{FileWriter}
use Rattle.footer.specs.Writer.{IsBegun, AreGiven, HasWritten, schema_of, options_of, has_rows}
use Rattle.shred.specs.Buffer.{holds}
use Rattle.footer.specs.inner.Waiting.{IsNextGroupOf, IsNextGroup, HasRoom, HoldsSame}
use Rattle.footer.proofs.InGroups.{in_range, goes_on, too_much, all_written}
use Rattle.footer.proofs.Whole.{AreWritten}

-- of a schema and options that are these
pub given_of : (fs gs : Fields) (o p : WriteOptions) (out new : List ℕ) (metas more : List GroupMeta) (waiting : List ValueTrees) (written now : ℕ) (rows : List ValueTrees)
    → gs ≡ fs → p ≡ o → new ≡ out → more ≡ metas → now ≡ written → AreGiven fs o out metas waiting written rows → AreGiven gs p new more waiting now rows
given_of fs gs o p out new metas more waiting written now rows schema options bytes groups count h = rw (schema, options, bytes, groups, count) h

begun_of : (fs gs : Fields) (o p : WriteOptions) (rows rest : List ValueTrees) (out : List ℕ) (metas : List GroupMeta) → gs ≡ fs → p ≡ o → IsBegun gs p rows rest out metas → IsBegun fs o rows rest out metas
begun_of fs gs o p rows rest out metas schema options h = rw (← schema, ← options) h

-- nothing is written yet
pub none_written : (fs : Fields) (o : WriteOptions) (rows : List ValueTrees) → IsBegun fs o rows rows magic []
none_written fs o rows = record {
  before = [];
  split = refl;
  stands = λ new gs p. p;
  taken = λ h. h;
  weighs = omega arith;
  large = λ h. h;
}

-- a group is the first rows, where it is full or no others follow
first_ones : {X : Type 0} (size : ℕ) (part later : List X) → length part ≤ size → (length part ≡ size) ⊎ (later ≡ []) → take size (part ++ later) ≡ part
first_ones size part later few (inl full) = ap (λ (n : ℕ). take n (part ++ later)) (sym full) ∙ take-append_seam part later
first_ones size part later few (inr none) = ap (λ (t : List _). take size (part ++ t)) none ∙ ap (take size) (append-nil part) ∙ take_all size part few

other_ones : {X : Type 0} (size : ℕ) (part later : List X) → length part ≤ size → (length part ≡ size) ⊎ (later ≡ []) → drop size (part ++ later) ≡ later
other_ones size part later few (inl full) = ap (λ (n : ℕ). drop n (part ++ later)) (sym full) ∙ drop-append_seam part later
other_ones size part later few (inr none) = ap (λ (t : List _). drop size (part ++ t)) none ∙ ap (drop size) (append-nil part) ∙ drop_all size part few ∙ sym none

-- where part is the next group of the rows
pub record IsNext (o : WriteOptions) (part later : List ValueTrees) : Type 0 where
  pub in_range : IsOutOfRange o → ⊥
  pub some : 0 < length part
  pub few : length part ≤ o.group_rows
  pub ends : (length part ≡ o.group_rows) ⊎ (later ≡ [])

-- it is written
pub one_written : (fs : Fields) (o : WriteOptions) (rows part later : List ValueTrees) (out new : List ℕ) (metas : List GroupMeta) (g : GroupMeta) → IsNext o part later
    → IsBegun fs o rows (part ++ later) out metas → AppendsGroup fs (chunk_options o) out new g part → AreTaken fs part → IsBegun fs o rows later new (metas ++ g ∷ [])
one_written fs o rows part later out new metas g next begun written taken =
    let size = o.group_rows in
    let range = in_range o next.in_range in
    let first = first_ones size part later next.few next.ends in
    let some = next.some in
    let there : 0 < length (part ++ later) = omega (arith, some, length-append part later) in
    subst (λ (t : List ValueTrees). IsBegun fs o rows t new (metas ++ g ∷ [])) (other_ones size part later next.few next.ends)
    (goes_on fs o rows (part ++ later) out new metas g range.some there begun (subst (AppendsGroup fs (chunk_options o) out new g) (sym first) written) (subst (AreTaken fs) (sym first) taken))

-- it is too much, and so are the rows
pub one_too_much : (fs : Fields) (o : WriteOptions) (rows part later : List ValueTrees) (out : List ℕ) (metas : List GroupMeta) → IsNext o part later
    → IsBegun fs o rows (part ++ later) out metas → IsGroupTooMuch fs (chunk_options o) (length out) part → IsTooMuch fs o rows
one_too_much fs o rows part later out metas next begun much =
    let some = next.some in
    let there : 0 < length (part ++ later) = omega (arith, some, length-append part later) in
    too_much fs o rows (part ++ later) out metas (in_range o next.in_range) there begun (subst (IsGroupTooMuch fs (chunk_options o) (length out)) (sym (first_ones o.group_rows part later next.few next.ends)) much)

-- ---- rows that were given

pub none_given : (fs : Fields) (o : WriteOptions) → (IsOutOfRange o → ⊥) → AreGiven fs o magic [] [] 0 []
none_given fs o range = record {
  full = [];
  joined = refl;
  begun = λ later. none_written fs o later;
  few = omega arith;
  counted = refl;
  in_range = range;
}

-- these wait, and none are written
pub all_wait : (fs : Fields) (o : WriteOptions) (rows : List ValueTrees) → (IsOutOfRange o → ⊥) → length rows ≤ o.group_rows → AreGiven fs o magic [] rows 0 rows
all_wait fs o rows range few = record {
  full = [];
  joined = refl;
  begun = λ later. none_written fs o later;
  few = few;
  counted = refl;
  in_range = range;
}

-- one more waits
pub one_given : (fs : Fields) (o : WriteOptions) (out : List ℕ) (metas : List GroupMeta) (waiting : List ValueTrees) (written : ℕ) (rows : List ValueTrees) (row : ValueTrees) → length waiting < o.group_rows
    → AreGiven fs o out metas waiting written rows → AreGiven fs o out metas (waiting ++ row ∷ []) written (rows ++ row ∷ [])
one_given fs o out metas waiting written rows row room so = record {
  full = so.full;
  joined = ap (λ (t : List ValueTrees). t ++ row ∷ []) so.joined ∙ append_assoc so.full waiting (row ∷ []);
  begun = so.begun;
  few = omega (arith, room, length-append waiting (row ∷ []));
  counted = so.counted;
  in_range = so.in_range;
}

-- those that wait are full, and so are the next group
pub full_group : (fs : Fields) (o : WriteOptions) (out : List ℕ) (metas : List GroupMeta) (waiting : List ValueTrees) (written : ℕ) (rows later : List ValueTrees) → length waiting ≡ o.group_rows
    → AreGiven fs o out metas waiting written rows → IsNextGroupOf fs o out metas waiting (rows ++ later) later
full_group fs o out metas waiting written rows later full so = record {
  in_range = so.in_range;
  begun = subst (λ (t : List ValueTrees). IsBegun fs o t (waiting ++ later) out metas)
      (sym (append_assoc so.full waiting later) ∙ ap (λ (t : List ValueTrees). t ++ later) (sym so.joined)) (so.begun (waiting ++ later));
  few = so.few;
  ends = inl full;
}

-- or the last one
pub last_group : (fs : Fields) (o : WriteOptions) (out : List ℕ) (metas : List GroupMeta) (waiting : List ValueTrees) (written : ℕ) (rows : List ValueTrees) → AreGiven fs o out metas waiting written rows
    → IsNextGroupOf fs o out metas waiting rows []
last_group fs o out metas waiting written rows so = record {
  in_range = so.in_range;
  begun = subst (λ (t : List ValueTrees). IsBegun fs o rows t out metas) (sym (append-nil waiting))
      (subst (λ (t : List ValueTrees). IsBegun fs o t waiting out metas) (sym so.joined) (so.begun waiting));
  few = so.few;
  ends = inr refl;
}

-- once they are written none waits
pub none_waits : (fs : Fields) (o : WriteOptions) (out new : List ℕ) (metas more : List GroupMeta) (waiting : List ValueTrees) (written now : ℕ) (rows : List ValueTrees)
    → ((later : List ValueTrees) → IsBegun fs o (rows ++ later) later new more) → now ≡ written + length waiting
    → AreGiven fs o out metas waiting written rows → AreGiven fs o new more [] now rows
none_waits fs o out new metas more waiting written now rows begun counts so =
    let counted = so.counted in
    record {
      full = rows;
      joined = sym (append-nil rows);
      begun = begun;
      few = omega arith;
      counted = omega (arith, counts, counted, ap length so.joined, length-append so.full waiting);
      in_range = so.in_range;
    }

-- how many they are
pub all_counted : (fs : Fields) (o : WriteOptions) (out : List ℕ) (metas : List GroupMeta) (waiting : List ValueTrees) (written : ℕ) (rows : List ValueTrees) → AreGiven fs o out metas waiting written rows
    → written + length waiting ≡ length rows
all_counted fs o out metas waiting written rows so =
    let counted = so.counted in
    omega (arith, counted, ap length so.joined, length-append so.full waiting)

-- a writer that holds the same has the same rows
pub has_same : (old new : FileWriter) (rows : List ValueTrees) → HoldsSame old new → schema_of new ≡ schema_of old → options_of new ≡ options_of old → has_rows old rows → has_rows new rows
has_same old new rows same schema options so = record {
  waiting = so.waiting;
  held = same.waiting so.waiting so.held;
  given = given_of _ _ _ _ _ _ _ _ _ _ _ _ schema options same.bytes (ap (map group_meta_view) same.groups) same.written so.given;
}

-- ---- the rows that wait, as a group

next_of : (fs : Fields) (o : WriteOptions) (out : List ℕ) (metas : List GroupMeta) (waiting rows later : List ValueTrees) → 0 < length waiting
    → IsNextGroupOf fs o out metas waiting rows later → IsNext o waiting later
next_of fs o out metas waiting rows later some next = record { in_range = next.in_range; some = some; few = next.few; ends = next.ends }

pub group_written : (fs : Fields) (o : WriteOptions) (out new : List ℕ) (metas : List GroupMeta) (g : GroupMeta) (waiting : List ValueTrees) (rows later : List ValueTrees) → 0 < length waiting
    → AppendsGroup fs (chunk_options o) out new g waiting → AreTaken fs waiting → IsNextGroupOf fs o out metas waiting rows later → IsBegun fs o rows later new (metas ++ g ∷ [])
group_written fs o out new metas g waiting rows later some written taken next =
    one_written fs o rows waiting later out new metas g (next_of fs o out metas waiting rows later some next) next.begun written taken

pub group_too_much : (fs : Fields) (o : WriteOptions) (out : List ℕ) (metas : List GroupMeta) (waiting : List ValueTrees) (rows later : List ValueTrees) → 0 < length waiting
    → IsGroupTooMuch fs (chunk_options o) (length out) waiting → IsNextGroupOf fs o out metas waiting rows later → IsTooMuch fs o rows
group_too_much fs o out metas waiting rows later some much next =
    one_too_much fs o rows waiting later out metas (next_of fs o out metas waiting rows later some next) next.begun much

-- those that wait are the next group
pub full_next : (w : FileWriter) (rows later : List ValueTrees) (so : has_rows w rows) → length so.waiting ≡ (options_of w).group_rows → IsNextGroup w so.waiting (rows ++ later) later
full_next w rows later so full = record {
  held = so.held;
  next = full_group (schema_of w) (options_of w) w.bytes.items (map group_meta_view w.groups.items) so.waiting w.written rows later full so.given;
}

pub last_next : (w : FileWriter) (rows : List ValueTrees) (so : has_rows w rows) → IsNextGroup w so.waiting rows []
last_next w rows so = record {
  held = so.held;
  next = last_group (schema_of w) (options_of w) w.bytes.items (map group_meta_view w.groups.items) so.waiting w.written rows so.given;
}

-- a full group was written, and none waits
pub none_waits_in : {X : Type 0} (old new : FileWriter) (r : Result X Refusal) → ((waiting : List ValueTrees) → holds old.waiting waiting → length waiting ≡ (options_of old).group_rows)
    → OnOk r ((waiting rows later : List ValueTrees) → IsNextGroup old waiting rows later → HasWritten new rows later) → OnOk r ((waiting : List ValueTrees) → holds old.waiting waiting → holds new.waiting [])
    → OnOk r ((waiting : List ValueTrees) → holds old.waiting waiting → new.written ≡ old.written + length waiting)
    → schema_of new ≡ schema_of old → options_of new ≡ options_of old → OnOk r ((rows : List ValueTrees) → has_rows old rows → HasRoom new rows)
none_waits_in old new (Err e) full stands emptied counted schema options = tt
none_waits_in old new (Ok x) full stands emptied counted schema options = λ rows so.
    let fs = schema_of old in
    let o = options_of old in
    let metas = map group_meta_view old.groups.items in
    let more = map group_meta_view new.groups.items in
    let begun : (later : List ValueTrees) → IsBegun fs o (rows ++ later) later new.bytes.items more = λ later.
    begun_of _ _ _ _ _ _ _ _ schema options (stands so.waiting (rows ++ later) later (full_next old rows later so (full so.waiting so.held))) in
    let given : AreGiven fs o new.bytes.items more [] new.written rows = none_waits fs o old.bytes.items new.bytes.items metas more so.waiting old.written new.written rows begun (counted so.waiting so.held) so.given in
    let range = in_range o so.given.in_range in
    let some = range.some in
    record {
      has = record { waiting = []; held = emptied so.waiting so.held; given = given_of _ _ _ _ _ _ _ _ _ _ _ _ schema options refl refl refl given };
      few = rw options some;
    }

-- the last group was written, and so all are
pub last_written : (old new : FileWriter) → ((waiting rows later : List ValueTrees) → IsNextGroup old waiting rows later → HasWritten new rows later) → schema_of new ≡ schema_of old → options_of new ≡ options_of old
    → (rows : List ValueTrees) → has_rows old rows
    → AreWritten (schema_of old) (options_of old) rows new.bytes.items (map group_meta_view new.groups.items) × AllByRecursion (AreTaken (schema_of old)) (groups_of (options_of old).group_rows rows)
last_written old new stands schema options rows so =
    let fs = schema_of old in
    let o = options_of old in
    let range = in_range o so.given.in_range in
    let begun : IsBegun fs o rows [] new.bytes.items (map group_meta_view new.groups.items) = begun_of _ _ _ _ _ _ _ _ schema options (stands so.waiting rows [] (last_next old rows so)) in
    all_written fs o rows [] new.bytes.items (map group_meta_view new.groups.items) range.some refl begun

-- how many rows all groups have
pub last_counted : (old new : FileWriter) → ((waiting : List ValueTrees) → holds old.waiting waiting → new.written ≡ old.written + length waiting) → (rows : List ValueTrees) → has_rows old rows → new.written ≡ length rows
last_counted old new counted rows so =
    counted so.waiting so.held ∙ all_counted (schema_of old) (options_of old) old.bytes.items (map group_meta_view old.groups.items) so.waiting old.written rows so.given

-- two facts of what is Ok
pub ok_both : {X : Type 0} (P Q S : X → Type 0) (r : Result X Refusal) → ((x : X) → P x → Q x → S x) → IfOk r P → IfOk r Q → IfOk r S
ok_both P Q S (Ok x) f p q = f x p q
ok_both P Q S (Err e) f p q = tt

-- what holds anyhow
pub ok_always : {X P : Type 0} (r : Result X Refusal) → P → OnOk r P
ok_always (Ok x) p = p
ok_always (Err e) p = tt
