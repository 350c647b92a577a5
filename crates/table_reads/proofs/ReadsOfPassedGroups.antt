-- What reading groups one after another leaves, and how often the disk is read for them.
use Rattle.std.proofs.Common.{◌≡◌, ◌+◌, ℕ, suc, List, [], ◌∷◌, ◌++◌, drop, Some, Ok, Err, inl, inr, refl, sym, ◌∙◌, ap, subst, arith, length-append as longer}
use Rattle.std.specs.Prelude.{slice_get}
use Rattle.lists.proofs.Slices.{drop_found as drop_at}
use Rattle.lists.proofs.Booleans.{iff_through as both}
use Rattle.bits.specs.declared.refusal.Refusal.{Refusal}
use Rattle.bits.specs.declared.refusal.Refusal.TheVariants.{Memory}
use Rattle.bits.specs.Refusals.{HasCause}
use Rattle.schema.specs.Shape.{Fields}
use Rattle.schema.specs.Keys.{KeyColumn}
use Rattle.disk.specs.State.{State as DiskState}
use Rattle.vault.specs.Views.{Same}
use Rattle.vault.specs.Calls.{LeavesAll}
use Rattle.vault.proofs.Moments.{joins, rooted_joins, clear_joins, nothing_yet, same_same, same_twice, stays_rooted_here, stays_clear_here}
use Rattle.vault.proofs.Chained.{failed_since}
use Rattle.filter.specs.Test.{Test}
use Rattle.manifest.specs.Groups.{Group as FileGroup}
use Rattle.scan.specs.Faults.{IsPartRefusal}
use Rattle.table_state.specs.declared.jobs.OpenCursor.{OpenCursor}
use Rattle.table_reads.specs.Reading.{OnlyReads, IsReading}
use Rattle.table_reads.specs.Passing.{AreReads, AreReadsOf, AreReadsFrom, ReadsFrom, GoesTo, AreFetches, QueriesReadOnce, FetchesFollow, moved}

-- ---- a disk that is only read

leaves_here : (s : DiskState) → LeavesAll s s
leaves_here s = record { moments = nothing_yet Same s same_same; rooted = stays_rooted_here s; clear = stays_clear_here s; names = λ q. refl; seen = same_same _ }

leaves_then : (old mid new : DiskState) → LeavesAll old mid → LeavesAll mid new → LeavesAll old new
leaves_then old mid new first second = record {
  moments = joins Same Same Same old mid new same_twice (λ u v h. h) first.moments second.moments;
  rooted = λ r. rooted_joins Same Same old mid new first.moments second.moments (first.rooted r) second.rooted;
  clear = λ q way. clear_joins Same Same old mid new q first.moments second.moments (first.clear q way) (second.clear q);
  names = λ q. second.names q ∙ first.names q;
  seen = same_twice _ _ _ first.seen second.seen;
}

pub reading_here : (s : DiskState) → IsReading s s
reading_here s = record { unchanged = λ h. leaves_here s; same = refl; honest = (λ h. h, λ h. h) }

pub reading_on : {T : Type 0} (old mid new : DiskState) (x : T) → IsReading old mid → OnlyReads mid new (Ok x) → IsReading old new
reading_on old mid new x a b = record { unchanged = λ h. leaves_then old mid new (a.unchanged h) (b.unchanged (a.honest.0 h)); same = b.counts.none ∙ a.same; honest = both a.honest b.honest }

pub reading_of : {T : Type 0} (old new : DiskState) (x : T) → OnlyReads old new (Ok x) → IsReading old new
reading_of old new x b = record { unchanged = b.unchanged; same = b.counts.none; honest = b.honest }

part_since : (old mid new : DiskState) → mid.failures ≡ old.failures → (e : Refusal) → HasCause (IsPartRefusal mid new) e → HasCause (IsPartRefusal old new) e
part_since old mid new same Memory h = tt
part_since old mid new same e (inl h) = inl (h.0, failed_since old mid new same h.1)
part_since old mid new same e (inr h) = inr h

pub reading_done : {T : Type 0} (old new : DiskState) (x : T) → IsReading old new → OnlyReads old new (Ok x)
reading_done old new x a = record {
  which = tt;
  unchanged = a.unchanged;
  counts = record { later = (let s = a.same in omega (arith, s)); no_more = (let s = a.same in omega (arith, s)); none = a.same; memory = λ m. a.same };
  honest = a.honest;
}

pub reading_ends : {S T : Type 0} (old mid new : DiskState) (e : Refusal) → IsReading old mid → OnlyReads {T = S} mid new (Err e) → OnlyReads {T = T} old new (Err e)
reading_ends old mid new e a b = record {
  which = part_since old mid new a.same e b.which;
  unchanged = λ h. leaves_then old mid new (a.unchanged h) (b.unchanged (a.honest.0 h));
  counts = record { later = (let s = a.same in let l = b.counts.later in omega (arith, s, l)); no_more = (let s = a.same in let l = b.counts.no_more in omega (arith, s, l)); none = tt; memory = λ m. b.counts.memory (cc m) ∙ a.same };
  honest = both a.honest b.honest;
}

-- it ends out of memory
pub reading_poor : (T : Type 0) (old new : DiskState) → IsReading old new → OnlyReads {T = T} old new (Err Memory)
reading_poor T old new a = record {
  which = tt;
  unchanged = a.unchanged;
  counts = record { later = (let s = a.same in omega (arith, s)); no_more = (let s = a.same in omega (arith, s)); none = tt; memory = λ m. a.same };
  honest = a.honest;
}

-- ---- places of a list

appended : {A : Type 0} (xs ys zs : List A) → (xs ++ ys) ++ zs ≡ xs ++ (ys ++ zs)
appended [] ys zs = refl
appended (x ∷ xs) ys zs = ap (λ (l : List _). x ∷ l) (appended xs ys zs)

-- ---- reads

module _ (tests : List (List Test)) (keys : List KeyColumn) (fs : Fields) (places : List ℕ) where
  reads_both : (xs ys : List FileGroup) (m n : ℕ) → AreReadsOf tests keys fs places xs m → AreReadsOf tests keys fs places ys n → AreReadsOf tests keys fs places (xs ++ ys) (m + n)
  reads_both [] ys m n a b = subst (λ (k : ℕ). AreReadsOf tests keys fs places ys k) (omega (arith, a)) b
  reads_both (x ∷ xs) ys m n (here, rest, one, more, total) b = (here, rest + n, one, reads_both xs ys rest n more b, omega (arith, total))

  pub none_from : (version : List FileGroup) (from : ℕ) → AreReadsFrom tests keys fs places version from from 0
  none_from version from = record { between = []; are = refl; many = omega arith; reads = refl }

  pub from_then : (version : List FileGroup) (a b c m n : ℕ) → AreReadsFrom tests keys fs places version a b m → AreReadsFrom tests keys fs places version b c n → AreReadsFrom tests keys fs places version a c (m + n)
  from_then version a b c m n p q = record {
    between = p.between ++ q.between;
    are = p.are ∙ ap (λ (l : List FileGroup). p.between ++ l) q.are ∙ sym (appended p.between q.between (drop c version));
    many = (let u = p.many in let v = q.many in let l = longer p.between q.between in omega (arith, u, v, l));
    reads = reads_both p.between q.between m n p.reads q.reads;
  }

  pub one_from : (version : List FileGroup) (at n : ℕ) (g : FileGroup) → slice_get version at ≡ Some g → AreReads tests keys fs places g n → AreReadsFrom tests keys fs places version at (suc at) n
  one_from version at n g e r = record { between = g ∷ []; are = drop_at version at g e; many = omega arith; reads = (n, 0, r, refl, omega arith) }

-- a query: each fetch begins where the one before came to
pub read_once : QueriesReadOnce
read_once version c d [] h = (0, subst (λ (x : OpenCursor). ReadsFrom c version c.passed x.passed 0) (sym h) (none_from (_) (_) (_) (_) version c.passed), omega arith)
read_once version c d (n ∷ ns) (passed, ended, most, here, le, more) =
    let rest = read_once version (moved passed ended c) d ns more in
    (most + rest.0, from_then (_) (_) (_) (_) version c.passed passed d.passed most rest.0 here rest.1, (let l = rest.2 in omega (arith, le, l)))

pub goes_nowhere : (c : OpenCursor) (version : List FileGroup) (s : DiskState) → GoesTo c version c.passed s s
goes_nowhere c version s = record { count = 0; most = none_from (_) (_) (_) (_) version c.passed; no_more = omega arith; no_less = omega arith }

pub fetches_follow : {D : Type 0} (state : D → DiskState) → FetchesFollow state
fetches_follow state old new n c d version answer ns first more = (
  first.0.passed,
  first.0.ended,
  first.3.count,
  first.3.most,
  (let m = first.3.no_more in omega (arith, m)),
  subst (λ (x : OpenCursor). AreFetches version x ns d) first.2 more,
)
