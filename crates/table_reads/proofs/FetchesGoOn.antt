-- A fetch that goes on: what it leaves, and that it acts.
use Rattle.std.proofs.Common.{◌≡◌, ℕ, Bool, true, false, not, ◌==◌, List, [], ◌∷◌, ◌++◌, length, reverse, option_map, Option, Some, None, Ok, Err, refl, sym, ◌∙◌, ap, subst, eqb-true, arith}
use Rattle.std.specs.Prelude.{if◌then◌else◌, Vec}
use Rattle.std.specs.declared.alloc.Global.{Global}
use Rattle.std.specs.List.{AllZip}
use Rattle.std.proofs.lemmas.Bool.{false≢true}
use Rattle.std.proofs.lemmas.Option.{same_Some as some_is}
use Rattle.bits.specs.declared.refusal.Refusal.{Refusal}
use Rattle.bits.specs.declared.refusal.Refusal.TheVariants.{Memory, Device}
use Rattle.bits.specs.Refusals.{HasCause}
use Rattle.schema.specs.Cutting.{is_among}
use Rattle.schema.specs.Keys.{KeyColumn, AreDistinct}
use Rattle.schema.specs.Shape.{Fields}
use Rattle.partition.specs.Folders.{part_path_of}
use Rattle.disk.specs.State.{State as DiskState}
use Rattle.vault.specs.declared.vault.Vault.{Vault}
use Rattle.vault.specs.Views.{Same}
use Rattle.vault.specs.Calls.{LeavesAll}
use Rattle.vault.proofs.Moments.{kept_on}
use Rattle.manifest.specs.Groups.{Group as FileGroup, root_of}
use Rattle.scan.specs.Faults.{IsDevice}
use Rattle.snapshots.specs.Views.{state_of}
use Rattle.table.specs.Table.{Row, Group}
use Rattle.table.specs.Cursors.{Batch, Cursor}
use Rattle.table.specs.State.{State, open_at, changed_at}
use Rattle.table.specs.Calls.{Call, Answer, fetch, refused}
use Rattle.table.specs.History.{next_answer, after_fetch, Fetches}
use Rattle.table.specs.Checks.{fault}
use Rattle.table.specs.Refusing.{Happens, no_memory, failed, is_over}
use Rattle.table.proofs.Steady.{stays}
use Rattle.table_state.specs.declared.standing.Core.{Core}
use Rattle.table_state.specs.declared.jobs.OpenCursor.{OpenCursor}
use Rattle.table_state.specs.Lookups.{cursor_at}
use Rattle.table_state.specs.Stands.{AreStored, AreNumbered, ShowsCursor, ShowsOpen, Stands, numbers_at, cursor_numbers}
use Rattle.table_commits.specs.Cleaning.{Clears}
use Rattle.table_reads.specs.Passing.{Comes, batches_with, batches_from, moved, moved_at, GoesTo, Went, FetchReads}
use Rattle.table_reads.proofs.ReadsOfPassedGroups.{goes_nowhere}
use Rattle.snapshots.specs.State.{open_at as versions_at}
use Rattle.table_state.specs.Promises.{IsOlderFile, ActsFrom}
use Rattle.table_commits.proofs.AfterCleanings.{read_still}
use Rattle.table_reads.proofs.CursorsGoOn.{no_rows}
use Rattle.table_reads.proofs.FetchesWithoutCursor.{cursor_found, changed_none, fault_is, sure, here as fetching_here}
use Rattle.table_commits.proofs.OtherJobsAndCursors.{IsOpenSo, open_here, shows_open}
use Rattle.table_commits.proofs.OneCallMore.{reached_on}
use Rattle.table_commits.proofs.DoubtCloses.{no_doubt}
use Rattle.table_commits.proofs.OlderFiles.{kept_read}

module _ {D : Type 0} (state : D → DiskState) (store : Core D) (s : State) (stands : Stands state store s) (is_open : s.closed ≡ false) (vault : Vault D) (leaves : LeavesAll (state store.vault.disk) (state vault.disk)) where
  abbrev read_store : Core D
  read_store = record store { vault = vault }

  pub here : ShowsOpen (state store.vault.disk) store s
  here = stands.shows.shown is_open

  -- the store stands where it stood
  pub still_so : Clears state store read_store s
  still_so = read_still state store s stands.shows is_open vault leaves

  -- so it does after a refusal
  pub stays_put : (call : Call) (answer : Answer) → Happens s call answer s → ActsFrom state store read_store call answer s
  stays_put call answer happens = record { after = s; happens = happens; survives = still_so.survives; stands = record { reached = reached_on s stands.reached call answer s happens; shows = still_so.shows }; past = still_so.past; doubt = no_doubt s call answer s happens refl; kept = λ keeps. kept_read state store read_store (IsOlderFile s) keeps leaves }

-- ---- what it comes to

none_of : {A : Type 0} (x : A) (xs : List A) → (length (x ∷ xs) == 0) ≡ false
none_of x xs = by (length (x ∷ xs) == 0) refl
  where
    by : (b : Bool) → (length (x ∷ xs) == 0) ≡ b → (length (x ∷ xs) == 0) ≡ false
    by true e = let z = eqb-true (length (x ∷ xs)) 0 e in absurd (omega (arith, z))
    by false e = e

after_is : (places : List ℕ) (rows : List Row) (rest : List Batch) (over : Bool) → over ≡ (length rows == 0) → (rows ≡ [] → rest ≡ []) → after_fetch (batches_with places rows ++ rest) ≡ record { batches = rest; ended = over }
after_is places [] rest over e none =
    let gone = none refl in ap after_fetch gone ∙ ap (λ (bs : List Batch). record { batches = bs; ended = true }) (sym gone) ∙ ap (λ (b : Bool). record { batches = rest; ended = b }) (sym e)
after_is places (x ∷ xs) rest over e none = ap (λ (b : Bool). record { batches = rest; ended = b }) (sym (e ∙ none_of x xs))

answer_is : (places : List ℕ) (rows : List Row) (rest : List Batch) → (rows ≡ [] → rest ≡ []) → next_answer (batches_with places rows) ≡ next_answer (batches_with places rows ++ rest)
answer_is places [] rest none = ap next_answer (sym (none refl))
answer_is places (x ∷ xs) rest none = refl

-- ---- the list of the open cursors

module _ (n passed : ℕ) (over : Bool) where
  abbrev heads : Bool → OpenCursor → List OpenCursor → List OpenCursor
  heads b x xs = if b then moved passed over x ∷ xs else x ∷ moved_at n passed over xs

  numbers_moved : (xs : List OpenCursor) → cursor_numbers (moved_at n passed over xs) ≡ cursor_numbers xs
  numbers_moved [] = refl
  numbers_moved (x ∷ xs) = by (x.number == n) (numbers_moved xs)
    where
      by : (b : Bool) → cursor_numbers (moved_at n passed over xs) ≡ cursor_numbers xs → cursor_numbers (heads b x xs) ≡ cursor_numbers (x ∷ xs)
      by true r = refl
      by false r = ap (λ (ns : List ℕ). x.number ∷ ns) r

  pub moved_found : (xs : List OpenCursor) (c : OpenCursor) → cursor_at n xs ≡ Some c → cursor_at n (moved_at n passed over xs) ≡ Some (moved passed over c)
  moved_found [] c e = absurd (cc)
  moved_found (x ∷ xs) c e = by (x.number == n) refl (moved_found xs c) e
    where
      by : (b : Bool) → (x.number == n) ≡ b → (cursor_at n xs ≡ Some c → cursor_at n (moved_at n passed over xs) ≡ Some (moved passed over c)) → (if b then Some x else cursor_at n xs) ≡ Some c → cursor_at n (heads b x xs) ≡ Some (moved passed over c)
      by true f rest g = ap (λ (b : Bool). if b then Some (moved passed over x) else cursor_at n xs) f ∙ ap (λ (y : OpenCursor). Some (moved passed over y)) (some_is x c g)
      by false f rest g = ap (λ (b : Bool). if b then Some x else cursor_at n (moved_at n passed over xs)) f ∙ rest g

  module _ (Seen Later : OpenCursor → ℕ × Cursor → Type 0) (named : (x : OpenCursor) (d : ℕ × Cursor) → Seen x d → x.number ≡ d.0) (carry : (x : OpenCursor) (d : ℕ × Cursor) → Seen x d → Later x d) (after : Cursor) where
    zip_all : (shown : List OpenCursor) (xs : List (ℕ × Cursor)) → AllZip Seen shown xs → AllZip Later shown xs
    zip_all [] [] z = tt
    zip_all (x ∷ xs) (d ∷ ds) z = (carry x d z.0, zip_all xs ds z.1)
    zip_all [] (d ∷ ds) z = absurd z
    zip_all (x ∷ xs) [] z = absurd z

    zip_moved : (shown : List OpenCursor) (xs : List (ℕ × Cursor)) → AllZip Seen shown xs → AreDistinct (numbers_at xs)
        → ((x : OpenCursor) (d : ℕ × Cursor) → open_at n xs ≡ Some d.1 → x.number ≡ n → cursor_at n shown ≡ Some x → Seen x d → Later (moved passed over x) (n, after))
        → AllZip Later (moved_at n passed over shown) (changed_at n after xs)
    zip_moved [] [] z u turn = tt
    zip_moved (x ∷ xs) (d ∷ ds) z u turn = by (x.number == n) refl (λ f. zip_moved xs ds z.1 u.1 (λ y e o m at seen. turn y e (skip f ∙ o) m (ap (λ (b : Bool). if b then Some x else cursor_at n xs) f ∙ at) seen))
      where
        is : x.number ≡ d.0
        is = named x d z.0

        skip : (x.number == n) ≡ false → open_at n (d ∷ ds) ≡ open_at n ds
        skip f = ap (λ (b : Bool). if b then Some d.1 else open_at n ds) (ap (λ (m : ℕ). m == n) (sym is) ∙ f)

        by : (b : Bool) → (x.number == n) ≡ b → ((x.number == n) ≡ false → AllZip Later (moved_at n passed over xs) (changed_at n after ds)) → AllZip Later (heads b x xs) (changed_at n after (d ∷ ds))
        by true f rest =
            let x_is : x.number ≡ n = eqb-true x.number n f in
            let d_is : (d.0 == n) ≡ true = ap (λ (m : ℕ). m == n) (sym is) ∙ f in
            let list_is : changed_at n after (d ∷ ds) ≡ (n, after) ∷ ds
            = ap (λ (b : Bool). (if b then (n, after) else d) ∷ changed_at n after ds) d_is ∙ ap (λ (l : List (ℕ × Cursor)). (n, after) ∷ l) (changed_none n after ds (subst (λ (k : ℕ). is_among (numbers_at ds) k ≡ false) (sym is ∙ x_is) u.0)) in
            subst (λ (l : List (ℕ × Cursor)). AllZip Later (moved passed over x ∷ xs) l) (sym list_is)
            (turn x d (ap (λ (b : Bool). if b then Some d.1 else open_at n ds) d_is) x_is (ap (λ (b : Bool). if b then Some x else cursor_at n xs) f) z.0, zip_all xs ds z.1)
        by false f rest =
            let d_is : (d.0 == n) ≡ false = ap (λ (m : ℕ). m == n) (sym is) ∙ f in
            subst (λ (b : Bool). AllZip Later (x ∷ moved_at n passed over xs) ((if b then (n, after) else d) ∷ changed_at n after ds)) (sym d_is) (carry x d z.0, rest f)
    zip_moved [] (d ∷ ds) z u turn = absurd z
    zip_moved (x ∷ xs) [] z u turn = absurd z

numbers_changed : (n : ℕ) (after : Cursor) (xs : List (ℕ × Cursor)) → numbers_at (changed_at n after xs) ≡ numbers_at xs
numbers_changed n after [] = refl
numbers_changed n after (d ∷ ds) = by (d.0 == n) refl (numbers_changed n after ds)
  where
    by : (b : Bool) → (d.0 == n) ≡ b → numbers_at (changed_at n after ds) ≡ numbers_at ds → numbers_at ((if b then (n, after) else d) ∷ changed_at n after ds) ≡ d.0 ∷ numbers_at ds
    by true e r = ap (λ (m : ℕ). m ∷ numbers_at (changed_at n after ds)) (sym (eqb-true d.0 n e)) ∙ ap (λ (ns : List ℕ). d.0 ∷ ns) r
    by false e r = ap (λ (ns : List ℕ). d.0 ∷ ns) r

-- ---- what a cursor shows on the disk as it is then

module _ (old new : DiskState) (leaves : LeavesAll old new) (held : List (ℕ × List FileGroup)) (keys : List KeyColumn) (count : ℕ) where
  pub stored_left : (schema : Fields) (files : List FileGroup) (groups : List Group) → AreStored old keys schema count files groups → AreStored new keys schema count files groups
  stored_left schema [] [] z = tt
  stored_left schema (f ∷ fs) (g ∷ gs) z = (
    record { number = z.0.number; key = z.0.key; can = z.0.can; below = z.0.below; bytes = z.0.bytes; kept = kept_on Same old new leaves.moments (part_path_of keys f.key f.number) z.0.bytes (λ u v h. h (part_path_of keys f.key f.number)) z.0.kept; means = z.0.means },
    stored_left schema fs gs z.1,
  )
  stored_left schema [] (g ∷ gs) z = absurd z
  stored_left schema (f ∷ fs) [] z = absurd z

  shown_left : (x : OpenCursor) (d : ℕ × Cursor) → ShowsCursor old held keys count x d → ShowsCursor new held keys count x d
  shown_left x d z = record { number = z.number; pinned = z.pinned; keyed = z.keyed; made = z.made; groups = z.groups; stored = stored_left (root_of x.table).schema (root_of x.table).groups z.groups z.stored; batches = z.batches; ended = z.ended; over = z.over }

  -- the cursor that went on
  shown_moved : (x : OpenCursor) (d : ℕ × Cursor) (z : ShowsCursor old held keys count x d) (n : ℕ) → x.number ≡ n → (passed : ℕ) (rows : List Row) → Comes x z.groups passed rows → (over : Bool) → over ≡ (length rows == 0) → (after : Cursor) → after ≡ after_fetch d.1.batches
      → ShowsCursor new held keys count (moved passed over x) (n, after)
  shown_moved x d z n is passed rows comes over e after h =
      let rest : List Batch = batches_from x z.groups passed in
      let then_is : after ≡ record { batches = rest; ended = over } = h ∙ ap after_fetch (z.batches ∙ comes.batches) ∙ after_is x.places.items rows rest over e comes.none in
      record {
        number = is;
        pinned = z.pinned;
        keyed = z.keyed;
        made = record { can = z.made.can; terms = z.made.terms; filter = z.made.filter; columns = z.made.columns; places = z.made.places; groups = z.made.groups };
        groups = z.groups;
        stored = stored_left (root_of x.table).schema (root_of x.table).groups z.groups z.stored;
        batches = ap (λ (c : Cursor). c.batches) then_is;
        ended = ap (λ (c : Cursor). c.ended) then_is;
        over = λ o. ap (λ (c : Cursor). c.batches) then_is ∙ comes.none (no_rows rows (sym e ∙ o));
      }

-- ---- the ends of a fetch

module _ {D : Type 0} (state : D → DiskState) (store : Core D) (n : ℕ) (is_open : store.closed ≡ false) (s : State) (stands : Stands state store s) (c : OpenCursor) (at : cursor_at n store.cursors.items ≡ Some c) (going : c.ended ≡ false)
    (vault : Vault D) (leaves : LeavesAll (state store.vault.disk) (state vault.disk)) where
  abbrev open_here_so : s.closed ≡ false
  open_here_so = sure state store n is_open s stands

  pub seen : (d : Cursor) × (open_at n s.cursors ≡ Some d) × ShowsCursor (state store.vault.disk) (state_of store.snapshots).cursors s.table.keys s.next_group c (n, d)
  seen = cursor_found (state store.vault.disk) (state_of store.snapshots).cursors s.table.keys s.next_group n store.cursors.items s.cursors (fetching_here state store n is_open s stands).cursors c at

  needs : not (is_over (open_at n s.cursors)) ≡ true
  needs = ap (λ x. not (is_over x)) seen.1 ∙ ap not (seen.2.ended ∙ going)

  pub poor : ActsFrom state store (record store { vault = vault }) (fetch n) (refused Memory) s
  poor = stays_put state store s stands open_here_so vault leaves (fetch n) (refused Memory) (no_memory refl (ap not open_here_so) needs (stays s (fetch n) refl))

  pub refused_so : (e : Refusal) → HasCause IsDevice e → ActsFrom state store (record store { vault = vault }) (fetch n) (refused e) s
  refused_so Memory h = poor
  refused_so Device h = stays_put state store s stands open_here_so vault leaves (fetch n) (refused Device) (failed refl (ap not open_here_so) needs (stays s (fetch n) refl))
  refused_so e h = subst (λ (x : Refusal). ActsFrom state store (record store { vault = vault }) (fetch n) (refused x) s) (sym h)
      (stays_put state store s stands open_here_so vault leaves (fetch n) (refused Device) (failed refl (ap not open_here_so) needs (stays s (fetch n) refl)))

  module _ (passed : ℕ) (rows : List Row) (comes : (d : ℕ × Cursor) (z : ShowsCursor (state store.vault.disk) (state_of store.snapshots).cursors s.table.keys s.next_group c d) → Comes c z.groups passed rows) (over : Bool) (over_is : over ≡ (length rows == 0))
      (cursors : Vec OpenCursor Global) (items_are : cursors.items ≡ moved_at n passed over store.cursors.items) (answer : Answer) (made : answer ≡ next_answer (batches_with c.places.items rows)) where
    abbrev next : Cursor
    next = after_fetch seen.0.batches

    abbrev after : State
    after = record s { cursors = changed_at n next s.cursors }

    abbrev Before : OpenCursor → ℕ × Cursor → Type 0
    Before x d = ShowsCursor (state store.vault.disk) (state_of store.snapshots).cursors s.table.keys s.next_group x d

    abbrev Later : OpenCursor → ℕ × Cursor → Type 0
    Later x d = ShowsCursor (state vault.disk) (state_of store.snapshots).cursors s.table.keys s.next_group x d

    one_cursor : (a : Option OpenCursor) (x y : OpenCursor) → a ≡ Some x → a ≡ Some y → x ≡ y
    one_cursor a x y e g = let both : Some x ≡ Some y = sym e ∙ g in cc

    one_open : (a : Option Cursor) (x y : Cursor) → a ≡ Some x → a ≡ Some y → x ≡ y
    one_open a x y e g = let both : Some x ≡ Some y = sym e ∙ g in cc

    turn : (x : OpenCursor) (d : ℕ × Cursor) → open_at n s.cursors ≡ Some d.1 → x.number ≡ n → cursor_at n store.cursors.items ≡ Some x → Before x d → Later (moved passed over x) (n, next)
    turn x d o is there z =
        let comes_so : (e : ℕ × Cursor) (y : Before x e) → Comes x y.groups passed rows = subst (λ (w : OpenCursor). (e : ℕ × Cursor) (y : Before w e) → Comes w y.groups passed rows) (one_cursor (cursor_at n store.cursors.items) c x at there) comes in
        shown_moved (state store.vault.disk) (state vault.disk) leaves (state_of store.snapshots).cursors s.table.keys s.next_group x d z n is passed rows (comes_so d z) over over_is next
        (ap (λ (e : Cursor). after_fetch e.batches) (one_open (open_at n s.cursors) seen.0 d.1 seen.1 o))

    zipped : AllZip Later (moved_at n passed over store.cursors.items) (changed_at n next s.cursors)
    zipped = zip_moved n passed over Before Later (λ x d z. z.number) (shown_left (state store.vault.disk) (state vault.disk) leaves (state_of store.snapshots).cursors s.table.keys s.next_group) next store.cursors.items s.cursors
        (fetching_here state store n is_open s stands).cursors (fetching_here state store n is_open s stands).numbered_cursors.distinct turn

    still_here : Clears state store (record store { vault = vault }) s
    still_here = still_so state store s stands open_here_so vault leaves

    open_then : IsOpenSo (state vault.disk) (state_of store.snapshots) after store.jobs.items cursors.items
    open_then = let h = open_here state (record store { vault = vault }) s still_here.shows open_here_so in record {
      jobs = h.jobs;
      cursors = subst (λ (xs : List OpenCursor). AllZip Later xs (changed_at n next s.cursors)) (sym items_are) zipped;
      tracks_jobs = h.tracks_jobs;
      tracks_cursors = h.tracks_cursors ∙ ap (λ (ns : List ℕ). reverse ns) (sym (ap (λ (xs : List OpenCursor). cursor_numbers xs) items_are ∙ numbers_moved n passed over store.cursors.items));
      numbered_jobs = h.numbered_jobs;
      numbered_cursors = subst (λ (ns : List ℕ). AreNumbered s.next_cursor ns) (sym (numbers_changed n next s.cursors)) h.numbered_cursors;
      parted = h.parted;
      files = h.files;
    }

    batches_are : seen.0.batches ≡ batches_with c.places.items rows ++ batches_from c seen.2.groups passed
    batches_are = seen.2.batches ∙ (comes (n, seen.0) seen.2).batches

    answer_so : answer ≡ next_answer seen.0.batches
    answer_so = made ∙ answer_is c.places.items rows (batches_from c seen.2.groups passed) (comes (n, seen.0) seen.2).none ∙ ap next_answer (sym batches_are)

    fetches : Fetches s n answer after
    fetches = record { cursor = seen.0; is_open = seen.1; gives = answer_so; becomes = refl }

    unrefused : fault s (fetch n) ≡ None
    unrefused = fault_is state store n is_open s stands (Some seen.0) seen.1

    next_happens : (places : List ℕ) (given : List Row) → Fetches s n (next_answer (batches_with places given)) after → Happens s (fetch n) (next_answer (batches_with places given)) after
    next_happens places [] h = (unrefused, h)
    next_happens places (row ∷ given) h = (unrefused, h)

    happens_so : Happens s (fetch n) answer after
    happens_so =
        subst (λ (a : Answer). Happens s (fetch n) a after) (sym made)
        (next_happens c.places.items rows (subst (λ (a : Answer). Fetches s n a after) made fetches))

    pub went : ActsFrom state store (record store { vault = vault; cursors = cursors }) (fetch n) answer s
    went = record {
      after = after;
      happens = happens_so;
      survives = record { later = still_here.survives.later; each = still_here.survives.each; ended = still_here.survives.ended };
      stands = record {
        reached = reached_on s stands.reached (fetch n) answer after happens_so;
        shows = shows_open state (record store { vault = vault }) s still_here.shows open_here_so store.snapshots store.jobs cursors store.next_job store.next_cursor s.next_job s.next_cursor s.jobs (changed_at n next s.cursors) refl refl
            stands.shows.next_job stands.shows.next_cursor open_then;
      };
      past = still_here.past;
      doubt = no_doubt s (fetch n) answer after happens_so refl;
      kept = λ keeps. kept_read state store (record store { vault = vault; cursors = cursors }) (IsOlderFile s) keeps leaves;
    }

-- ---- the cursor in the list, as it is found

pub at_of : {X : Type 0} (n : ℕ) (o : Option X) (x : X) (view : X → OpenCursor) (lent items : List OpenCursor) → o ≡ Some x → option_map view o ≡ cursor_at n lent → lent ≡ items → cursor_at n items ≡ Some (view x)
at_of n o x view lent items is e same = ap (cursor_at n) (sym same) ∙ sym e ∙ ap (option_map view) is

pub none_at : {X : Type 0} (n : ℕ) (o : Option X) (view : X → OpenCursor) (lent items : List OpenCursor) → o ≡ None → option_map view o ≡ cursor_at n lent → lent ≡ items → cursor_at n items ≡ None
none_at n o view lent items is e same = ap (cursor_at n) (sym same) ∙ sym e ∙ ap (option_map view) is

module _ {D : Type 0} (state : D → DiskState) (store : Core D) (n : ℕ) (c : OpenCursor) (at : cursor_at n store.cursors.items ≡ Some c) where
  found_one : (d : OpenCursor) → cursor_at n store.cursors.items ≡ Some d → c ≡ d
  found_one d e = let both : Some c ≡ Some d = sym at ∙ e in cc

  not_none : cursor_at n store.cursors.items ≡ None → ⊥
  not_none e = let both : None ≡ Some c = sym e ∙ at in cc

  pub reads_over : {T : Type 0} (answer : T) → FetchReads state store store n (Ok answer)
  reads_over answer = record {
    same = refl;
    goes = λ d version o e held. (d, e, refl, goes_nowhere d version (state store.vault.disk));
    unheld = λ d e none. refl;
    none = λ e. refl;
    shut = λ e. refl;
  }

  -- a cursor that is found is this one, also where no version is held for it
  unheld_too : (now : DiskState) → (versions_at c.number (state_of store.snapshots).cursors ≡ None → now.reads ≡ (state store.vault.disk).reads)
      → (d : OpenCursor) → cursor_at n store.cursors.items ≡ Some d → versions_at d.number (state_of store.snapshots).cursors ≡ None → now.reads ≡ (state store.vault.disk).reads
  unheld_too now none d e = subst (λ (x : OpenCursor). versions_at x.number (state_of store.snapshots).cursors ≡ None → now.reads ≡ (state store.vault.disk).reads) (found_one d e) none

  module _ (is_open : store.closed ≡ false) (vault : Vault D) (unheld : versions_at c.number (state_of store.snapshots).cursors ≡ None → (state vault.disk).reads ≡ (state store.vault.disk).reads) where
    pub reads_went : {T : Type 0} (cursors : Vec OpenCursor Global) (passed : ℕ) (over : Bool) (answer : T) → cursors.items ≡ moved_at n passed over store.cursors.items
        → ((version : List FileGroup) → versions_at c.number (state_of store.snapshots).cursors ≡ Some version → GoesTo c version passed (state store.vault.disk) (state vault.disk))
        → FetchReads state store (record store { vault = vault; cursors = cursors }) n (Ok answer)
    reads_went {T} cursors passed over answer items goes = record {
      same = refl;
      goes = λ d version o e held.
          subst (λ (x : OpenCursor). versions_at x.number (state_of store.snapshots).cursors ≡ Some version → Went {T = T} state store (record store { vault = vault; cursors = cursors }) n x version (Ok answer)) (found_one d e)
          (λ h. (moved passed over c, ap (cursor_at n) items ∙ moved_found n passed over store.cursors.items c at, refl, goes version h)) held;
      unheld = unheld_too (state vault.disk) unheld;
      none = λ e. absurd (not_none e);
      shut = λ e. absurd (false≢true (sym is_open ∙ e));
    }

    pub reads_stopped : {T : Type 0} (e : Refusal) → ((version : List FileGroup) → versions_at c.number (state_of store.snapshots).cursors ≡ Some version → (to : ℕ) × GoesTo c version to (state store.vault.disk) (state vault.disk))
        → FetchReads {T = T} state store (record store { vault = vault }) n (Err e)
    reads_stopped {T} e goes = record {
      same = refl;
      goes = λ d version o g held.
          subst (λ (x : OpenCursor). versions_at x.number (state_of store.snapshots).cursors ≡ Some version → Went {T = T} state store (record store { vault = vault }) n x version (Err e)) (found_one d g)
          (λ h. (at, goes version h)) held;
      unheld = unheld_too (state vault.disk) unheld;
      none = λ g. absurd (not_none g);
      shut = λ g. absurd (false≢true (sym is_open ∙ g));
    }

-- a store that is closed, and a number without a cursor
module _ {D T : Type 0} (state : D → DiskState) (store : Core D) (n : ℕ) (e : Refusal) where
  pub reads_shut : store.closed ≡ true → FetchReads {T = T} state store store n (Err e)
  reads_shut closed = record {
    same = refl;
    goes = λ d version o found held. absurd (false≢true (sym o ∙ closed));
    unheld = λ d found none. refl;
    none = λ found. refl;
    shut = λ is. refl;
  }

  pub reads_none : cursor_at n store.cursors.items ≡ None → FetchReads {T = T} state store store n (Err e)
  reads_none none = record {
    same = refl;
    goes = λ d version o found held. absurd (let both : None ≡ Some d = sym none ∙ found in cc);
    unheld = λ d found is. refl;
    none = λ found. refl;
    shut = λ is. refl;
  }
