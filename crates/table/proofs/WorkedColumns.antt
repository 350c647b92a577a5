-- Worked calls that add a column. Step by step.
use Rattle.std.proofs.Common.{◌≡◌, ◌≢◌, ℕ, pos, true, false, List, [], ◌∷◌, length, None, Some, refl, ap, arith, inr}
use Rattle.std.specs.Prelude.{codes}
use Rattle.std.specs.Str.{is_utf8}
use Rattle.std.proofs.lemmas.Str.{is_utf8-from_IsUtf8}
use Rattle.std.proofs.lemmas.Bool.{false≢true}
use Rattle.bits.specs.declared.refusal.Refusal.TheVariants.{Schema}
use Rattle.schema.specs.declared.value.Repetition.TheVariants.{Required, Optional}
use Rattle.schema.specs.Law.{IsSchema, IsWithinLimits}
use Rattle.schema.specs.Keys.{AreKeys}
use Rattle.schema.specs.Listing.{repetition}
use Rattle.schema.specs.Values.{null, integer}
use Rattle.schema.proofs.Again.{a_schema_is_its_elements}
use Rattle.partition.specs.Folders.{escaped}
use Rattle.table.specs.Table.{Group, Table, IsTable}
use Rattle.table.specs.Columns.{IsColumnFor}
use Rattle.table.specs.Commits.{appended, extended}
use Rattle.table.specs.State.{State, appending, had_with}
use Rattle.table.specs.Calls.{append, begin_append, stage, commit, query, fetch, add_column, done, job, cursor, batch, ended, accepted, refused}
use Rattle.table.specs.Refusing.{Happens, no_calls, first_call, unfit}
use Rattle.table.specs.Worked.{group}
use Rattle.table.specs.WorkedKeys.{keyed_schema, by_k, kx, key}
use Rattle.table.specs.WorkedColumns.{y_field, y_elements, required_elements, wide_schema, kxy, keyed_batch, wide_batch, y_at_least_one, s0, ColumnsRun}
use Rattle.table.proofs.Steady.{stays}
use Rattle.table.proofs.WorkedKeys.{valid, within, are_keys, of_false, of_true}

abbrev table : List Group → ℕ → Table
table gs next = record { schema = keyed_schema; keys = by_k; groups = gs; next = next }

abbrev wide_table : List Group → ℕ → Table
wide_table gs next = record { schema = wide_schema; keys = by_k; groups = gs; next = next }

y_is_text : is_utf8 (codes "y") ≡ true
unfolding lib.Utf8.encode
y_is_text = is_utf8-from_IsUtf8 (codes "y") (codes "y", (refl, refl))

differ : (m n : ℕ) → (m ≡ n → ⊥) → m ∷ [] ≡ n ∷ [] → ⊥
differ m n d e = d (cc)

wide_valid : IsSchema wide_schema
wide_valid = (
  record {
    some = tt;
    differ = ((differ 107 120 (λ e. omega (arith, e)), (differ 107 121 (λ e. omega (arith, e)), tt)), ((differ 120 121 (λ e. omega (arith, e)), tt), (tt, tt)));
    text = (valid.0.text.0, (valid.0.text.1.0, (y_is_text, tt)));
  },
  (valid.1.0, (valid.1.1.0, (record { decided = refl; length = tt; keeps = tt }, tt))),
)

wide_within : IsWithinLimits wide_schema
wide_within = record { leaves = omega arith; depth = (omega arith, (omega arith, (omega arith, tt))) }

wide_keys : AreKeys by_k wide_schema
wide_keys = record { few = omega arith; rest = omega arith; distinct = (refl, tt); named = (λ e. cc, tt); there = (refl, tt) }

y_fits : IsColumnFor keyed_schema y_elements y_field
y_fits = record { stands_for = a_schema_is_its_elements wide_schema wide_valid; within = wide_within; optional = refl }

not_optional : repetition (Some (pos 0)) ≢ Some Optional
not_optional e = let f : Some Required ≡ Some Optional = e in cc

abbrev t1 : Table
t1 = table (group 0 (key false) ((kx false 2) ∷ []) ∷ group 1 (key true) ((kx true 1) ∷ (kx true 3) ∷ []) ∷ []) 2

t1_valid : IsTable t1
t1_valid = record { schema = valid; within = within; keys = are_keys; each = (record { some = omega arith; keyed = of_false; rows_in = (record { fits = refl; keyed = refl }, tt) }, (record { some = omega arith; keyed = of_true; rows_in = (record { fits = refl; keyed = refl }, (record { fits = refl; keyed = refl }, tt)) }, tt)); in_order = (refl, tt); distinct = (refl, (refl, tt)); below = (omega arith, (omega arith, tt)) }

abbrev t2 : Table
t2 = wide_table (group 0 (key false) ((kxy false 2 (null)) ∷ []) ∷ group 1 (key true) ((kxy true 1 (null)) ∷ (kxy true 3 (null)) ∷ []) ∷ []) 2

t2_valid : IsTable t2
t2_valid = record { schema = wide_valid; within = wide_within; keys = wide_keys; each = (record { some = omega arith; keyed = of_false; rows_in = (record { fits = refl; keyed = refl }, tt) }, (record { some = omega arith; keyed = of_true; rows_in = (record { fits = refl; keyed = refl }, (record { fits = refl; keyed = refl }, tt)) }, tt)); in_order = (refl, tt); distinct = (refl, (refl, tt)); below = (omega arith, (omega arith, tt)) }

abbrev t3 : Table
t3 = wide_table (group 0 (key false) ((kxy false 2 (null)) ∷ []) ∷ group 2 (key false) ((kxy false 4 (integer (pos 7))) ∷ []) ∷ group 1 (key true) ((kxy true 1 (null)) ∷ (kxy true 3 (null)) ∷ []) ∷ []) 3

t3_valid : IsTable t3
t3_valid = record { schema = wide_valid; within = wide_within; keys = wide_keys; each = (record { some = omega arith; keyed = of_false; rows_in = (record { fits = refl; keyed = refl }, tt) }, (record { some = omega arith; keyed = of_false; rows_in = (record { fits = refl; keyed = refl }, tt) }, (record { some = omega arith; keyed = of_true; rows_in = (record { fits = refl; keyed = refl }, (record { fits = refl; keyed = refl }, tt)) }, tt))); in_order = (refl, (refl, tt)); distinct = (refl, (refl, (refl, tt))); below = (omega arith, (omega arith, (omega arith, tt))) }

abbrev t4 : Table
t4 = wide_table (group 0 (key false) ((kxy false 2 (null)) ∷ []) ∷ group 2 (key false) ((kxy false 4 (integer (pos 7))) ∷ []) ∷ group 3 (key false) ((kxy false 5 (null)) ∷ []) ∷ group 1 (key true) ((kxy true 1 (null)) ∷ (kxy true 3 (null)) ∷ []) ∷ []) 4

t4_valid : IsTable t4
t4_valid = record { schema = wide_valid; within = wide_within; keys = wide_keys; each = (record { some = omega arith; keyed = of_false; rows_in = (record { fits = refl; keyed = refl }, tt) }, (record { some = omega arith; keyed = of_false; rows_in = (record { fits = refl; keyed = refl }, tt) }, (record { some = omega arith; keyed = of_false; rows_in = (record { fits = refl; keyed = refl }, tt) }, (record { some = omega arith; keyed = of_true; rows_in = (record { fits = refl; keyed = refl }, (record { fits = refl; keyed = refl }, tt)) }, tt)))); in_order = (refl, (refl, (refl, tt))); distinct = (refl, (refl, (refl, (refl, tt)))); below = (omega arith, (omega arith, (omega arith, (omega arith, tt)))) }

abbrev s1 : State
s1 = record s0 { table = t1; next_group = 2; had = had_with t1 s0.had }

abbrev s2 : State
s2 = record s1 { cursors = ((0, record { batches = ((keyed_batch ((kx false 2) ∷ [])) ∷ (keyed_batch ((kx true 1) ∷ (kx true 3) ∷ [])) ∷ []); ended = false }) ∷ []); next_cursor = 1 }

abbrev s3 : State
s3 = record s2 { jobs = ((0, appending ([])) ∷ []); next_job = 1 }

abbrev s4 : State
s4 = record s3 { jobs = ((0, appending ((kx false 5) ∷ [])) ∷ []) }

abbrev s5 : State
s5 = record s4 { table = t2; had = had_with t2 s4.had; jobs = ((0, appending ((kxy false 5 (null)) ∷ [])) ∷ []) }

abbrev s6 : State
s6 = record s5 { table = t3; next_group = 3; had = had_with t3 s5.had }

abbrev s7 : State
s7 = record s6 { table = t4; next_group = 4; had = had_with t4 s6.had; jobs = [] }

abbrev s8 : State
s8 = record s7 { cursors = ((0, record { batches = ((keyed_batch ((kx true 1) ∷ (kx true 3) ∷ [])) ∷ []); ended = false }) ∷ []) }

abbrev s9 : State
s9 = record s8 { cursors = ((0, record { batches = ([]); ended = false }) ∷ []) }

abbrev s10 : State
s10 = record s9 { cursors = ((0, record { batches = ([]); ended = true }) ∷ []) }

abbrev s11 : State
s11 = record s10 { cursors = ((0, record { batches = ([]); ended = true }) ∷ (1, record { batches = ((wide_batch ((kxy false 2 (null)) ∷ [])) ∷ (wide_batch ((kxy false 4 (integer (pos 7))) ∷ [])) ∷ (wide_batch ((kxy false 5 (null)) ∷ [])) ∷ (wide_batch ((kxy true 1 (null)) ∷ (kxy true 3 (null)) ∷ [])) ∷ []); ended = false }) ∷ []); next_cursor = 2 }

abbrev s12 : State
s12 = record s11 { cursors = ((0, record { batches = ([]); ended = true }) ∷ (1, record { batches = ((wide_batch ((kxy false 4 (integer (pos 7))) ∷ [])) ∷ (wide_batch ((kxy false 5 (null)) ∷ [])) ∷ (wide_batch ((kxy true 1 (null)) ∷ (kxy true 3 (null)) ∷ [])) ∷ []); ended = false }) ∷ []) }

abbrev s13 : State
s13 = record s12 { cursors = ((0, record { batches = ([]); ended = true }) ∷ (1, record { batches = ((wide_batch ((kxy false 5 (null)) ∷ [])) ∷ (wide_batch ((kxy true 1 (null)) ∷ (kxy true 3 (null)) ∷ [])) ∷ []); ended = false }) ∷ []) }

abbrev s14 : State
s14 = record s13 { cursors = ((0, record { batches = ([]); ended = true }) ∷ (1, record { batches = ((wide_batch ((kxy true 1 (null)) ∷ (kxy true 3 (null)) ∷ [])) ∷ []); ended = false }) ∷ []) }

abbrev s15 : State
s15 = record s14 { cursors = ((0, record { batches = ([]); ended = true }) ∷ (1, record { batches = ([]); ended = false }) ∷ []) }

abbrev s16 : State
s16 = record s15 { cursors = ((0, record { batches = ([]); ended = true }) ∷ (1, record { batches = ([]); ended = true }) ∷ []) }

abbrev s17 : State
s17 = record s16 { cursors = ((0, record { batches = ([]); ended = true }) ∷ (1, record { batches = ([]); ended = true }) ∷ (2, record { batches = ((wide_batch ((kxy false 4 (integer (pos 7))) ∷ [])) ∷ []); ended = false }) ∷ []); next_cursor = 3 }

abbrev s18 : State
s18 = record s17 { cursors = ((0, record { batches = ([]); ended = true }) ∷ (1, record { batches = ([]); ended = true }) ∷ (2, record { batches = ([]); ended = false }) ∷ []) }

abbrev s19 : State
s19 = record s18 { cursors = ((0, record { batches = ([]); ended = true }) ∷ (1, record { batches = ([]); ended = true }) ∷ (2, record { batches = ([]); ended = true }) ∷ []) }

step0 : Happens s0 (append ((kx true 1) ∷ (kx false 2) ∷ (kx true 3) ∷ [])) (done 3) s1
unfolding escaped
step0 = (
  refl,
  record {
    n = 3;
    table = t1;
    counter = 2;
    leads = record {
      made = appended ((kx true 1) ∷ (kx false 2) ∷ (kx true 3) ∷ []);
      asked = refl;
      step = record { schema = refl; keys = refl; change = (record { added = (group 0 (key false) ((kx false 2) ∷ []) ∷ group 1 (key true) ((kx true 1) ∷ (kx true 3) ∷ []) ∷ []); placed = refl; hold = refl; full = refl; fresh = refl }, refl); table = t1_valid; never_falls = omega arith; same = λ o e. absurd (let l : 2 ≡ 0 = ap length e in omega (arith, l)) };
      rises = record { most = 3; work = refl; no_less = omega arith; no_more = omega arith };
      covers = omega arith;
    };
    answers = refl;
    becomes = refl;
  },
)

step1 : Happens s1 (query [] None) (cursor 0) s2
step1 = (refl, (refl, refl))

step2 : Happens s2 (begin_append) (job 0) s3
step2 = (refl, (refl, refl))

step3 : Happens s3 (stage 0 ((kx false 5) ∷ [])) (accepted) s4
unfolding escaped
step3 = (refl, (refl, record { staged = []; is_open = refl; becomes = record { counter = 2; rises = record { most = 1; work = refl; no_less = omega arith; no_more = omega arith }; is = refl } }))

step4 : Happens s4 (add_column y_elements) (done 0) s5
unfolding escaped
step4 = (
  refl,
  record {
    n = 0;
    table = t2;
    counter = 2;
    leads = record {
      made = extended y_field;
      asked = (y_field, y_fits, refl);
      step = record { schema = refl; keys = refl; change = (refl, refl); table = t2_valid; never_falls = omega arith; same = λ o e. absurd (false≢true o) };
      rises = record { most = 0; work = refl; no_less = omega arith; no_more = omega arith };
      covers = omega arith;
    };
    answers = refl;
    becomes = refl;
  },
)

step5 : Happens s5 (append ((kxy false 4 (integer (pos 7))) ∷ [])) (done 1) s6
unfolding escaped
step5 = (
  refl,
  record {
    n = 1;
    table = t3;
    counter = 3;
    leads = record {
      made = appended ((kxy false 4 (integer (pos 7))) ∷ []);
      asked = refl;
      step = record { schema = refl; keys = refl; change = (record { added = (group 2 (key false) ((kxy false 4 (integer (pos 7))) ∷ []) ∷ []); placed = refl; hold = refl; full = refl; fresh = refl }, refl); table = t3_valid; never_falls = omega arith; same = λ o e. absurd (let l : 3 ≡ 2 = ap length e in omega (arith, l)) };
      rises = record { most = 1; work = refl; no_less = omega arith; no_more = omega arith };
      covers = omega arith;
    };
    answers = refl;
    becomes = refl;
  },
)

step6 : Happens s6 (commit 0) (done 1) s7
unfolding escaped
step6 = (
  refl,
  record {
    n = 1;
    table = t4;
    counter = 4;
    leads = record {
      made = appended ((kxy false 5 (null)) ∷ []);
      asked = (appending ((kxy false 5 (null)) ∷ []), refl, refl);
      step = record { schema = refl; keys = refl; change = (record { added = (group 3 (key false) ((kxy false 5 (null)) ∷ []) ∷ []); placed = refl; hold = refl; full = refl; fresh = refl }, refl); table = t4_valid; never_falls = omega arith; same = λ o e. absurd (let l : 4 ≡ 3 = ap length e in omega (arith, l)) };
      rises = record { most = 1; work = refl; no_less = omega arith; no_more = omega arith };
      covers = omega arith;
    };
    answers = refl;
    becomes = refl;
  },
)

step7 : Happens s7 (fetch 0) (batch (keyed_batch ((kx false 2) ∷ []))) s8
step7 = (refl, record { cursor = record { batches = ((keyed_batch ((kx false 2) ∷ [])) ∷ (keyed_batch ((kx true 1) ∷ (kx true 3) ∷ [])) ∷ []); ended = false }; is_open = refl; gives = refl; becomes = refl })

step8 : Happens s8 (fetch 0) (batch (keyed_batch ((kx true 1) ∷ (kx true 3) ∷ []))) s9
step8 = (refl, record { cursor = record { batches = ((keyed_batch ((kx true 1) ∷ (kx true 3) ∷ [])) ∷ []); ended = false }; is_open = refl; gives = refl; becomes = refl })

step9 : Happens s9 (fetch 0) (ended) s10
step9 = (refl, record { cursor = record { batches = ([]); ended = false }; is_open = refl; gives = refl; becomes = refl })

step10 : Happens s10 (query [] None) (cursor 1) s11
step10 = (refl, (refl, refl))

step11 : Happens s11 (fetch 1) (batch (wide_batch ((kxy false 2 (null)) ∷ []))) s12
step11 = (refl, record { cursor = record { batches = ((wide_batch ((kxy false 2 (null)) ∷ [])) ∷ (wide_batch ((kxy false 4 (integer (pos 7))) ∷ [])) ∷ (wide_batch ((kxy false 5 (null)) ∷ [])) ∷ (wide_batch ((kxy true 1 (null)) ∷ (kxy true 3 (null)) ∷ [])) ∷ []); ended = false }; is_open = refl; gives = refl; becomes = refl })

step12 : Happens s12 (fetch 1) (batch (wide_batch ((kxy false 4 (integer (pos 7))) ∷ []))) s13
step12 = (refl, record { cursor = record { batches = ((wide_batch ((kxy false 4 (integer (pos 7))) ∷ [])) ∷ (wide_batch ((kxy false 5 (null)) ∷ [])) ∷ (wide_batch ((kxy true 1 (null)) ∷ (kxy true 3 (null)) ∷ [])) ∷ []); ended = false }; is_open = refl; gives = refl; becomes = refl })

step13 : Happens s13 (fetch 1) (batch (wide_batch ((kxy false 5 (null)) ∷ []))) s14
step13 = (refl, record { cursor = record { batches = ((wide_batch ((kxy false 5 (null)) ∷ [])) ∷ (wide_batch ((kxy true 1 (null)) ∷ (kxy true 3 (null)) ∷ [])) ∷ []); ended = false }; is_open = refl; gives = refl; becomes = refl })

step14 : Happens s14 (fetch 1) (batch (wide_batch ((kxy true 1 (null)) ∷ (kxy true 3 (null)) ∷ []))) s15
step14 = (refl, record { cursor = record { batches = ((wide_batch ((kxy true 1 (null)) ∷ (kxy true 3 (null)) ∷ [])) ∷ []); ended = false }; is_open = refl; gives = refl; becomes = refl })

step15 : Happens s15 (fetch 1) (ended) s16
step15 = (refl, record { cursor = record { batches = ([]); ended = false }; is_open = refl; gives = refl; becomes = refl })

step16 : Happens s16 (query y_at_least_one None) (cursor 2) s17
step16 = (refl, (refl, refl))

step17 : Happens s17 (fetch 2) (batch (wide_batch ((kxy false 4 (integer (pos 7))) ∷ []))) s18
step17 = (refl, record { cursor = record { batches = ((wide_batch ((kxy false 4 (integer (pos 7))) ∷ [])) ∷ []); ended = false }; is_open = refl; gives = refl; becomes = refl })

step18 : Happens s18 (fetch 2) (ended) s19
step18 = (refl, record { cursor = record { batches = ([]); ended = false }; is_open = refl; gives = refl; becomes = refl })

step19 : Happens s19 (add_column required_elements) (refused Schema) s19
step19 = unfit required_elements refl refl (tt, inr (refl, not_optional)) (stays s19 (add_column required_elements) refl)

pub columns_run : ColumnsRun
columns_run = (s19, first_call step0 (first_call step1 (first_call step2 (first_call step3 (first_call step4 (first_call step5 (first_call step6 (first_call step7 (first_call step8 (first_call step9 (first_call step10 (first_call step11 (first_call step12 (first_call step13 (first_call step14 (first_call step15 (first_call step16 (first_call step17 (first_call step18 (first_call step19 no_calls))))))))))))))))))))
