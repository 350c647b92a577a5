use Rattle.std.proofs.Common.{◌≡◌, get_or, sym, ◌∙◌, ap, string_bytes, List, ℕ, Ok, Err, OnOk, OnErr, Result, ◌++◌, ◌∷◌, [], set}
use Rattle.disk.specs.declared.binding.Binding.{Binding}
use Rattle.mem_disk.specs.Tables.{Finds, Rebinds, SaysTheSame}
use Rattle.mem_disk.specs.declared.name.Name.{Name}
use Rattle.mem_disk.proofs.Tables.{finds_path, rebinds_found, same_found, apart_set}
use Rattle.mem_disk.proofs.Places.{place_set, added_binds, added_apart}
use Rattle.mem_disk.proofs.names.Names.rebind.Goals as goal

turned : {T E : Type 0} (r : Result T E) (es : List Name) (p : List ℕ) (i : ℕ) (was e : Name) (to : Binding) → Finds es p i → was ≡ get_or es i was → e.path ≡ was.path → OnOk r (e.now ≡ to) → OnOk r (e.had.items ≡ was.had.items ++ was.now ∷ []) → OnOk r (Rebinds p to es (set es i e))
turned (Ok x) es p i was e to at is path now had = rebinds_found es p i was e to at (ap string_bytes path ∙ ap (λ (x : Name). string_bytes x.path) is ∙ finds_path es p i was at) now (had ∙ ap (λ (x : Name). x.had.items ++ x.now ∷ []) is)
turned (Err x) es p i was e to at is path now had = tt

stayed : {T E : Type 0} (r : Result T E) (es : List Name) (p : List ℕ) (i : ℕ) (was e : Name) → Finds es p i → was ≡ get_or es i was → e.path ≡ was.path → OnErr r ((e.now ≡ was.now) × (e.had.items ≡ was.had.items)) → OnErr r (SaysTheSame es (set es i e))
stayed (Err x) es p i was e at is path same = same_found es p i was e at (ap string_bytes path ∙ ap (λ (x : Name). string_bytes x.path) is ∙ finds_path es p i was at) (same.0 ∙ ap (λ (x : Name). x.now) is) (same.1 ∙ ap (λ (x : Name). x.had.items) is)
stayed (Ok x) es p i was e at is path same = tt

pub returns-in-Some-clause-ok : goal.returns-in-Some-clause-ok
returns-in-Some-clause-ok c =
    let at : Finds c.args.self.now.list.items c.args.path.now c.in-Some.i = c.in-Some.ensures.place in
    turned c.turn.result c.args.self.now.list.items c.args.path.now c.in-Some.i c.index_mut-name.result.now c.turn.new.self c.args.to at c.index_mut-name.ensures.value c.turn.ensures.path c.turn.ensures.now c.turn.ensures.had

pub returns-in-Some-clause-err : goal.returns-in-Some-clause-err
returns-in-Some-clause-err c =
    let at : Finds c.args.self.now.list.items c.args.path.now c.in-Some.i = c.in-Some.ensures.place in
    stayed c.turn.result c.args.self.now.list.items c.args.path.now c.in-Some.i c.index_mut-name.result.now c.turn.new.self at c.index_mut-name.ensures.value c.turn.ensures.path c.turn.ensures.err

pub returns-in_ok-name-in-None-clause-ok : goal.returns-in_ok-name-in-None-clause-ok
returns-in_ok-name-in-None-clause-ok c =
    let made = c.in_ok-name-in-None.ensures in
    added_binds c.add.result c.args.self.now.list.items c.add.new.self.list.items c.args.path.now c.in_ok-name-in-None.name c.args.to c.add.ensures.ok c.in-None.ensures.place made.0 made.1 made.2

pub returns-in-Some-clause-apart : goal.returns-in-Some-clause-apart
returns-in-Some-clause-apart c was =
    let es = c.args.self.now.list.items in
    let at : Finds es c.args.path.now c.in-Some.i = c.in-Some.ensures.place in
    let path = ap string_bytes c.turn.ensures.path ∙ ap (λ (x : Name). string_bytes x.path) c.index_mut-name.ensures.value ∙ finds_path es c.args.path.now c.in-Some.i c.index_mut-name.result.now at in
    apart_set es c.args.path.now c.in-Some.i c.turn.new.self at path was

pub returns-in_ok-name-in-None-clause-apart : goal.returns-in_ok-name-in-None-clause-apart
returns-in_ok-name-in-None-clause-apart c =
    added_apart c.add.result c.args.self.now.list.items c.add.new.self.list.items c.args.path.now c.in_ok-name-in-None.name c.add.ensures.ok c.add.ensures.err c.in-None.ensures.place c.in_ok-name-in-None.ensures.0

pub invariant_of-self : goal.invariant_of-self
invariant_of-self c =
    let self = c.args.self.now in
    let at = c.in-Some.ensures.place in
    let path = ap string_bytes c.turn.ensures.path ∙ ap (λ (x : Name). string_bytes x.path) c.index_mut-name.ensures.value ∙ finds_path self.list.items c.args.path.now c.in-Some.i c.index_mut-name.result.now at in
    record { placed = λ q. self.placed q ∙ sym (place_set self.list.items c.args.path.now c.in-Some.i c.turn.new.self at path q) }
