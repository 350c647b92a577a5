-- A path that is bound, and a folder that is synced.
use Rattle.std.proofs.Common.{◌≡◌, ◌≢◌, ◌<◌, ◌≤◌, ◌⊎◌, inl, inr, ⊎_elim, ℕ, List, [], ◌∷◌, ◌++◌, Bool, true, false, if◌then◌else◌, bytes_eq, refl, sym, ◌∙◌, ap, subst, arith}
use Rattle.disk.specs.declared.binding.Binding.{Binding}
use Rattle.disk.specs.declared.binding.Binding.TheVariants.{Nothing, Folder, File}
use Rattle.disk.specs.Paths.{folder_of}
use Rattle.disk.specs.State.{Image}
use Rattle.disk.specs.Calls.{Binds}
use Rattle.mem_disk.specs.Tables.{Among}
use Rattle.mem_disk.specs.Loose.{Loose, bound, folder_synced, image_of, MayName, MayLeave, IsSound}
use Rattle.mem_disk.proofs.Choices.{same_or_not, at_same, at_other, folder_or_not, among_before, among_last, among_split}

may_still : (t : Bool) (to now b : Binding) (had : List Binding) → (b ≡ now) ⊎ Among b had → (b ≡ (if t then to else now)) ⊎ Among b (if t then had ++ now ∷ [] else had)
may_still true to now b had (inl e) = inr (among_last b had now e)
may_still true to now b had (inr a) = inr (among_before b had (now ∷ []) a)
may_still false to now b had m = m

may_was : (t : Bool) (to now b : Binding) (had : List Binding) → (b ≡ (if t then to else now)) ⊎ Among b (if t then had ++ now ∷ [] else had) → ((b ≡ now) ⊎ Among b had) ⊎ ((t ≡ true) × (b ≡ to))
may_was true to now b had (inl e) = inr (refl, e)
may_was true to now b had (inr a) = inl (⊎_elim (λ m. inr m) (λ e. inl e) (among_split b had now a))
may_was false to now b had m = inl m

-- a name may still have what it may have had before
pub bound_may : (l : Loose) (p : List ℕ) (to : Binding) (q : List ℕ) (b : Binding) → MayName l q b → MayName (bound l p to) q b
bound_may l p to q b m = may_still (bytes_eq q p) to (l.names q) b (l.had q) m

-- where a name may have something new, it is the path that was bound
pub bound_was : (l : Loose) (p : List ℕ) (to : Binding) (q : List ℕ) (b : Binding) → MayName (bound l p to) q b → MayName l q b ⊎ ((q ≡ p) × (b ≡ to))
bound_was l p to q b m = ⊎_elim
    (λ old. inl old)
    (λ is. ⊎_elim (λ yes. inr (yes.0, is.1)) (λ no. absurd (let f : false ≡ true = sym no.1 ∙ is.0 in cc)) (same_or_not q p))
    (may_was (bytes_eq q p) to (l.names q) b (l.had q) m)

-- what a stop may leave before a path is bound it may leave after it
pub bound_leaves : (l : Loose) (p : List ℕ) (to : Binding) (c : Image) → MayLeave l c → MayLeave (bound l p to) c
bound_leaves l p to c may = record {
  whole = may.whole;
  named = λ q there. bound_may l p to q (c.names q) (may.named q there);
  holds = may.holds;
}

module _ (l : Loose) (count : ℕ) (sound : IsSound l count) (p : List ℕ) (to : Binding) (no_folder : l.names p ≢ Folder) (home : l.names (folder_of p) ≡ Folder) where
  not_home : (q : List ℕ) → l.names q ≡ Folder → q ≢ p
  not_home q is e = no_folder (ap l.names (sym e) ∙ is)

  stays_folder : (q : List ℕ) → l.names q ≡ Folder → (bound l p to).names q ≡ Folder
  stays_folder q is = at_other q p to (l.names q) (not_home q is) ∙ is

  pub bound_sound : (more : ℕ) → count ≤ more → ((n : ℕ) → to ≡ File n → n < more) → IsSound (bound l p to) more
  bound_sound more le node = record {
    whole = record {
      top = stays_folder [] sound.whole.top;
      below = λ q some. stays_folder (folder_of q) (⊎_elim
          (λ yes. ap (λ (x : List ℕ). l.names (folder_of x)) yes.0 ∙ home)
          (λ no. sound.whole.below q (λ e. some (at_other q p to (l.names q) no.0 ∙ e)))
          (same_or_not q p));
    };
    grounded = λ q b a some. stays_folder (folder_of q) (⊎_elim
        (λ yes. ap (λ (x : List ℕ). l.names (folder_of x)) yes.0 ∙ home)
        (λ no. sound.grounded q b (subst (λ (x : List Binding). Among b x) (at_other q p (l.had q ++ l.names q ∷ []) (l.had q) no.0) a) some)
        (same_or_not q p));
    synced = sound.synced;
    named = λ q n m. ⊎_elim
        (λ old. let lt : n < count = sound.named q n old in omega (arith, lt, le))
        (λ is. node n (sym is.1))
        (bound_was l p to q (File n) m);
    empty = λ n ge. sound.empty n (omega (arith, ge, le));
    sure = λ n ge. sound.sure n (omega (arith, ge, le));
  }

  -- what was there before the name, where a stop leaves the new one
  abbrev back : Image → Image
  back c = record { names = λ q. if bytes_eq q p then l.names p else c.names q; bytes = c.bytes }

  module _ (over : to ≡ Folder → l.names p ≡ Nothing) (c : Image) (may : MayLeave (bound l p to) c) where
    old_name : (q : List ℕ) → q ≢ p → c.names (folder_of q) ≡ Folder → MayName l q (c.names q)
    old_name q ne there = ⊎_elim (λ old. old) (λ is. absurd (ne is.0)) (bound_was l p to q (c.names q) (may.named q there))

    -- nothing lies below the path
    not_below : (q : List ℕ) → q ≢ p → c.names p ≡ to → c.names q ≢ Nothing → c.names (folder_of q) ≡ Folder → folder_of q ≢ p
    not_below q ne is some there below =
        let gone : l.names p ≡ Nothing = over (sym is ∙ ap c.names (sym below) ∙ there) in
        let up : l.names (folder_of q) ≡ Folder = ⊎_elim
        (λ e. sound.whole.below q (λ x. some (e ∙ x)))
        (λ a. sound.grounded q (c.names q) a some)
        (old_name q ne there) in
        no_folder (ap l.names (sym below) ∙ up)

    stays : MayName l p (c.names p) → MayLeave l c
    stays at = record {
      whole = may.whole;
      named = λ q there. ⊎_elim
          (λ old. old)
          (λ is. subst (λ (x : List ℕ). MayName l x (c.names x)) (sym is.0) at)
          (bound_was l p to q (c.names q) (may.named q there));
      holds = may.holds;
    }

    stays_away : c.names (folder_of p) ≢ Folder → MayLeave l c
    stays_away away = record {
      whole = may.whole;
      named = λ q there. ⊎_elim
          (λ old. old)
          (λ is. absurd (away (ap (λ (x : List ℕ). c.names (folder_of x)) (sym is.0) ∙ there)))
          (bound_was l p to q (c.names q) (may.named q there));
      holds = may.holds;
    }

    goes_back : c.names (folder_of p) ≡ Folder → c.names p ≡ to → MayLeave l (back c)
    goes_back there is = record {
      whole = record {
        top = at_other [] p (l.names p) (c.names []) (not_home [] sound.whole.top) ∙ may.whole.top;
        below = λ q some. ⊎_elim
            (λ yes.
            let up : folder_of q ≢ p = not_home (folder_of q) (ap (λ (x : List ℕ). l.names (folder_of x)) yes.0 ∙ home) in
            at_other (folder_of q) p (l.names p) (c.names (folder_of q)) up ∙ ap (λ (x : List ℕ). c.names (folder_of x)) yes.0 ∙ there)
            (λ no.
            let was : c.names q ≢ Nothing = λ e. some (at_other q p (l.names p) (c.names q) no.0 ∙ e) in
            let is_there : c.names (folder_of q) ≡ Folder = may.whole.below q was in
            at_other (folder_of q) p (l.names p) (c.names (folder_of q)) (not_below q no.0 is was is_there) ∙ is_there)
            (same_or_not q p);
      };
      named = λ q up. ⊎_elim
          (λ yes. inl (at_same q p (l.names p) (c.names q) yes.0 ∙ ap l.names (sym yes.0)))
          (λ no. ⊎_elim
          (λ below. absurd (no_folder (sym (at_same (folder_of q) p (l.names p) (c.names (folder_of q)) below.0) ∙ up)))
          (λ beside.
          let is_there : c.names (folder_of q) ≡ Folder = sym (at_other (folder_of q) p (l.names p) (c.names (folder_of q)) beside.0) ∙ up in
          subst (λ (x : Binding). MayName l q x) (sym (at_other q p (l.names p) (c.names q) no.0)) (old_name q no.0 is_there))
          (same_or_not (folder_of q) p))
          (same_or_not q p);
      holds = may.holds;
    }

    refl_binds : Binds p to c c
    refl_binds = record { names = λ q. inl refl; nodes = λ n. refl }

    -- what a stop may leave after it is what one could leave before it, with or without the name
    pub bound_from : (d : Image) × MayLeave l d × Binds p to d c
    bound_from = ⊎_elim
        (λ there. ⊎_elim
        (λ old. (c, stays old, refl_binds))
        (λ is. (
          back c,
          goes_back there is.1,
          record {
            names = λ q. ⊎_elim
                (λ yes. inr (yes.0, ap c.names yes.0 ∙ is.1))
                (λ no. inl (sym (at_other q p (l.names p) (c.names q) no.0)))
                (same_or_not q p);
            nodes = λ n. refl;
          },
        ))
        (bound_was l p to p (c.names p) (may.named p there)))
        (λ away. (c, stays_away away, refl_binds))
        (folder_or_not (c.names (folder_of p)))

-- as it reads
pub bound_reads : (l : Loose) (p : List ℕ) (to : Binding) → Binds p to (image_of l) (image_of (bound l p to))
bound_reads l p to = record {
  names = λ q. ⊎_elim
      (λ yes. inr (yes.0, at_same q p to (l.names q) yes.0))
      (λ no. inl (at_other q p to (l.names q) no.0))
      (same_or_not q p);
  nodes = λ n. refl;
}

fewer : (t : Bool) (b : Binding) (had : List Binding) → Among b (if t then [] else had) → Among b had
fewer true b had a = absurd a
fewer false b had a = a

module _ (l : Loose) (folder : List ℕ) where
  synced_was : (q : List ℕ) (b : Binding) → MayName (folder_synced l folder) q b → MayName l q b
  synced_was q b (inl e) = inl e
  synced_was q b (inr a) = inr (fewer (bytes_eq (folder_of q) folder) b (l.had q) a)

  pub folder_sound : (count : ℕ) → IsSound l count → IsSound (folder_synced l folder) count
  folder_sound count sound = record {
    whole = record { top = sound.whole.top; below = sound.whole.below };
    grounded = λ q b a some. sound.grounded q b (fewer (bytes_eq (folder_of q) folder) b (l.had q) a) some;
    synced = sound.synced;
    named = λ q n m. sound.named q n (synced_was q (File n) m);
    empty = sound.empty;
    sure = sound.sure;
  }

  pub folder_from : (c : Image) → MayLeave (folder_synced l folder) c → MayLeave l c
  folder_from c may = record { whole = may.whole; named = λ q there. synced_was q (c.names q) (may.named q there); holds = may.holds }

  -- the names in the folder are firm
  pub folder_firm : (c : Image) → MayLeave (folder_synced l folder) c → c.names folder ≡ Folder → (q : List ℕ) → folder_of q ≡ folder → c.names q ≡ l.names q
  folder_firm c may there q in_it = ⊎_elim
      (λ e. e)
      (λ a. absurd (subst (λ (x : List Binding). Among (c.names q) x) (at_same (folder_of q) folder [] (l.had q) in_it) a))
      (may.named q (ap c.names in_it ∙ there))
