-- Lines that are read as calls, one after another.
use Rattle.std.proofs.Common.{Bool, ◌≡◌, ◌<◌, ℕ, suc, List, [], ◌∷◌, ◌++◌, length, map, take, drop, get_or, refl, sym, subst}
use Rattle.std.specs.Borrow.{Bor}
use Rattle.std.proofs.lemmas.List.{map_push}
use Rattle.lists.proofs.Slices.{parts_around as split_there}
use Rattle.bits.specs.declared.refusal.Refusal.{Refusal}
use Rattle.bits.specs.declared.refusal.Refusal.TheVariants.{Memory}
use Rattle.bits.specs.Refusals.{HasCause}
use Rattle.schema.specs.Shape.{Fields}
use Rattle.table.specs.Calls.{Call}
use Rattle.table.specs.declared.call.Call.{Call as CodeCall}
use Rattle.table.specs.Views.{call_view, calls_view}
use Rattle.jsonrows.specs.Calls.{IsCallTextAs, IsRefusedCallAs}
use Rattle.jsonrows.specs.Scripts.{IsAfter}
use Rattle.answers.specs.Lines.{AreCallTexts, HasFirstFaultOfCalls}

one_more : (texts : Bool) (fs mid last : Fields) (lines : List (List ℕ)) (calls : List Call) (text : List ℕ) (call : Call) → AreCallTexts texts fs lines calls mid → IsCallTextAs texts mid text call → IsAfter call mid last
    → AreCallTexts texts fs (lines ++ text ∷ []) (calls ++ call ∷ []) last
one_more texts fs mid last [] [] text call so_far is after = (subst (λ (t : Fields). IsCallTextAs texts t text call) (sym so_far) is, (last, subst (λ (t : Fields). IsAfter call t last) (sym so_far) after, refl))
one_more texts fs mid last [] (c ∷ calls) text call so_far is after = absurd so_far
one_more texts fs mid last (t ∷ lines) [] text call so_far is after = absurd so_far
one_more texts fs mid last (t ∷ lines) (c ∷ calls) text call so_far is after = (so_far.0, (so_far.1.0, so_far.1.1, one_more texts so_far.1.0 mid last lines calls text call so_far.1.2 is after))

-- the calls so far, and that of one more line
pub called_one_more : (texts : Bool) (fs mid last : Fields) (lines : List (Bor (List ℕ))) (calls : List CodeCall) (text : Bor (List ℕ)) (call : CodeCall) → IsCallTextAs texts mid text.now (call_view call) → IsAfter (call_view call) mid last
    → AreCallTexts texts fs (map (λ t. t.now) lines) (calls_view calls) mid → AreCallTexts texts fs (map (λ t. t.now) (lines ++ text ∷ [])) (calls_view (calls ++ call ∷ [])) last
called_one_more texts fs mid last lines calls text call is after so_far =
    rw (map_push (λ (t : Bor (List ℕ)). t.now) lines text, map_push call_view calls call) (one_more texts fs mid last (map (λ t. t.now) lines) (calls_view calls) text.now (call_view call) so_far is after)

-- where no line is left
pub called_all : (texts : Bool) (fs last : Fields) (lines : List (Bor (List ℕ))) (all : List (List ℕ)) (calls : List Call) → map (λ t. t.now) lines ≡ all → AreCallTexts texts fs (map (λ t. t.now) lines) calls last → AreCallTexts texts fs all calls last
called_all texts fs last lines all calls e told = rw (← e) told

caused : (P Q : Refusal → Type 0) → ((e : Refusal) → P e → Q e) → (e : Refusal) → P e → HasCause Q e
caused P Q f Memory h = tt
caused P Q f e h = f e h

-- the line that is refused is the first one: those before it are calls
pub refused_first : (texts : Bool) (fs mid : Fields) (lines : List (Bor (List ℕ))) (text : Bor (List ℕ)) (all : List (List ℕ)) (calls : List Call)
    → map (λ t. t.now) lines ≡ take (length lines) all → (length lines < length all) × (text.now ≡ get_or all (length lines) text.now)
    → AreCallTexts texts fs (map (λ t. t.now) lines) calls mid → (e : Refusal) → IsRefusedCallAs texts mid text.now e → HasCause (HasFirstFaultOfCalls texts fs all) e
refused_first texts fs mid lines text all calls so_far here told =
    caused (IsRefusedCallAs texts mid text.now) (HasFirstFaultOfCalls texts fs all) (λ e refused.
    record {
      before = map (λ t. t.now) lines;
      text = text.now;
      after = drop (suc (length lines)) all;
      calls = calls;
      schema = mid;
      joined = rw so_far (split_there all (length lines) text.now here.0 here.1);
      read = told;
      refused = refused;
    })
