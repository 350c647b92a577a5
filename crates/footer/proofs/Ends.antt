-- The end of a file that is written: the footer, its length, and the magic.
use Rattle.std.proofs.Common.{◌≡◌, ℕ, ◌+◌, ◌-◌, ◌<◌, ◌≤◌, ◌^◌, List, [], ◌++◌, length, drop, sym, ap, subst, ◌∙◌, arith, append_assoc, length-append}
use Rattle.std.proofs.lemmas.List.{append-nil, drop_at}
use Rattle.thrift_compact.specs.Compact.{IsThrift}
use Rattle.byteorder.specs.Endian.{little_bytes, little_number}
use Rattle.byteorder.specs.Numbers.{little_number-reads_back}
use Rattle.std.proofs.Common.{Vec, Global}
use Rattle.std.specs.Prelude.{Result, Ok, Err, Some, IfOk, OnOk}
use Rattle.thrift_compact.specs.Length.{AppendsStruct}
use Rattle.bits.specs.declared.refusal.Refusal.{Refusal}
use Rattle.bits.specs.declared.refusal.Refusal.TheVariants.{Memory}
use Rattle.bits.specs.Refusals.{RefusedOnly}
use Rattle.bits.specs.Codec.{Appends}
use Rattle.metadata.specs.Records.{FileMeta}
use Rattle.metadata.specs.FromTree.{file_meta}
use Rattle.metadata.specs.ToTree.{file_meta_fields}
use Rattle.footer.specs.File.{magic, IsFramed}
use Rattle.footer.specs.Own.{EndsWith}
use Rattle.footer.proofs.Frames.{announced}

abbrev pub AppendsRecord : FileMeta → ℕ → List ℕ → List ℕ → Type 0
AppendsRecord meta most old new = Appends (λ bytes used. IsThrift bytes (file_meta_fields meta) used) most old new

-- the record behind the front, its length and the magic make a file
pub ends : (front mid new : List ℕ) (meta : FileMeta) (most size : ℕ) → file_meta (file_meta_fields meta) ≡ Some meta → AppendsRecord meta most front mid → size ≡ length mid - length front → size < 2 ^ 32 → new ≡ mid ++ little_bytes 4 size ++ magic → EndsWith front meta new
ends front mid new meta most size again p is small joined = λ chunks begins.
    let bare = subst (λ (t : List ℕ). IsThrift t (file_meta_fields meta) (length p.text)) (append-nil p.text) (p.stands []) in
    let sized : size ≡ length p.text = omega (arith, is, ap length p.joined, length-append front p.text) in
    record {
      footer = p.text;
      framed = record {
        chunks = chunks;
        begins = begins;
        short = subst (λ (n : ℕ). n < 2 ^ 32) sized small;
        joined = joined ∙ ap (λ (m : List ℕ). m ++ little_bytes 4 size ++ magic) p.joined ∙ ap (λ (n : ℕ). front ++ p.text ++ little_bytes 4 n ++ magic) sized;
      };
      fills = record { fields = file_meta_fields meta; spelled = bare; record_of = again };
      bare = bare;
    }

-- the length that stands before the last magic
pub size_at : (mid new : List ℕ) (size : ℕ) → size < 2 ^ 32 → new ≡ mid ++ little_bytes 4 size ++ magic → (length new ≡ length mid + 8) × (size ≡ little_number 4 (drop (length new - 8) new))
size_at mid new size small joined =
    let whole : new ≡ mid ++ (little_bytes 4 size ++ magic) = joined ∙ append_assoc mid (little_bytes 4 size) magic in
    let at : length mid ≡ length new - 8 = omega (arith, ap length whole, length-append mid (little_bytes 4 size ++ magic)) in
    let tail : drop (length new - 8) new ≡ little_bytes 4 size ++ magic = ap (λ (t : List ℕ). drop (length new - 8) t) whole ∙ drop_at mid (little_bytes 4 size ++ magic) (length new - 8) at in
    (omega (arith, ap length whole, length-append mid (little_bytes 4 size ++ magic)), sym (ap (little_number 4) tail ∙ little_number-reads_back 4 size magic (omega (arith, small))))

-- the length of the footer, however the file is parted, is the one that stands at its end
pub footer_is : (mid new before footer : List ℕ) (size : ℕ) → size < 2 ^ 32 → new ≡ mid ++ little_bytes 4 size ++ magic → IsFramed new before footer → length footer ≡ size
footer_is mid new before footer size small joined p =
    sym (announced new before footer p) ∙ sym (size_at mid new size small joined).1

-- what is appended is no longer than it may be
pub appends_at_most : {X : Type 0} (r : Result X Refusal) (Stands : List ℕ → ℕ → Type 0) (most : ℕ) (old new : List ℕ) → OnOk r (Appends Stands most old new) → OnOk r (length new ≤ length old + most)
appends_at_most (Ok x) Stands most old new p = let short = p.short in omega (arith, ap length p.joined, length-append old p.text, short)
appends_at_most (Err e) Stands most old new p = tt

-- refusals that come only where P does not hold do not come where it does
pub never : {X : Type 0} (Cause : Refusal → Type 0) (P : Type 0) (r : Result X Refusal) → P → RefusedOnly (λ e. Cause e × (P → ⊥)) r → RefusedOnly (λ _. ⊥) r
never Cause P (Ok x) p only = tt
never Cause P (Err Memory) p only = tt
never Cause P (Err e) p only = absurd (only.1 p)

-- a file that is closed after its record ends with it
pub closed : (front mid : List ℕ) (start : ℕ) (meta : FileMeta) (r : Result (Vec ℕ Global) Refusal) → length front ≡ start → AppendsStruct (file_meta_fields meta) front mid
    → IfOk r (λ file. (front : List ℕ) (meta : FileMeta) → length front ≡ start → AppendsStruct (file_meta_fields meta) front mid → EndsWith front meta file.items) → IfOk r (λ file. EndsWith front meta file.items)
closed front mid start meta (Ok file) begins added all = all front meta begins added
closed front mid start meta (Err e) begins added all = tt
