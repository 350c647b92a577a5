-- The frame of a page, its header and where its body lies, is one, whatever dictionary the chunk has.
use Rattle.std.proofs.Common.{◌≡◌, ℕ, ◌≤◌, List, [], ◌++◌, length, take, drop, Option, sym, ap, subst, ◌∙◌, arith, inl, inr}
use Rattle.std.specs.Prelude.{ℤ, pos}
use Rattle.std.proofs.Math.Seq.{take-append_seam}
use Rattle.bits.specs.Codec.{IsFunctional, NothingStands}
use Rattle.thrift_compact.specs.Tree.{Fields, no_fields, field}
use Rattle.thrift_compact.specs.Compact.{AreFields, IsFieldHead}
use Rattle.schema.specs.Values.{ValueTree}
use Rattle.schema.specs.Stripe.{Leaf, Entry}
use Rattle.metadata.specs.FromTree.{page_header}
use Rattle.metadata.specs.Records.{PageHeader}
use Rattle.metadata.specs.Answers.{StandsFor}
use Rattle.pages.specs.Page.{Page, skipped, dictionary, entries, IsFramed, IsBody, IsPage}
use Rattle.pages.specs.Chunk.{entries_of}
use Rattle.pages.specs.Limits.{IsBodyOver, IsPageOver}
use Rattle.pages.specs.Apart.{HasNoEntries, DictionaryIsNotRead, EntriesStandAlone, NoPageOfNoBytes}

-- two frames of some bytes are the same
pub record IsSameFrame (h k : PageHeader) (body text : List ℕ) (used taken : ℕ) : Type 0 where
  pub header : h ≡ k
  pub inside : body ≡ text
  pub end : used ≡ taken

front_is : (all body rest : List ℕ) → all ≡ body ++ rest → take (length body) all ≡ body
front_is all body rest e = ap (λ (t : List ℕ). take (length body) t) e ∙ take-append_seam body rest

pub one_frame : (bytes : List ℕ) (h k : PageHeader) (body text : List ℕ) (used taken : ℕ) → IsFunctional (StandsFor page_header)
    → IsFramed bytes h body used → IsFramed bytes k text taken → IsSameFrame h k body text used taken
one_frame bytes h k body text used taken one p q =
    let both = one bytes h k p.header_end q.header_end p.begins q.begins in
    let same = both.1 in
    let e = ap (λ (x : PageHeader). x.compressed_page_size) both.0 in
    let a = p.size in
    let b = q.size in
    let size : length body ≡ length text = cc in
    let d : drop p.header_end bytes ≡ drop q.header_end bytes = ap (λ (n : ℕ). drop n bytes) same in
    let m : take (length body) (drop p.header_end bytes) ≡ take (length text) (drop q.header_end bytes) = cc in
    record {
      header = both.0;
      inside = sym (front_is _ body p.rest p.follows) ∙ m ∙ front_is _ text q.rest q.follows;
      end = omega (arith, p.ends, q.ends, same, size);
    }

-- a page has the frame that is known
pub of_frame : (leaf : Leaf) (d : Option (List ValueTree)) (bytes : List ℕ) (h : PageHeader) (body : List ℕ) (used : ℕ) (page : Page) (taken : ℕ) → IsFunctional (StandsFor page_header)
    → IsFramed bytes h body used → IsPage leaf d bytes page taken → IsBody leaf d h body page × (taken ≡ used)
of_frame leaf d bytes h body used page taken one framed p =
    let same = one_frame bytes p.header h p.body body taken used one p.framed framed in
    (subst (λ (k : PageHeader). IsBody leaf d k body page) same.header (subst (λ (t : List ℕ). IsBody leaf d p.header t page) same.inside p.stands_for), same.end)

-- where the body that the header announces is not there, nothing is framed
pub no_frame : (bytes : List ℕ) (known : PageHeader) (at : ℕ) → IsFunctional (StandsFor page_header) → StandsFor page_header bytes known at
    → ((front rest : List ℕ) → known.compressed_page_size ≡ pos (length front) → drop at bytes ≡ front ++ rest → ⊥)
    → (h : PageHeader) (body : List ℕ) (used : ℕ) → IsFramed bytes h body used → ⊥
no_frame bytes known at one stands nothing h body used p =
    let both = one bytes h known p.header_end at p.begins stands in
    nothing body p.rest (sym (ap (λ (x : PageHeader). x.compressed_page_size) both.0) ∙ p.size) (sym (ap (λ (n : ℕ). drop n bytes) both.1) ∙ p.follows)

-- ---- dictionaries

body_unread : (leaf : Leaf) (c d : Option (List ValueTree)) (h : PageHeader) (body : List ℕ) (page : Page) → HasNoEntries page → IsBody leaf c h body page → IsBody leaf d h body page
body_unread leaf c d h body skipped none p = p
body_unread leaf c d h body (dictionary vs) none p = p
body_unread leaf c d h body (entries es) none p = absurd none

pub dictionary_is_not_read : DictionaryIsNotRead
dictionary_is_not_read leaf c d bytes page used none p = record { header = p.header; body = p.body; framed = p.framed; stands_for = body_unread leaf c d p.header p.body page none p.stands_for }

-- the type of a page with entries is not that of one without
pub bodies_apart : (leaf : Leaf) (c d : Option (List ValueTree)) (h : PageHeader) (body text : List ℕ) (es : List Entry) (page : Page) → IsBody leaf c h body (entries es) → HasNoEntries page → IsBody leaf d h text page → ⊥
bodies_apart leaf c d h body text es skipped (inl p) none q = q.0 p.1
bodies_apart leaf c d h body text es skipped (inr p) none q = q.2 p.1
bodies_apart leaf c d h body text es (dictionary vs) (inl p) none q = let a = p.1 in let b = q.1 in cc
bodies_apart leaf c d h body text es (dictionary vs) (inr p) none q = let a = p.1 in let b = q.1 in cc
bodies_apart leaf c d h body text es (entries fs) p none q = none

pub entries_stand_alone : IsFunctional (StandsFor page_header) → EntriesStandAlone
entries_stand_alone one leaf c d bytes es page used taken p none q =
    bodies_apart leaf c d p.header p.body p.body es page p.stands_for none (of_frame leaf d bytes p.header p.body used page taken one p.framed q).0

-- ---- no bytes

no_field_head : (previous : ℤ) (id : ℤ) (k used : ℕ) → IsFieldHead previous [] id k used → ⊥
no_field_head previous id k used (_, _, _, inl short) = omega (arith, short.byte.some)
no_field_head previous id k used (_, _, _, inr long) = omega (arith, long.byte.some)

no_fields_of_no_bytes : (fs : Fields) (previous : ℤ) (used : ℕ) → AreFields fs previous [] used → ⊥
no_fields_of_no_bytes no_fields previous used p = omega (arith, p.some)
no_fields_of_no_bytes (field id x fs) previous used p = no_field_head previous id _ p.0 p.3

pub no_page_of_no_bytes : NoPageOfNoBytes
no_page_of_no_bytes leaf d page used p = no_fields_of_no_bytes p.framed.begins.fields (pos 0) p.framed.header_end p.framed.begins.spelled.spelled

-- ---- what is known of the body that is framed says all of the page

-- no page with so few entries
abbrev pub NoPage : Leaf → Option (List ValueTree) → List ℕ → ℕ → Type 0
NoPage leaf d bytes left = NothingStands (λ page used. IsPage leaf d bytes page used × (length (entries_of page) ≤ left))

pub framed_fails : (leaf : Leaf) (d : Option (List ValueTree)) (bytes : List ℕ) (h : PageHeader) (body : List ℕ) (used left : ℕ) → IsFunctional (StandsFor page_header) → IsFramed bytes h body used
    → ((page : Page) → IsBody leaf d h body page → length (entries_of page) ≤ left → ⊥) → NoPage leaf d bytes left
framed_fails leaf d bytes h body used left one framed nothing page taken (p, few) = nothing page (of_frame leaf d bytes h body used page taken one framed p).0 few

pub framed_short : (leaf : Leaf) (bytes : List ℕ) (h : PageHeader) (body : List ℕ) (used : ℕ) → IsFunctional (StandsFor page_header) → IsFramed bytes h body used
    → (IsBodyOver leaf h body → ⊥) → IsPageOver leaf bytes → ⊥
framed_short leaf bytes h body used one framed short p =
    let same = one_frame bytes p.header h p.body body p.used used one p.framed framed in
    short (subst (λ (k : PageHeader). IsBodyOver leaf k body) same.header (subst (λ (t : List ℕ). IsBodyOver leaf p.header t) same.inside p.over))

pub framed_limit : (leaf : Leaf) (bytes : List ℕ) (h : PageHeader) (body : List ℕ) (used : ℕ) → IsFramed bytes h body used → IsBodyOver leaf h body → IsPageOver leaf bytes
framed_limit leaf bytes h body used framed p = record { header = h; body = body; used = used; framed = framed; over = p }
