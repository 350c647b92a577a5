-- A chunk stands in its bytes whatever follows them.
use Rattle.std.proofs.Common.{ℕ, ◌≤◌, List, [], ◌∷◌, ◌++◌, length, take, drop, Option, sym, ap, subst, ◌∙◌, arith, length-append, append_assoc, length-drop, take-append-drop}
use Rattle.std.proofs.lemmas.List.{drop-append-le}
use Rattle.bits.specs.Codec.{InTurn}
use Rattle.thrift_compact.proofs.Within.{fields_within}
use Rattle.thrift_compact.proofs.Stays.{thrift_stays}
use Rattle.std.specs.Prelude.{pos}
use Rattle.schema.specs.Values.{ValueTree}
use Rattle.schema.specs.Stripe.{Leaf, Entry}
use Rattle.metadata.specs.Records.{ColumnMeta, ChunkMeta}
use Rattle.pages.specs.Page.{Page, IsPage}
use Rattle.row_group.specs.Chunks.{ChunkMeans, ColumnMeans, AreChunks}
use Rattle.statistics.specs.Bounds.{Statistics}
use Rattle.manifest.specs.Parts.{IsFullChunk, AreFullChunks}

module _ (leaf : Leaf) (d : Option (List ValueTree)) where
  page_within : (bytes : List ℕ) (page : Page) (used : ℕ) → IsPage leaf d bytes page used → used ≤ length bytes
  page_within bytes page used p =
      let f = p.framed in
      let head = fields_within f.begins.fields (pos 0) bytes f.header_end f.begins.spelled.spelled in
      omega (arith, head, f.ends, ap length f.follows, length-append p.body f.rest, length-drop f.header_end bytes)

  page_longer : (bytes more : List ℕ) (page : Page) (used : ℕ) → IsPage leaf d bytes page used → IsPage leaf d (bytes ++ more) page used
  page_longer bytes more page used p =
      let f = p.framed in
      let head = fields_within f.begins.fields (pos 0) bytes f.header_end f.begins.spelled.spelled in
      record {
        header = p.header;
        body = p.body;
        framed = record {
          header_end = f.header_end;
          rest = f.rest ++ more;
          begins = record { fields = f.begins.fields; spelled = thrift_stays bytes more f.begins.fields f.header_end f.begins.spelled; record_of = f.begins.record_of };
          follows = drop-append-le f.header_end bytes more head ∙ ap (λ (b : List ℕ). b ++ more) f.follows ∙ append_assoc p.body f.rest more;
          size = f.size;
          ends = f.ends;
        };
        stands_for = p.stands_for;
      }

  pages_longer : (pages : List Page) (bytes more : List ℕ) (used : ℕ) → InTurn (IsPage leaf d) bytes pages used → InTurn (IsPage leaf d) (bytes ++ more) pages used
  pages_longer [] bytes more used p = p
  pages_longer (page ∷ pages) bytes more used (first, rest, is, others, total) =
      let within = page_within bytes page first is in (
        first,
        rest,
        page_longer bytes more page first is,
        subst (λ (b : List ℕ). InTurn (IsPage leaf d) b pages rest) (sym (drop-append-le first bytes more within)) (pages_longer pages (drop first bytes) more rest others),
        total,
      )

chunk_longer : (m : ColumnMeta) (leaf : Leaf) (bytes more : List ℕ) (es : List Entry) (used : ℕ) → ChunkMeans m leaf bytes es used → ChunkMeans m leaf (bytes ++ more) es used
chunk_longer m leaf bytes more es used c = record {
  is = c.is;
  count = c.count;
  held = record {
    pages = c.held.pages;
    dictionary_values = c.held.dictionary_values;
    parts = c.held.parts;
    spelled = pages_longer leaf c.held.dictionary_values c.held.pages bytes more used c.held.spelled;
    in_order = c.held.in_order;
    joined = c.held.joined;
    count = c.held.count;
    until = c.held.until;
  };
}

full_is : (front : List ℕ) (m : ColumnMeta) (leaf : Leaf) (es : List Entry) → IsFullChunk front m leaf es → ColumnMeans front m leaf es
full_is front m leaf es f =
    let rest = drop f.start front in
    record {
      start = f.start;
      used = f.size;
      starts = f.starts;
      means = subst (λ (b : List ℕ). ChunkMeans m leaf b es f.size) (take-append-drop f.size rest) (chunk_longer m leaf (take f.size rest) (drop f.size rest) es f.size f.fills);
    }

-- full chunks are chunks
pub full_are : (front : List ℕ) (ls : List Leaf) (cs : List ChunkMeta) (ss : List Statistics) (cols : List (List Entry)) → AreFullChunks front ls cs ss cols → AreChunks front cs ls cols
full_are front [] [] [] [] h = tt
full_are front (l ∷ ls) (c ∷ cs) (s ∷ ss) (es ∷ cols) h = (full_is front c.meta_data l es h.0, full_are front ls cs ss cols h.2)
full_are front [] (c ∷ cs) ss cols h = absurd h
full_are front [] [] (s ∷ ss) cols h = absurd h
full_are front [] [] [] (es ∷ cols) h = absurd h
full_are front (l ∷ ls) [] ss cols h = absurd h
full_are front (l ∷ ls) (c ∷ cs) [] cols h = absurd h
full_are front (l ∷ ls) (c ∷ cs) (s ∷ ss) [] h = absurd h
