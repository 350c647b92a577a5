use Rattle.std.proofs.Common.{◌≡◌, ℕ, ◌+◌, ◌-◌, ◌≤◌, [], ◌++◌, length, drop, sym, ap, subst, ◌∙◌, arith, to_z, of_z}
use Rattle.std.specs.Prelude.{ℤ}
use Rattle.std.specs.Int.{w16}
use Rattle.std.proofs.lemmas.Int.{to_z-of_z}
use Rattle.std.proofs.lemmas.List.{length-append, length-drop}
use Rattle.bits.specs.Varint.{IsUleb}
use Rattle.bits.proofs.Facts.{uleb_stays}
use Rattle.thrift_compact.specs.Tree.{no_nodes, node, no_pairs, pair, no_fields, field, nest, count}
use Rattle.thrift_compact.specs.Compact.{IsSigned, IsDouble, IsFieldHead, IsListHead, IsMapHead, IsValue, AreElements, ArePairs, kind}
use Rattle.thrift_compact.specs.inner.Reading.{IsShortNumber, IsNumber, ValueOf, ListOf, ElementsOf, ElementOf, PairsOf, FieldsOf}
use Rattle.thrift_compact.specs.View.{code_of, view, views, pair_views, field_views}
use Rattle.thrift_compact.proofs.NodeTypes.{is_i16, is_i32, is_i64, is_double, is_list, is_set}
use Rattle.thrift_compact.proofs.Parts.{one_list_head, one_map_head, field_head_byte}
use Rattle.thrift_compact.proofs.Within.{elements_within, pairs_within}
use Rattle.thrift_compact.proofs.Elements as elements
use Rattle.thrift_compact.proofs.PairsRead as pairs
use Rattle.thrift_compact.proofs.MapRead.{has_pairs, map_size}
use Rattle.thrift_compact.proofs.FieldsRead as fields
use Rattle.thrift_compact.proofs.Refused.{with_nothing_more, refused, uleb_refused}
use Rattle.thrift_compact.proofs.Stays.{in_rest, nothing_after, list_head_stays, map_head_stays}
use Rattle.thrift_compact.proofs.reading.+read.Goals as goal

-- ---- elements

pub elements_at-returns-in_err-value-clause-which : goal.elements_at-returns-in_err-value-clause-which
elements_at-returns-in_err-value-clause-which t c =
    let bytes = c.args.bytes.now in
    let rest = c.split_at.result.1.now in
    let kind = code_of c.args.kind in
    let left = c.args.left in
    refused (ElementOf kind left) rest (ElementsOf kind left c.args.size) bytes c.from_residual.result c.in_err-value.field-0.0 c.from_residual.ensures.1 c.in_err-value.ensures.which
    (λ more nothing. elements.none bytes kind left c.args.size c.loop.counter c.loop.at (views c.loop.values.items) more c.loop-test.true
    (nothing_after (ElementOf kind left) c.loop.at bytes rest more c.split_at.ensures.back c.loop.invariant.within nothing) c.loop.invariant)

pub elements_at-loop-preserved : goal.elements_at-loop-preserved
elements_at-loop-preserved t c =
    let v = c.in_ok-value.value in
    let e : views c.push.new.self.items ≡ elements.append (views c.loop.values.items) (node (view v) no_nodes) = ap views c.in_ok-push.ensures.items ∙ elements.views_push c.loop.values.items v in
    let s = subst (λ b. ElementOf (code_of c.args.kind) c.args.left b (view v) c.in_ok-value.used) c.split_at.ensures.back c.in_ok-value.ensures.stands in
    let w = subst (λ b. c.in_ok-value.used ≤ length b) c.split_at.ensures.back c.in_ok-value.ensures.within in
    rw e (elements.goes_on c.args.bytes.now (code_of c.args.kind) c.args.left c.args.size c.loop.counter c.loop.at (views c.loop.values.items) (view v) c.in_ok-value.used c.loop-test.true w s c.loop.invariant)

pub elements_at-returns-clause-stands : goal.elements_at-returns-clause-stands
elements_at-returns-clause-stands t c =
    let done : c.loop.counter ≡ c.args.size = omega arith in
    elements.ends c.args.bytes.now (code_of c.args.kind) c.args.left c.args.size c.loop.at (views c.loop.values.items)
    (subst (λ n. elements.Going c.args.bytes.now (code_of c.args.kind) c.args.left c.args.size n c.loop.at (views c.loop.values.items)) done c.loop.invariant)

-- ---- lists and sets

pub list_at-returns-in_err-kind-clause-which : goal.list_at-returns-in_err-kind-clause-which
list_at-returns-in_err-kind-clause-which t c =
    let bytes = c.args.bytes.now in
    refused (λ bytes (h : ℕ × ℕ). IsListHead bytes h.0 h.1) bytes (ListOf c.args.left) bytes c.from_residual.result c.in_err-kind.field-0.0 c.from_residual.ensures.1 c.in_err-kind.ensures.which
    (λ more nothing l used s. nothing (l.0, count l.1) s.1.0 s.1.2)

pub list_at-returns-then-size-rest-clause-which : goal.list_at-returns-then-size-rest-clause-which
list_at-returns-then-size-rest-clause-which t c l used s =
    let bytes = c.args.bytes.now in
    let h = one_list_head bytes l.0 (count l.1) s.1.0 (code_of c.in_ok-kind.kind) c.in_ok-kind.size c.in_ok-kind.head s.1.2 c.in_ok-kind.ensures.stands in
    let e = ap length c.split_at.ensures.back in
    omega (arith, h.size, h.used, e, c.if-size-rest.true, elements.elements_some l.1 l.0 (drop s.1.0 bytes) s.1.1 s.1.3, elements_within l.1 l.0 (drop s.1.0 bytes) s.1.1 s.1.3, length-drop s.1.0 bytes, length-drop c.in_ok-kind.head bytes)

pub list_at-returns-in_err-values-clause-which : goal.list_at-returns-in_err-values-clause-which
list_at-returns-in_err-values-clause-which t c =
    let bytes = c.args.bytes.now in
    let rest = c.split_at.result.1.now in
    let kind = code_of c.in_ok-kind.kind in
    let head = c.in_ok-kind.head in
    refused (ElementsOf kind c.args.left c.in_ok-kind.size) rest (ListOf c.args.left) bytes c.from_residual-in_err-values.result c.in_err-values.field-0.0 c.from_residual-in_err-values.ensures.1 c.in_err-values.ensures.which
    (λ more nothing l used s.
    let whole = bytes ++ more in
    let h = one_list_head whole l.0 (count l.1) s.1.0 kind c.in_ok-kind.size head s.1.2 (list_head_stays bytes more kind c.in_ok-kind.size head c.in_ok-kind.ensures.stands) in
    let e1 = subst (λ k. AreElements l.1 k (drop s.1.0 whole) s.1.1) h.code s.1.3 in
    let e2 = subst (λ n. AreElements l.1 kind (drop n whole) s.1.1) h.used e1 in
    let e3 = in_rest (λ b. AreElements l.1 kind b s.1.1) head bytes rest more c.split_at.ensures.back c.in_ok-kind.ensures.within e2 in
    nothing l.1 s.1.1 (h.size, s.0, e3))

-- ---- maps

pub map_at-returns-in_err-size-clause-which : goal.map_at-returns-in_err-size-clause-which
map_at-returns-in_err-size-clause-which t c =
    let bytes = c.args.bytes.now in
    refused IsUleb bytes (ValueOf 11 (c.args.left + 1)) bytes c.from_residual.result c.in_err-size.field-0.0 c.from_residual.ensures.1
    (uleb_refused bytes c.in_err-size.field-0.0 c.in_err-size.ensures.only c.in_err-size.ensures.which c.in_err-size.ensures.truncated)
    (λ more nothing x used s. let m = map_size x (bytes ++ more) used (c.args.left + 1) s in nothing m.0 m.1 m.2)

pub map_at-returns-in_err-keys-clause-which : goal.map_at-returns-in_err-keys-clause-which
map_at-returns-in_err-keys-clause-which t c =
    let bytes = c.args.bytes.now in
    let size = c.in_ok-size.size in
    let head = c.in_ok-size.head in
    refused (λ bytes (h : ℕ × ℕ). IsMapHead bytes h.0 h.1 size) bytes (ValueOf 11 (c.args.left + 1)) bytes c.from_residual-in_err-keys.result c.in_err-keys.field-0.0 c.from_residual-in_err-keys.ensures.1 c.in_err-keys.ensures.which
    (λ more nothing x used s.
    let m = has_pairs x (bytes ++ more) used size head (c.args.left + 1) (uleb_stays bytes more size head c.in_ok-size.ensures.stands) c.if-size-eq0.false s in
    nothing (m.key, m.value) m.front m.head)

pub map_at-returns-then-size-rest-clause-which : goal.map_at-returns-then-size-rest-clause-which
map_at-returns-then-size-rest-clause-which t c x used s =
    let bytes = c.args.bytes.now in
    let m = has_pairs x bytes used c.in_ok-size.size c.in_ok-size.head (c.args.left + 1) c.in_ok-size.ensures.stands c.if-size-eq0.false s in
    let h = one_map_head bytes m.key m.value c.in_ok-size.size m.front (code_of c.in_ok-keys.keys) (code_of c.in_ok-keys.values) c.in_ok-size.size (c.in_ok-size.head + 1) m.head c.in_ok-keys.ensures.stands in
    let e = ap length c.split_at.ensures.back in
    omega (arith, m.many, h.used, e, c.if-size-rest.true, pairs.pairs_some m.pairs m.key m.value (drop m.front bytes) m.rest m.stand, pairs_within m.pairs m.key m.value (drop m.front bytes) m.rest m.stand, length-drop m.front bytes, length-drop (c.in_ok-size.head + 1) bytes)

pub map_at-returns-in_err-pairs-clause-which : goal.map_at-returns-in_err-pairs-clause-which
map_at-returns-in_err-pairs-clause-which t c =
    let bytes = c.args.bytes.now in
    let rest = c.split_at.result.1.now in
    let keys = code_of c.in_ok-keys.keys in
    let values = code_of c.in_ok-keys.values in
    let size = c.in_ok-size.size in
    let head = c.in_ok-size.head in
    refused (PairsOf keys values c.args.left size) rest (ValueOf 11 (c.args.left + 1)) bytes c.from_residual-in_err-pairs.result c.in_err-pairs.field-0.0 c.from_residual-in_err-pairs.ensures.1 c.in_err-pairs.ensures.which
    (λ more nothing x used s.
    let whole = bytes ++ more in
    let m = has_pairs x whole used size head (c.args.left + 1) (uleb_stays bytes more size head c.in_ok-size.ensures.stands) c.if-size-eq0.false s in
    let h = one_map_head whole m.key m.value size m.front keys values size (head + 1) m.head (map_head_stays bytes more keys values size (head + 1) c.in_ok-keys.ensures.stands) in
    let e1 = subst (λ k. ArePairs m.pairs k m.value (drop m.front whole) m.rest) h.key m.stand in
    let e2 = subst (λ k. ArePairs m.pairs keys k (drop m.front whole) m.rest) h.value e1 in
    let e3 = subst (λ n. ArePairs m.pairs keys values (drop n whole) m.rest) h.used e2 in
    let e4 = in_rest (λ b. ArePairs m.pairs keys values b m.rest) (head + 1) bytes rest more c.split_at.ensures.back c.in_ok-keys.ensures.within e3 in
    nothing m.pairs m.rest (m.many, omega (arith, m.shallow), e4))

pub pairs_at-returns-in_err-key-clause-which : goal.pairs_at-returns-in_err-key-clause-which
pairs_at-returns-in_err-key-clause-which t c =
    let bytes = c.args.bytes.now in
    let rest = c.split_at.result.1.now in
    let keys = code_of c.args.keys in
    let values = code_of c.args.values in
    let left = c.args.left in
    refused (ElementOf keys left) rest (PairsOf keys values left c.args.size) bytes c.from_residual.result c.in_err-key.field-0.0 c.from_residual.ensures.1 c.in_err-key.ensures.which
    (λ more nothing. pairs.no_key bytes keys values left c.args.size c.loop.counter c.loop.at (pair_views c.loop.pairs.items) more c.loop-test.true
    (nothing_after (ElementOf keys left) c.loop.at bytes rest more c.split_at.ensures.back c.loop.invariant.within nothing) c.loop.invariant)

pub pairs_at-returns-in_err-value-clause-which : goal.pairs_at-returns-in_err-value-clause-which
pairs_at-returns-in_err-value-clause-which t c =
    let bytes = c.args.bytes.now in
    let rest = c.split_at-in-loop.result.1.now in
    let keys = code_of c.args.keys in
    let values = code_of c.args.values in
    let left = c.args.left in
    let head = c.in_ok-key.head in
    let first = subst (λ b. ElementOf keys left b (view c.in_ok-key.key) head) c.split_at.ensures.back c.in_ok-key.ensures.stands in
    let fits : head ≤ length (drop c.loop.at bytes) = subst (λ b. head ≤ length b) c.split_at.ensures.back c.in_ok-key.ensures.within in
    let within : c.loop.at + head ≤ length bytes = omega (arith, fits, length-drop c.loop.at bytes, c.loop.invariant.within) in
    refused (ElementOf values left) rest (PairsOf keys values left c.args.size) bytes c.from_residual-in_err-value.result c.in_err-value.field-0.0 c.from_residual-in_err-value.ensures.1 c.in_err-value.ensures.which
    (λ more nothing. pairs.no_value bytes keys values left c.args.size c.loop.counter c.loop.at (pair_views c.loop.pairs.items) (view c.in_ok-key.key) head more c.loop-test.true first
    (nothing_after (ElementOf values left) (c.loop.at + head) bytes rest more c.split_at-in-loop.ensures.back within nothing) c.loop.invariant)

pub pairs_at-loop-preserved : goal.pairs_at-loop-preserved
pairs_at-loop-preserved t c =
    let k = c.in_ok-key.key in
    let v = c.in_ok-value.value in
    let e : pair_views c.push.new.self.items ≡ pairs.append_pairs (pair_views c.loop.pairs.items) (pair (view k) (view v) no_pairs) = ap pair_views c.in_ok-push.ensures.items ∙ pairs.pair_views_push c.loop.pairs.items k v in
    let first = subst (λ b. ElementOf (code_of c.args.keys) c.args.left b (view k) c.in_ok-key.head) c.split_at.ensures.back c.in_ok-key.ensures.stands in
    let fits0 = subst (λ b. c.in_ok-key.head ≤ length b) c.split_at.ensures.back c.in_ok-key.ensures.within in
    let second = subst (λ b. ElementOf (code_of c.args.values) c.args.left b (view v) c.in_ok-value.used) c.split_at-in-loop.ensures.back c.in_ok-value.ensures.stands in
    let fits = subst (λ b. c.in_ok-value.used ≤ length b) c.split_at-in-loop.ensures.back c.in_ok-value.ensures.within in
    rw e (pairs.goes_on c.args.bytes.now (code_of c.args.keys) (code_of c.args.values) c.args.left c.args.size c.loop.counter c.loop.at (pair_views c.loop.pairs.items) (view k) (view v) c.in_ok-key.head c.in_ok-value.used c.loop-test.true fits0 fits first second c.loop.invariant)

pub pairs_at-returns-clause-stands : goal.pairs_at-returns-clause-stands
pairs_at-returns-clause-stands t c =
    let done : c.loop.counter ≡ c.args.size = omega arith in
    pairs.ends c.args.bytes.now (code_of c.args.keys) (code_of c.args.values) c.args.left c.args.size c.loop.at (pair_views c.loop.pairs.items)
    (subst (λ n. pairs.GoingPairs c.args.bytes.now (code_of c.args.keys) (code_of c.args.values) c.args.left c.args.size n c.loop.at (pair_views c.loop.pairs.items)) done c.loop.invariant)

-- ---- values

pub nested_at-returns-in_err-of-in-List-clause-which : goal.nested_at-returns-in_err-of-in-List-clause-which
nested_at-returns-in_err-of-in-List-clause-which t c =
    let bytes = c.args.bytes.now in
    refused (ListOf (c.args.left - 1)) bytes (ValueOf (code_of c.args.kind) c.args.left) bytes c.from_residual.result c.in_err-of-in-List.field-0.0 c.from_residual.ensures.1 c.in_err-of-in-List.ensures.which
    (λ more nothing x used s.
    let i = is_list x (s.0 ∙ ap code_of c.in-List.is) in
    let n = subst (λ y. nest y ≤ c.args.left) i.1.1 s.1 in
    nothing (i.0, i.1.0) used (omega (arith, n), subst (λ y. IsValue y (bytes ++ more) used) i.1.1 s.2))

pub nested_at-returns-in_err-of-in-Set-clause-which : goal.nested_at-returns-in_err-of-in-Set-clause-which
nested_at-returns-in_err-of-in-Set-clause-which t c =
    let bytes = c.args.bytes.now in
    refused (ListOf (c.args.left - 1)) bytes (ValueOf (code_of c.args.kind) c.args.left) bytes c.from_residual-in_err-of-in-Set.result c.in_err-of-in-Set.field-0.0 c.from_residual-in_err-of-in-Set.ensures.1 c.in_err-of-in-Set.ensures.which
    (λ more nothing x used s.
    let i = is_set x (s.0 ∙ ap code_of c.in-Set.is) in
    let n = subst (λ y. nest y ≤ c.args.left) i.1.1 s.1 in
    nothing (i.0, i.1.0) used (omega (arith, n), subst (λ y. IsValue y (bytes ++ more) used) i.1.1 s.2))

pub value_at-returns-in_err-short-in-I16-clause-which : goal.value_at-returns-in_err-short-in-I16-clause-which
value_at-returns-in_err-short-in-I16-clause-which t c =
    let bytes = c.args.bytes.now in
    refused IsShortNumber bytes (ValueOf (code_of c.args.kind) c.args.left) bytes c.from_residual-in_err-short-in-I16.result c.in_err-short-in-I16.field-0.0 c.from_residual-in_err-short-in-I16.ensures.1 c.in_err-short-in-I16.ensures.which
    (λ more nothing x used s. let i = is_i16 x (s.0 ∙ ap code_of c.in-I16.is) in nothing i.0 used (subst (λ y. IsValue y (bytes ++ more) used) i.1 s.2))

pub value_at-returns-in_err-int-in-I32-clause-which : goal.value_at-returns-in_err-int-in-I32-clause-which
value_at-returns-in_err-int-in-I32-clause-which t c =
    let bytes = c.args.bytes.now in
    refused IsNumber bytes (ValueOf (code_of c.args.kind) c.args.left) bytes c.from_residual-in_err-int-in-I32.result c.in_err-int-in-I32.field-0.0 c.from_residual-in_err-int-in-I32.ensures.1 c.in_err-int-in-I32.ensures.which
    (λ more nothing x used s. let i = is_i32 x (s.0 ∙ ap code_of c.in-I32.is) in nothing i.0 used (subst (λ y. IsValue y (bytes ++ more) used) i.1 s.2))

pub value_at-returns-in_err-long-in-I64-clause-which : goal.value_at-returns-in_err-long-in-I64-clause-which
value_at-returns-in_err-long-in-I64-clause-which t c =
    let bytes = c.args.bytes.now in
    refused IsSigned bytes (ValueOf (code_of c.args.kind) c.args.left) bytes c.from_residual-in_err-long-in-I64.result c.in_err-long-in-I64.field-0.0 c.from_residual-in_err-long-in-I64.ensures.1 c.in_err-long-in-I64.ensures.which
    (λ more nothing x used s. let i = is_i64 x (s.0 ∙ ap code_of c.in-I64.is) in nothing i.0 used (subst (λ y. IsValue y (bytes ++ more) used) i.1 s.2))

pub value_at-returns-in_err-double_at-in-Double-clause-which : goal.value_at-returns-in_err-double_at-in-Double-clause-which
value_at-returns-in_err-double_at-in-Double-clause-which t c =
    let bytes = c.args.bytes.now in
    refused IsDouble bytes (ValueOf (code_of c.args.kind) c.args.left) bytes c.from_residual-in_err-double_at-in-Double.result c.in_err-double_at-in-Double.field-0.0 c.from_residual-in_err-double_at-in-Double.ensures.1 c.in_err-double_at-in-Double.ensures.which
    (λ more nothing x used s. let i = is_double x (s.0 ∙ ap code_of c.in-Double.is) in nothing i.0 used (subst (λ y. IsValue y (bytes ++ more) used) i.1 s.2))

-- ---- fields

pub fields_at-returns-then-bytes-at-eq0-clause-stands : goal.fields_at-returns-then-bytes-at-eq0-clause-stands
fields_at-returns-then-bytes-at-eq0-clause-stands t c =
    fields.ends c.args.bytes.now c.args.left c.loop-at.at (to_z w16 c.loop-at.previous-bits) (field_views c.loop-at.fields.items) (fields.zero_at c.args.bytes.now c.loop-at.at c.loop-at-test.true c.if-bytes-at-eq0.true) c.loop-at.invariant

pub fields_at-returns-in_err-id-clause-which : goal.fields_at-returns-in_err-id-clause-which
fields_at-returns-in_err-id-clause-which t c =
    let bytes = c.args.bytes.now in
    let rest = c.split_at.result.1.now in
    let at = c.loop-at.at in
    let previous = to_z w16 c.loop-at.previous-bits in
    refused (λ bytes (h : ℤ × ℕ). IsFieldHead previous bytes h.0 h.1) rest (FieldsOf c.args.left) bytes c.from_residual.result c.in_err-id.field-0.0 c.from_residual.ensures.1 c.in_err-id.ensures.which
    (λ more nothing. fields.none bytes c.args.left at previous (field_views c.loop-at.fields.items) more
    (λ v p. c.if-bytes-at-eq0.false (sym (fields.byte_later bytes more at c.loop-at-test.true) ∙ p.is))
    (λ id x h u head n v. nothing (id, kind x) h (in_rest (λ b. IsFieldHead previous b id (kind x) h) at bytes rest more c.split_at.ensures.back c.loop-at.invariant.within head)) c.loop-at.invariant)

pub fields_at-returns-in_err-value-clause-which : goal.fields_at-returns-in_err-value-clause-which
fields_at-returns-in_err-value-clause-which t c =
    let bytes = c.args.bytes.now in
    let rest = c.split_at-in-loop-at.result.1.now in
    let at = c.loop-at.at in
    let previous = to_z w16 c.loop-at.previous-bits in
    let kind = code_of c.in_ok-id.kind in
    let head = c.in_ok-id.head in
    let left = c.args.left in
    let mine = subst (λ b. IsFieldHead previous b c.in_ok-id.id kind head) c.split_at.ensures.back c.in_ok-id.ensures.stands in
    let fits : head ≤ length (drop at bytes) = subst (λ b. head ≤ length b) c.split_at.ensures.back c.in_ok-id.ensures.within.1 in
    let within : at + head ≤ length bytes = omega (arith, fits, length-drop at bytes, c.loop-at.invariant.within) in
    refused (ValueOf kind left) rest (FieldsOf left) bytes c.from_residual-in_err-value.result c.in_err-value.field-0.0 c.from_residual-in_err-value.ensures.1 c.in_err-value.ensures.which
    (λ more nothing. fields.no_value bytes left at previous (field_views c.loop-at.fields.items) c.in_ok-id.id kind head more mine
    (nothing_after (ValueOf kind left) (at + head) bytes rest more c.split_at-in-loop-at.ensures.back within nothing) c.loop-at.invariant)

pub fields_at-loop-at-preserved : goal.fields_at-loop-at-preserved
fields_at-loop-at-preserved t c =
    let bytes = c.args.bytes.now in
    let v = c.in_ok-value.value in
    let back : to_z w16 (of_z w16 c.in_ok-id.id) ≡ c.in_ok-id.id = to_z-of_z w16 c.in_ok-id.id c.in_ok-id.ensures.stands.2 in
    let e : field_views c.push.new.self.items ≡ fields.append_fields (field_views c.loop-at.fields.items) (field (to_z w16 (of_z w16 c.in_ok-id.id)) (view v) no_fields) = ap field_views c.in_ok-push.ensures.items ∙ fields.rolled_push c.loop-at.fields.items (to_z w16 (of_z w16 c.in_ok-id.id)) v in
    let mine = subst (λ b. IsFieldHead (to_z w16 c.loop-at.previous-bits) b c.in_ok-id.id (code_of c.in_ok-id.kind) c.in_ok-id.head) c.split_at.ensures.back c.in_ok-id.ensures.stands in
    let fits0 : c.in_ok-id.head ≤ length (drop c.loop-at.at bytes) = subst (λ b. c.in_ok-id.head ≤ length b) c.split_at.ensures.back c.in_ok-id.ensures.within.1 in
    let s = subst (λ b. ValueOf (code_of c.in_ok-id.kind) c.args.left b (view v) c.in_ok-value.used) c.split_at-in-loop-at.ensures.back c.in_ok-value.ensures.stands in
    let w = subst (λ b. c.in_ok-value.used ≤ length b) c.split_at-in-loop-at.ensures.back c.in_ok-value.ensures.within in
    let g = fields.goes_on bytes c.args.left c.loop-at.at (to_z w16 c.loop-at.previous-bits) (field_views c.loop-at.fields.items) c.in_ok-id.id (view v) (code_of c.in_ok-id.kind) c.in_ok-id.head c.in_ok-value.used fits0 w mine s c.loop-at.invariant in
    rw (e, back) g

pub fields_at-returns-clause-which : goal.fields_at-returns-clause-which
fields_at-returns-clause-which t c =
    let bytes = c.args.bytes.now in
    let at = c.loop-at.at in
    let previous = to_z w16 c.loop-at.previous-bits in
    let past : length (drop at (bytes ++ [])) ≡ 0 = omega (arith, length-drop at (bytes ++ []), length-append bytes [], c.loop-at-test.false) in
    with_nothing_more (FieldsOf c.args.left) bytes
    (fields.none bytes c.args.left at previous (field_views c.loop-at.fields.items) []
    (λ v p. omega (arith, p.some, past))
    (λ id x h u head n v. let b = field_head_byte previous (drop at (bytes ++ [])) id (kind x) h head in omega (arith, b.1.some, past)) c.loop-at.invariant)
