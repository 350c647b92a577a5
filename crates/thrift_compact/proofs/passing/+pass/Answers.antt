use Rattle.std.proofs.Common.{◌≡◌, ℕ, ◌+◌, ◌-◌, ◌≤◌, [], ◌++◌, length, drop, refl, sym, ap, subst, ◌∙◌, arith, to_z, of_z}
use Rattle.std.specs.Prelude.{ℤ}
use Rattle.std.specs.Int.{w16}
use Rattle.std.proofs.lemmas.Int.{to_z-of_z}
use Rattle.std.proofs.lemmas.List.{length-append, length-drop}
use Rattle.bits.specs.Varint.{IsUleb}
use Rattle.bits.proofs.Facts.{uleb_stays}
use Rattle.thrift_compact.specs.Tree.{flag, i8, i16, i32, i64, double, binary, list, set, empty_map, map, struct, no_nodes, node, no_pairs, pair, no_fields, field, nest, count}
use Rattle.thrift_compact.specs.Compact.{IsSigned, IsDouble, IsBinary, IsFieldHead, IsListHead, IsMapHead, IsValue, AreElements, ArePairs, kind}
use Rattle.thrift_compact.specs.inner.Reading.{IsShortNumber, IsNumber, ValueOf, ListOf, ElementsOf, ElementOf, PairsOf, FieldsOf}
use Rattle.thrift_compact.specs.View.{code_of}
use Rattle.thrift_compact.proofs.NodeTypes.{is_i16, is_i32, is_i64, is_double, is_binary, is_list, is_set}
use Rattle.thrift_compact.proofs.Parts.{one_list_head, one_map_head, field_head_byte}
use Rattle.thrift_compact.proofs.Within.{elements_within, pairs_within}
use Rattle.thrift_compact.proofs.Elements as elements
use Rattle.thrift_compact.proofs.PairsRead as pairs
use Rattle.thrift_compact.proofs.MapRead.{has_pairs, map_size}
use Rattle.thrift_compact.proofs.FieldsRead as fields
use Rattle.thrift_compact.proofs.Refused.{with_nothing_more, refused, uleb_refused}
use Rattle.thrift_compact.proofs.Stays.{in_rest, nothing_after, list_head_stays, map_head_stays}
use Rattle.thrift_compact.proofs.PassedOver.{elements_begin, pairs_begin, fields_begin, struct_type, boolean_stands, boolean_code}
use Rattle.thrift_compact.proofs.passing.+pass.Goals as goal

-- ---- elements

pub pass_elements-returns-in_err-used-clause-which : goal.pass_elements-returns-in_err-used-clause-which
pass_elements-returns-in_err-used-clause-which t c =
    let bytes = c.args.bytes.now in
    let rest = c.split_at.result.1.now in
    let kind = code_of c.args.kind in
    let left = c.args.left in
    refused (ElementOf kind left) rest (ElementsOf kind left c.args.size) bytes c.from_residual.result c.in_err-used.field-0.0 c.from_residual.ensures.1 c.in_err-used.ensures.which
    (λ more nothing. elements.none bytes kind left c.args.size c.loop.counter c.loop.at c.loop.invariant.front more c.loop-test.true
    (nothing_after (ElementOf kind left) c.loop.at bytes rest more c.split_at.ensures.back c.loop.invariant.within nothing) c.loop.invariant.going)

pub pass_elements-loop-init : goal.pass_elements-loop-init
pass_elements-loop-init t c = elements_begin c.args.bytes.now (code_of c.args.kind) c.args.left c.args.size

pub pass_elements-loop-preserved : goal.pass_elements-loop-preserved
pass_elements-loop-preserved t c =
    let kind = code_of c.args.kind in
    let used = c.in_ok-used.used in
    let x = c.in_ok-used.ensures.stands.0 in
    let s = subst (λ b. ElementOf kind c.args.left b x used) c.split_at.ensures.back c.in_ok-used.ensures.stands.1 in
    let w = subst (λ b. used ≤ length b) c.split_at.ensures.back c.in_ok-used.ensures.within in
    let g = elements.goes_on c.args.bytes.now kind c.args.left c.args.size c.loop.counter c.loop.at c.loop.invariant.front x used c.loop-test.true w s c.loop.invariant.going in
    record { within = g.within; front = elements.append c.loop.invariant.front (node x no_nodes); going = g }

pub pass_elements-returns-clause-stands : goal.pass_elements-returns-clause-stands
pass_elements-returns-clause-stands t c =
    let kind = code_of c.args.kind in
    let front = c.loop.invariant.front in
    let done : c.loop.counter ≡ c.args.size = omega arith in (
      front,
      elements.ends c.args.bytes.now kind c.args.left c.args.size c.loop.at front
          (subst (λ n. elements.Going c.args.bytes.now kind c.args.left c.args.size n c.loop.at front) done c.loop.invariant.going),
    )

pub pass_element-returns-in_ok-_byte-in-True-clause-stands : goal.pass_element-returns-in_ok-_byte-in-True-clause-stands
pass_element-returns-in_ok-_byte-in-True-clause-stands t c = (flag c.in_ok-_byte-in-True._byte, (boolean_code c.args.kind c.in-True.is, omega arith, c.in_ok-_byte-in-True.ensures.stands))

-- ---- lists and sets

pub pass_list-returns-in_err-kind-clause-which : goal.pass_list-returns-in_err-kind-clause-which
pass_list-returns-in_err-kind-clause-which t c =
    let bytes = c.args.bytes.now in
    refused (λ bytes (h : ℕ × ℕ). IsListHead bytes h.0 h.1) bytes (ListOf c.args.left) bytes c.from_residual.result c.in_err-kind.field-0.0 c.from_residual.ensures.1 c.in_err-kind.ensures.which
    (λ more nothing l used s. nothing (l.0, count l.1) s.1.0 s.1.2)

pub pass_list-returns-then-size-rest-clause-which : goal.pass_list-returns-then-size-rest-clause-which
pass_list-returns-then-size-rest-clause-which t c l used s =
    let bytes = c.args.bytes.now in
    let h = one_list_head bytes l.0 (count l.1) s.1.0 (code_of c.in_ok-kind.kind) c.in_ok-kind.size c.in_ok-kind.head s.1.2 c.in_ok-kind.ensures.stands in
    let e = ap length c.split_at.ensures.back in
    omega (arith, h.size, h.used, e, c.if-size-rest.true, elements.elements_some l.1 l.0 (drop s.1.0 bytes) s.1.1 s.1.3, elements_within l.1 l.0 (drop s.1.0 bytes) s.1.1 s.1.3, length-drop s.1.0 bytes, length-drop c.in_ok-kind.head bytes)

pub pass_list-returns-in_err-used-clause-which : goal.pass_list-returns-in_err-used-clause-which
pass_list-returns-in_err-used-clause-which t c =
    let bytes = c.args.bytes.now in
    let rest = c.split_at.result.1.now in
    let kind = code_of c.in_ok-kind.kind in
    let head = c.in_ok-kind.head in
    refused (ElementsOf kind c.args.left c.in_ok-kind.size) rest (ListOf c.args.left) bytes c.from_residual-in_err-used.result c.in_err-used.field-0.0 c.from_residual-in_err-used.ensures.1 c.in_err-used.ensures.which
    (λ more nothing l used s.
    let whole = bytes ++ more in
    let h = one_list_head whole l.0 (count l.1) s.1.0 kind c.in_ok-kind.size head s.1.2 (list_head_stays bytes more kind c.in_ok-kind.size head c.in_ok-kind.ensures.stands) in
    let e1 = subst (λ k. AreElements l.1 k (drop s.1.0 whole) s.1.1) h.code s.1.3 in
    let e2 = subst (λ n. AreElements l.1 kind (drop n whole) s.1.1) h.used e1 in
    let e3 = in_rest (λ b. AreElements l.1 kind b s.1.1) head bytes rest more c.split_at.ensures.back c.in_ok-kind.ensures.within e2 in
    nothing l.1 s.1.1 (h.size, s.0, e3))

pub pass_list-returns-clause-stands : goal.pass_list-returns-clause-stands
pass_list-returns-clause-stands t c =
    let s = c.in_ok-used.ensures.stands in
    let kind = code_of c.in_ok-kind.kind in
    let first = subst (λ n. IsListHead c.args.bytes.now kind n c.in_ok-kind.head) (sym s.1.0) c.in_ok-kind.ensures.stands in
    let behind = subst (λ b. AreElements s.0 kind b c.in_ok-used.used) c.split_at.ensures.back s.1.2 in
    ((kind, s.0), (s.1.1, (c.in_ok-kind.head, c.in_ok-used.used, first, behind, refl)))

-- ---- maps

pub pass_map-returns-in_err-size-clause-which : goal.pass_map-returns-in_err-size-clause-which
pass_map-returns-in_err-size-clause-which t c =
    let bytes = c.args.bytes.now in
    refused IsUleb bytes (ValueOf 11 (c.args.left + 1)) bytes c.from_residual.result c.in_err-size.field-0.0 c.from_residual.ensures.1
    (uleb_refused bytes c.in_err-size.field-0.0 c.in_err-size.ensures.only c.in_err-size.ensures.which c.in_err-size.ensures.truncated)
    (λ more nothing x used s. let m = map_size x (bytes ++ more) used (c.args.left + 1) s in nothing m.0 m.1 m.2)

pub pass_map-returns-in_err-keys-clause-which : goal.pass_map-returns-in_err-keys-clause-which
pass_map-returns-in_err-keys-clause-which t c =
    let bytes = c.args.bytes.now in
    let size = c.in_ok-size.size in
    let head = c.in_ok-size.head in
    refused (λ bytes (h : ℕ × ℕ). IsMapHead bytes h.0 h.1 size) bytes (ValueOf 11 (c.args.left + 1)) bytes c.from_residual-in_err-keys.result c.in_err-keys.field-0.0 c.from_residual-in_err-keys.ensures.1 c.in_err-keys.ensures.which
    (λ more nothing x used s.
    let m = has_pairs x (bytes ++ more) used size head (c.args.left + 1) (uleb_stays bytes more size head c.in_ok-size.ensures.stands) c.if-size-eq0.false s in
    nothing (m.key, m.value) m.front m.head)

pub pass_map-returns-then-size-rest-clause-which : goal.pass_map-returns-then-size-rest-clause-which
pass_map-returns-then-size-rest-clause-which t c x used s =
    let bytes = c.args.bytes.now in
    let m = has_pairs x bytes used c.in_ok-size.size c.in_ok-size.head (c.args.left + 1) c.in_ok-size.ensures.stands c.if-size-eq0.false s in
    let h = one_map_head bytes m.key m.value c.in_ok-size.size m.front (code_of c.in_ok-keys.keys) (code_of c.in_ok-keys.values) c.in_ok-size.size (c.in_ok-size.head + 1) m.head c.in_ok-keys.ensures.stands in
    let e = ap length c.split_at.ensures.back in
    omega (arith, m.many, h.used, e, c.if-size-rest.true, pairs.pairs_some m.pairs m.key m.value (drop m.front bytes) m.rest m.stand, pairs_within m.pairs m.key m.value (drop m.front bytes) m.rest m.stand, length-drop m.front bytes, length-drop (c.in_ok-size.head + 1) bytes)

pub pass_map-returns-in_err-used-clause-which : goal.pass_map-returns-in_err-used-clause-which
pass_map-returns-in_err-used-clause-which t c =
    let bytes = c.args.bytes.now in
    let rest = c.split_at.result.1.now in
    let keys = code_of c.in_ok-keys.keys in
    let values = code_of c.in_ok-keys.values in
    let size = c.in_ok-size.size in
    let head = c.in_ok-size.head in
    refused (PairsOf keys values c.args.left size) rest (ValueOf 11 (c.args.left + 1)) bytes c.from_residual-in_err-used.result c.in_err-used.field-0.0 c.from_residual-in_err-used.ensures.1 c.in_err-used.ensures.which
    (λ more nothing x used s.
    let whole = bytes ++ more in
    let m = has_pairs x whole used size head (c.args.left + 1) (uleb_stays bytes more size head c.in_ok-size.ensures.stands) c.if-size-eq0.false s in
    let h = one_map_head whole m.key m.value size m.front keys values size (head + 1) m.head (map_head_stays bytes more keys values size (head + 1) c.in_ok-keys.ensures.stands) in
    let e1 = subst (λ k. ArePairs m.pairs k m.value (drop m.front whole) m.rest) h.key m.stand in
    let e2 = subst (λ k. ArePairs m.pairs keys k (drop m.front whole) m.rest) h.value e1 in
    let e3 = subst (λ n. ArePairs m.pairs keys values (drop n whole) m.rest) h.used e2 in
    let e4 = in_rest (λ b. ArePairs m.pairs keys values b m.rest) (head + 1) bytes rest more c.split_at.ensures.back c.in_ok-keys.ensures.within e3 in
    nothing m.pairs m.rest (m.many, omega (arith, m.shallow), e4))

pub pass_map-returns-then-size-eq0-clause-stands : goal.pass_map-returns-then-size-eq0-clause-stands
pass_map-returns-then-size-eq0-clause-stands t c =
    (empty_map, (refl, omega arith, subst (λ n. IsUleb c.args.bytes.now n c.in_ok-size.head) c.if-size-eq0.true c.in_ok-size.ensures.stands))

pub pass_map-returns-clause-stands : goal.pass_map-returns-clause-stands
pass_map-returns-clause-stands t c =
    let s = c.in_ok-used.ensures.stands in
    let keys = code_of c.in_ok-keys.keys in
    let values = code_of c.in_ok-keys.values in
    let first = subst (λ n. IsMapHead c.args.bytes.now keys values n (c.in_ok-size.head + 1)) (sym s.1.0) c.in_ok-keys.ensures.stands in
    let behind = subst (λ b. ArePairs s.0 keys values b c.in_ok-used.used) c.split_at.ensures.back s.1.2 in
    (map keys values s.0, (refl, omega (arith, s.1.1), (c.in_ok-size.head + 1, c.in_ok-used.used, first, behind, refl)))

pub pass_pairs-returns-in_err-head-clause-which : goal.pass_pairs-returns-in_err-head-clause-which
pass_pairs-returns-in_err-head-clause-which t c =
    let bytes = c.args.bytes.now in
    let rest = c.split_at.result.1.now in
    let keys = code_of c.args.keys in
    let values = code_of c.args.values in
    let left = c.args.left in
    refused (ElementOf keys left) rest (PairsOf keys values left c.args.size) bytes c.from_residual.result c.in_err-head.field-0.0 c.from_residual.ensures.1 c.in_err-head.ensures.which
    (λ more nothing. pairs.no_key bytes keys values left c.args.size c.loop.counter c.loop.at c.loop.invariant.front more c.loop-test.true
    (nothing_after (ElementOf keys left) c.loop.at bytes rest more c.split_at.ensures.back c.loop.invariant.within nothing) c.loop.invariant.going)

pub pass_pairs-returns-in_err-used-clause-which : goal.pass_pairs-returns-in_err-used-clause-which
pass_pairs-returns-in_err-used-clause-which t c =
    let bytes = c.args.bytes.now in
    let rest = c.split_at-in-loop.result.1.now in
    let keys = code_of c.args.keys in
    let values = code_of c.args.values in
    let left = c.args.left in
    let head = c.in_ok-head.head in
    let x = c.in_ok-head.ensures.stands.0 in
    let first = subst (λ b. ElementOf keys left b x head) c.split_at.ensures.back c.in_ok-head.ensures.stands.1 in
    let fits : head ≤ length (drop c.loop.at bytes) = subst (λ b. head ≤ length b) c.split_at.ensures.back c.in_ok-head.ensures.within in
    let within : c.loop.at + head ≤ length bytes = omega (arith, fits, length-drop c.loop.at bytes, c.loop.invariant.within) in
    refused (ElementOf values left) rest (PairsOf keys values left c.args.size) bytes c.from_residual-in_err-used.result c.in_err-used.field-0.0 c.from_residual-in_err-used.ensures.1 c.in_err-used.ensures.which
    (λ more nothing. pairs.no_value bytes keys values left c.args.size c.loop.counter c.loop.at c.loop.invariant.front x head more c.loop-test.true first
    (nothing_after (ElementOf values left) (c.loop.at + head) bytes rest more c.split_at-in-loop.ensures.back within nothing) c.loop.invariant.going)

pub pass_pairs-loop-init : goal.pass_pairs-loop-init
pass_pairs-loop-init t c = pairs_begin c.args.bytes.now (code_of c.args.keys) (code_of c.args.values) c.args.left c.args.size

pub pass_pairs-loop-preserved : goal.pass_pairs-loop-preserved
pass_pairs-loop-preserved t c =
    let keys = code_of c.args.keys in
    let values = code_of c.args.values in
    let left = c.args.left in
    let head = c.in_ok-head.head in
    let used = c.in_ok-used.used in
    let x = c.in_ok-head.ensures.stands.0 in
    let y = c.in_ok-used.ensures.stands.0 in
    let front = c.loop.invariant.front in
    let first = subst (λ b. ElementOf keys left b x head) c.split_at.ensures.back c.in_ok-head.ensures.stands.1 in
    let fits0 = subst (λ b. head ≤ length b) c.split_at.ensures.back c.in_ok-head.ensures.within in
    let second = subst (λ b. ElementOf values left b y used) c.split_at-in-loop.ensures.back c.in_ok-used.ensures.stands.1 in
    let fits = subst (λ b. used ≤ length b) c.split_at-in-loop.ensures.back c.in_ok-used.ensures.within in
    let g = pairs.goes_on c.args.bytes.now keys values left c.args.size c.loop.counter c.loop.at front x y head used c.loop-test.true fits0 fits first second c.loop.invariant.going in
    record { within = g.within; front = pairs.append_pairs front (pair x y no_pairs); going = g }

pub pass_pairs-returns-clause-stands : goal.pass_pairs-returns-clause-stands
pass_pairs-returns-clause-stands t c =
    let keys = code_of c.args.keys in
    let values = code_of c.args.values in
    let front = c.loop.invariant.front in
    let done : c.loop.counter ≡ c.args.size = omega arith in (
      front,
      pairs.ends c.args.bytes.now keys values c.args.left c.args.size c.loop.at front
          (subst (λ n. pairs.GoingPairs c.args.bytes.now keys values c.args.left c.args.size n c.loop.at front) done c.loop.invariant.going),
    )

-- ---- values

pub pass_nested-returns-in_err-used-in-List-clause-which : goal.pass_nested-returns-in_err-used-in-List-clause-which
pass_nested-returns-in_err-used-in-List-clause-which t c =
    let bytes = c.args.bytes.now in
    refused (ListOf (c.args.left - 1)) bytes (ValueOf (code_of c.args.kind) c.args.left) bytes c.from_residual.result c.in_err-used-in-List.field-0.0 c.from_residual.ensures.1 c.in_err-used-in-List.ensures.which
    (λ more nothing x used s.
    let i = is_list x (s.0 ∙ ap code_of c.in-List.is) in
    let n = subst (λ y. nest y ≤ c.args.left) i.1.1 s.1 in
    nothing (i.0, i.1.0) used (omega (arith, n), subst (λ y. IsValue y (bytes ++ more) used) i.1.1 s.2))

pub pass_nested-returns-in_ok-used-in-List-clause-stands : goal.pass_nested-returns-in_ok-used-in-List-clause-stands
pass_nested-returns-in_ok-used-in-List-clause-stands t c =
    let s = c.in_ok-used-in-List.ensures.stands in
    (list s.0.0 s.0.1, (sym (ap code_of c.in-List.is), omega (arith, s.1.0, c.if-left-eq0.false), s.1.1))

pub pass_nested-returns-in_err-used-in-Set-clause-which : goal.pass_nested-returns-in_err-used-in-Set-clause-which
pass_nested-returns-in_err-used-in-Set-clause-which t c =
    let bytes = c.args.bytes.now in
    refused (ListOf (c.args.left - 1)) bytes (ValueOf (code_of c.args.kind) c.args.left) bytes c.from_residual-in_err-used-in-Set.result c.in_err-used-in-Set.field-0.0 c.from_residual-in_err-used-in-Set.ensures.1 c.in_err-used-in-Set.ensures.which
    (λ more nothing x used s.
    let i = is_set x (s.0 ∙ ap code_of c.in-Set.is) in
    let n = subst (λ y. nest y ≤ c.args.left) i.1.1 s.1 in
    nothing (i.0, i.1.0) used (omega (arith, n), subst (λ y. IsValue y (bytes ++ more) used) i.1.1 s.2))

pub pass_nested-returns-in_ok-used-in-Set-clause-stands : goal.pass_nested-returns-in_ok-used-in-Set-clause-stands
pass_nested-returns-in_ok-used-in-Set-clause-stands t c =
    let s = c.in_ok-used-in-Set.ensures.stands in
    (set s.0.0 s.0.1, (sym (ap code_of c.in-Set.is), omega (arith, s.1.0, c.if-left-eq0.false), s.1.1))

pub pass_nested-returns-in_ok-used-in_default-clause-stands : goal.pass_nested-returns-in_ok-used-in_default-clause-stands
pass_nested-returns-in_ok-used-in_default-clause-stands t c =
    let s = c.in_ok-used-in_default.ensures.stands in
    (struct s.0, (sym (struct_type c.args.kind c.requires c.in_default.not-List c.in_default.not-Set c.in_default.not-Map), omega (arith, s.1.0, c.if-left-eq0.false), s.1.1))

pub pass_value-returns-in-True-clause-stands : goal.pass_value-returns-in-True-clause-stands
pass_value-returns-in-True-clause-stands t c = boolean_stands c.args.kind c.in-True.is c.args.left c.args.bytes.now

pub pass_value-returns-in_ok-_byte-in-I8-clause-stands : goal.pass_value-returns-in_ok-_byte-in-I8-clause-stands
pass_value-returns-in_ok-_byte-in-I8-clause-stands t c = (i8 c.in_ok-_byte-in-I8._byte, (sym (ap code_of c.in-I8.is), omega arith, c.in_ok-_byte-in-I8.ensures.stands))

pub pass_value-returns-in_ok-_short-in-I16-clause-stands : goal.pass_value-returns-in_ok-_short-in-I16-clause-stands
pass_value-returns-in_ok-_short-in-I16-clause-stands t c = (i16 c.in_ok-_short-in-I16._short, (sym (ap code_of c.in-I16.is), omega arith, c.in_ok-_short-in-I16.ensures.stands))

pub pass_value-returns-in_ok-_int-in-I32-clause-stands : goal.pass_value-returns-in_ok-_int-in-I32-clause-stands
pass_value-returns-in_ok-_int-in-I32-clause-stands t c = (i32 c.in_ok-_int-in-I32._int, (sym (ap code_of c.in-I32.is), omega arith, c.in_ok-_int-in-I32.ensures.stands))

pub pass_value-returns-in_ok-_long-in-I64-clause-stands : goal.pass_value-returns-in_ok-_long-in-I64-clause-stands
pass_value-returns-in_ok-_long-in-I64-clause-stands t c = (i64 c.in_ok-_long-in-I64._long, (sym (ap code_of c.in-I64.is), omega arith, c.in_ok-_long-in-I64.ensures.stands))

pub pass_value-returns-in_ok-_double-in-Double-clause-stands : goal.pass_value-returns-in_ok-_double-in-Double-clause-stands
pass_value-returns-in_ok-_double-in-Double-clause-stands t c = (double c.in_ok-_double-in-Double._double, (sym (ap code_of c.in-Double.is), omega arith, c.in_ok-_double-in-Double.ensures.stands))

pub pass_value-returns-in_ok-used-in-Binary-clause-stands : goal.pass_value-returns-in_ok-used-in-Binary-clause-stands
pass_value-returns-in_ok-used-in-Binary-clause-stands t c =
    let s = c.in_ok-used-in-Binary.ensures.stands in
    (binary s.0, (sym (ap code_of c.in-Binary.is), omega arith, s.1))

pub pass_value-returns-in_err-_short-in-I16-clause-which : goal.pass_value-returns-in_err-_short-in-I16-clause-which
pass_value-returns-in_err-_short-in-I16-clause-which t c =
    let bytes = c.args.bytes.now in
    refused IsShortNumber bytes (ValueOf (code_of c.args.kind) c.args.left) bytes c.from_residual-in_err-_short-in-I16.result c.in_err-_short-in-I16.field-0.0 c.from_residual-in_err-_short-in-I16.ensures.1 c.in_err-_short-in-I16.ensures.which
    (λ more nothing x used s. let i = is_i16 x (s.0 ∙ ap code_of c.in-I16.is) in nothing i.0 used (subst (λ y. IsValue y (bytes ++ more) used) i.1 s.2))

pub pass_value-returns-in_err-_int-in-I32-clause-which : goal.pass_value-returns-in_err-_int-in-I32-clause-which
pass_value-returns-in_err-_int-in-I32-clause-which t c =
    let bytes = c.args.bytes.now in
    refused IsNumber bytes (ValueOf (code_of c.args.kind) c.args.left) bytes c.from_residual-in_err-_int-in-I32.result c.in_err-_int-in-I32.field-0.0 c.from_residual-in_err-_int-in-I32.ensures.1 c.in_err-_int-in-I32.ensures.which
    (λ more nothing x used s. let i = is_i32 x (s.0 ∙ ap code_of c.in-I32.is) in nothing i.0 used (subst (λ y. IsValue y (bytes ++ more) used) i.1 s.2))

pub pass_value-returns-in_err-_long-in-I64-clause-which : goal.pass_value-returns-in_err-_long-in-I64-clause-which
pass_value-returns-in_err-_long-in-I64-clause-which t c =
    let bytes = c.args.bytes.now in
    refused IsSigned bytes (ValueOf (code_of c.args.kind) c.args.left) bytes c.from_residual-in_err-_long-in-I64.result c.in_err-_long-in-I64.field-0.0 c.from_residual-in_err-_long-in-I64.ensures.1 c.in_err-_long-in-I64.ensures.which
    (λ more nothing x used s. let i = is_i64 x (s.0 ∙ ap code_of c.in-I64.is) in nothing i.0 used (subst (λ y. IsValue y (bytes ++ more) used) i.1 s.2))

pub pass_value-returns-in_err-_double-in-Double-clause-which : goal.pass_value-returns-in_err-_double-in-Double-clause-which
pass_value-returns-in_err-_double-in-Double-clause-which t c =
    let bytes = c.args.bytes.now in
    refused IsDouble bytes (ValueOf (code_of c.args.kind) c.args.left) bytes c.from_residual-in_err-_double-in-Double.result c.in_err-_double-in-Double.field-0.0 c.from_residual-in_err-_double-in-Double.ensures.1 c.in_err-_double-in-Double.ensures.which
    (λ more nothing x used s. let i = is_double x (s.0 ∙ ap code_of c.in-Double.is) in nothing i.0 used (subst (λ y. IsValue y (bytes ++ more) used) i.1 s.2))

pub pass_value-returns-in_err-used-in-Binary-clause-which : goal.pass_value-returns-in_err-used-in-Binary-clause-which
pass_value-returns-in_err-used-in-Binary-clause-which t c =
    let bytes = c.args.bytes.now in
    refused IsBinary bytes (ValueOf (code_of c.args.kind) c.args.left) bytes c.from_residual-in_err-used-in-Binary.result c.in_err-used-in-Binary.field-0.0 c.from_residual-in_err-used-in-Binary.ensures.1 c.in_err-used-in-Binary.ensures.which
    (λ more nothing x used s. let i = is_binary x (s.0 ∙ ap code_of c.in-Binary.is) in nothing i.0 used (subst (λ y. IsValue y (bytes ++ more) used) i.1 s.2))

-- ---- fields

pub pass_fields-loop-at-init : goal.pass_fields-loop-at-init
pass_fields-loop-at-init t c = fields_begin c.args.bytes.now c.args.left

pub pass_fields-returns-then-bytes-at-eq0-clause-stands : goal.pass_fields-returns-then-bytes-at-eq0-clause-stands
pass_fields-returns-then-bytes-at-eq0-clause-stands t c =
    let front = c.loop-at.invariant.front in (
      front,
      fields.ends c.args.bytes.now c.args.left c.loop-at.at (to_z w16 c.loop-at.previous-bits) front
          (fields.zero_at c.args.bytes.now c.loop-at.at c.loop-at-test.true c.if-bytes-at-eq0.true) c.loop-at.invariant.going,
    )

pub pass_fields-returns-in_err-id-clause-which : goal.pass_fields-returns-in_err-id-clause-which
pass_fields-returns-in_err-id-clause-which t c =
    let bytes = c.args.bytes.now in
    let rest = c.split_at.result.1.now in
    let at = c.loop-at.at in
    let previous = to_z w16 c.loop-at.previous-bits in
    refused (λ bytes (h : ℤ × ℕ). IsFieldHead previous bytes h.0 h.1) rest (FieldsOf c.args.left) bytes c.from_residual.result c.in_err-id.field-0.0 c.from_residual.ensures.1 c.in_err-id.ensures.which
    (λ more nothing. fields.none bytes c.args.left at previous c.loop-at.invariant.front more
    (λ v p. c.if-bytes-at-eq0.false (sym (fields.byte_later bytes more at c.loop-at-test.true) ∙ p.is))
    (λ id x h u head n v. nothing (id, kind x) h (in_rest (λ b. IsFieldHead previous b id (kind x) h) at bytes rest more c.split_at.ensures.back c.loop-at.invariant.within head)) c.loop-at.invariant.going)

pub pass_fields-returns-in_err-used-clause-which : goal.pass_fields-returns-in_err-used-clause-which
pass_fields-returns-in_err-used-clause-which t c =
    let bytes = c.args.bytes.now in
    let rest = c.split_at-in-loop-at.result.1.now in
    let at = c.loop-at.at in
    let previous = to_z w16 c.loop-at.previous-bits in
    let kind = code_of c.in_ok-id.kind in
    let head = c.in_ok-id.head in
    let left = c.args.left in
    let mine = subst (λ b. IsFieldHead previous b c.in_ok-id.id kind head) c.split_at.ensures.back c.in_ok-id.ensures.stands in
    let fits : head ≤ length (drop at bytes) = subst (λ b. head ≤ length b) c.split_at.ensures.back c.in_ok-id.ensures.within.1 in
    let within : at + head ≤ length bytes = omega (arith, fits, length-drop at bytes, c.loop-at.invariant.within) in
    refused (ValueOf kind left) rest (FieldsOf left) bytes c.from_residual-in_err-used.result c.in_err-used.field-0.0 c.from_residual-in_err-used.ensures.1 c.in_err-used.ensures.which
    (λ more nothing. fields.no_value bytes left at previous c.loop-at.invariant.front c.in_ok-id.id kind head more mine
    (nothing_after (ValueOf kind left) (at + head) bytes rest more c.split_at-in-loop-at.ensures.back within nothing) c.loop-at.invariant.going)

pub pass_fields-loop-at-preserved : goal.pass_fields-loop-at-preserved
pass_fields-loop-at-preserved t c =
    let bytes = c.args.bytes.now in
    let left = c.args.left in
    let at = c.loop-at.at in
    let previous = to_z w16 c.loop-at.previous-bits in
    let id = c.in_ok-id.id in
    let head = c.in_ok-id.head in
    let kind = code_of c.in_ok-id.kind in
    let used = c.in_ok-used.used in
    let x = c.in_ok-used.ensures.stands.0 in
    let front = c.loop-at.invariant.front in
    let back : to_z w16 (of_z w16 id) ≡ id = to_z-of_z w16 id c.in_ok-id.ensures.stands.2 in
    let mine = subst (λ b. IsFieldHead previous b id kind head) c.split_at.ensures.back c.in_ok-id.ensures.stands in
    let fits0 : head ≤ length (drop at bytes) = subst (λ b. head ≤ length b) c.split_at.ensures.back c.in_ok-id.ensures.within.1 in
    let s = subst (λ b. ValueOf kind left b x used) c.split_at-in-loop-at.ensures.back c.in_ok-used.ensures.stands.1 in
    let w = subst (λ b. used ≤ length b) c.split_at-in-loop-at.ensures.back c.in_ok-used.ensures.within in
    let g = fields.goes_on bytes left at previous front id x kind head used fits0 w mine s c.loop-at.invariant.going in
    rw back (record { within = g.within; front = fields.append_fields front (field id x no_fields); going = g })

pub pass_fields-returns-clause-which : goal.pass_fields-returns-clause-which
pass_fields-returns-clause-which t c =
    let bytes = c.args.bytes.now in
    let at = c.loop-at.at in
    let previous = to_z w16 c.loop-at.previous-bits in
    let past : length (drop at (bytes ++ [])) ≡ 0 = omega (arith, length-drop at (bytes ++ []), length-append bytes [], c.loop-at-test.false) in
    with_nothing_more (FieldsOf c.args.left) bytes
    (fields.none bytes c.args.left at previous c.loop-at.invariant.front []
    (λ v p. omega (arith, p.some, past))
    (λ id x h u head n v. let b = field_head_byte previous (drop at (bytes ++ [])) id (kind x) h head in omega (arith, b.1.some, past)) c.loop-at.invariant.going)
