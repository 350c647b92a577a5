use Rattle.std.proofs.Common.{◌≡◌, ℕ, ◌<◌, ◌-◌, List, Vec, get_or, take, length, sym, ap, ◌∙◌, subst, arith}
use Rattle.std.specs.Rc.{rc_value}
use Rattle.std.specs.declared.rc.Rc.{Rc}
use Rattle.std.specs.declared.alloc.Global.{Global}
use Rattle.partition.specs.Order.{AreInTableOrder}
use Rattle.schema.specs.Views.{key_view}
use Rattle.manifest.specs.declared.block.Block.{Block}
use Rattle.manifest.specs.declared.version.Version.{Version}
use Rattle.manifest.specs.Handles.{handles_view, groups_of_blocks}
use Rattle.manifest.specs.Groups.{groups_in, keys_of, place_after}
use Rattle.manifest.specs.inner.Places.{IsEdge}
use Rattle.manifest.proofs.Blocks.{start_is, starts_length}
use Rattle.manifest.proofs.PlacesAfter.{none_in, at_edge, place_within}
use Rattle.manifest.proofs.version.Version.place_after.Goals as goal

start_here : (v : Version) (starts : List ℕ) (i : ℕ) → i < length (rc_value v.blocks).items → starts ≡ (rc_value v.starts).items → get_or starts i 0 ≡ length (groups_of_blocks (take i (rc_value v.blocks).items))
start_here v starts i within e =
    let same = ap (λ (xs : List ℕ). get_or xs i 0) (e ∙ v.started) in
    let is = start_is 0 (rc_value v.blocks).items i within in
    omega (arith, same, is)

pub returns-then-edge-eq0 : goal.returns-then-edge-eq0
returns-then-edge-eq0 c =
    let all = (rc_value c.args.self.now.blocks).items in
    let blocks : c.as_slice-all.result.now ≡ all = c.as_slice-all.ensures.value ∙ ap (λ (v : Vec (Rc Block Global) Global). v.items) c.deref.ensures in
    let edge = subst (λ (bs : List (Rc Block Global)). IsEdge (key_view c.args.key.now) bs c.blocks_up_to-edge.result) blocks c.blocks_up_to-edge.ensures in
    let first = subst (λ (n : ℕ). IsEdge (key_view c.args.key.now) all n) c.if-edge-eq0.true edge in
    λ (order : AreInTableOrder (keys_of (groups_in c.args.self.now))). sym (none_in (key_view c.args.key.now) all first.after order)

pub bounds-starts-edge : goal.bounds-starts-edge
bounds-starts-edge c =
    let all = (rc_value c.args.self.now.blocks).items in
    let blocks : c.as_slice-all.result.now ≡ all = c.as_slice-all.ensures.value ∙ ap (λ (v : Vec (Rc Block Global) Global). v.items) c.deref.ensures in
    let edge = subst (λ (bs : List (Rc Block Global)). IsEdge (key_view c.args.key.now) bs c.blocks_up_to-edge.result) blocks c.blocks_up_to-edge.ensures in
    let starts = ap length (c.as_slice-starts.ensures.value ∙ ap (λ (v : Vec ℕ Global). v.items) c.deref-2.ensures ∙ c.args.self.now.started) ∙ starts_length 0 all in
    let some = c.if-edge-eq0.false in
    omega (arith, edge.there, starts, some)

pub overflow_add-result : goal.overflow_add-result
overflow_add-result c =
    let key = key_view c.args.key.now in
    let all = (rc_value c.args.self.now.blocks).items in
    let i = c.blocks_up_to-edge.result - 1 in
    let blocks : c.as_slice-all.result.now ≡ all = c.as_slice-all.ensures.value ∙ ap (λ (v : Vec (Rc Block Global) Global). v.items) c.deref.ensures in
    let edge = subst (λ (bs : List (Rc Block Global)). IsEdge key bs c.blocks_up_to-edge.result) blocks c.blocks_up_to-edge.ensures in
    let is = subst (λ (bs : List (Rc Block Global)). c.index-all-edge.result ≡ get_or bs i c.index-all-edge.result) blocks c.index-all-edge.is in
    let within : i < length all = omega (arith, edge.there) in
    let bound = place_within key all i c.index-all-edge.result within is in
    let before = start_here c.args.self.now c.as_slice-starts.result.now i within (c.as_slice-starts.ensures.value ∙ ap (λ (v : Vec ℕ Global). v.items) c.deref-2.ensures) in
    let own : c.groups_up_to.result ≡ place_after key (handles_view (rc_value c.index-all-edge.result).groups.items) = c.groups_up_to.ensures ∙ ap (λ gs. place_after key (handles_view gs)) (c.as_slice.ensures.value ∙ ap (λ (b : Block). b.groups.items) c.deref-3.ensures) in
    let counted : c.args.self.now.count ≡ length (groups_in c.args.self.now) = c.args.self.now.counted in
    omega (arith, bound, before, own, counted)

pub returns : goal.returns
returns c =
    let key = key_view c.args.key.now in
    let all = (rc_value c.args.self.now.blocks).items in
    let n = c.blocks_up_to-edge.result in
    let blocks : c.as_slice-all.result.now ≡ all = c.as_slice-all.ensures.value ∙ ap (λ (v : Vec (Rc Block Global) Global). v.items) c.deref.ensures in
    let edge = subst (λ (bs : List (Rc Block Global)). IsEdge key bs n) blocks c.blocks_up_to-edge.ensures in
    let is = subst (λ (bs : List (Rc Block Global)). c.index-all-edge.result ≡ get_or bs (n - 1) c.index-all-edge.result) blocks c.index-all-edge.is in
    let some : 0 < n = omega arith in
    let within : n - 1 < length all = omega (arith, some, edge.there) in
    let before = start_here c.args.self.now c.as_slice-starts.result.now (n - 1) within (c.as_slice-starts.ensures.value ∙ ap (λ (v : Vec ℕ Global). v.items) c.deref-2.ensures) in
    let own : c.groups_up_to.result ≡ place_after key (handles_view (rc_value c.index-all-edge.result).groups.items) = c.groups_up_to.ensures ∙ ap (λ gs. place_after key (handles_view gs)) (c.as_slice.ensures.value ∙ ap (λ (b : Block). b.groups.items) c.deref-3.ensures) in
    λ (order : AreInTableOrder (keys_of (groups_in c.args.self.now))). omega (arith, at_edge key all n c.index-all-edge.result edge some is order, before, own)
