-- Groups that stand in table order, put in it.
use Rattle.std.proofs.Common.{◌≡◌, Bool, List, [], ◌∷◌, ◌++◌, map, refl, ◌∙◌, ap}
use Rattle.std.specs.Prelude.{if◌then◌else◌}
use Rattle.partition.specs.Order.{AreInTableOrder}
use Rattle.manifest.specs.Groups.{Group as FileGroup}
use Rattle.planning.proofs.Ordered.{sorted_stays, in_order_is}
use Rattle.table.specs.Table.{Group}
use Rattle.table.specs.InOrder.{put_in_order, in_order}
use Rattle.table_commits.proofs.KeyOrder.{same_behind}

-- groups in table order stay as they are
put_front : (g : Group) (gs : List Group) → AreInTableOrder (g.key ∷ map (λ (h : Group). h.key) gs) → put_in_order (λ (h : Group). h.key) g gs ≡ g ∷ gs
put_front g [] o = refl
put_front g (h ∷ hs) o = ap (λ (b : Bool). if b then g ∷ h ∷ hs else h ∷ put_in_order (λ (x : Group). x.key) g hs) o.0

rest : (g : Group) (gs : List Group) → AreInTableOrder (g.key ∷ map (λ (h : Group). h.key) gs) → AreInTableOrder (map (λ (h : Group). h.key) gs)
rest g [] o = tt
rest g (h ∷ hs) o = o.1

pub stays_in_order : (gs : List Group) → AreInTableOrder (map (λ (h : Group). h.key) gs) → in_order (λ (h : Group). h.key) gs ≡ gs
stays_in_order [] o = refl
stays_in_order (g ∷ gs) o = ap (put_in_order (λ (h : Group). h.key) g) (stays_in_order gs (rest g gs o)) ∙ put_front g gs o

-- groups put in order behind others, and all put in order
pub sorted_behind : (xs ys : List FileGroup) → in_order (λ (g : FileGroup). g.key) (xs ++ in_order (λ (g : FileGroup). g.key) ys) ≡ in_order (λ (g : FileGroup). g.key) (xs ++ ys)
sorted_behind xs ys = same_behind (λ (g : FileGroup). g.key) xs (in_order (λ (g : FileGroup). g.key) ys) ys (sorted_stays (λ (g : FileGroup). g.key) (in_order (λ (g : FileGroup). g.key) ys) (in_order_is (λ (g : FileGroup). g.key) ys))
