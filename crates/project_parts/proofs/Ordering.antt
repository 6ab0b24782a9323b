-- The modules of an order.
use Rattle.std.proofs.Common.{◌≡◌, ℕ, zero, suc, List, [], ◌∷◌, ◌++◌, take, Some, sym, ap, subst, ◌∙◌, append_assoc}
use Rattle.std.proofs.Common.{append-nil}
use Rattle.std.specs.Prelude.{slice_get}
use Rattle.import_graph.specs.Order.{IsReady, IsNext, IsOrder, all_placed, next}

-- each stands where it is ready
pub ready_at : {uses : List (List ℕ)} {placed order : List ℕ} → IsOrder uses placed order → (j m : ℕ)
    → slice_get order j ≡ Some m → IsReady uses (placed ++ take j order) m
ready_at (all_placed f) j m e = absurd cc
ready_at {uses} {placed} (next {m = x} {rest = rest} n o) zero m e =
    let h : x ≡ m = cc in
    subst (λ ps. IsReady uses ps m) (sym (append-nil placed)) (subst (IsReady uses placed) h n.ready)
ready_at {uses} {placed} (next {m = x} {rest = rest} n o) (suc j) m e =
    subst (λ ps. IsReady uses ps m) (append_assoc placed (x ∷ []) (take j rest)) (ready_at o j m e)
