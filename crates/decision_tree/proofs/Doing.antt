-- Tasks, one after the other.
use Rattle.std.proofs.Common.{◌≡◌, ℕ, List, [], ◌∷◌, ◌++◌, refl, ap}
use Rattle.js_tree.specs.Postorder.{Tree}
use Rattle.decision_tree.specs.declared.choice.Task.{Task}
use Rattle.decision_tree.specs.Run.{done, all_done}

pub done_push : (subject : ℕ) (tasks : List Task) (t : Task) (ts : List Tree)
    → all_done subject (tasks ++ t ∷ []) ts ≡ all_done subject tasks (done subject t ts)
done_push subject [] t ts = refl
done_push subject (u ∷ tasks) t ts = ap (done subject u) (done_push subject tasks t ts)

pub done_all : (subject : ℕ) (tasks more : List Task) (ts : List Tree)
    → all_done subject (tasks ++ more) ts ≡ all_done subject tasks (all_done subject more ts)
done_all subject [] more ts = refl
done_all subject (u ∷ tasks) more ts = ap (done subject u) (done_all subject tasks more ts)
