-- The key is the name.
use Rattle.std.proofs.Common.{sym, ap, ◌∙◌, ◌++◌, ◌≡◌, subst, OnOk}
use Rattle.indexmap.specs.IndexMap.{get}
use Rattle.infer_order.specs.Keys.{same_pair}
use Rattle.infer_order.specs.Owners.{items_of, numbers_of}
use Rattle.infer_order.proofs.owners.Owners.push.Goals as goal

pub returns-in_ok-clone-in-Top-2 : goal.returns-in_ok-clone-in-Top-2
unfolding numbers_of
returns-in_ok-clone-in-Top-2 c =
    subst (λ z. OnOk c.push_all-in-Top.result (c.push_all-in-Top.new.found.items ≡ z))
    (ap (λ l. c.args.found.now.items ++ l)
    (ap items_of (c.get-in-Top.ensures.value
    ∙ ap (get same_pair c.args.self.now.tops)
    (λ i. (c.in_ok-clone-in-Top.ensures.cases i, c.in_ok-clone-in-Top-2.ensures.cases i)))
    ∙ ap (numbers_of c.args.self.now) (sym c.in-Top.is)))
    c.push_all-in-Top.ensures
