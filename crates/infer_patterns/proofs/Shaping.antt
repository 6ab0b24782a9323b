-- Variables of constructors.
use Rattle.std.proofs.Common.{◌≡◌, ℕ, zero, suc, List, ◌∷◌, length, refl, sym, ◌∙◌, subst}
use Rattle.std.specs.List.{AllByRecursion}
use Rattle.elm_base.specs.declared.position.Pos.{Pos}
use Rattle.elm_canon.specs.declared.unions.Alternative.{Alternative}
use Rattle.elm_canon.specs.Unions.{TupleUnion, ListUnion}
use Rattle.elm_type.specs.Types.{tuple, list_type}
use Rattle.elm_type.specs.declared.head.Head.TheVariants as head
use Rattle.type_items.specs.Items.{child, at, children}
use Rattle.type_items.specs.Scopes.{Known}
use Rattle.type_store.specs.Store.{Store}
use Rattle.type_walks.specs.Links.{Live}
use Rattle.type_constructs.specs.Patterns.{list_slots}
use Rattle.type_constructs.proofs.Matching.{shapes_tuple, shapes_list}
use Rattle.type_constructs.proofs.Chains.{has_new}
use Rattle.infer_steps.specs.Codes.{State}
use Rattle.infer_steps.specs.Made.{IsOpened, AreOpened, IsMade, OfHead, OfList}
use Rattle.infer_steps.proofs.Stepping.{follows_on, still_live, all_still_live}
use Rattle.infer_patterns.specs.Shapes.{IsShaped}

-- ---- tuples

module _ (old u new : State) (vs : List ℕ) (v : ℕ) (opened : AreOpened old u vs)
    (made : IsMade u new v (OfHead head.Tuple vs))
    (known : Known) (pos : Pos) (c : Alternative) where
  of_parts : IsShaped known pos (TupleUnion (length vs)) c old new v vs
  of_parts = record {
    follows = follows_on old u new opened.follows made.follows;
    result_live = made.live;
    parts_live = all_still_live u new vs made.follows opened.live;
    shaped = λ a links p e live. (
        let o = opened.children a links p e live in
        shapes_tuple a c known pos p old.store u.store new.store links vs v live o
        (made.typed a o.after (tuple (children p (length vs))) (e ∙ sym opened.follows.depth) (o.walk.live live)
        (record { parts = children p (length vs); has = o.each; is = refl })));
  }

  pub tuple_shaped : (n : ℕ) → length vs ≡ n → IsShaped known pos (TupleUnion n) c old new v vs
  tuple_shaped n count = subst (λ k. IsShaped known pos (TupleUnion k) c old new v vs) count of_parts

-- ---- lists

slots_live : (d : ℕ) (s : Store) (n item list : ℕ) → Live d s item → Live d s list → AllByRecursion (Live d s)
    (list_slots n item list)
slots_live d s zero item list h k = tt
slots_live d s (suc n) item list h k = (h, (k, tt))

pub list_shaped : (old u new : State) (item list : ℕ) → IsOpened old u item → IsMade u new list (OfList item)
    → (known : Known) (pos : Pos) (c : Alternative)
    → IsShaped known pos ListUnion c old new list (list_slots c.arity item list)
list_shaped old u new item list opened made known pos c = record {
  follows = follows_on old u new opened.follows made.follows;
  result_live = made.live;
  parts_live = slots_live new.depth new.store c.arity item list (still_live u new item made.follows opened.live)
      made.live;
  shaped = λ a links p e live. (
      let o = opened.walk a links (child p 0) e live in
      shapes_list a c known pos p old.store u.store new.store links item list live o
      (made.typed a ((item, at (child p 0)) ∷ links) (list_type (at (child p 0))) (e ∙ sym opened.follows.depth)
      (o.live live)
      (record { item = at (child p 0); has = has_new item (at (child p 0)) links; is = refl })));
}
