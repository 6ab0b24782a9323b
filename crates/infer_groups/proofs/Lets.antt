-- A let is walked: its definitions, and its body in their scope.
use Rattle.std.proofs.Common.{◌≡◌, Bool, true, false, refl, sym, subst}
use Rattle.elm_canon.specs.Tree.{Groups}
use Rattle.type_items.specs.Items.{Place, child}
use Rattle.type_items.specs.Scopes.{Scope}
use Rattle.type_items.specs.Definitions.{list_definitions}
use Rattle.type_items.specs.Expressions.{items, definitions}
use Rattle.type_walks.specs.Links.{Links}
use Rattle.type_walks.specs.Walks.{Around}
use Rattle.type_constructs.specs.Passing.{Passes}
use Rattle.type_constructs.specs.Stepping.{Step}
use Rattle.type_constructs.proofs.Spots.{Here, Child, Below, In}
use Rattle.type_constructs.proofs.Stops.{past, stuck, ends, stopped}
use Rattle.type_constructs.proofs.Walking.{walks_let}
use Rattle.infer_steps.specs.Codes.{Code, State}
use Rattle.infer_steps.specs.Means.{Setting}
use Rattle.infer_steps.proofs.Staying.{around_child, setting_child}
use Rattle.infer_groups.specs.Defined.{Defined, at_child, moved}
use Rattle.infer_groups.specs.Lets.{LetIsWalked, LetStops, BodyStops}
use Rattle.type_walks.specs.Regions.{below}

module _ (code inner : Code) (gs : Groups) (old between : State)
    (defs : Defined code inner below (list_definitions (definitions gs)) (at_child old 0) between) where
  abbrev after : Scope → Place → Scope
  after scope q = (list_definitions (definitions gs) scope (child q 0)).scope

  at_body : (a : Around) (links : Links) (scope : Scope) (q : Place) → Setting a links code scope old
      → Setting a links inner (after scope q) (moved between (child old.place 1))
  at_body a links scope q set =
      let there = defs.setting a links scope (child q 0) (setting_child a links code scope old 0 set) in
      record {
        around = record {
          depth = there.around.depth;
          within = there.around.within;
          outside = (around_child a old 1 set.around).outside;
        };
        live = there.live;
        named = there.named;
        tells = there.tells;
        means = there.means;
      }

  definitions_step : (real : Bool) (a : Around) (links : Links) (scope : Scope) (q : Place)
      → (real ≡ true → q ≡ old.place) → Setting a links code scope old
      → Step real a (below (child q 0)) (list_definitions (definitions gs) scope (child q 0)).items old.store links
      between.store links
  definitions_step real a links scope q here set = record {
    walk = defs.walk a links scope (child q 0) (setting_child a links code scope old 0 set);
    passes = λ r.
        subst (λ p. Passes a old.store links (below (child p 0))
        (list_definitions (definitions gs) scope (child p 0)).items) (sym (here r))
        (defs.passes a links scope (setting_child a links code scope old 0 set));
  }

pub let_is_walked : LetIsWalked
let_is_walked code inner gs e here v old between last defs body = record {
  walk = λ a links scope q w set has.
      (walks_let false a gs e scope here q w old.store between.store last.store links links set.live
      (record { each = λ σ types l. l })
      (definitions_step code inner gs old between defs false a links scope q (λ r. absurd cc) set)
      (record {
        walk = body.walk a links (after code inner gs old between defs scope q) (child q 1) w
            (at_body code inner gs old between defs a links scope q set) has;
        passes = λ r. absurd cc;
      })).walk;
  passes = λ a links scope w set has.
      (walks_let true a gs e scope here old.place w old.store between.store last.store links links set.live
      (record { each = λ σ types l. l })
      (definitions_step code inner gs old between defs true a links scope old.place (λ r. refl) set)
      (record {
        walk =
            body.walk a links (after code inner gs old between defs scope old.place) (child old.place 1) w
            (at_body code inner gs old between defs a links scope old.place set) has;
        passes = λ r.
            body.passes a links (after code inner gs old between defs scope old.place) w
            (at_body code inner gs old between defs a links scope old.place set) has;
      })).passes refl;
}

pub let_stops : LetStops
let_stops code gs e here v old new bad stop = record {
  fails = λ a links scope w set has. (
      let q = old.place in
      stopped refl
      (stuck (In (Child Here 0) Below) (items e (list_definitions (definitions gs) scope (child q 0)).scope here
      (child q 1) w)
      (stop.fails a links scope (setting_child a links code scope old 0 set))));
}

pub body_stops : BodyStops
body_stops code inner gs e here v old between last bad defs stop = record {
  fails = λ a links scope w set has. (
      let q = old.place in
      stopped refl
      (past (In (Child Here 0) Below) refl (definitions_step code inner gs old between defs true a links scope q
      (λ r. refl) set)
      (ends (In (Child Here 1) Below)
      (stop.fails a links (after code inner gs old between defs scope q) w
      (at_body code inner gs old between defs a links scope q set) has))));
}
