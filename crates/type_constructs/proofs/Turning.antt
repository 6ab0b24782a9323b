-- One type group of a module after another.
use Rattle.std.proofs.Common.{◌≡◌, ℕ, suc, ◌+◌, List, [], ◌∷◌, ◌++◌, length, Option, Some, None, refl, sym, ap, ◌∙◌, subst, arith, append_assoc}
use Rattle.std.proofs.lemmas.List.{append-nil}
use Rattle.std.specs.Prelude.{flat_map}
use Rattle.elm_base.specs.declared.position.Pos.{Pos}
use Rattle.elm_canon.specs.Tree.{Annotation, Module}
use Rattle.elm_type.specs.Types.{Name}
use Rattle.type_items.specs.Items.{Place, child, Item}
use Rattle.type_items.specs.Scopes.{Known, Scope}
use Rattle.type_items.specs.Annotations.{variables_of}
use Rattle.type_items.specs.Definitions.{Definition, list_group, list_groups, asks_around, around_items}
use Rattle.type_items.specs.Modules.{module_items}
use Rattle.type_store.specs.Store.{Store}
use Rattle.type_walks.specs.Regions.{none, only, below, span, either, Inside, Apart}
use Rattle.type_walks.proofs.Linking.{apart_inside}
use Rattle.type_walks.proofs.Regions.{child_in_span, below_in_span, span_in_below, span_in_span, spans_apart, either_inside}
use Rattle.type_constructs.proofs.Failing.{fails_earlier}
use Rattle.type_constructs.proofs.Moments.{inside_on, ready_part}
use Rattle.type_walks.specs.Told.{start}
use Rattle.type_constructs.specs.Lasting.{Telling, Inferring}
use Rattle.type_constructs.specs.TypeAnswersLaws.{Begins, GoesOn, TellsGroup, Ends, RefusesLater}
use Rattle.type_constructs.specs.TypeModulesGroups.{ordered, groups_of, first_scope, group_places, ModuleAt}
use Rattle.type_constructs.specs.TypeModulesLaws.{ModuleBegins, ModuleGoesOn, ModuleTells, ModuleEnds, ModuleFails}

-- ---- around a module's definitions there are no annotations

none_asked : (pos : Pos) (xs : List Name) (f : Name → List Item) → ((x : Name) → f x ≡ []) → flat_map f xs ≡ []
none_asked pos [] f h = refl
none_asked pos (x ∷ xs) f h = ap (λ l. l ++ flat_map f xs) (h x) ∙ none_asked pos xs f h

one_asks : (o : Option Annotation) (pos : Pos) → asks_around o pos [] ≡ []
one_asks None pos = refl
one_asks (Some a) pos = none_asked pos (variables_of a) _ (λ x. refl)

none_around : (ds : List Definition) → around_items ds [] ≡ []
none_around [] = refl
none_around (d ∷ ds) = ap (λ l. l ++ around_items ds []) (one_asks d.annotation d.place) ∙ none_around ds

all_listed : (module_ : Module) (env : Known) (p : Place) → module_items module_ env p ≡ (list_groups (groups_of module_) (first_scope module_ env) p 0).items
all_listed module_ env p = ap (λ l. l ++ (list_groups (groups_of module_) (first_scope module_ env) p 0).items) (none_around (ordered module_))

-- ---- the places of groups

module _ (p : Place) (i n : ℕ) where
  group_in_one : Inside (group_places (child p i)) (span p i 1)
  group_in_one =
      either_inside (only (child p i)) (below (child p i)) (span p i 1) (child_in_span p i 1 i (omega arith) (omega arith))
      (below_in_span p i 1 i (omega arith) (omega arith))

  group_inside : Inside (group_places (child p i)) (span p i (suc n))
  group_inside = inside_on (group_places (child p i)) (span p i 1) (span p i (suc n)) group_in_one (span_in_span p i (suc n) i 1 (omega arith) (omega arith))

  left_inside : Inside (span p (i + 1) n) (span p i (suc n))
  left_inside = span_in_span p i (suc n) (i + 1) n (omega arith) (omega arith)

  group_apart : Apart (group_places (child p i)) (span p (i + 1) n)
  group_apart = apart_inside (group_places (child p i)) (span p i 1) (span p (i + 1) n) group_in_one (spans_apart p i 1 (i + 1) n (omega arith))

-- ---- groups in turn

pub module_begins : Begins → ModuleBegins
module_begins begins module_ env p = record {
  region = none;
  items = [];
  inferring = record {
    ready =
        ready_part p start none (span p 0 (length (groups_of module_))) (below p) [] [] [] (span_in_below p 0 (length (groups_of module_)))
        (begins p).ready;
    lasts = tt;
  };
  listed = all_listed module_ env p;
}

module _ (module_ : Module) (env : Known) (p : Place) (g : List Definition) (left : List (List Definition)) (i : ℕ) (scope : Scope) (s : Store)
    (told : List Telling) (at : ModuleAt module_ env p (g ∷ left) i scope s told) where
  abbrev first : List Item
  first = (list_group g scope (child p i)).items

  pub rest_listed : module_items module_ env p ≡ (at.items ++ first) ++ (list_groups left (list_group g scope (child p i)).scope p (i + 1)).items
  rest_listed = at.listed ∙ sym (append_assoc at.items first (list_groups left (list_group g scope (child p i)).scope p (i + 1)).items)

pub module_goes_on : GoesOn → ModuleGoesOn
module_goes_on law module_ env p g left i scope s s' told shape at walk passes = record {
  region = either at.region (group_places (child p i));
  items = at.items ++ (list_group g scope (child p i)).items;
  inferring =
      law p at.region (group_places (child p i)) (span p (i + 1) (length left)) (span p i (length (g ∷ left))) at.items (list_group g scope (child p i)).items s s'
      told (group_apart p i (length left)) (group_inside p i (length left)) (left_inside p i (length left)) shape at.inferring walk passes;
  listed = rest_listed module_ env p g left i scope s told at;
}

pub module_tells : TellsGroup → ModuleTells
module_tells law module_ env p g left i scope s s' after told new shape at walk inner passes tells = record {
  region = either at.region (group_places (child p i));
  items = at.items ++ (list_group g scope (child p i)).items;
  inferring =
      law p at.region (group_places (child p i)) (span p (i + 1) (length left)) (span p i (length (g ∷ left))) at.items (list_group g scope (child p i)).items s s'
      after told new (group_apart p i (length left)) (group_inside p i (length left)) (left_inside p i (length left)) shape at.inferring walk inner passes tells;
  listed = rest_listed module_ env p g left i scope s told at;
}

pub module_ends : Ends → ModuleEnds
module_ends law module_ env p i scope s told schemes shape at names =
    let same : module_items module_ env p ≡ at.items = at.listed ∙ append-nil at.items in
    law module_ env p at.region (span p i 0) s told schemes shape
    (subst (λ l. Inferring p at.region (span p i 0) l s told) (sym same) at.inferring) names

pub module_fails : RefusesLater → ModuleFails
module_fails law module_ env p g left i scope s s' told bad code pos text shape at fails ex =
    let rest = (list_groups left (list_group g scope (child p i)).scope p (i + 1)).items in
    law module_ env p at.region (span p i (length (g ∷ left))) at.items ((list_group g scope (child p i)).items ++ rest) told s s' bad code pos text shape
    at.inferring
    (fails_earlier start s [] (group_places (child p i)) (span p i (length (g ∷ left))) (list_group g scope (child p i)).items rest bad s'
    (group_inside p i (length left)) fails) ex at.listed
