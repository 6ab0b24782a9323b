-- An annotation inside its definition: it was asked, or the definition stops.
use Rattle.std.proofs.Common.{ℕ, List, [], ◌∷◌, ◌++◌, Bool}
use Rattle.std.specs.Prelude.{flat_map}
use Rattle.elm_base.specs.declared.position.Pos.{Pos}
use Rattle.elm_canon.specs.Tree.{Annotation}
use Rattle.elm_type.specs.Types.{Name}
use Rattle.type_items.specs.Items.{Place, child, Wanted, kind_items}
use Rattle.type_items.specs.Scopes.{Scope}
use Rattle.type_items.specs.Annotations.{variables_of, kind_of, fixed_variable, fixed_type}
use Rattle.type_items.specs.Definitions.{Definition}
use Rattle.type_store.specs.Laws.{EachChoiceFits}
use Rattle.type_walks.specs.Regions.{below}
use Rattle.type_walks.specs.Links.{Links}
use Rattle.type_walks.specs.Walks.{Around}
use Rattle.type_walks.specs.TypeCopiesLaws.{SaysWithMore}
use Rattle.type_constructs.specs.Passing.{NoSizes}
use Rattle.type_constructs.specs.Failing.{Bad}
use Rattle.type_schemes.specs.Constants.{Own, own_links, within}
use Rattle.type_constructs.specs.TypeAnnotationsLaws.{DefinitionStops}
use Rattle.type_constructs.proofs.Sizes.{kind_sizes, sizes_both}
use Rattle.type_constructs.proofs.Running.{plain}
use Rattle.type_constructs.specs.TypeDefinitionsAnnotated.{inner_scope}
use Rattle.infer_steps.specs.Codes.{Code, State}
use Rattle.infer_steps.specs.Means.{Setting}
use Rattle.infer_groups.specs.Defined.{DefinitionsStop, group_places}
use Rattle.infer_groups.specs.Members.{at_number}
use Rattle.infer_types.specs.Fixing.{NotFixed}
use Rattle.infer_types.proofs.Owning.{constants_more}
use Rattle.infer_groups.specs.Annotated.{its_own, inside_of, listed_annotated, ConstantsOpen, AskedAt}
use Rattle.infer_groups.proofs.Opening.{constants_mean}
use Rattle.infer_groups.proofs.InferAnnotatedClosing.{enters_at}
use Rattle.infer_exprs.specs.Laws.{FixedIsAsked}

kinds_sizes : (pos : Pos) (t : Annotation) (of : Name → Wanted) (xs : List Name)
    → NoSizes (flat_map (λ a. kind_items pos (of a) (kind_of t a)) xs)
kinds_sizes pos t of [] = tt
kinds_sizes pos t of (x ∷ xs) =
    sizes_both (kind_items pos (of x) (kind_of t x)) (flat_map (λ a. kind_items pos (of a) (kind_of t a)) xs)
    (kind_sizes pos (of x) (kind_of t x)) (kinds_sizes pos t of xs)

pub fixed_is_asked : FixedIsAsked
fixed_is_asked inner pos t v mid u f = record { follows = f.follows; live = f.live; each = at }
  where
    at : (real : Bool) (a : Around) (links : Links) (scope : Scope) (p : Place) → Setting a links inner scope mid
        → AskedAt real a pos t scope p v mid.store links u.store
    at real a links scope p set =
        let m = f.typed a links scope.constants p set.around.depth set.live
        (constants_more inner set.named links scope.constants set.tells set.means.constants) in
        record {
          after = m.after;
          step = plain (kinds_sizes pos t (fixed_variable scope.constants p) (variables_of t)) m.walk;
          tells = m.tells;
          has = m.has;
        }

module _ (choice_fits : EachChoiceFits) (says_with_more : SaysWithMore) (law : DefinitionStops) (code : Code)
    (d : Definition) (annotation : Annotation) (i : ℕ) (vs : List ℕ) (old mid u : State) (bad : Bad)
    (open_ : ConstantsOpen code annotation i vs old mid) where
  abbrev p : Place
  p = child old.place i

  abbrev own : List Own
  own = its_own code annotation p vs

  pub fixing_stops : NotFixed (inside_of code annotation p vs) d.place annotation mid u bad
      → DefinitionsStop code (λ q. group_places (child q i)) (at_number i (listed_annotated d annotation)) old u bad
  fixing_stops not_ = record {
    fails = λ a links scope set. (
        let inside = inner_scope annotation scope p in
        let set1 = constants_mean choice_fits code annotation i vs old mid open_ says_with_more a links scope p set in
        let more = own_links p own ++ links in
        let rest = d.list inside (child p 0) (fixed_type inside.constants p annotation) in
        let stops = not_.fails (within a own) more inside.constants p (below (child p 0)) rest set1.around.depth
        set1.live
        (constants_more (inside_of code annotation p vs) set1.named more inside.constants set1.tells
        set1.means.constants) in
        law a p d annotation scope own old.store mid.store u.store links bad
        (enters_at code annotation i vs old mid open_ a links scope set) stops);
  }
