-- The start of inference: nothing is in the store, and no name is in scope.
use Rattle.std.proofs.Common.{◌≡◌, List, [], None, refl, sym, ap, ◌∙◌, subst}
use Rattle.std.specs.Prelude.{flat_map}
use Rattle.decl_groups.proofs.Basics.{no_member}
use Rattle.elm_canon.specs.Tree.{Group, Module, groups_of}
use Rattle.elm_type.specs.Types.{Name}
use Rattle.type_items.specs.Items.{child}
use Rattle.type_items.specs.Scopes.{Known}
use Rattle.type_items.specs.Expressions.{definitions}
use Rattle.type_items.specs.Modules.{known_in, module_definitions, module_scope}
use Rattle.type_store.proofs.Settling.{empty_whole}
use Rattle.type_walks.specs.Told.{start}
use Rattle.infer_steps.specs.Codes.{Code, State}
use Rattle.infer_steps.specs.Means.{Setting}
use Rattle.infer_steps.specs.Ready.{AreWritten}
use Rattle.infer_order.specs.Order.{IsSimple, ordered}
use Rattle.infer_parts.specs.Formed.{FormedGroups}
use Rattle.infer_parts.specs.Steps.{CanWalk}
use Rattle.infer.specs.Middle.{AnnotationsOnce, Starts}
use Rattle.infer.specs.Modules.{CanInfer, root, written_groups}
use Rattle.infer.specs.Names.{AllTitled, EachOnce, names_of}
use Rattle.infer.specs.Modules.{groups_in}
use Rattle.infer.proofs.Grouping.{formed_once}
use Rattle.infer.proofs.Proper.{all_defined, all_titled, proper_once, titled_simple}

abbrev pub first_code : Known → Code
first_code known = record { known = known; names = λ x. None; constants = λ a. None }

abbrev pub first_state : State
first_state = record { store = []; depth = 0; place = root }

-- from the root down to its first child
pub goes_down : (old new : State) → old ≡ record { store = []; depth = 0; place = [] }
    → new ≡ record old { place = child old.place 0 } → new ≡ first_state
goes_down old new s e = e ∙ ap (λ (x : State). record x { place = child x.place 0 }) s

can_first : (known : Known) → AreWritten known → CanWalk (first_code known) first_state
can_first known written = record {
  ready = record {
    whole = empty_whole [] refl;
    around = record { each = λ v r e. absurd cc };
    known = written;
    names = λ x m e. absurd cc;
    constants = λ a v e. absurd cc;
  };
  clear = λ r c. absurd (no_member r c);
}

pub can_begin : (known : Known) (code : Code) (state : State) → code ≡ first_code known → state ≡ first_state
    → AreWritten known → CanWalk code state
can_begin known code state c s written =
    subst (λ (x : Code). CanWalk x state) (sym c)
    (subst (λ (x : State). CanWalk (first_code known) x) (sym s) (can_first known written))

module _ (module_ : Module) (env known : Known) (gs : List Group)
    (groups : definitions (groups_of gs) ≡ module_definitions module_)
    (same : (m x : Name) → known m x ≡ known_in module_ env m x) where
  set_first : Setting start [] (first_code known) (module_scope module_ env) first_state
  set_first = record {
    around = record { depth = refl; within = record { each = λ r c. c }; outside = λ r c. absurd (no_member r c) };
    live = tt;
    named = [];
    tells = record { each = λ values types h. h };
    means = record {
      live = tt;
      known = same;
      names = λ x. tt;
      constants = λ x. tt;
      types = tt;
      only = tt;
    };
  }

  first_starts : Starts module_ env gs (first_code known) first_state
  first_starts = record { groups = groups; setting = set_first; store = refl; place = refl }

  pub starts : (code : Code) (state : State) → code ≡ first_code known → state ≡ first_state
      → Starts module_ env gs code state
  starts code state c s =
      subst (λ (x : Code). Starts module_ env gs x state) (sym c)
      (subst (λ (x : State). Starts module_ env gs (first_code known) x) (sym s) first_starts)

-- ---- of a module whose types can be inferred

module _ (module_ : Module) (can : CanInfer module_) (gs : List Group)
    (is : gs ≡ flat_map groups_in module_.declarations) where
  pub begins_titled : AllTitled gs
  begins_titled = subst AllTitled (sym is) (all_titled module_.declarations can.scope can.proper)

  pub begins_simple : IsSimple (groups_of gs)
  begins_simple = titled_simple gs begins_titled

  pub begins_once : AnnotationsOnce (ordered gs)
  begins_once = formed_once gs (subst (λ (l : List Group). FormedGroups (groups_of l)) (sym is) can.formed)

  pub begins_defined : definitions (groups_of gs) ≡ module_definitions module_
  begins_defined = ap (λ (l : List Group). definitions (groups_of l)) is ∙ all_defined module_.declarations

pub names_once : (module_ : Module) → CanInfer module_ → EachOnce (names_of (module_definitions module_))
names_once module_ can = proper_once module_.declarations can.scope can.proper

-- a module starts below the root, where no name is in scope
pub started : (module_ : Module) (env : Known) → CanInfer module_ → (code : Code) (old new : State)
    → code ≡ first_code code.known → ((m x : Name) → code.known m x ≡ known_in module_ env m x)
    → old ≡ record { store = []; depth = 0; place = [] } → new ≡ record old { place = child old.place 0 }
    → Starts module_ env (written_groups module_) code new
started module_ env can code old new names known empty entered =
    starts module_ env code.known (written_groups module_) (begins_defined module_ can (written_groups module_) refl)
    known code new names (goes_down old new empty entered)
