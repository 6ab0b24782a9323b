-- The items of an expression. (Elm guide: core language, types, records, pattern matching.)
--
-- `items e scope here p w` are those of the expression e, which begins at `here` or where it says. It stands at the
-- place p of the tree and is wanted at the type w. Its variables stand below p.
use Rattle.std.specs.Prelude.{ℕ, ◌+◌, List, [], ◌∷◌, ◌++◌, None}
use Rattle.elm_base.specs.declared.position.Pos.{Pos}
use Rattle.elm_canon.specs.declared.reference.Ref.{Ref}
use Rattle.elm_canon.specs.declared.tree.Literal.TheVariants as literal
use Rattle.elm_canon.specs.Tree.{Patterns, NoPattern, Title, Expr, Is, NameOf, Accessor, Lambda, Apply, Strict, If}
use Rattle.elm_canon.specs.Tree.{Logical}
use Rattle.elm_canon.specs.Tree.{Let, Case, Located, Exprs, NoExpr, MoreExpr, Branches, NoBranch, MoreBranch, Groups}
use Rattle.elm_canon.specs.Tree.{NoGroup, MoreGroup, Group, Together, Constant, Destructure, Functions, NoFunction}
use Rattle.elm_canon.specs.Tree.{MoreFunction}
use Rattle.elm_canon.specs.Proper.{bound_by, count_exprs}
use Rattle.elm_type.specs.Types.{function, functions, char_type, string_type, bool_type}
use Rattle.elm_type.specs.declared.class.Class.TheVariants.{Number}
use Rattle.type_items.specs.Items.{Place, child, Wanted, at, children, Item, Same, InClass, Lacks, nonsense}
use Rattle.type_items.specs.Scopes.{Mono, Scope, entry_of, use_items}
use Rattle.type_items.specs.Patterns.{open_record, pattern_items, patterns_items, pattern_names, bind_pattern}
use Rattle.type_items.specs.Patterns.{bind_patterns, parameter_types, pattern_start}
use Rattle.type_items.specs.Operations.{Plan, plan}
use Rattle.type_items.specs.Uses.{used}
use Rattle.type_items.specs.Definitions.{Definition, list_definitions}

-- what lists the items of a part of the tree
abbrev pub Listing : Type 0
Listing = Scope → Pos → Place → Wanted → List Item

-- A function of type v: its parameters t, u .. and its result r give t -> u -> .. -> r = v; then come the patterns of
-- the parameters, and the body at r.
abbrev pub function_items : Patterns → Listing → Listing
function_items qs body scope here p v =
    let ts = parameter_types qs (child p 0) in
    Same here (functions ts (at (child p 1))) v
    ∷ (patterns_items qs scope.known here (child p 0) 0 ts
    ++ body (bind_patterns qs (child p 0) ts scope) here (child p 1) (at (child p 1)))

-- a definition with a name
abbrev pub titled : Title → List Ref → (Scope → Place → Wanted → List Item) → Definition
titled title uses list = record {
  names = title.name ∷ [];
  place = title.place;
  annotation = title.annotation;
  uses = uses;
  list = list;
  types = λ known p v. (title.name, Mono v) ∷ [];
}

-- where a pattern that does not say it begins
abbrev pub nowhere : Pos
nowhere = record { row = 0; column = 0 }

abbrev mutual
  pub items : Expr → Scope → Pos → Place → Wanted → List Item
  items (Is (literal.Int n)) scope here p w =
      InClass here (at (child p 0)) Number ∷ Same here (at (child p 0)) w ∷ []
  items (Is (literal.Char c)) scope here p w = Same here char_type w ∷ []
  items (Is (literal.Text t)) scope here p w = Same here string_type w ∷ []
  items (NameOf x) scope here p w = use_items (entry_of scope x) here p w
  items (Accessor x) scope here p w =
      Lacks here (at (child p 0)) x
      ∷ Same here (function (open_record (x ∷ []) (child p 1) (at (child p 0))) (at (child (child p 1) 0))) w
      ∷ []
  items (Lambda qs e) scope here p w = function_items qs (items e) scope here p w
  items (Apply f es) scope here p w =
      let ts = children (child p 1) (count_exprs es) in
      items f scope here (child p 0) (functions ts w) ++ each_items es scope here (child p 1) 0 ts
  items (Strict op es) scope here p w = part_items es (plan op (count_exprs es) scope here p w) scope here (child p 0)
  items (If c a b) scope here p w =
      items c scope here (child p 0) bool_type ++ (items a scope here (child p 1) w ++ items b scope here (child p 2) w)
  items (Logical pos op a b) scope here p w =
      let t = at (child p 0) in
      let u = at (child p 1) in
      Same pos (functions (bool_type ∷ bool_type ∷ []) bool_type) (functions (t ∷ u ∷ []) w)
      ∷ (items a scope here (child p 0) t ++ items b scope here (child p 1) u)
  items (Let gs e) scope here p w =
      let listed = list_definitions (definitions gs) scope (child p 0) in
      listed.items ++ items e listed.scope here (child p 1) w
  items (Case e bs) scope here p w =
      items e scope here (child p 0) (at (child p 0)) ++ branch_items bs scope here (child p 1) 0 (at (child p 0)) w
  items (Located pos e) scope here p w = items e scope pos p w

  -- expressions at children, from the number i on, each at its type
  pub each_items : Exprs → Scope → Pos → Place → ℕ → List Wanted → List Item
  each_items NoExpr scope here p i [] = []
  each_items NoExpr scope here p i (t ∷ ts) = nonsense here
  each_items (MoreExpr e es) scope here p i [] = nonsense here
  each_items (MoreExpr e es) scope here p i (t ∷ ts) =
      items e scope here (child p i) t ++ each_items es scope here p (i + 1) ts

  -- the parts of an operation; of none there is only what is asked before them
  pub part_items : Exprs → Plan → Scope → Pos → Place → List Item
  part_items NoExpr plan scope here p = plan.before
  part_items (MoreExpr e es) plan scope here p =
      plan.before
      ++ (items e scope here (child p 0) plan.first
      ++ (plan.between ++ (each_items es scope here p 1 plan.rest ++ plan.after)))

  -- branches at children, from the number i on, for a subject of the type t
  pub branch_items : Branches → Scope → Pos → Place → ℕ → Wanted → Wanted → List Item
  branch_items NoBranch scope here p i t w = []
  branch_items (MoreBranch q e bs) scope here p i t w =
      pattern_items q scope.known here (child (child p i) 0) t
      ++ (items e (bind_pattern q (child (child p i) 0) t scope) here (child (child p i) 1) w
      ++ branch_items bs scope here p (i + 1) t w)

  pub definitions : Groups → List Definition
  definitions NoGroup = []
  definitions (MoreGroup g gs) = group_definitions g ++ definitions gs

  pub group_definitions : Group → List Definition
  group_definitions (Together fs) = function_definitions fs
  group_definitions (Constant title e) =
      titled title (used e) (λ scope p v. function_items NoPattern (items e) scope title.place p v) ∷ []
  group_definitions (Destructure q e) =
      let start = pattern_start nowhere q in record {
        names = bound_by q;
        place = start;
        annotation = None;
        uses = used e;
        list = λ scope p v. pattern_items q scope.known start (child p 0) v ++ items e scope start (child p 1) v;
        types = λ known p v. pattern_names q known (child p 0) v [];
      } ∷ []

  pub function_definitions : Functions → List Definition
  function_definitions NoFunction = []
  function_definitions (MoreFunction title qs e fs) =
      titled title (used e) (λ scope p v. function_items qs (items e) scope title.place p v) ∷ function_definitions fs
