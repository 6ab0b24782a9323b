-- The definitions of a group, by their numbers.
use Rattle.std.proofs.Common.{◌≡◌, ℕ, zero, suc, List, [], ◌∷◌, ◌++◌, length, map, get_or, true}
use Rattle.std.proofs.Common.{false, Option, Some, None, refl, sym, ap, ◌∙◌, ltb, Result, Ok, Err, OnOk}
use Rattle.std.specs.Prelude.{slice_get, option_map}
use Rattle.std.specs.Borrow.{Bor}
use Rattle.std.specs.declared.alloc.Global.{Global}
use Rattle.std.specs.declared.vec.Vec.{Vec}
use Rattle.std.specs.declared.boxed.Box.{Box}
use Rattle.std.proofs.lemmas.Bool.{ltb-true, ltb-false}
use Rattle.std.proofs.lemmas.Option.{slice_get-map, slice_get_read, slice_get_past, same_Some}
use Rattle.elm_canon.specs.Tree as plain
use Rattle.elm_canon.specs.Tree.{functions_of}
use Rattle.elm_canon.specs.View.{FunctionView, expr_view, group_view, function_view, pattern_view, title_view}
use Rattle.elm_canon.proofs.Views as view
use Rattle.elm_canon.specs.declared.tree.Group as group
use Rattle.elm_canon.specs.declared.tree.Group.{Group}
use Rattle.elm_canon.specs.declared.tree.Function.{Function}
use Rattle.elm_canon.specs.declared.tree.Title.{Title}
use Rattle.elm_canon.specs.declared.tree.Expr.{Expr}
use Rattle.elm_canon.specs.declared.tree.Pattern.{Pattern}
use Rattle.elm_canon.specs.Proper.{bound_by}
use Rattle.type_items.specs.Definitions.{Definition}
use Rattle.type_items.specs.Expressions.{titled, function_items, items, group_definitions, function_definitions}
use Rattle.type_items.specs.Uses.{used}
use Rattle.infer_order.specs.Spots.{in_group, at_spot, has_titles}
use Rattle.infer_order.specs.Order.{IsTitled}

abbrev def_of : FunctionView → Definition
def_of f = titled f.0 (used f.2) (λ scope p v. function_items f.1 (items f.2) scope f.0.place p v)

functions_at : (vs : List FunctionView) (i : ℕ)
    → slice_get (function_definitions (functions_of vs)) i ≡ option_map def_of (slice_get vs i)
functions_at [] i = refl
functions_at (v ∷ vs) zero = refl
functions_at (v ∷ vs) (suc i) = functions_at vs i

there : (o : Option Definition) (x d : Definition) → o ≡ Some x → o ≡ Some d → d ≡ x
there o x d e f = same_Some d x (sym f ∙ e)

-- ---- functions that use each other

module _ (g : Group) (fs : Vec Function Global) (i : ℕ) (is : g ≡ group.Together fs) (xs : List Function)
    (here : xs ≡ fs.items) where
  functions : in_group (Some (group_view g)) i ≡ option_map def_of (option_map function_view (slice_get fs.items i))
  functions =
      ap (λ x. in_group (Some (group_view x)) i) is ∙ ap (λ x. slice_get (group_definitions x) i) (view.together fs)
      ∙ functions_at (map function_view fs.items) i ∙ ap (option_map def_of) (slice_get-map function_view fs.items i)

  module _ (f : Function) (lt : true ≡ ltb i (length xs)) (at : f ≡ get_or xs i f) (d : Definition)
      (found : in_group (Some (group_view g)) i ≡ Some d) where
    pub function_is : d ≡ def_of (title_view f.title, (function_view f).1, expr_view f.body.value)
    function_is =
        there (in_group (Some (group_view g)) i) (def_of (title_view f.title, (function_view f).1, expr_view f.body.value)) d
        (functions
        ∙ ap (λ o. option_map def_of (option_map function_view o))
        (ap (λ l. slice_get l i) (sym here) ∙ slice_get_read xs (length xs) i f refl (ltb-true i (length xs) (sym lt))
        at)
        ∙ ap (λ (v : FunctionView). Some (def_of v))
        (view.function f ∙ ap (λ q. (title_view f.title, q, expr_view f.body.value))
        (sym (ap (λ (v : FunctionView). v.1) (view.function f)))))
        found

    pub function_titled : IsTitled (title_view f.title) d
    function_titled = record {
      uses = used (expr_view f.body.value);
      list = λ scope p v. function_items (function_view f).1 (items (expr_view f.body.value)) scope f.title.place p v;
      is = function_is;
    }

    pub function_names : d.names ≡ f.title.name ∷ []
    function_names = ap (λ (x : Definition). x.names) function_is

    pub function_uses : d.uses ≡ used (expr_view f.body.value)
    function_uses = ap (λ (x : Definition). x.uses) function_is

  pub no_function : false ≡ ltb i (length xs) → (d : Definition) → in_group (Some (group_view g)) i ≡ Some d → ⊥
  no_function past d found =
      let none : slice_get fs.items i ≡ None = ap (λ l. slice_get l i) (sym here) ∙ slice_get_past xs i
      (ltb-false i (length xs) (sym past)) in
      let gone : in_group (Some (group_view g)) i ≡ None = functions ∙ ap
      (λ o. option_map def_of (option_map function_view o)) none in
      cc

  pub functions_titled : has_titles (Some (group_view g)) ≡ true
  functions_titled = ap (λ x. has_titles (Some (group_view x))) is ∙ ap (λ x. has_titles (Some x)) (view.together fs)

alone : (x d : Definition) (i : ℕ) → slice_get (x ∷ []) i ≡ Some d → d ≡ x
alone x d zero e = sym (same_Some x d e)
alone x d (suc i) e = absurd cc

-- ---- a constant

module _ (g : Group) (t : Title) (e : Box Expr Global) (i : ℕ) (is : g ≡ group.Constant t e) where
  module _ (d : Definition) (found : in_group (Some (group_view g)) i ≡ Some d) where
    constant_is : d ≡ def_of (title_view t, plain.NoPattern, expr_view e.value)
    constant_is =
        alone (def_of (title_view t, plain.NoPattern, expr_view e.value)) d i
        (sym (ap (λ x. in_group (Some (group_view x)) i) is ∙ ap (λ x. slice_get (group_definitions x) i)
        (view.constant t e)) ∙ found)

    pub constant_titled : IsTitled (title_view t) d
    constant_titled = record {
      uses = used (expr_view e.value);
      list = λ scope p v. function_items plain.NoPattern (items (expr_view e.value)) scope t.place p v;
      is = constant_is;
    }

    pub constant_names : d.names ≡ t.name ∷ []
    constant_names = ap (λ (x : Definition). x.names) constant_is

    pub constant_uses : d.uses ≡ used (expr_view e.value)
    constant_uses = ap (λ (x : Definition). x.uses) constant_is

  pub constant_has_title : has_titles (Some (group_view g)) ≡ true
  constant_has_title = ap (λ x. has_titles (Some (group_view x))) is ∙ ap (λ x. has_titles (Some x)) (view.constant t e)

-- ---- a pattern with its value

abbrev one_of : List Definition → Definition → Definition
one_of [] d = d
one_of (x ∷ xs) d = x

module _ (g : Group) (p : Pattern) (e : Box Expr Global) (i : ℕ) (is : g ≡ group.Destructure p e) where
  module _ (d : Definition) (found : in_group (Some (group_view g)) i ≡ Some d) where
    pattern_is : d ≡ one_of (group_definitions (plain.Destructure (pattern_view p) (expr_view e.value))) d
    pattern_is =
        alone (one_of (group_definitions (plain.Destructure (pattern_view p) (expr_view e.value))) d) d i
        (sym (ap (λ x. in_group (Some (group_view x)) i) is ∙ ap (λ x. slice_get (group_definitions x) i)
        (view.destructure p e)) ∙ found)

    pub pattern_names : d.names ≡ bound_by (pattern_view p)
    pattern_names = ap (λ (x : Definition). x.names) pattern_is

    pub pattern_uses : d.uses ≡ used (expr_view e.value)
    pattern_uses = ap (λ (x : Definition). x.uses) pattern_is

    pub pattern_annotation : d.annotation ≡ None
    pattern_annotation = ap (λ (x : Definition). x.annotation) pattern_is

  pub pattern_has_none : has_titles (Some (group_view g)) ≡ false
  pattern_has_none = ap (λ x. has_titles (Some (group_view x))) is ∙ ap (λ x. has_titles (Some x))
      (view.destructure p e)

-- what was added, in the words of the definition
pub weaken : {E : Type 0} (r : Result (Unit {0}) E) {X : Type 0} (new old xs : List X) (o : Option Definition)
    (f : Definition → List X) → OnOk r (new ≡ old ++ xs)
    → ((d : Definition) → o ≡ Some d → f d ≡ xs) → OnOk r ((d : Definition) → o ≡ Some d → new ≡ old ++ f d)
weaken (Ok u) new old xs o f h e = λ d is. h ∙ ap (λ l. old ++ l) (sym (e d is))
weaken (Err x) new old xs o f h e = tt

-- ---- the groups

module _ (groups : List (Bor Group)) (i f : ℕ) (d : Definition)
    (found : at_spot (map (λ x. group_view x.now) groups) i f ≡ Some d) where
  pub group_there : (g : Bor Group) → true ≡ ltb i (length groups) → g ≡ get_or groups i g
      → in_group (Some (group_view g.now)) f ≡ Some d
  group_there g lt is =
      sym (ap (λ o. in_group o f)
      (slice_get-map (λ (x : Bor Group). group_view x.now) groups i
      ∙ ap (option_map (λ (x : Bor Group). group_view x.now))
      (slice_get_read groups (length groups) i g refl (ltb-true i (length groups) (sym lt)) is)))
      ∙ found

  pub no_group : false ≡ ltb i (length groups) → ⊥
  no_group past =
      let none : slice_get (map (λ (x : Bor Group). group_view x.now) groups) i ≡ None =
      slice_get-map (λ (x : Bor Group). group_view x.now) groups i
      ∙ ap (option_map (λ (x : Bor Group). group_view x.now))
      (slice_get_past groups i (ltb-false i (length groups) (sym past))) in
      let gone : at_spot (map (λ x. group_view x.now) groups) i f ≡ None = ap (λ o. in_group o f) none in
      cc
