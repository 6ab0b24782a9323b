-- What each declaration of a module means is proper among all names of the module, where no fault was found.
use Rattle.std.proofs.Common.{◌≡◌, ℕ, zero, suc, List, [], ◌∷◌, ◌++◌, map, length, Bool, true, false, None}
use Rattle.std.proofs.Common.{refl, sym, ap, ◌∙◌, subst, arith}
use Rattle.std.specs.Prelude.{◌&&◌, ◌||◌, Option, slice_index_or, ◌+◌}
use Rattle.std.specs.List.{flat_map, enumerate_from}
use Rattle.std.proofs.lemmas.Bool.{false≢true}
use Rattle.std.proofs.lemmas.List.{map-append}
use Rattle.decl_groups.specs.Groups.{list_at}
use Rattle.decl_groups.specs.InOrder.{uses_itself}
use Rattle.elm_tree.specs.Tree.{Word, TypeTree, Patterns, Expr, Annotate, Define, Destructure, Declaration}
use Rattle.elm_tree.specs.Tree.{Value, Port, Union, Alias}
use Rattle.elm_canon.specs.Names.{Name}
use Rattle.elm_canon.specs.Tree as canon
use Rattle.elm_canon.specs.Tree.{Annotation, Title}
use Rattle.elm_canon.specs.declared.reference.Ref.{Ref}
use Rattle.elm_canon.specs.declared.reference.Ref.TheVariants.{Local, Top}
use Rattle.canon_env.specs.Imports.{name_of}
use Rattle.canon_env.specs.Naming.{World}
use Rattle.canon_env.specs.Locals.{no_locals, with_names}
use Rattle.canon_env.specs.Sites.{Reaching, Defined, faults_at}
use Rattle.canon_env.specs.Patterns.{words_of_all, patterns_of}
use Rattle.canon_env.specs.Types.{type_of}
use Rattle.canon_type.specs.Ports.{PortForm, Outgoing, Incoming, NoPort, Untold, port_form}
use Rattle.canon_module.specs.Ports.{known_by, port_known}
use Rattle.canon_expr.specs.Binding.{is_function}
use Rattle.canon_expr.specs.Blocks.{NoMade, made_of, title_of, reaching_sites}
use Rattle.canon_expr.specs.Exprs.{meant}
use Rattle.canon_module.specs.Names.{names_of, names_in}
use Rattle.canon_module.specs.Items.{ValueItem, top_made, item_of, items_of, annotation_by, made_by}
use Rattle.canon_module.specs.Items.{top_used, value_groups}
use Rattle.canon_module.specs.CanonValuesFaults.{declaration_faults, defined_top, value_faults}
use Rattle.canon_module.specs.TopUses.{value_names, value_names_each}
use Rattle.elm_canon.specs.Spelled.{is_word, is_spelled, is_module}
use Rattle.elm_canon.specs.Proper.{Scope, among, with_all, AreFresh}
use Rattle.elm_canon.specs.Declarations.{is_proper_known, ProperDeclarations, after_declarations}
use Rattle.canon_proper.specs.Patterns.{IsSpelledWord}
use Rattle.canon_proper.specs.Declared.{IsSpelledDeclaration, AreSpelledDeclarations}
use Rattle.canon_proper.specs.Worlds.{HasMakers, HasNames, IsScopeOf}
use Rattle.canon_proper.proofs.Quiet.{append_none}
use Rattle.canon_proper.proofs.Scopes.{among-with_all}
use Rattle.canon_proper.proofs.Apart.{fresh_none, fresh_less}
use Rattle.canon_proper.proofs.Rows.{names_are}
use Rattle.canon_proper.proofs.Made.{is_functional}
use Rattle.canon_proper.proofs.Exprs.{definition_proper, functions_are, define_proper, not_recursive}
use Rattle.canon_proper.proofs.Steps.{flat}
use Rattle.module_proper.specs.Modules.{tops, value_refs, IsBefore}
use Rattle.module_proper.proofs.Numbers.{tops_each, no_local_each}
use Rattle.module_proper.proofs.Groups.{IsGood, AreGood, is_parts, groups_proper, all_there}

-- ---- names

pub flat_values : (home : Name) (ds : List Declaration)
    → flat (tops_each home (value_names_each ds)) ≡ value_refs home ds
flat_values home [] = refl
flat_values home (d ∷ ds) =
    ap (λ rs. tops home (value_names d) ++ rs) (flat_values home ds)
    ∙ sym (ap (tops home) (map-append name_of (names_of d).values (names_in ds).values)
    ∙ map-append (λ x. Top home x) (map name_of (names_of d).values) (map name_of (names_in ds).values))

many_items : (w : World) (before : Option Annotation) (ds : List Declaration) →
    length (items_of w before ds) ≡ length (value_names_each ds)
many_items w before [] = refl
many_items w before (d ∷ ds) = ap suc (many_items w (annotation_by w d) ds)

-- ---- one declaration

no_parts : (b : Bool) (title : Title) (ps : canon.Patterns) (e : canon.Expr) → is_parts (made_of b title ps e) ≡ false
no_parts true title ps e = refl
no_parts false title ps e = refl

port_good : (w : World) (x : Word) (t : TypeTree) → IsSpelledWord x → is_proper_known (port_known w x t) ≡ true
port_good w x t s = by (port_form (type_of w t))
  where
    by : (f : PortForm) → is_proper_known (known_by (name_of x) f) ≡ true
    by (Outgoing u) = s
    by (Incoming u) = s
    by NoPort = s
    by Untold = s

module _ (w : World) (full : Scope) (is_name : is_module true w.name ≡ true) (has : HasMakers w)
    (names : HasNames w full) (is : IsScopeOf no_locals full) where
  top_spelled : (x : Word) → IsSpelledWord x → is_spelled (Top w.name (name_of x)) ≡ true
  top_spelled x s = ap (λ b. b && is_word (name_of x)) is_name ∙ s

  define_good : (before : Option Annotation) (x : Word) (ps : Patterns) (e : Expr) →
      IsSpelledDeclaration (Value (Define x ps e)) → declaration_faults w (Value (Define x ps e)) ≡ [] →
      IsGood full (Top w.name (name_of x) ∷ []) (ValueItem (top_made w before (Define x ps e)))
  define_good before x ps e s none =
      let p = definition_proper w no_locals full ps e has names is s.1.0 s.1.1 none in (
        define_proper w full (Top w.name (name_of x)) x.place ps e before
            (meant w (with_names (words_of_all ps) no_locals) e) (top_spelled x s.0)
            (functions_are w no_locals ps e) p.0 p.1,
        no_parts (is_function ps e) (title_of (Top w.name (name_of x)) x.place before) (patterns_of w ps)
            (meant w (with_names (words_of_all ps) no_locals) e),
      )

  one_good : (before : Option Annotation) (d : Declaration) → IsSpelledDeclaration d → declaration_faults w d ≡ [] →
      IsGood full (tops w.name (value_names d)) (item_of w before d)
  one_good before (Value (Annotate x t)) s none = (refl, refl)
  one_good before (Value (Define x ps e)) s none = define_good before x ps e s none
  one_good before (Value (Destructure p e)) s none = (refl, refl)
  one_good before (Port x t) s none = (refl, top_spelled x s.0, port_good w x t s.0)
  one_good before (Union x ps cs) s none = (refl, refl)
  one_good before (Alias x ps t) s none = (refl, refl)

  each_good : (before : Option Annotation) (ds : List Declaration) → AreSpelledDeclarations ds →
      flat_map (declaration_faults w) ds ≡ [] → (i : ℕ) →
      IsGood full (list_at (tops_each w.name (value_names_each ds)) i)
      (slice_index_or (items_of w before ds) i (ValueItem NoMade))
  each_good before [] s none i = (refl, refl)
  each_good before (d ∷ ds) s none zero =
      one_good before d s.0 (append_none (declaration_faults w d) (flat_map (declaration_faults w) ds) none).0
  each_good before (d ∷ ds) s none (suc i) =
      each_good (annotation_by w d) ds s.1
      (append_none (declaration_faults w d) (flat_map (declaration_faults w) ds) none).1 i

-- ---- what reaches itself

top_functional : (w : World) (before : Option Annotation) (d : Declaration) → (defined_top d).is_function ≡ true →
    is_functional (made_by (item_of w before d)) ≡ true
top_functional w before (Value (Annotate x t)) e = refl
top_functional w before (Value (Define x ps body)) e =
    ap (λ b. is_functional (made_of b (title_of (Top w.name (name_of x)) x.place before) (patterns_of w ps)
    (meant w (with_names (words_of_all ps) no_locals) body))) e
top_functional w before (Value (Destructure p body)) e = refl
top_functional w before (Port x t) e = refl
top_functional w before (Union x ps cs) e = refl
top_functional w before (Alias x ps t) e = refl

functional_at : (w : World) (uses : List (List ℕ)) (before : Option Annotation) (ds : List Declaration) (k : ℕ) →
    flat_map (faults_at w)
    (map (λ (d : ℕ × Defined). Reaching (uses_itself uses d.0) d.1) (enumerate_from k (map defined_top ds))) ≡ [] →
    (i j : ℕ) → j ≡ k + i → uses_itself uses j ≡ true →
    is_functional (made_by (slice_index_or (items_of w before ds) i (ValueItem NoMade))) ≡ true
functional_at w uses before [] k none i j e t = refl
functional_at w uses before (d ∷ ds) k none zero j e t =
    let s : j ≡ k = omega arith in
    top_functional w before d
    (not_recursive w (uses_itself uses k) (defined_top d)
    (append_none (faults_at w (Reaching (uses_itself uses k) (defined_top d))) _ none).0
    (subst (λ n. uses_itself uses n ≡ true) s t))
functional_at w uses before (d ∷ ds) k none (suc i) j e t =
    functional_at w uses (annotation_by w d) ds (k + 1)
    (append_none (faults_at w (Reaching (uses_itself uses k) (defined_top d))) _ none).1 i j (omega arith) t

-- ---- the module

module _ (w : World) (ds : List Declaration) (scope : Scope) (b : IsBefore w ds scope)
    (spelled : AreSpelledDeclarations ds) (none : value_faults w ds ≡ []) where
  abbrev each : List (List Name)
  each = value_names_each ds

  abbrev named : List Ref
  named = flat (tops_each w.name each)

  abbrev same : named ≡ value_refs w.name ds
  same = flat_values w.name ds

  fresh : AreFresh named scope
  fresh = subst (λ rs. AreFresh rs scope) (sym same) b.fresh

  no_local_names : IsScopeOf no_locals (with_all named scope)
  no_local_names x =
      among-with_all (Local x) named scope ∙ ap (λ c. c || among (Local x) scope) (no_local_each w.name x each)
      ∙ b.no_locals x

  pub good : AreGood w.name scope each (items_of w None ds)
  good =
      let parts = append_none (flat_map (declaration_faults w) ds)
      (flat_map (faults_at w) (reaching_sites (top_used w ds) (map defined_top ds))) none in record {
        apart = fresh_none named scope fresh;
        fresh = fresh_less named scope [] (λ r e. absurd (false≢true e)) fresh;
        no_locals = b.no_locals;
        many = many_items w None ds;
        good = λ i. each_good w (with_all named scope) b.name b.makers
            (subst (λ rs. HasNames w (with_all rs scope)) (sym same) (names_are w _ b.rows)) no_local_names None ds
            spelled parts.0 i;
        recursive = λ i e. functional_at w (top_used w ds) None ds 0 parts.1 i i (omega arith) e;
      }

  pub values_proper : ProperDeclarations scope (value_groups w ds)
  values_proper = groups_proper w.name scope each (items_of w None ds) good

  pub values_there : (r : Ref) →
      among r (after_declarations (value_groups w ds) scope) ≡ among r (with_all (value_refs w.name ds) scope)
  values_there r =
      all_there w.name scope each (items_of w None ds) good r ∙ ap (λ rs. among r (with_all rs scope)) same
