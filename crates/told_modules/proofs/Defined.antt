-- No definition of a module has the name of a constructor or port: `none_defined`.
use Rattle.std.proofs.Common.{◌≡◌, List, [], ◌∷◌, map, Bool, true, false, None, refl, sym}
use Rattle.std.proofs.Common.{subst, ⊎_elim, arith, if◌then◌else◌}
use Rattle.std.specs.Prelude.{Option}
use Rattle.std.specs.List.{AllByRecursion, flat_map}
use Rattle.std.proofs.lemmas.Bool.{false≢true}
use Rattle.decl_groups.proofs.Reaching.{or_cases}
use Rattle.elm_tree.specs.Tree as tree
use Rattle.elm_tree.specs.Tree.{Word, TypeTree}
use Rattle.elm_canon.specs.Names.{Name, same_ref}
use Rattle.elm_canon.specs.Tree as canon
use Rattle.elm_canon.specs.Tree.{Annotation, Title, Given, Define}
use Rattle.elm_canon.specs.declared.reference.Ref.{Ref}
use Rattle.elm_canon.specs.declared.reference.Ref.TheVariants.{Top}
use Rattle.elm_canon.specs.declared.unions.Alternative.{Alternative}
use Rattle.canon_env.specs.Imports.{name_of}
use Rattle.canon_env.specs.Naming.{World}
use Rattle.canon_env.specs.Locals.{no_locals, with_names}
use Rattle.canon_env.specs.Patterns.{words_of_all, patterns_of}
use Rattle.canon_type.specs.Unions.{alternatives_of}
use Rattle.canon_expr.specs.Exprs.{meant}
use Rattle.canon_expr.specs.Binding.{is_function}
use Rattle.canon_expr.specs.Blocks.{Made, NoMade, MadeFunction, MadeConstant, MadeParts, made_of, title_of}
use Rattle.canon_expr.specs.Blocks.{functions_in, group_of}
use Rattle.canon_module.specs.Items.{item_of, items_of, annotation_by}
use Rattle.canon_module.specs.Resolve.{Setting, IsModule, maker_of, record_maker, makers_in, world_of}
use Rattle.elm_canon.specs.Proper.{among, IsIn}
use Rattle.canon_proper.proofs.Scopes.{one_ref, in_first, in_later}
use Rattle.module_proper.specs.Modules.{tops}
use Rattle.type_items.specs.Definitions.{Definition}
use Rattle.type_items.specs.Expressions.{definitions, group_definitions, function_definitions}
use Rattle.type_items.specs.Modules.{declared}
use Rattle.typed_values.specs.Simple.{defines}
use Rattle.type_safety.specs.Modules.{groups_in}
use Rattle.told_modules.specs.Once.{NoneDefined}
use Rattle.told_modules.proofs.Counts.{times_some, found_there, names}
use Rattle.told_modules.proofs.Once.{defined_in, declared_times}
use Rattle.told_modules.proofs.Each.{both_all, IsItem, each_declaration}

-- ---- what definitions define

module _ (P : Ref → Type 0) where
  abbrev Named : Definition → Type 0
  Named d = AllByRecursion P d.names

  -- patterns at the top there are none
  abbrev Titled : Made → Type 0
  Titled NoMade = Unit {0}
  Titled (MadeFunction title ps e) = P title.name
  Titled (MadeConstant title e) = P title.name
  Titled (MadeParts p e) = ⊥

  abbrev Defines : canon.Declaration → Type 0
  Defines (Given r k) = Unit {0}
  Defines (Define g) = AllByRecursion Named (group_definitions g)

  functions_defined : (ms : List Made) → AllByRecursion Titled ms →
      AllByRecursion Named (function_definitions (functions_in ms))
  functions_defined [] h = tt
  functions_defined (NoMade ∷ ms) h = functions_defined ms h.1
  functions_defined (MadeFunction title ps e ∷ ms) h = ((h.0, tt), functions_defined ms h.1)
  functions_defined (MadeConstant title e ∷ ms) h = functions_defined ms h.1
  functions_defined (MadeParts p e ∷ ms) h = absurd h.0

  group_defined : (ms : List Made) → AllByRecursion Titled ms → AllByRecursion Defines (map Define (group_of ms))
  group_defined [] h = (tt, tt)
  group_defined (NoMade ∷ []) h = tt
  group_defined (MadeConstant title e ∷ []) h = (((h.0, tt), tt), tt)
  group_defined (MadeParts p e ∷ []) h = absurd h.0
  group_defined (MadeFunction title ps e ∷ []) h = (functions_defined (MadeFunction title ps e ∷ []) h, tt)
  group_defined (NoMade ∷ n ∷ ms) h = (functions_defined (NoMade ∷ n ∷ ms) h, tt)
  group_defined (MadeConstant title e ∷ n ∷ ms) h = (functions_defined (MadeConstant title e ∷ n ∷ ms) h, tt)
  group_defined (MadeParts p e ∷ n ∷ ms) h = absurd h.0
  group_defined (MadeFunction title ps e ∷ n ∷ ms) h = (functions_defined (MadeFunction title ps e ∷ n ∷ ms) h, tt)

  -- constructors are no definitions
  makers_defined : (home : Name) (cs : List Alternative) → AllByRecursion Defines (map (maker_of home) cs)
  makers_defined home [] = tt
  makers_defined home (c ∷ cs) = (tt, makers_defined home cs)

  record_defined : (home : Name) (x : Word) (t : TypeTree) → AllByRecursion Defines (record_maker home x t)
  record_defined home x (tree.TypeVariable a) = tt
  record_defined home x (tree.TypeName y ts) = tt
  record_defined home x (tree.FunctionType ts) = tt
  record_defined home x (tree.TupleType ts) = tt
  record_defined home x (tree.RecordType fs) = (tt, tt)
  record_defined home x (tree.ExtendedType a fs) = tt

  all_makers : (home : Name) (ds : List tree.Declaration) → AllByRecursion Defines (flat_map (makers_in home) ds)
  all_makers home [] = tt
  all_makers home (tree.Value d ∷ ds) = all_makers home ds
  all_makers home (tree.Port x t ∷ ds) = all_makers home ds
  all_makers home (tree.Union x ps cs ∷ ds) =
      both_all Defines (map (maker_of home) (alternatives_of home (name_of x) cs)) (flat_map (makers_in home) ds)
      (makers_defined home (alternatives_of home (name_of x) cs)) (all_makers home ds)
  all_makers home (tree.Alias x ps t ∷ ds) =
      both_all Defines (record_maker home x t) (flat_map (makers_in home) ds) (record_defined home x t)
      (all_makers home ds)

  -- ---- the items of a module

  abbrev AllAre : Name → List Word → Type 0
  AllAre home ws = (r : Ref) → IsIn r (tops home (map name_of ws)) → P r

  made_titled : (b : Bool) (title : Title) (ps : canon.Patterns) (e : canon.Expr) → P title.name →
      Titled (made_of b title ps e)
  made_titled true title ps e i = i
  made_titled false title ps e i = i

  abbrev Item : (before : Option Annotation) (w : World) (d : tree.Declaration) → Type 0
  Item before w d = IsItem Defines Titled tt group_defined (item_of w before d)

  items_are : (w : World) (before : Option Annotation) (ds : List tree.Declaration) → AllAre w.name (defined_in ds) →
      AllByRecursion (IsItem Defines Titled tt group_defined) (items_of w before ds)
  items_are w before [] h = tt
  items_are w before (tree.Value (tree.Annotate x t) ∷ ds) h =
      (tt, items_are w (annotation_by w (tree.Value (tree.Annotate x t))) ds h)
  items_are w before (tree.Value (tree.Define x ps e) ∷ ds) h = (
    made_titled (is_function ps e) (title_of (Top w.name (name_of x)) x.place before) (patterns_of w ps)
        (meant w (with_names (words_of_all ps) no_locals) e)
        (h (Top w.name (name_of x)) (in_first (Top w.name (name_of x)) (tops w.name (map name_of (defined_in ds))))),
    items_are w (annotation_by w (tree.Value (tree.Define x ps e))) ds
        (λ r i. h r (in_later r (Top w.name (name_of x)) (tops w.name (map name_of (defined_in ds))) i)),
  )
  items_are w before (tree.Value (tree.Destructure p e) ∷ ds) h =
      (tt, items_are w (annotation_by w (tree.Value (tree.Destructure p e))) ds h)
  items_are w before (tree.Port x t ∷ ds) h = (tt, items_are w (annotation_by w (tree.Port x t)) ds h)
  items_are w before (tree.Union x ps cs ∷ ds) h = (tt, items_are w (annotation_by w (tree.Union x ps cs)) ds h)
  items_are w before (tree.Alias x ps t ∷ ds) h = (tt, items_are w (annotation_by w (tree.Alias x ps t)) ds h)

  pub all_define : (s : Setting) (ds : List tree.Declaration) (m : canon.Module) → IsModule s ds m →
      AllAre s.home (defined_in ds) → AllByRecursion Defines m.declarations
  all_define s ds m is h =
      each_declaration Defines Titled tt group_defined s ds m is (all_makers s.home ds)
      (items_are (world_of s ds m) None ds h)

  -- ---- so a name that is defined is such

  one_is : (y : Ref) (xs : List Ref) → AllByRecursion P xs → among y xs ≡ true → P y
  one_is y [] h e = absurd (false≢true e)
  one_is y (x ∷ xs) h e = by (same_ref y x) refl e (one_is y xs h.1)
    where
      by : (b : Bool) → same_ref y x ≡ b → (if b then true else among y xs) ≡ true → (among y xs ≡ true → P y) → P y
      by true s e rest = subst P (sym (one_ref y x s)) h.0
      by false s e rest = rest e

  one_of : (y : Ref) (ds : List Definition) → AllByRecursion Named ds → defines ds y ≡ true → P y
  one_of y [] h e = absurd (false≢true e)
  one_of y (d ∷ ds) h e =
      ⊎_elim (one_is y d.names h.0) (one_of y ds h.1) (or_cases (among y d.names) (defines ds y) e)

  all_named : (ds : List canon.Declaration) → AllByRecursion Defines ds →
      AllByRecursion Named (definitions (groups_in ds))
  all_named [] h = tt
  all_named (Given r k ∷ ds) h = all_named ds h.1
  all_named (Define g ∷ ds) h =
      both_all Named (group_definitions g) (definitions (groups_in ds)) h.0 (all_named ds h.1)

  pub defined_is : (s : Setting) (ds : List tree.Declaration) (m : canon.Module) → IsModule s ds m →
      AllAre s.home (defined_in ds) → (y : Ref) → defines (definitions (groups_in m.declarations)) y ≡ true → P y
  defined_is s ds m is h y e =
      one_of y (definitions (groups_in m.declarations)) (all_named m.declarations (all_define s ds m is h)) e

-- ---- the module

pub none_defined : NoneDefined
none_defined s t m is read none x a e = by (defines (definitions (groups_in m.declarations)) (Top s.home x)) refl
  where
    by : (b : Bool) → defines (definitions (groups_in m.declarations)) (Top s.home x) ≡ b → b ≡ false
    by false h = refl
    by true h =
        let ws = defined_in t.declarations in
        let i = defined_is (λ r. IsIn r (tops s.home (map name_of ws))) s t.declarations m is (λ r i. i) (Top s.home x) h in
        let some = times_some s.home x (map name_of ws) i in
        let there = found_there (declared m) x a e in
        let once = declared_times s t m is read none x in
        absurd (omega (arith, some, there, once))
