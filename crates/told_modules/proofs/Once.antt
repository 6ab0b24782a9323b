-- No two constructors or ports of a module in which no fault was found have one name: `declared_once`.
use Rattle.std.proofs.Common.{◌≡◌, ℕ, ◌+◌, ◌≤◌, List, [], ◌∷◌, ◌++◌, map, Bool, true, false}
use Rattle.std.proofs.Common.{refl, sym, ap, ◌∙◌, subst, arith, if◌then◌else◌}
use Rattle.std.specs.List.{flat_map, zip, enumerate_from}
use Rattle.elm_tree.specs.Tree as tree
use Rattle.elm_tree.specs.Tree.{Word, Declaration, Value, Port, Union, Alias, ConstructorOf}
use Rattle.elm_canon.specs.Names.{Name}
use Rattle.elm_canon.specs.Tree as canon
use Rattle.elm_canon.specs.Tree.{Annotation, Annotations}
use Rattle.elm_canon.specs.declared.reference.Ref.TheVariants.{Top}
use Rattle.elm_canon.specs.declared.unions.Alternative.{Alternative}
use Rattle.decl_groups.specs.InOrder.{uses_itself}
use Rattle.canon_env.specs.Exposing.{import_faults}
use Rattle.canon_env.specs.Imports.{name_of}
use Rattle.canon_env.specs.Expanding.{blank}
use Rattle.canon_env.specs.Naming.{World}
use Rattle.canon_env.specs.Sites.{repeats}
use Rattle.canon_env.specs.Types.{type_of}
use Rattle.canon_type.specs.Written.{aliases_in}
use Rattle.canon_type.specs.Unions.{alternative_of, fields_of, unions_in, union_of}
use Rattle.canon_type.specs.Types.{alias_of}
use Rattle.canon_module.specs.Names.{Names, names_in, constructor_words, is_closed_record, defined_word}
use Rattle.canon_module.specs.Faults.{duplicate_faults}
use Rattle.canon_proper.proofs.Quiet.{append_none, map_none}
use Rattle.canon_module.specs.CanonValuesFaults.{value_faults}
use Rattle.canon_type.specs.DeclaredTypes.{declared_faults, uses_in}
use Rattle.canon_module.specs.Resolve.{Setting, IsModule, module_faults, heading_faults, world_of, ports_in}
use Rattle.elm_canon.specs.Proper.{among}
use Rattle.module_proper.specs.Modules.{AreRead, value_refs, maker_refs}
use Rattle.module_proper.proofs.Cases.{not_both}
use Rattle.module_proper.proofs.Makers.{tops_fresh}
use Rattle.type_items.specs.Modules.{Annotated, function_to, union_type, union_makers, alias_makers, record_maker, declared}
use Rattle.told_modules.specs.Once.{DeclaredOnce}
use Rattle.told_modules.proofs.Counts.{times, times_more, fresh_times, times_none, names, names_more, found}

-- the words that a module's definitions define
abbrev pub defined_in : List Declaration → List Word
defined_in [] = []
defined_in (Value d ∷ ds) = defined_word d ++ defined_in ds
defined_in (Port x t ∷ ds) = defined_in ds
defined_in (Union x ps cs ∷ ds) = defined_in ds
defined_in (Alias x ps t ∷ ds) = defined_in ds

-- ---- constructors

union_named : (home x : Name) (w : World) (made : Annotation) (k : ℕ) (cs : List ConstructorOf) →
    names (map (λ (c : Alternative × Annotations). (c.0.name, function_to c.1 made))
    (zip (map (alternative_of home x) (enumerate_from k cs)) (map (fields_of w) cs)))
    ≡ map name_of (constructor_words cs)
union_named home x w made k [] = refl
union_named home x w made k (c ∷ cs) = ap (λ ys. name_of c.name ∷ ys) (union_named home x w made (k + 1) cs)

record_times : (x n : Name) (a : Annotation) → times x (names (record_maker n a)) ≤ times x (n ∷ [])
record_times x n (canon.RecordType fs) = omega arith
record_times x n (canon.Variable a) = omega arith
record_times x n (canon.NamedType m y ts) = omega arith
record_times x n (canon.FunctionType t u) = omega arith
record_times x n (canon.TupleType ts) = omega arith
record_times x n (canon.ExtendedType a fs) = omega arith

-- as often as two lists, where one begins with other names
pub more_times : (x : Name) (ds es : List Annotated) → times x (names (ds ++ es)) ≡ times x (names ds) + times x (names es)
more_times x ds es = ap (times x) (names_more ds es) ∙ times_more x (names ds) (names es)

word_times : (x : Name) (ws vs : List Word) →
    times x (map name_of (ws ++ vs)) ≡ times x (map name_of ws) + times x (map name_of vs)
word_times x [] vs = omega arith
word_times x (w ∷ ws) vs = let h = word_times x ws vs in omega (arith, h)

module _ (home : Name) (w : World) (uses : List (List ℕ)) (x : Name) where
  abbrev of_unions : List Declaration → List Annotated
  of_unions ds = flat_map (union_makers home) (map (union_of home w) (unions_in ds))

  abbrev of_aliases : ℕ → List Declaration → List Annotated
  of_aliases k ds = flat_map alias_makers (map (alias_of w uses) (enumerate_from k (aliases_in ds)))

  abbrev of_words : List Word → ℕ
  of_words ws = times x (map name_of ws)

  makers_times : (k : ℕ) (ds : List Declaration) →
      times x (names (of_unions ds)) + times x (names (of_aliases k ds)) ≤ of_words (names_in ds).constructors
  makers_times k [] = omega arith
  makers_times k (Value d ∷ ds) = makers_times k ds
  makers_times k (Port y t ∷ ds) = makers_times k ds
  makers_times k (Union y ps cs ∷ ds) =
      let u = union_of home w (record { name = y; parameters = ps; constructors = cs }) in
      let a : times x (names (union_makers home u)) ≡ of_words (constructor_words cs) =
      ap (times x) (union_named home (name_of y) w (union_type home u) 0 cs) in
      let b = more_times x (union_makers home u) (of_unions ds) in
      let c = word_times x (constructor_words cs) (names_in ds).constructors in
      let h = makers_times k ds in
      omega (arith, a, b, c, h)
  makers_times k (Alias y ps t ∷ ds) =
      let a = alias_of w uses (k, record { name = y; parameters = ps; body = t }) in
      let b = more_times x (alias_makers a) (of_aliases (k + 1) ds) in
      let h = makers_times (k + 1) ds in
      let e = word_times x (if is_closed_record t then y ∷ [] else []) (names_in ds).constructors in
      let c = by t in
      omega (arith, b, h, e, c)
    where
      written : (r : tree.FieldTypes) (b : Bool) →
          times x (names (record_maker (name_of y) (if b then blank else type_of w (tree.RecordType r))))
          ≤ of_words (y ∷ [])
      written r true = record_times x (name_of y) blank
      written r false = record_times x (name_of y) (type_of w (tree.RecordType r))

      by : (t : tree.TypeTree) →
          times x (names (alias_makers (alias_of w uses (k, record { name = y; parameters = ps; body = t }))))
          ≤ of_words (if is_closed_record t then y ∷ [] else [])
      by (tree.RecordType fs) = written fs (uses_itself uses k)
      by (tree.TypeVariable a) = omega arith
      by (tree.TypeName z ts) = omega arith
      by (tree.FunctionType ts) = omega arith
      by (tree.TupleType ts) = omega arith
      by (tree.ExtendedType a fs) = omega arith

  -- ---- ports

  abbrev of_ports : List canon.PortDeclaration → List Annotated
  of_ports ps = map (λ p. (p.name, p.port_type)) ps

  -- and definitions
  ports_times : (ds : List Declaration) →
      times x (names (of_ports (flat_map (ports_in w) ds))) + of_words (defined_in ds) ≤ of_words (names_in ds).values
  ports_times [] = omega arith
  ports_times (Value d ∷ ds) =
      let h = ports_times ds in
      let e = word_times x (defined_word d) (names_in ds).values in
      let f = word_times x (defined_word d) (defined_in ds) in
      omega (arith, h, e, f)
  ports_times (Port y t ∷ ds) = let h = ports_times ds in omega (arith, h)
  ports_times (Union y ps cs ∷ ds) = ports_times ds
  ports_times (Alias y ps t ∷ ds) = ports_times ds

-- ---- the module

no_repeats : (n : Names) → duplicate_faults n ≡ [] → (repeats n.values ≡ []) × (repeats n.constructors ≡ [])
no_repeats n e =
    let a = append_none _ _ e in
    let b = append_none _ _ a.0 in
    (map_none _ (repeats n.values) b.0, map_none _ (repeats n.constructors) a.1)

names_none : (s : Setting) (t : tree.Module) (m : canon.Module) → module_faults s t m ≡ [] →
    duplicate_faults (names_in t.declarations) ≡ []
names_none s t m none =
    let w = world_of s t.declarations m in
    let types = declared_faults w t.declarations in
    let p = append_none (heading_faults s t ++ types) (value_faults w t.declarations) none in
    let q = append_none (heading_faults s t) types p.0 in
    let h = append_none (flat_map import_faults s.written) _ q.0 in
    let n = append_none _ _ h.1 in
    (append_none _ _ n.0).0

module _ (s : Setting) (t : tree.Module) (m : canon.Module) (is : IsModule s t.declarations m)
    (read : AreRead s.home t.declarations) (none : module_faults s t m ≡ []) (x : Name) where
  abbrev w : World
  w = world_of s t.declarations m

  abbrev ds : List Declaration
  ds = t.declarations

  abbrev n : Names
  n = names_in ds

  -- no value has the name of a constructor
  apart : times x (map name_of n.values) + times x (map name_of n.constructors) ≤ 1
  apart = by (among (Top s.home x) (value_refs s.home ds)) refl (among (Top s.home x) (maker_refs s.home ds)) refl
    where
      r : (repeats n.values ≡ []) × (repeats n.constructors ≡ [])
      r = no_repeats n (names_none s t m none)

      values : times x (map name_of n.values) ≤ 1
      values = fresh_times s.home x (map name_of n.values) [] (tops_fresh s.home [] n.values r.0)

      makers : times x (map name_of n.constructors) ≤ 1
      makers = fresh_times s.home x (map name_of n.constructors) [] (tops_fresh s.home [] n.constructors r.1)

      by : (b : Bool) → among (Top s.home x) (value_refs s.home ds) ≡ b → (c : Bool) →
          among (Top s.home x) (maker_refs s.home ds) ≡ c →
          times x (map name_of n.values) + times x (map name_of n.constructors) ≤ 1
      by true e true f = absurd (not_both s.home x ds read.cased e f)
      by true e false f = let h = times_none s.home x (map name_of n.constructors) f in omega (arith, h, values)
      by false e c f = let h = times_none s.home x (map name_of n.values) e in omega (arith, h, makers)

  pub declared_times : times x (names (declared m)) + times x (map name_of (defined_in ds)) ≤ 1
  declared_times =
      let us = flat_map (union_makers m.name) m.unions in
      let as_ = flat_map alias_makers m.aliases in
      let ps = map (λ (p : canon.PortDeclaration). (p.name, p.port_type)) m.ports in
      let a = more_times x (us ++ as_) ps in
      let b = more_times x us as_ in
      let c = makers in
      let d = ports in
      let e = apart in
      omega (arith, a, b, c, d, e)
    where
      makers : times x (names (flat_map (union_makers m.name) m.unions)) + times x (names (flat_map alias_makers m.aliases))
          ≤ times x (map name_of n.constructors)
      makers =
          subst (λ us. times x (names (flat_map (union_makers m.name) us))
          + times x (names (flat_map alias_makers m.aliases)) ≤ times x (map name_of n.constructors))
          (sym is.types.unions)
          (subst (λ as_. times x (names (flat_map (union_makers m.name) (map (union_of s.home w) (unions_in ds))))
          + times x (names (flat_map alias_makers as_)) ≤ times x (map name_of n.constructors))
          (sym is.types.aliases)
          (subst (λ h. times x (names (flat_map (union_makers h) (map (union_of s.home w) (unions_in ds))))
          + times x (names (flat_map alias_makers (map (alias_of w (uses_in ds)) (enumerate_from 0 (aliases_in ds)))))
          ≤ times x (map name_of n.constructors)) (sym is.name) (makers_times s.home w (uses_in ds) x 0 ds)))

      ports : times x (names (map (λ (p : canon.PortDeclaration). (p.name, p.port_type)) m.ports))
          + times x (map name_of (defined_in ds)) ≤ times x (map name_of n.values)
      ports =
          subst (λ ps. times x (names (map (λ (p : canon.PortDeclaration). (p.name, p.port_type)) ps))
          + times x (map name_of (defined_in ds)) ≤ times x (map name_of n.values)) (sym is.ports)
          (ports_times s.home w [] x ds)

pub declared_once : DeclaredOnce
declared_once s t m is read none d a =
    let h = declared_times s t m is read none d.0 in found (declared m) d a (omega (arith, h))
