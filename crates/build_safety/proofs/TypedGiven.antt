-- All that a module of a build declares without a body: `given_typed`.
use Rattle.std.proofs.Common.{◌≡◌, ℕ, ◌+◌, List, [], ◌∷◌, ◌++◌, map, true, Option, None, inl, inr, refl, sym, subst}
use Rattle.std.specs.Prelude.{flat_map}
use Rattle.std.specs.List.{AllByRecursion, enumerate_from}
use Rattle.elm_tree.specs.Tree as tree
use Rattle.elm_tree.specs.Tree.{Word, TypeTree}
use Rattle.elm_canon.specs.Names.{Name}
use Rattle.elm_canon.specs.Tree.{Annotation, Group, Declaration, Given, Define, Maker, RecordMaker, OutPort, InPort}
use Rattle.elm_canon.specs.Tree.{Payload, PortDeclaration, UnionDeclaration}
use Rattle.canon_expr.specs.Blocks.{Made, group_of}
use Rattle.canon_type.specs.Unions.{UnionTree, unions_in, union_of, alternatives_of}
use Rattle.canon_env.specs.Imports.{name_of}
use Rattle.canon_module.specs.Resolve.{maker_of, record_maker, makers_in, ports_in}
use Rattle.canon_proper.proofs.Quiet.{append_none}
use Rattle.canon_env.specs.Naming as naming
use Rattle.canon_type.specs.Written.{AliasTree, aliases_in}
use Rattle.canon_module.specs.CanonValuesFaults.{declaration_faults}
use Rattle.canon_module.specs.Items.{items_of, annotation_by}
use Rattle.told_modules.proofs.Each.{both_all, IsItem, each_declaration}
use Rattle.elm_canon.specs.Proper.{Scope, with_all}
use Rattle.elm_canon.specs.Declarations.{ProperDeclarations, declared_names, is_proper_known}
use Rattle.emit_size_laws.specs.Small.{PortsHaveFields}
use Rattle.type_items.specs.Scopes as scopes
use Rattle.typed_values.specs.World.{World, Among}
use Rattle.type_safety.specs.Modules.{AreTyped}
use Rattle.program_safety.specs.Parts.{AreSome}
use Rattle.project_proper.specs.Resolved.{scope_after}
use Rattle.told_modules.specs.Schemes.{HasNoBlank}
use Rattle.build_safety.specs.Compiled.{Compiled, resolved_of, AreModules}
use Rattle.build_safety.proofs.Among.{is_proper}
use Rattle.build_safety.proofs.ClosedBuilds.{builds_closed}
use Rattle.build_safety.specs.BuildWorlds.{world}
use Rattle.program_safety.specs.Ports.{KeepsPorts}
use Rattle.build_safety.specs.PortWorlds.{Carries}
use Rattle.build_safety.specs.TypedMakers.{GivenAreTyped}
use Rattle.build_safety.proofs.TypedWanted as wanted
use Rattle.build_safety.proofs.TypedWanted.{Wanted}
use Rattle.build_safety.proofs.TypedMakers.{makers_typed}
use Rattle.build_safety.proofs.TypedRecords.{record_typed}
use Rattle.build_safety.proofs.TypedPorts.{port_typed}

-- ---- some of the declarations of a module

abbrev Proper : Declaration → Type 0
Proper (Given r k) = is_proper_known k ≡ true
Proper (Define g) = Unit {0}

all_proper : (ds : List Declaration) (scope : Scope) → ProperDeclarations scope ds → AllByRecursion Proper ds
all_proper [] scope h = tt
all_proper (Given r k ∷ ds) scope h = (h.0.1.1, all_proper ds (r ∷ scope) h.1)
all_proper (Define g ∷ ds) scope h = (tt, all_proper ds (with_all (declared_names (Define g)) scope) h.1)

some_hold : (P : Declaration → Type 0) (ds es : List Declaration) → AreSome ds es → AllByRecursion P es →
    AllByRecursion P ds
some_hold P [] es s h = tt
some_hold P (d ∷ ds) [] s h = absurd s
some_hold P (d ∷ ds) (e ∷ es) (inl s) h = (subst P (sym s.0) h.0, some_hold P ds es s.1 h.1)
some_hold P (d ∷ ds) (e ∷ es) (inr s) h = some_hold P (d ∷ ds) es s h.1

-- those of which all that is asked holds
typed : (w : World) (known : scopes.Known) (ds : List Declaration) → AllByRecursion (Wanted w known) ds →
    AllByRecursion (Carries w.outs w.ins) ds → PortsHaveFields ds → AllByRecursion Proper ds →
    AllByRecursion KeepsPorts ds → AreTyped w known ds
typed w known [] h c f p k = tt
typed w known (Given r (Maker a) ∷ ds) h c f p k = (h.0 c.0 tt p.0 k.0, typed w known ds h.1 c.1 f p.1 k.1)
typed w known (Given r (RecordMaker ks) ∷ ds) h c f p k = (h.0 c.0 tt p.0 k.0, typed w known ds h.1 c.1 f p.1 k.1)
typed w known (Given r (OutPort x t) ∷ ds) h c f p k = (h.0 c.0 f.0 p.0 k.0, typed w known ds h.1 c.1 f.1 p.1 k.1)
typed w known (Given r (InPort x t) ∷ ds) h c f p k = (h.0 c.0 f.0 p.0 k.0, typed w known ds h.1 c.1 f.1 p.1 k.1)
typed w known (Define g ∷ ds) h c f p k = typed w known ds h.1 c.1 f p.1 k.1

-- ---- all declarations of a module

abbrev Any : Made → Type 0
Any m = Unit {0}

module _ (before : List Compiled) (c : Compiled) (after : List Compiled) (all : AreModules (before ++ c ∷ after))
    (outs ins : Name → Option Payload) where
  abbrev cs : List Compiled
  cs = before ++ c ∷ after

  abbrev home : Name
  home = wanted.home before c after all

  abbrev names : naming.World
  names = wanted.names before c after all

  abbrev trees : List tree.Declaration
  trees = (wanted.written before c after all).declarations

  abbrev Asked : Declaration → Type 0
  Asked d = Wanted (world cs outs ins) (wanted.env before c after all) d

  groups_asked : (gs : List Group) → AllByRecursion Asked (map Define gs)
  groups_asked [] = tt
  groups_asked (g ∷ gs) = (tt, groups_asked gs)

  group_asked : (ms : List Made) → AllByRecursion Any ms → AllByRecursion Asked (map Define (group_of ms))
  group_asked ms h = groups_asked (group_of ms)

  record_asked : (i : ℕ) (x : Word) (ps : List Word) (t : TypeTree) →
      Among (i, record { name = x; parameters = ps; body = t }) (enumerate_from 0 (aliases_in trees)) →
      AllByRecursion Asked (record_maker home x t)
  record_asked i x ps (tree.TypeVariable a) there = tt
  record_asked i x ps (tree.TypeName y ts) there = tt
  record_asked i x ps (tree.FunctionType ts) there = tt
  record_asked i x ps (tree.TupleType ts) there = tt
  record_asked i x ps (tree.RecordType fs) there = record_typed before c after all outs ins i x ps fs there
  record_asked i x ps (tree.ExtendedType a fs) there = tt

  -- constructors, of the unions and aliases from a place on
  makers_asked : (i : ℕ) (ds : List tree.Declaration) →
      ((u : UnionDeclaration) → Among u (map (union_of home names) (unions_in ds)) →
      Among u (wanted.whole before c after all).unions) →
      ((p : ℕ × AliasTree) → Among p (enumerate_from i (aliases_in ds)) →
      Among p (enumerate_from 0 (aliases_in trees))) →
      AllByRecursion Asked (flat_map (makers_in home) ds)
  makers_asked i [] us as_ = tt
  makers_asked i (tree.Value d ∷ ds) us as_ = makers_asked i ds us as_
  makers_asked i (tree.Port x t ∷ ds) us as_ = makers_asked i ds us as_
  makers_asked i (tree.Union x ps ks ∷ ds) us as_ =
      let first : UnionTree = record { name = x; parameters = ps; constructors = ks } in
      both_all Asked (map (maker_of home) (alternatives_of home (name_of x) ks)) (flat_map (makers_in home) ds)
      (makers_typed before c after all outs ins first (us (union_of home names first) (inl refl)))
      (makers_asked i ds (λ u a. us u (inr a)) as_)
  makers_asked i (tree.Alias x ps t ∷ ds) us as_ =
      both_all Asked (record_maker home x t) (flat_map (makers_in home) ds)
      (record_asked i x ps t (as_ (i, record { name = x; parameters = ps; body = t }) (inl refl)))
      (makers_asked (i + 1) ds us (λ p a. as_ p (inr a)))

  -- ports
  items_asked : (annotation : Option Annotation) (ds : List tree.Declaration) →
      ((p : PortDeclaration) → Among p (flat_map (ports_in names) ds) →
      Among p (wanted.whole before c after all).ports) →
      flat_map (declaration_faults names) ds ≡ [] →
      ((p : PortDeclaration) → Among p (wanted.whole before c after all).ports → HasNoBlank p.port_type) →
      AllByRecursion (IsItem Asked Any tt group_asked) (items_of names annotation ds)
  items_asked annotation [] ps none named = tt
  items_asked annotation (tree.Value d ∷ ds) ps none named = (
    tt,
    items_asked (annotation_by names (tree.Value d)) ds ps
        (append_none (declaration_faults names (tree.Value d)) (flat_map (declaration_faults names) ds) none).1 named,
  )
  items_asked annotation (tree.Union x qs ks ∷ ds) ps none named = (tt, items_asked None ds ps none named)
  items_asked annotation (tree.Alias x qs t ∷ ds) ps none named = (tt, items_asked None ds ps none named)
  items_asked annotation (tree.Port x t ∷ ds) ps none named =
      let e =
      append_none (declaration_faults names (tree.Port x t)) (flat_map (declaration_faults names) ds) none in
      let there = ps _ (inl refl) in (
        port_typed before c after all outs ins x t there e.0 (named _ there),
        items_asked None ds (λ p a. ps p (inr a)) e.1 named,
      )

  port_named : (p : PortDeclaration) → Among p (wanted.whole before c after all).ports → HasNoBlank p.port_type
  port_named p a = each (wanted.whole before c after all).ports (builds_closed before c after all).ports a
    where
      each : (ps : List PortDeclaration) → AllByRecursion (λ (q : PortDeclaration). HasNoBlank q.port_type) ps →
          Among p ps → HasNoBlank p.port_type
      each [] h i = absurd i
      each (q ∷ ps) h (inl e) = subst (λ (z : PortDeclaration). HasNoBlank z.port_type) (sym e) h.0
      each (q ∷ ps) h (inr i) = each ps h.1 i

  pub all_asked : AllByRecursion Asked (wanted.whole before c after all).declarations
  all_asked =
      let is = wanted.is before c after all in
      each_declaration Asked Any tt group_asked (wanted.setting before c after all) trees
      (wanted.whole before c after all) is
      (makers_asked 0 trees (λ u a. subst (Among u) (sym is.types.unions) a) (λ p a. a))
      (items_asked None trees (λ p a. subst (Among p) (sym is.ports) a) (wanted.no_value_faults before c after all)
      port_named)

pub given_typed : GivenAreTyped
given_typed before c after outs ins ds all h =
    let cs = before ++ c ∷ after in
    let es = c.resolved.whole.declarations in
    typed (world cs outs ins) (wanted.env before c after all) ds
    (some_hold (Wanted (world cs outs ins) (wanted.env before c after all)) ds es h.some
    (all_asked before c after all outs ins))
    h.carried h.payloads
    (some_hold Proper ds es h.some (all_proper es (scope_after (resolved_of before)) (is_proper before c after all)))
    h.keeps
