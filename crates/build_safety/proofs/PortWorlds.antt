-- The ports of the world of a program: `programs_have_ports`, `links_carry`.
use Rattle.std.proofs.Common.{◌≡◌, ℕ, zero, suc, List, [], ◌∷◌, ◌++◌, Bool, true, false, Option, Some, None, map, refl}
use Rattle.std.proofs.Common.{sym, ap, ◌∙◌, subst, append_assoc, if◌then◌else◌}
use Rattle.std.specs.Prelude.{◌||◌, flat_map, slice_get}
use Rattle.std.specs.List.{AllByRecursion, list_any}
use Rattle.std.specs.Str.{bytes_eq}
use Rattle.elm_tree.specs.Tree as tree
use Rattle.elm_tree.specs.Tree.{Word, TypeTree}
use Rattle.elm_canon.specs.Names.{Name, same_name}
use Rattle.elm_canon.specs.Tree as canon
use Rattle.elm_canon.specs.Tree.{Annotation, Declaration, Given, Define, Maker, RecordMaker, OutPort, InPort, Payload}
use Rattle.elm_canon.specs.Tree.{PortDeclaration}
use Rattle.elm_canon.specs.declared.reference.Ref.{Ref}
use Rattle.elm_canon.specs.declared.reference.Ref.TheVariants.{Top}
use Rattle.elm_canon.specs.declared.unions.Alternative.{Alternative}
use Rattle.canon_expr.specs.Blocks.{Made, group_of}
use Rattle.canon_type.specs.Unions.{alternatives_of}
use Rattle.canon_env.specs.Imports.{name_of}
use Rattle.canon_module.specs.Resolve.{Setting, IsModule, maker_of, record_maker, makers_in, world_of}
use Rattle.canon_env.specs.Naming.{World}
use Rattle.canon_env.specs.Types.{type_of}
use Rattle.canon_type.specs.Ports.{PortForm, Outgoing, Incoming, NoPort, Untold, port_form}
use Rattle.canon_module.specs.Items.{items_of, annotation_by}
use Rattle.canon_module.specs.Ports.{known_by}
use Rattle.told_modules.proofs.Each.{both_all, IsItem, each_declaration}
use Rattle.elm_meaning.specs.Functions.{Primitive}
use Rattle.elm_meaning.specs.Run.{out_ports}
use Rattle.elm_canon.specs.Declarations.{ProperDeclarations}
use Rattle.emit_laws.specs.Programs.{primitive_scope}
use Rattle.emit_size_laws.specs.Small.{NamedProgram}
use Rattle.link.specs.Link.{Output, Links, link, clashes, reached_pieces}
use Rattle.link.specs.Programs.{Source, Core, Declared, part_of, declarations_in, program_of}
use Rattle.link.specs.Programs as programs
use Rattle.project_proper.proofs.Ports.{Pair, pair_in, pairs_of, placed_of}
use Rattle.project_proper.proofs.Sublists.{Sub, none, take, skip, kept_sub}
use Rattle.project_proper.proofs.Whole.{linked_entry, no_clash, reached_pairs, pieces_reached, items_reached}
use Rattle.project_proper.proofs.Moved.{others_sub}
use Rattle.project_proper.specs.Resolved.{source_of}
use Rattle.build_safety.specs.Compiled.{Compiled, resolved_of, AreModules}
use Rattle.build_safety.proofs.Among.{is_next}
use Rattle.build_safety.specs.LinkedPieces.{linked_program}
use Rattle.build_safety.specs.PortWorlds.{outs_of, AllCarry, ProgramsHavePorts, LinksCarry}
use Rattle.build_safety.proofs.PortsApart.{PortNamed, PairNamed, pair_declarations, ports_apart, all_carry}

-- ---- the ports of the world

outs_there : (ds : List Declaration) (port : Name) (t : Payload) → outs_of ds port ≡ Some t →
    list_any (λ other. bytes_eq port other) (out_ports ds) ≡ true
outs_there [] port t e = absurd cc
outs_there (Given r (Maker c) ∷ ds) port t e = outs_there ds port t e
outs_there (Given r (RecordMaker ks) ∷ ds) port t e = outs_there ds port t e
outs_there (Given r (InPort x u) ∷ ds) port t e = outs_there ds port t e
outs_there (Define g ∷ ds) port t e = outs_there ds port t e
outs_there (Given r (OutPort x u) ∷ ds) port t e = by (same_name port x) e (outs_there ds port t)
  where
    by : (b : Bool) → (if b then Some u else outs_of ds port) ≡ Some t →
        (outs_of ds port ≡ Some t → list_any (λ other. bytes_eq port other) (out_ports ds) ≡ true) →
        (b || list_any (λ other. bytes_eq port other) (out_ports ds)) ≡ true
    by true f rest = refl
    by false f rest = rest f

pub programs_have_ports : ProgramsHavePorts
programs_have_ports cs p = record { outs = outs_there p.declarations; ins = λ port t e. e }

-- ---- the names of the ports of a module

abbrev Any : Made → Type 0
Any m = Unit {0}

module _ (home : Name) where
  abbrev Named : Declaration → Type 0
  Named d = PortNamed home d

  groups_named : (gs : List canon.Group) → AllByRecursion Named (map Define gs)
  groups_named [] = tt
  groups_named (g ∷ gs) = (tt, groups_named gs)

  makers_named : (cs : List Alternative) → AllByRecursion Named (map (maker_of home) cs)
  makers_named [] = tt
  makers_named (c ∷ cs) = (tt, makers_named cs)

  record_named : (x : Word) (t : TypeTree) → AllByRecursion Named (record_maker home x t)
  record_named x (tree.TypeVariable a) = tt
  record_named x (tree.TypeName y ts) = tt
  record_named x (tree.FunctionType ts) = tt
  record_named x (tree.TupleType ts) = tt
  record_named x (tree.RecordType fs) = (tt, tt)
  record_named x (tree.ExtendedType a fs) = tt

  all_makers : (ds : List tree.Declaration) → AllByRecursion Named (flat_map (makers_in home) ds)
  all_makers [] = tt
  all_makers (tree.Value d ∷ ds) = all_makers ds
  all_makers (tree.Port x t ∷ ds) = all_makers ds
  all_makers (tree.Union x ps cs ∷ ds) =
      both_all Named (map (maker_of home) (alternatives_of home (name_of x) cs)) (flat_map (makers_in home) ds)
      (makers_named (alternatives_of home (name_of x) cs)) (all_makers ds)
  all_makers (tree.Alias x ps t ∷ ds) =
      both_all Named (record_maker home x t) (flat_map (makers_in home) ds) (record_named x t) (all_makers ds)

  form_named : (x : Name) (f : PortForm) → PortNamed home (Given (Top home x) (known_by x f))
  form_named x (Outgoing t) = refl
  form_named x (Incoming t) = refl
  form_named x NoPort = refl
  form_named x Untold = refl

  group_named : (ms : List Made) → AllByRecursion Any ms → AllByRecursion Named (map Define (group_of ms))
  group_named ms h = groups_named (group_of ms)

items_named : (w : World) (before : Option Annotation) (ds : List tree.Declaration) →
    AllByRecursion (IsItem (PortNamed w.name) Any tt (group_named w.name)) (items_of w before ds)
items_named w before [] = tt
items_named w before (tree.Value d ∷ ds) = (tt, items_named w (annotation_by w (tree.Value d)) ds)
items_named w before (tree.Union x ps cs ∷ ds) = (tt, items_named w None ds)
items_named w before (tree.Alias x ps t ∷ ds) = (tt, items_named w None ds)
items_named w before (tree.Port x t ∷ ds) =
    (form_named w.name (name_of x) (port_form (type_of w t)), items_named w None ds)

module_named : (s : Setting) (ds : List tree.Declaration) (m : canon.Module) → IsModule s ds m →
    AllByRecursion (PortNamed m.name) m.declarations
module_named s ds m is =
    subst (λ home. AllByRecursion (PortNamed home) m.declarations) (sym is.name)
    (each_declaration (PortNamed s.home) Any tt (group_named s.home) s ds m is (all_makers s.home ds)
    (items_named (world_of s ds m) None ds))

-- ---- of all modules

all_left : {X : Type 0} (P : X → Type 0) {xs ys : List X} → Sub xs ys → AllByRecursion P ys → AllByRecursion P xs
all_left P none h = tt
all_left P (take s) h = (h.0, all_left P s h.1)
all_left P (skip s) h = all_left P s h.1

abbrev AllNamed : List Pair → Type 0
AllNamed ps = AllByRecursion PairNamed ps

declared_named : (s : Source) (ports : List PortDeclaration) (ds : List Declaration) →
    AllByRecursion (PortNamed s.tree.name) ds → AllNamed (map (pair_in s) (map (Declared ports) ds))
declared_named s ports [] h = tt
declared_named s ports (d ∷ ds) h = (h.0, declared_named s ports ds h.1)

source_named : (s : Source) (cores : List (Ref × Primitive)) (ports : List PortDeclaration) (ds : List Declaration) →
    AllByRecursion (PortNamed s.tree.name) ds →
    AllNamed (map (pair_in s) (map Core cores ++ map (Declared ports) ds))
source_named s [] ports ds h = declared_named s ports ds h
source_named s (c ∷ cores) ports ds h = (tt, source_named s cores ports ds h)

pairs_both : (ps qs : List Pair) → AllNamed ps → AllNamed qs → AllNamed (ps ++ qs)
pairs_both [] qs f g = g
pairs_both (p ∷ ps) qs f g = (f.0, pairs_both ps qs f.1 g)

abbrev sources_of : List Compiled → List Source
sources_of cs = map source_of (resolved_of cs)

sources_named : (done cs : List Compiled) → AreModules (done ++ cs) → AllNamed (pairs_of (sources_of cs))
sources_named done [] all = tt
sources_named done (c ∷ cs) all =
    let s = source_of c.resolved in
    let m = c.resolved.whole in
    pairs_both (map (pair_in s) (programs.items_of s)) (pairs_of (sources_of cs))
    (source_named s s.cores s.tree.ports s.tree.declarations
    (all_left (PortNamed m.name) (others_sub m.declarations)
    (module_named c.resolved.setting c.resolved.written.declarations m (is_next done c cs all).is)))
    (sources_named (done ++ c ∷ []) cs (subst AreModules (sym (append_assoc done (c ∷ []) cs)) all))

-- ---- the program

get_mapped : {X Y : Type 0} (f : X → Y) (xs : List X) (i : ℕ) (x : X) → slice_get xs i ≡ Some x →
    slice_get (map f xs) i ≡ Some (f x)
get_mapped f [] i x e = absurd cc
get_mapped f (y ∷ xs) zero x e = let h : y ≡ x = cc in ap (λ z. Some (f z)) h
get_mapped f (y ∷ xs) (suc i) x e = get_mapped f xs i x e

module _ (cs : List Compiled) (entry : Compiled) (number : ℕ) (o : Output) (all : AreModules cs)
    (named : NamedProgram (linked_program cs entry)) (at : slice_get cs number ≡ Some entry)
    (linked : link (map part_of (sources_of cs)) number ≡ Links o) where
  abbrev s : Source
  s = source_of entry.resolved

  abbrev pairs : List Pair
  pairs = reached_pairs (sources_of cs) s.tree.name

  at_source : slice_get (sources_of cs) number ≡ Some s
  at_source =
      get_mapped source_of (resolved_of cs) number entry.resolved
      (get_mapped (λ (c : Compiled). c.resolved) cs number entry at)

  no_clashes : clashes [] (map placed_of pairs) ≡ []
  no_clashes =
      ap (clashes []) (pieces_reached (sources_of cs) s.tree.name)
      ∙ no_clash (part_of s) (reached_pieces (map part_of (sources_of cs)) s.tree.name) o
      (linked_entry (sources_of cs) number s o at_source linked)

  same : pair_declarations pairs ≡ (linked_program cs entry).declarations
  unfolding program_of
  same = ap declarations_in (items_reached (sources_of cs) s.tree.name)

  pub carry : AllCarry (linked_program cs entry).declarations
  carry =
      subst AllCarry same
      (all_carry (pair_declarations pairs)
      (ports_apart pairs [] (primitive_scope (linked_program cs entry).primitives)
      (subst (ProperDeclarations (primitive_scope (linked_program cs entry).primitives)) (sym same) named.declarations)
      (all_left PairNamed (kept_sub _ 0 (pairs_of (sources_of cs))) (sources_named [] cs all)) no_clashes))

pub links_carry : LinksCarry
links_carry cs entry number o all named at linked = carry cs entry number o all named at linked
