-- A module without faults: `modules_closed`.
use Rattle.std.proofs.Common.{◌≡◌, ℕ, ◌+◌, ◌<◌, zero, suc, List, [], ◌∷◌, ◌++◌, length, map, Bool, true, false, arith}
use Rattle.std.proofs.Common.{if◌then◌else◌, refl, sym, subst}
use Rattle.std.specs.Prelude.{not}
use Rattle.std.specs.List.{AllByRecursion, enumerate_from, filter, flat_map, slice_index_or}
use Rattle.std.proofs.lemmas.Bool.{false≢true}
use Rattle.decl_groups.specs.InOrder.{uses_itself}
use Rattle.elm_base.specs.declared.fault.Code.TheVariants.{UnboundTypeVariable, AliasRecursion}
use Rattle.elm_tree.specs.Tree as tree
use Rattle.elm_tree.specs.Tree.{Declaration, TypeTree, TypeTrees, Word, ConstructorOf}
use Rattle.elm_canon.specs.Names.{Name}
use Rattle.elm_canon.specs.Tree as canon
use Rattle.elm_canon.specs.Tree.{AliasDeclaration}
use Rattle.elm_canon.specs.Spelled.{is_word}
use Rattle.canon_env.specs.Imports.{name_of, exposes_type}
use Rattle.canon_env.specs.Exposing.{is_among}
use Rattle.canon_env.specs.Shown.{Shown}
use Rattle.canon_env.specs.Naming.{World}
use Rattle.canon_env.specs.Sites.{faults_at, at_word}
use Rattle.canon_env.specs.Types.{type_of, type_sites}
use Rattle.canon_type.specs.Written.{AliasTree, aliases_in, union_names_in, names_in, names_in_all, variables_in}
use Rattle.canon_type.specs.Written.{variables_in_all, variables_in_fields}
use Rattle.canon_type.specs.Parameters.{parameter_faults, constructor_variables, twice, unbound, unused}
use Rattle.canon_type.specs.Recursion.{alias_fault, recursion_faults}
use Rattle.canon_type.specs.Unions.{UnionTree, unions_in, union_of, fields_of, union_sites, constructor_sites}
use Rattle.canon_type.specs.CanonAliasesKept.{no_alias}
use Rattle.canon_type.specs.DeclaredTypes.{uses_in, alias_sites, declared_sites, declared_faults}
use Rattle.canon_module.specs.Ports.{form_faults}
use Rattle.canon_type.specs.Ports.{port_form}
use Rattle.canon_module.specs.CanonValuesFaults.{declaration_faults, defined_top, value_faults}
use Rattle.canon_module.specs.Items.{top_used}
use Rattle.canon_expr.specs.Blocks.{reaching_sites}
use Rattle.canon_module.specs.Offers.{exposed_by}
use Rattle.canon_module.specs.Resolve.{Setting, IsModule, module_faults, heading_faults, declared_by, world_of}
use Rattle.canon_module.specs.Resolve.{ports_in}
use Rattle.canon_proper.specs.Declared.{IsSpelledType, AreSpelledTypes, AreSpelledFieldTypes, AreSpelledDeclarations}
use Rattle.canon_proper.proofs.Quiet.{AreSound, append_none, map_none, sound_sites, sound_split}
use Rattle.module_proper.specs.Modules.{AreRead}
use Rattle.elm_grammar.specs.Written.{DeclarationsHaveResults, ConstructorHasResults}
use Rattle.told_modules.specs.Closed.{IsNamed, AreClosed, UnionIsClosed, AliasIsClosed, ImportsAreClosed, NameIsClosed}
use Rattle.told_modules.specs.Closed.{PortHasNoBlank, ModulesAreClosed}
use Rattle.told_modules.proofs.Lists.{all_both, all_first, all_second, all_passed, all_at}
use Rattle.told_modules.proofs.Types.{WordHas, each_so, type_has, types_have}
use Rattle.told_modules.proofs.Aliases.{IsWritten, names_well, bodies_well}

-- ---- parameters

abbrev Bound : List Word → Word → Type 0
Bound ps = WordHas (IsNamed (map name_of ps))

abbrev left_out : List Word → List Word → List Word
left_out ps ws = filter (λ a. not (is_among (name_of a) (map name_of ps))) ws

all_kept : (ps ws : List Word) → left_out ps ws ≡ [] → AllByRecursion (Bound ps) ws
all_kept ps [] e = tt
all_kept ps (a ∷ ws) e = by (is_among (name_of a) (map name_of ps)) refl e (λ f. all_kept ps ws f)
  where
    by : (b : Bool) → is_among (name_of a) (map name_of ps) ≡ b
        → (if not b then a ∷ left_out ps ws else left_out ps ws) ≡ []
        → (left_out ps ws ≡ [] → AllByRecursion (Bound ps) ws) → AllByRecursion (Bound ps) (a ∷ ws)
    by true is f rest = (is, rest f)
    by false is f rest = absurd cc

none_missing : (ps words : List Word) → unbound ps words ≡ [] → AllByRecursion (Bound ps) words
none_missing ps words e = all_kept ps words (map_none (at_word UnboundTypeVariable) (left_out ps words) e)

each_of : (ps : List Word) (cs : List ConstructorOf) → AllByRecursion (Bound ps) (flat_map constructor_variables cs)
    → AllByRecursion (λ (c : ConstructorOf). AllByRecursion (Bound ps) (variables_in_all c.fields)) cs
each_of ps [] h = tt
each_of ps (c ∷ cs) h = (
  all_first (Bound ps) (constructor_variables c) (flat_map constructor_variables cs) h,
  each_of ps cs (all_second (Bound ps) (constructor_variables c) (flat_map constructor_variables cs) h),
)

-- ---- unions and aliases as they are written

record IsGood (w : World) (u : UnionTree) : Type 0 where
  pub results : AllByRecursion ConstructorHasResults u.constructors
  pub sound : AreSound w (union_sites w u)
  pub bound : AllByRecursion (λ (c : ConstructorOf). AllByRecursion (Bound u.parameters) (variables_in_all c.fields))
      u.constructors

module _ (w : World) where
  unions_good : (ds : List Declaration) → DeclarationsHaveResults ds → flat_map parameter_faults ds ≡ []
      → AreSound w (flat_map (union_sites w) (unions_in ds)) → AllByRecursion (IsGood w) (unions_in ds)
  unions_good [] r p q = tt
  unions_good (tree.Value d ∷ ds) r p q = unions_good ds r.1 p q
  unions_good (tree.Port x t ∷ ds) r p q = unions_good ds r.1 p q
  unions_good (tree.Alias x ps t ∷ ds) r p q =
      unions_good ds r.1 (append_none (parameter_faults (tree.Alias x ps t)) (flat_map parameter_faults ds) p).1 q
  unions_good (tree.Union x ps cs ∷ ds) r p q =
      let u : UnionTree = record { name = x; parameters = ps; constructors = cs } in
      let n = append_none (twice ps ++ unbound ps (flat_map constructor_variables cs))
      (flat_map parameter_faults ds) p in
      let s = sound_split w (union_sites w u) (flat_map (union_sites w) (unions_in ds)) q in (
        record {
          results = r.0;
          sound = s.0;
          bound = each_of ps cs (none_missing ps (flat_map constructor_variables cs)
              (append_none (twice ps) (unbound ps (flat_map constructor_variables cs)) n.0).1);
        },
        unions_good ds r.1 n.1 s.1,
      )

  aliases_good : (ds : List Declaration) → DeclarationsHaveResults ds → flat_map parameter_faults ds ≡ []
      → AreSound w (flat_map (alias_sites w) (aliases_in ds)) → AllByRecursion (IsWritten w) (aliases_in ds)
  aliases_good [] r p q = tt
  aliases_good (tree.Value d ∷ ds) r p q = aliases_good ds r.1 p q
  aliases_good (tree.Port x t ∷ ds) r p q = aliases_good ds r.1 p q
  aliases_good (tree.Union x ps cs ∷ ds) r p q =
      aliases_good ds r.1 (append_none (parameter_faults (tree.Union x ps cs)) (flat_map parameter_faults ds) p).1 q
  aliases_good (tree.Alias x ps t ∷ ds) r p q =
      let n = append_none (twice ps ++ (unbound ps (variables_in t) ++ unused ps (variables_in t)))
      (flat_map parameter_faults ds) p in
      let b = append_none (twice ps) (unbound ps (variables_in t) ++ unused ps (variables_in t)) n.0 in
      let s = sound_split w (type_sites w t) (flat_map (alias_sites w) (aliases_in ds)) q in (
        record {
          results = r.0;
          sound = s.0;
          bound = none_missing ps (variables_in t)
              (append_none (unbound ps (variables_in t)) (unused ps (variables_in t)) b.1).0;
        },
        aliases_good ds r.1 n.1 s.1,
      )

-- none reaches itself
none_loops : (uses : List (List ℕ)) (n : ℕ) (trees : List AliasTree)
    → flat_map (alias_fault uses) (enumerate_from n trees) ≡ [] → (i : ℕ) → i < length trees
    → uses_itself uses (n + i) ≡ false
none_loops uses n [] e i l = absurd (omega (arith, l))
none_loops uses n (t ∷ trees) e zero l =
    let k : n ≡ n + 0 = omega arith in
    subst (λ j. uses_itself uses j ≡ false) k
    (by (uses_itself uses n) refl
    (append_none (alias_fault uses (n, t)) (flat_map (alias_fault uses) (enumerate_from (n + 1) trees)) e).0)
  where
    by : (b : Bool) → uses_itself uses n ≡ b → (if b then at_word AliasRecursion t.name ∷ [] else []) ≡ []
        → uses_itself uses n ≡ false
    by true is f = absurd cc
    by false is f = is
none_loops uses n (t ∷ trees) e (suc i) l =
    let k : n + 1 + i ≡ n + suc i = omega arith in
    subst (λ j. uses_itself uses j ≡ false) k
    (none_loops uses (n + 1) trees
    (append_none (alias_fault uses (n, t)) (flat_map (alias_fault uses) (enumerate_from (n + 1) trees)) e).1 i
    (omega (arith, l)))

-- ---- the fields of unions

module _ (w : World) (named : (x : tree.Long) → NameIsClosed w x) where
  fields_closed : (ps : List Word) (cs : List ConstructorOf) → AllByRecursion ConstructorHasResults cs
      → AreSound w (flat_map (constructor_sites w) cs)
      → AllByRecursion (λ (c : ConstructorOf). AllByRecursion (Bound ps) (variables_in_all c.fields)) cs
      → AllByRecursion (AreClosed (map name_of ps)) (map (fields_of w) cs)
  fields_closed ps [] r q b = tt
  fields_closed ps (c ∷ cs) r q b =
      let s = sound_split w (constructor_sites w c) (flat_map (constructor_sites w) cs) q in (
        types_have (IsNamed (map name_of ps)) w c.fields
            (each_so (NameIsClosed w) named (names_in_all c.fields)) r.0 s.0 b.0,
        fields_closed ps cs r.1 s.1 b.1,
      )

  unions_closed : (home : Name) (us : List UnionTree) → AllByRecursion (IsGood w) us
      → AllByRecursion UnionIsClosed (map (union_of home w) us)
  unions_closed home [] h = tt
  unions_closed home (u ∷ us) h =
      (fields_closed u.parameters u.constructors h.0.results h.0.sound h.0.bound, unions_closed home us h.1)

-- ---- ports

abbrev NotBlank : Name → Type 0
NotBlank a = a ≡ [] → ⊥

spelled_word : (a : Name) → is_word a ≡ true → NotBlank a
spelled_word [] e is = false≢true e
spelled_word (u ∷ us) e is = cc

mutual
  spelled_variables : (t : TypeTree) → IsSpelledType t → AllByRecursion (WordHas NotBlank) (variables_in t)
  spelled_variables (tree.TypeVariable a) s = (spelled_word (name_of a) s, tt)
  spelled_variables (tree.TypeName x ts) s = all_spelled ts s
  spelled_variables (tree.FunctionType ts) s = all_spelled ts s
  spelled_variables (tree.TupleType ts) s = all_spelled ts s
  spelled_variables (tree.RecordType fs) s = fields_spelled fs s
  spelled_variables (tree.ExtendedType a fs) s = (spelled_word (name_of a) s.0, fields_spelled fs s.1)

  all_spelled : (ts : TypeTrees) → AreSpelledTypes ts → AllByRecursion (WordHas NotBlank) (variables_in_all ts)
  all_spelled tree.NoType s = tt
  all_spelled (tree.MoreType t ts) s =
      all_both (WordHas NotBlank) (variables_in t) (variables_in_all ts) (spelled_variables t s.0) (all_spelled ts s.1)

  fields_spelled : (fs : tree.FieldTypes) → AreSpelledFieldTypes fs
      → AllByRecursion (WordHas NotBlank) (variables_in_fields fs)
  fields_spelled tree.NoFieldType s = tt
  fields_spelled (tree.MoreFieldType x t fs) s =
      all_both (WordHas NotBlank) (variables_in t) (variables_in_fields fs) (spelled_variables t s.1.0)
      (fields_spelled fs s.1.1)

ports_have : (w : World) → ((x : tree.Long) → NameIsClosed w x) → (ds : List Declaration) → DeclarationsHaveResults ds
    → AreSpelledDeclarations ds → flat_map (declaration_faults w) ds ≡ []
    → AllByRecursion PortHasNoBlank (flat_map (ports_in w) ds)
ports_have w named [] r s none = tt
ports_have w named (tree.Value d ∷ ds) r s none =
    ports_have w named ds r.1 s.1
    (append_none (declaration_faults w (tree.Value d)) (flat_map (declaration_faults w) ds) none).1
ports_have w named (tree.Port x t ∷ ds) r s none =
    let n = append_none (declaration_faults w (tree.Port x t)) (flat_map (declaration_faults w) ds) none in (
      type_has NotBlank w t (each_so (NameIsClosed w) named (names_in t)) r.0
          (sound_sites w (type_sites w t)
          (append_none (flat_map (faults_at w) (type_sites w t)) (form_faults x (port_form (type_of w t))) n.0).0)
          (spelled_variables t s.0.1),
      ports_have w named ds r.1 s.1 n.1,
    )
ports_have w named (tree.Union x ps cs ∷ ds) r s none = ports_have w named ds r.1 s.1 none
ports_have w named (tree.Alias x ps t ∷ ds) r s none = ports_have w named ds r.1 s.1 none

-- ---- the module

module _ (s : Setting) (t : tree.Module) (m : canon.Module) (is : IsModule s t.declarations m)
    (read : AreRead s.home t.declarations) (results : DeclarationsHaveResults t.declarations)
    (imports : ImportsAreClosed s.imports) (none : module_faults s t m ≡ []) where
  abbrev w : World
  w = world_of s t.declarations m

  abbrev declared : Shown
  declared = declared_by t.declarations m

  both_none : (heading_faults s t ++ declared_faults w t.declarations ≡ []) × (value_faults w t.declarations ≡ [])
  both_none = append_none (heading_faults s t ++ declared_faults w t.declarations) (value_faults w t.declarations) none

  types_none : declared_faults w t.declarations ≡ []
  types_none = (append_none (heading_faults s t) (declared_faults w t.declarations) both_none.0).1

  values_none : flat_map (declaration_faults w) t.declarations ≡ []
  values_none =
      (append_none (flat_map (declaration_faults w) t.declarations)
      (flat_map (faults_at w) (reaching_sites (top_used w t.declarations) (map defined_top t.declarations)))
      both_none.1).0

  written_none : (flat_map parameter_faults t.declarations ++ recursion_faults (union_names_in t.declarations)
      (aliases_in t.declarations) ≡ []) × (flat_map (faults_at w) (declared_sites w t.declarations) ≡ [])
  written_none =
      append_none (flat_map parameter_faults t.declarations
      ++ recursion_faults (union_names_in t.declarations) (aliases_in t.declarations))
      (flat_map (faults_at w) (declared_sites w t.declarations)) types_none

  needless : (flat_map parameter_faults t.declarations ≡ [])
      × (recursion_faults (union_names_in t.declarations) (aliases_in t.declarations) ≡ [])
  needless =
      append_none (flat_map parameter_faults t.declarations)
      (recursion_faults (union_names_in t.declarations) (aliases_in t.declarations)) written_none.0

  sound : AreSound w (flat_map (union_sites w) (unions_in t.declarations))
      × AreSound w (flat_map (alias_sites w) (aliases_in t.declarations))
  sound =
      sound_split w (flat_map (union_sites w) (unions_in t.declarations))
      (flat_map (alias_sites w) (aliases_in t.declarations))
      (sound_sites w (declared_sites w t.declarations) written_none.1)

  written_at : (p : ℕ) → p < length (aliases_in t.declarations)
      → IsWritten w (slice_index_or (aliases_in t.declarations) p no_alias)
  written_at p l =
      all_at (IsWritten w) (aliases_in t.declarations) no_alias p
      (aliases_good w t.declarations results needless.0 sound.1) l

  apart_at : (p : ℕ) → p < length (aliases_in t.declarations) → uses_itself (uses_in t.declarations) p ≡ false
  apart_at p l =
      let k : 0 + p ≡ p = omega arith in
      subst (λ j. uses_itself (uses_in t.declarations) j ≡ false) k
      (none_loops (uses_in t.declarations) 0 (aliases_in t.declarations) needless.1 p l)

  named : (x : tree.Long) → NameIsClosed w x
  named x = names_well s.home s.imports t.declarations declared is.types imports written_at apart_at x

  aliases_closed : AllByRecursion AliasIsClosed m.aliases
  aliases_closed = bodies_well s.home s.imports t.declarations declared is.types imports written_at apart_at

  pub unions_so : AllByRecursion UnionIsClosed m.unions
  unions_so =
      subst (AllByRecursion UnionIsClosed) (sym is.types.unions)
      (unions_closed w named s.home (unions_in t.declarations)
      (unions_good w t.declarations results needless.0 sound.0))

  pub aliases_so : AllByRecursion AliasIsClosed m.aliases
  aliases_so = aliases_closed

  pub ports_so : AllByRecursion PortHasNoBlank m.ports
  ports_so =
      subst (AllByRecursion PortHasNoBlank) (sym is.ports)
      (ports_have w named t.declarations results read.spelled values_none)

pub modules_closed : ModulesAreClosed
modules_closed s t m is read results imports none = record {
  unions = unions_so s t m is read results imports none;
  aliases = aliases_so s t m is read results imports none;
  shown =
      all_passed AliasIsClosed (λ (a : AliasDeclaration). exposes_type (exposed_by t.head.header) a.name) m.aliases
      (aliases_so s t m is read results imports none);
  ports = ports_so s t m is read results imports none;
}
