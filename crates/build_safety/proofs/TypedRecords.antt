-- The constructors of the records of a module: `record_typed`.
use Rattle.std.proofs.Common.{◌≡◌, ℕ, List, [], ◌∷◌, ◌++◌, map, length, Bool, true, false, inl, inr, refl, sym, ap, ◌∙◌}
use Rattle.std.proofs.Common.{subst, if◌then◌else◌}
use Rattle.std.specs.Prelude.{Option}
use Rattle.std.specs.List.{AllByRecursion, enumerate_from, flat_map, zip}
use Rattle.elm_tree.specs.Tree as tree
use Rattle.elm_tree.specs.Tree.{Word}
use Rattle.elm_canon.specs.Names.{Name}
use Rattle.elm_canon.specs.Tree.{Payload, FieldTypes, RecordType, field_names, PortDeclaration}
use Rattle.elm_type.specs.Types.{functions}
use Rattle.elm_type.specs.Rows.{closed}
use Rattle.decl_groups.specs.InOrder.{uses_itself}
use Rattle.canon_type.specs.Types.{alias_of}
use Rattle.canon_env.specs.Imports.{name_of}
use Rattle.canon_env.specs.declared.finding.Finding.{Finding}
use Rattle.canon_module.specs.Resolve.{record_maker}
use Rattle.canon_env.specs.Expanding.{blank}
use Rattle.canon_env.specs.Naming as naming
use Rattle.canon_env.specs.Types.{field_words, field_types_of, type_of}
use Rattle.canon_type.specs.Recursion.{alias_fault}
use Rattle.canon_type.specs.Written.{AliasTree, aliases_in}
use Rattle.canon_type.specs.DeclaredTypes.{uses_in}
use Rattle.type_items.specs.Annotations.{annotation_scheme}
use Rattle.type_items.specs.Modules.{Annotated, function_to, field_types, union_makers, alias_makers, declared}
use Rattle.type_items.specs.Modules as items
use Rattle.typed_values.specs.World.{Among}
use Rattle.told_modules.specs.Schemes.{record_types}
use Rattle.told_modules.proofs.Makers.{records_have}
use Rattle.build_safety.specs.Compiled.{Compiled, AreModules}
use Rattle.build_safety.specs.BuildWorlds.{world}
use Rattle.build_safety.proofs.WorldExact.{among_left, among_right}
use Rattle.build_safety.proofs.TypedLists.{mapped_there, flat_there, none_of}
use Rattle.build_safety.proofs.TypedWanted as wanted
use Rattle.build_safety.proofs.TypedWanted.{Wanted}

names_are : (w : naming.World) (fs : tree.FieldTypes) → field_names (field_types_of w fs) ≡ map name_of (field_words fs)
names_are w tree.NoFieldType = refl
names_are w (tree.MoreFieldType x t fs) = ap (λ ns. name_of x ∷ ns) (names_are w fs)

module _ (before : List Compiled) (c : Compiled) (after : List Compiled) (all : AreModules (before ++ c ∷ after))
    (outs ins : Name → Option Payload) where
  abbrev cs : List Compiled
  cs = before ++ c ∷ after

  abbrev home : Name
  home = wanted.home before c after all

  abbrev ds : List tree.Declaration
  ds = (wanted.written before c after all).declarations

  abbrev names : naming.World
  names = wanted.names before c after all

  abbrev uses : List (List ℕ)
  uses = uses_in ds

  module _ (i : ℕ) (x : Word) (ps : List Word) (fs : tree.FieldTypes)
      (there : Among (i, record { name = x; parameters = ps; body = tree.RecordType fs })
      (enumerate_from 0 (aliases_in ds))) where
    abbrev a : AliasTree
    a = record { name = x; parameters = ps; body = tree.RecordType fs }

    abbrev its_fields : FieldTypes
    its_fields = field_types_of names fs

    abbrev maker : Annotated
    maker = (name_of x, function_to (field_types its_fields) (RecordType its_fields))

    never_itself : uses_itself uses i ≡ false
    never_itself =
        by (uses_itself uses i) _
        (none_of (alias_fault uses) (enumerate_from 0 (aliases_in ds)) (i, a) (wanted.no_recursion before c after all)
        there)
      where
        by : (b : Bool) (f : Finding) → (if b then f ∷ [] else []) ≡ [] → b ≡ false
        by true f e = absurd cc
        by false f e = refl

    alias_there : Among (alias_of names uses (i, a)) (wanted.whole before c after all).aliases
    alias_there =
        subst (Among (alias_of names uses (i, a))) (sym (wanted.is before c after all).types.aliases)
        (mapped_there (alias_of names uses) (enumerate_from 0 (aliases_in ds)) (i, a) there)

    of_alias : Among maker (alias_makers (alias_of names uses (i, a)))
    of_alias =
        subst
        (λ b. Among maker (items.record_maker (name_of x) (if b then blank else type_of names (tree.RecordType fs))))
        (sym never_itself) (inl refl)

    is_declared : Among maker (declared (wanted.whole before c after all))
    is_declared =
        let m = wanted.whole before c after all in
        let us = flat_map (union_makers m.name) m.unions in
        let as_ = flat_map alias_makers m.aliases in
        among_left (us ++ as_) (map (λ (p : PortDeclaration). (p.name, p.port_type)) m.ports) maker
        (among_right us as_ maker
        (flat_there alias_makers m.aliases (alias_of names uses (i, a)) maker alias_there of_alias))

    pub record_typed :
        AllByRecursion (Wanted (world cs outs ins) (wanted.env before c after all))
        (record_maker home x (tree.RecordType fs))
    record_typed = (
      λ carried fields proper kept. inr (inl (record {
        home = home;
        name = name_of x;
        fields = map name_of (field_words fs);
        types = record_types its_fields;
        scheme = annotation_scheme maker.1;
        name_is = refl;
        is = refl;
        known_is = wanted.known_own before c after all maker is_declared;
        scheme_is = (records_have its_fields).type
            ∙ ap (λ ns. functions (record_types its_fields) (closed (zip ns (record_types its_fields))))
            (names_are names fs);
        proper = proper;
        counted = (records_have its_fields).counted ∙ ap length (names_are names fs);
      })),
      tt,
    )
