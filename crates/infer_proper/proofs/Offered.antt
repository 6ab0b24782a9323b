-- What a module offers can be written into a store.
use Rattle.std.proofs.Common.{◌≡◌, ℕ, List, [], ◌∷◌, ◌++◌, map, Bool, true, false, if◌then◌else◌, Option, Some, None}
use Rattle.std.proofs.Common.{refl, sym, subst}
use Rattle.std.specs.Prelude.{flat_map}
use Rattle.std.specs.List.{AllByRecursion, filter, zip}
use Rattle.elm_canon.specs.Names.{Name}
use Rattle.elm_canon.specs.Unions.{alternatives}
use Rattle.elm_canon.specs.declared.reference.Ref.{Ref}
use Rattle.elm_canon.specs.declared.reference.Ref.TheVariants.{Local, Top}
use Rattle.elm_canon.specs.declared.unions.Alternative.{Alternative}
use Rattle.elm_canon.specs.Tree.{Functions, NoFunction, MoreFunction, Group, Together, Constant, Destructure}
use Rattle.elm_canon.specs.Tree.{Declaration, Given, Define, Annotations, UnionDeclaration, AliasDeclaration}
use Rattle.elm_canon.specs.Tree.{PortDeclaration, Module}
use Rattle.elm_type.specs.Types.{Scheme}
use Rattle.canon_env.specs.Shown.{Shown}
use Rattle.canon_module.specs.Offers.{opaque, offered_by, unions_by, aliases_by}
use Rattle.interface.specs.Interface.{Value, Interface, interface_of}
use Rattle.type_items.specs.Modules.{Annotated, function_to, union_type, union_makers, alias_makers}
use Rattle.type_items.specs.Inferred.{Schemes}
use Rattle.infer_types.specs.Once.{FieldsOnce}
use Rattle.infer.specs.Known.{Typed, as_scheme, OfferedWritten}
use Rattle.infer.specs.Modules.{SchemesWritten}
use Rattle.module_offers.specs.Offers.{value, defined_value, pattern_count, function_values, group_values}
use Rattle.module_offers.specs.Offers.{declared_values, port_value, module_values, is_offered, named_by}
use Rattle.module_offers.specs.Offers.{module_interface}
use Rattle.infer_proper.specs.Sound.{IsOpaque, AreOpaque}
use Rattle.infer_proper.proofs.Lists.{empty, all_implied, all_both, all_passed, all_ordered}
use Rattle.infer_proper.proofs.Lists.{all_mapped, all_flat, each_flat}
use Rattle.infer_proper.proofs.Writing.{Writes, ordered_written, annotated_written, renamed_written}

abbrev pub Once : Annotated → Type 0
Once d = FieldsOnce d.1

abbrev pub ValueWritten : Value → Type 0
ValueWritten v = Writes v.scheme

abbrev pub UnionOnce : Name → UnionDeclaration → Type 0
UnionOnce home u = AllByRecursion Once (union_makers home u)

abbrev pub AliasOnce : AliasDeclaration → Type 0
AliasOnce a = AllByRecursion Once (alias_makers a)

-- ---- values

module _ (told : Schemes) (written : SchemesWritten told) where
  value_written : (r : Ref) (x : Name) (n : ℕ) → AllByRecursion ValueWritten (value x n (told r))
  value_written r x n = by (told r) refl
    where
      by : (o : Option Scheme) → told r ≡ o → AllByRecursion ValueWritten (value x n o)
      by None e = tt
      by (Some s) e = (ordered_written s (written r s e), tt)

  defined_written : (r : Ref) (n : ℕ) → AllByRecursion ValueWritten (defined_value told r n)
  defined_written (Local x) n = tt
  defined_written (Top m x) n = value_written (Top m x) x n

  functions_written : (fs : Functions) → AllByRecursion ValueWritten (function_values told fs)
  functions_written NoFunction = tt
  functions_written (MoreFunction title ps e fs) =
      all_both ValueWritten (defined_value told title.name (pattern_count ps)) (function_values told fs)
      (defined_written title.name (pattern_count ps)) (functions_written fs)

  group_written : (g : Group) → AllByRecursion ValueWritten (group_values told g)
  group_written (Together fs) = functions_written fs
  group_written (Constant title e) = defined_written title.name 0
  group_written (Destructure p e) = tt

  declaration_written : (d : Declaration) → AllByRecursion ValueWritten (declared_values told d)
  declaration_written (Given r k) = tt
  declaration_written (Define g) = group_written g

  declarations_written : (ds : List Declaration) → AllByRecursion ValueWritten (flat_map (declared_values told) ds)
  declarations_written [] = tt
  declarations_written (d ∷ ds) =
      all_both ValueWritten (declared_values told d) (flat_map (declared_values told) ds) (declaration_written d)
      (declarations_written ds)

  ports_written : (ps : List PortDeclaration) → AllByRecursion Once (map (λ p. (p.name, p.port_type)) ps)
      → AllByRecursion ValueWritten (map port_value ps)
  ports_written [] h = tt
  ports_written (p ∷ ps) h = (renamed_written p.port_type h.0, ports_written ps h.1)

  pub values_written : (m : Module) → AllByRecursion Once (map (λ p. (p.name, p.port_type)) m.ports)
      → AllByRecursion ValueWritten (module_values m told)
  values_written m ports =
      all_both ValueWritten (flat_map (declared_values told) m.declarations) (map port_value m.ports)
      (declarations_written m.declarations) (ports_written m.ports ports)

-- ---- unions

no_pairs : {A B : Type 0} (xs : List A) (ys : List B) → ys ≡ [] → zip xs ys ≡ []
no_pairs [] ys e = refl
no_pairs (x ∷ xs) [] e = refl
no_pairs (x ∷ xs) (y ∷ ys) e = absurd cc

no_fields : (home : Name) (u : UnionDeclaration) → u.fields ≡ [] → UnionOnce home u
no_fields home u e =
    subst
    (λ (ps : List (Alternative × Annotations)).
    AllByRecursion Once (map (λ (c : Alternative × Annotations). (c.0.name, function_to c.1 (union_type home u))) ps))
    (sym (no_pairs (alternatives u.union) u.fields e)) tt

opaque_once : (home : Name) (us : List UnionDeclaration) → AreOpaque us → AllByRecursion (UnionOnce home) us
opaque_once home us h =
    all_implied IsOpaque (UnionOnce home) (λ u o. no_fields home u (empty u.fields o.fields)) us h

one_offered : (home : Name) (opens : Name → Bool) (u : UnionDeclaration) → UnionOnce home u
    → UnionOnce home (offered_by opens u)
one_offered home opens u h = by (opens u.name)
  where
    by : (b : Bool) → UnionOnce home (if b then u else opaque u)
    by true = h
    by false = no_fields home (opaque u) refl

shown_unions : (home : Name) (shows opens : Name → Bool) (us : List UnionDeclaration)
    → AllByRecursion (UnionOnce home) us → AllByRecursion (UnionOnce home) (unions_by shows opens us)
shown_unions home shows opens us h =
    let passed = filter (λ (u : UnionDeclaration). shows u.name) us in
    all_mapped (UnionOnce home) (offered_by opens) passed
    (all_implied (UnionOnce home) (λ u. UnionOnce home (offered_by opens u)) (one_offered home opens) passed
    (all_passed (UnionOnce home) (λ (u : UnionDeclaration). shows u.name) us h))

pub unions_once : (home : Name) (shows opens : Name → Bool) (given us : List UnionDeclaration) → AreOpaque given
    → AllByRecursion Once (flat_map (union_makers home) us)
    → AllByRecursion (UnionOnce home) (unions_by shows opens (given ++ us))
unions_once home shows opens given us o h =
    shown_unions home shows opens (given ++ us)
    (all_both (UnionOnce home) given us (opaque_once home given o) (each_flat Once (union_makers home) us h))

-- ---- aliases

pub aliases_once : (shows : Name → Bool) (ds : List AliasDeclaration) → AllByRecursion Once (flat_map alias_makers ds)
    → AllByRecursion AliasOnce (aliases_by shows ds)
aliases_once shows ds h =
    all_passed AliasOnce (λ (a : AliasDeclaration). shows a.name) ds (each_flat Once alias_makers ds h)

-- ---- the interface

abbrev TypedWritten : Typed → Type 0
TypedWritten t = Writes t.1

once_written : (ds : List Annotated) → AllByRecursion Once ds → AllByRecursion TypedWritten (map as_scheme ds)
once_written [] h = tt
once_written (d ∷ ds) h = (annotated_written d.1 h.0, once_written ds h.1)

typed_values : (vs : List Value) → AllByRecursion ValueWritten vs
    → AllByRecursion TypedWritten (map (λ v. (v.name, v.scheme)) vs)
typed_values [] h = tt
typed_values (v ∷ vs) h = (h.0, typed_values vs h.1)

interface_written : (home : Name) (i : Interface) → AllByRecursion ValueWritten i.values
    → AllByRecursion (UnionOnce home) i.unions → AllByRecursion AliasOnce i.aliases → OfferedWritten home i
interface_written home i values unions aliases =
    let makers = flat_map (union_makers home) i.unions in
    let records = flat_map alias_makers i.aliases in
    all_both TypedWritten (map (λ v. (v.name, v.scheme)) i.values) (map as_scheme (makers ++ records))
    (typed_values i.values values)
    (once_written (makers ++ records)
    (all_both Once makers records (all_flat Once (union_makers home) i.unions unions)
    (all_flat Once alias_makers i.aliases aliases)))

-- parts in order of their names
pub parts_written : (home : Name) (values : List Value) (unions : List UnionDeclaration)
    (aliases : List AliasDeclaration) → AllByRecursion ValueWritten values
    → AllByRecursion (UnionOnce home) unions → AllByRecursion AliasOnce aliases
    → OfferedWritten home (interface_of values unions aliases)
parts_written home values unions aliases v u a =
    interface_written home (interface_of values unions aliases)
    (all_ordered ValueWritten (λ (v : Value). v.name) values v)
    (all_ordered (UnionOnce home) (λ (u : UnionDeclaration). u.name) unions u)
    (all_ordered AliasOnce (λ (a : AliasDeclaration). a.name) aliases a)

-- with the values that are offered
pub offered_written : (home : Name) (shown : Shown) (m : Module) (told : Schemes) → SchemesWritten told
    → AllByRecursion Once (map (λ p. (p.name, p.port_type)) m.ports)
    → AllByRecursion (UnionOnce home) shown.unions → AllByRecursion AliasOnce shown.aliases
    → OfferedWritten home (module_interface shown m told)
unfolding module_interface
offered_written home shown m told written ports unions aliases =
    parts_written home (named_by (is_offered m.name shown) (module_values m told)) shown.unions shown.aliases
    (all_passed ValueWritten (λ (v : Value). is_offered m.name shown v.name) (module_values m told)
    (values_written told written m ports)) unions aliases
