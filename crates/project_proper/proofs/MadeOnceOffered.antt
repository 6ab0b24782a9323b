-- What a module offers, and the type of its `main`, are the same, whoever tells its types.
use Rattle.std.proofs.Common.{◌≡◌, ℕ, List, [], ◌∷◌, ◌++◌, map, Option, Some, None, refl, sym, ap, ◌∙◌, inl, inr}
use Rattle.std.specs.Prelude.{flat_map}
use Rattle.elm_canon.specs.Names.{Name}
use Rattle.elm_canon.specs.declared.reference.Ref.{Ref}
use Rattle.elm_canon.specs.declared.reference.Ref.TheVariants.{Local, Top}
use Rattle.elm_canon.specs.Tree.{Functions, NoFunction, MoreFunction, Group, Together, Constant, Destructure}
use Rattle.elm_canon.specs.Tree.{Declaration, Given, Define, Module}
use Rattle.elm_type.specs.Types.{Scheme}
use Rattle.canon_env.specs.Shown.{Shown}
use Rattle.interface.specs.Interface.{Value, interface_of}
use Rattle.type_items.specs.Items.{Place}
use Rattle.type_items.specs.Scopes.{Known}
use Rattle.type_items.specs.Definitions.{Definition}
use Rattle.type_items.specs.Expressions.{group_definitions, function_definitions}
use Rattle.type_items.specs.Modules.{definitions_in, module_definitions}
use Rattle.type_items.specs.Inferred.{Schemes, Inferred}
use Rattle.typed_values.specs.World.{Among}
use Rattle.module_offers.specs.Offers.{value, defined_value, function_values, group_values, declared_values}
use Rattle.module_offers.specs.Offers.{port_value, module_values, main_type, module_interface, pattern_count}
use Rattle.module_offers.specs.Offers.{first_type, named_by, is_main, is_offered}
use Rattle.project_proper.proofs.Titles.{ToldAlike, told_alike}

-- ---- members of lists that are joined

among_front : {X : Type 0} (x : X) (xs ys : List X) → Among x xs → Among x (xs ++ ys)
among_front x [] ys m = absurd m
among_front x (y ∷ xs) ys (inl e) = inl e
among_front x (y ∷ xs) ys (inr m) = inr (among_front x xs ys m)

among_back : {X : Type 0} (x : X) (xs ys : List X) → Among x ys → Among x (xs ++ ys)
among_back x [] ys m = m
among_back x (y ∷ xs) ys m = inr (among_back x xs ys m)

-- ---- values

value_alike : (first second : Schemes) (r : Ref) (n : ℕ) → ToldAlike first second r →
    defined_value first r n ≡ defined_value second r n
value_alike first second (Local x) n t = refl
value_alike first second (Top m x) n t =
    ap (value x n) t.first_is
    ∙ (ap (λ s. record { name = x; parameters = n; scheme = s } ∷ []) t.same ∙ sym (ap (value x n) t.second_is))

module _ (m : Module) (env : Known) (p : Place) (first second : Schemes) (a : Inferred m env p first)
    (b : Inferred m env p second) where
  -- definitions of the module
  abbrev Own : List Definition → Type 0
  Own ds = (d : Definition) → Among d ds → Among d (module_definitions m)

  functions_alike : (fs : Functions) → Own (function_definitions fs)
      → function_values first fs ≡ function_values second fs
  functions_alike NoFunction own = refl
  functions_alike (MoreFunction title ps e fs) own =
      ap (λ vs. vs ++ function_values first fs)
      (value_alike first second title.name (pattern_count ps)
      (told_alike m env p first second a b title _ _ (own _ (inl refl))))
      ∙ ap (λ vs. defined_value second title.name (pattern_count ps) ++ vs)
      (functions_alike fs (λ d k. own d (inr k)))

  group_alike : (g : Group) → Own (group_definitions g) → group_values first g ≡ group_values second g
  group_alike (Together fs) own = functions_alike fs own
  group_alike (Constant title e) own =
      value_alike first second title.name 0 (told_alike m env p first second a b title _ _ (own _ (inl refl)))
  group_alike (Destructure q e) own = refl

  declarations_alike : (ds : List Declaration) → Own (flat_map definitions_in ds) →
      flat_map (declared_values first) ds ≡ flat_map (declared_values second) ds
  declarations_alike [] own = refl
  declarations_alike (Given r k ∷ ds) own = declarations_alike ds own
  declarations_alike (Define g ∷ ds) own =
      ap (λ vs. vs ++ flat_map (declared_values first) ds)
      (group_alike g (λ d k. own d (among_front d (group_definitions g) (flat_map definitions_in ds) k)))
      ∙ ap (λ vs. group_values second g ++ vs)
      (declarations_alike ds (λ d k. own d (among_back d (group_definitions g) (flat_map definitions_in ds) k)))

  values_alike : module_values m first ≡ module_values m second
  values_alike = ap (λ vs. vs ++ map port_value m.ports) (declarations_alike m.declarations (λ d k. k))

  pub main_alike : main_type m first ≡ main_type m second
  main_alike = ap (λ vs. first_type (named_by is_main vs)) values_alike

  pub interface_alike : (shown : Shown) → module_interface shown m first ≡ module_interface shown m second
  unfolding module_interface
  interface_alike shown =
      ap (λ vs. interface_of (named_by (is_offered m.name shown) vs) shown.unions shown.aliases) values_alike
