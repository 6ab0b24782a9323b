-- Worlds in which the names of types mean the same: written types mean the same there, and have the same faults.
use Rattle.std.proofs.Common.{◌≡◌, ℕ, List, [], ◌∷◌, ◌++◌, if◌then◌else◌, map, refl, sym, ap, ◌∙◌}
use Rattle.std.specs.Prelude.{flat_map}
use Rattle.std.proofs.lemmas.Grind.{flat_map-append}
use Rattle.elm_base.specs.declared.fault.Code.TheVariants.{UnknownType}
use Rattle.elm_tree.specs.Tree as tree
use Rattle.elm_tree.specs.Tree.{TypeTree, TypeTrees, NoType, MoreType, TypeVariable, TypeName, Long, Word, ConstructorOf}
use Rattle.elm_tree.specs.Tree.{Declaration}
use Rattle.elm_canon.specs.Names.{Name}
use Rattle.elm_canon.specs.Tree.{Annotations, UnionDeclaration}
use Rattle.elm_canon.specs.Unions.{Declared}
use Rattle.decl_groups.specs.InOrder.{uses_itself}
use Rattle.canon_env.specs.Imports.{name_of}
use Rattle.canon_env.specs.Naming.{World, type_found}
use Rattle.canon_env.specs.Expanding.{blank}
use Rattle.canon_env.specs.Sites.{Site, TypeUse, FieldsTogether, faults_at, unless_one, type_faults}
use Rattle.canon_env.specs.Types.{type_of, types_of, type_sites, type_sites_in, field_type_sites, field_words}
use Rattle.canon_type.specs.Written.{AliasTree, names_in, names_in_all, aliases_in}
use Rattle.canon_type.specs.Unions.{UnionTree, alternatives_of, fields_of, union_of, unions_in, constructor_sites}
use Rattle.canon_type.specs.Unions.{union_sites}
use Rattle.canon_type.specs.Types.{standing_for, alias_of}
use Rattle.canon_type.proofs.Agreeing.{Each, Same, type_agrees, types_agree}
use Rattle.canon_type.specs.DeclaredTypes.{alias_sites, declared_sites}

pub map_same : {X Y : Type 0} → (f g : X → Y) → ((x : X) → f x ≡ g x) → (xs : List X) → map f xs ≡ map g xs
map_same f g e [] = refl
map_same f g e (x ∷ xs) = ap (λ z. z ∷ map f xs) (e x) ∙ ap (λ z. g x ∷ z) (map_same f g e xs)

pub flat_flat : {X Y Z : Type 0} → (f : Y → List Z) (g : X → List Y) (xs : List X) →
    flat_map (λ x. flat_map f (g x)) xs ≡ flat_map f (flat_map g xs)
flat_flat f g [] = refl
flat_flat f g (x ∷ xs) =
    ap (λ z. flat_map f (g x) ++ z) (flat_flat f g xs) ∙ sym (flat_map-append f (g x) (flat_map g xs))

module _ (w v : World) (same : (x : Long) → Same w v x) where
  each_same : (xs : List Long) → Each (Same w v) xs
  each_same [] = tt
  each_same (x ∷ xs) = (same x, each_same xs)

  one_type : (t : TypeTree) → type_of w t ≡ type_of v t
  one_type t = type_agrees w v t (each_same (names_in t))

  one_types : (ts : TypeTrees) → types_of w ts ≡ types_of v ts
  one_types ts = types_agree w v ts (each_same (names_in_all ts))

  -- ---- what is declared

  pub one_union : (home : Name) (u : UnionTree) → union_of home w u ≡ union_of home v u
  one_union home u =
      let made : List Annotations → UnionDeclaration = λ fs. record {
        name = name_of u.name;
        union = Declared home (name_of u.name) (alternatives_of home (name_of u.name) u.constructors);
        parameters = map name_of u.parameters;
        fields = fs;
      } in
      ap made (map_same (fields_of w) (fields_of v) (λ c. one_types c.fields) u.constructors)

  pub one_alias : (uses : List (List ℕ)) (a : ℕ × AliasTree) → alias_of w uses a ≡ alias_of v uses a
  one_alias uses a =
      ap (standing_for a.1) (ap (λ t. if uses_itself uses a.0 then blank else t) (one_type a.1.body))

  -- ---- faults

  both : (a b c d : List Site) → flat_map (faults_at w) a ≡ flat_map (faults_at v) b →
      flat_map (faults_at w) c ≡ flat_map (faults_at v) d →
      flat_map (faults_at w) (a ++ c) ≡ flat_map (faults_at v) (b ++ d)
  both a b c d e f =
      flat_map-append (faults_at w) a c ∙ ap (λ z. z ++ flat_map (faults_at w) c) e
      ∙ ap (λ z. flat_map (faults_at v) b ++ z) f ∙ sym (flat_map-append (faults_at v) b d)

  use_faults : (x : Long) (ts : TypeTrees) →
      faults_at w (TypeUse x (types_of w ts)) ≡ faults_at v (TypeUse x (types_of v ts))
  unfolding faults_at
  use_faults x ts =
      ap (λ f. unless_one UnknownType x f (type_faults x (types_of w ts))) (same x)
      ∙ ap (λ us. unless_one UnknownType x (type_found v x) (type_faults x us)) (one_types ts)

  together : (ws : List Word) → faults_at w (FieldsTogether ws) ≡ faults_at v (FieldsTogether ws)
  unfolding faults_at
  together ws = refl

  mutual
    in_type : (t : TypeTree) → flat_map (faults_at w) (type_sites w t) ≡ flat_map (faults_at v) (type_sites v t)
    in_type (TypeVariable a) = refl
    in_type (TypeName x ts) =
        both (type_sites_in w ts) (type_sites_in v ts) (TypeUse x (types_of w ts) ∷ []) (TypeUse x (types_of v ts) ∷ [])
        (in_types ts) (ap (λ z. z ++ []) (use_faults x ts))
    in_type (tree.FunctionType ts) = in_types ts
    in_type (tree.TupleType ts) = in_types ts
    in_type (tree.RecordType fs) =
        both (field_type_sites w fs) (field_type_sites v fs) (FieldsTogether (field_words fs) ∷ [])
        (FieldsTogether (field_words fs) ∷ []) (in_fields fs) (ap (λ z. z ++ []) (together (field_words fs)))
    in_type (tree.ExtendedType a fs) =
        both (field_type_sites w fs) (field_type_sites v fs) (FieldsTogether (field_words fs) ∷ [])
        (FieldsTogether (field_words fs) ∷ []) (in_fields fs) (ap (λ z. z ++ []) (together (field_words fs)))

    in_types : (ts : TypeTrees) →
        flat_map (faults_at w) (type_sites_in w ts) ≡ flat_map (faults_at v) (type_sites_in v ts)
    in_types NoType = refl
    in_types (MoreType t ts) =
        both (type_sites w t) (type_sites v t) (type_sites_in w ts) (type_sites_in v ts) (in_type t) (in_types ts)

    in_fields : (fs : tree.FieldTypes) →
        flat_map (faults_at w) (field_type_sites w fs) ≡ flat_map (faults_at v) (field_type_sites v fs)
    in_fields tree.NoFieldType = refl
    in_fields (tree.MoreFieldType x t fs) =
        both (type_sites w t) (type_sites v t) (field_type_sites w fs) (field_type_sites v fs) (in_type t) (in_fields fs)

  in_union : (cs : List ConstructorOf) →
      flat_map (faults_at w) (flat_map (constructor_sites w) cs)
      ≡ flat_map (faults_at v) (flat_map (constructor_sites v) cs)
  in_union [] = refl
  in_union (c ∷ cs) =
      both (constructor_sites w c) (constructor_sites v c) (flat_map (constructor_sites w) cs)
      (flat_map (constructor_sites v) cs) (in_types c.fields) (in_union cs)

  in_unions : (us : List UnionTree) →
      flat_map (faults_at w) (flat_map (union_sites w) us) ≡ flat_map (faults_at v) (flat_map (union_sites v) us)
  in_unions [] = refl
  in_unions (u ∷ us) =
      both (union_sites w u) (union_sites v u) (flat_map (union_sites w) us) (flat_map (union_sites v) us)
      (in_union u.constructors) (in_unions us)

  in_aliases : (as_now : List AliasTree) →
      flat_map (faults_at w) (flat_map (alias_sites w) as_now) ≡ flat_map (faults_at v) (flat_map (alias_sites v) as_now)
  in_aliases [] = refl
  in_aliases (a ∷ as_now) =
      both (alias_sites w a) (alias_sites v a) (flat_map (alias_sites w) as_now) (flat_map (alias_sites v) as_now)
      (in_type a.body) (in_aliases as_now)

  pub one_faults : (ds : List Declaration) →
      flat_map (faults_at w) (declared_sites w ds) ≡ flat_map (faults_at v) (declared_sites v ds)
  one_faults ds =
      both (flat_map (union_sites w) (unions_in ds)) (flat_map (union_sites v) (unions_in ds))
      (flat_map (alias_sites w) (aliases_in ds)) (flat_map (alias_sites v) (aliases_in ds)) (in_unions (unions_in ds))
      (in_aliases (aliases_in ds))
