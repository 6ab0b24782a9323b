-- Each constructor is known as a function of its fields: `makers_known`.
use Rattle.std.proofs.Common.{◌≡◌, ℕ, zero, suc, List, [], ◌∷◌, ◌++◌, map, length, Bool, true, false, Option, Some, None, inl}
use Rattle.std.proofs.Common.{inr, refl, sym, ap, ◌∙◌, subst, if◌then◌else◌, append_assoc}
use Rattle.std.specs.Prelude.{slice_get, option_map, flat_map}
use Rattle.std.specs.List.{zip}
use Rattle.std.specs.Map.{lookup}
use Rattle.std.specs.Option.{option_or}
use Rattle.std.specs.Str.{bytes_eq}
use Rattle.std.proofs.lemmas.Bool.{false≢true}
use Rattle.elm_canon.specs.Names.{Name, same_name}
use Rattle.elm_canon.specs.Unions.{alternatives}
use Rattle.elm_canon.specs.Tree.{Annotation, Annotations, UnionDeclaration, Module, Payload}
use Rattle.elm_canon.specs.declared.reference.Ref.TheVariants.{Top}
use Rattle.elm_canon.specs.declared.unions.Alternative.{Alternative}
use Rattle.elm_type.specs.Types.{Scheme, functions}
use Rattle.canon_env.proofs.Adding.{one_name}
use Rattle.canon_module.specs.Resolve.{module_faults}
use Rattle.canon_proper.proofs.Scopes.{name_itself}
use Rattle.type_items.specs.Annotations.{annotation_scheme}
use Rattle.type_items.specs.Modules.{function_to, union_type, union_makers, alias_makers, declared, known_in}
use Rattle.type_items.specs.Scopes.{Known}
use Rattle.typed_values.specs.World.{Constructor, Among, KnownIn, made_type}
use Rattle.module_offers.specs.Offers.{type_in}
use Rattle.project_proper.specs.Resolved.{HomesApart}
use Rattle.told_modules.specs.Schemes.{constructor_of}
use Rattle.told_modules.proofs.Makers.{makers_have}
use Rattle.build_safety.specs.Compiled.{Compiled, home_of, interface_of, resolved_of, IsCompiled, AreModules}
use Rattle.build_safety.specs.Told.{own, tells, told}
use Rattle.build_safety.proofs.Among.{get_here, compiled_here, is_next}
use Rattle.build_safety.proofs.Told.{other_home, told_at}
use Rattle.build_safety.specs.BuildWorlds.{known_at, constructors, constructors_in, unions_at, world, MakersAreKnown}
use Rattle.build_safety.proofs.WorldExact.{among_left, among_right, found, undefined, offered_exact}

-- ---- where a constructor is declared

pub record IsDeclared (m x : Name) (us : List UnionDeclaration) (k : Constructor) : Type 0 where
  pub union : UnionDeclaration
  pub among : Among union us
  pub name : union.name ≡ x
  pub part : Alternative × Annotations
  pub part_among : Among part (zip (alternatives union.union) union.fields)
  pub is : k ≡ constructor_of m union part

mapped_among : {X Y : Type 0} (f : X → Y) (xs : List X) (y : Y) → Among y (map f xs) → (x : X) × Among x xs × (y ≡ f x)
mapped_among f [] y a = absurd a
mapped_among f (x ∷ xs) y (inl e) = (x, inl refl, e)
mapped_among f (x ∷ xs) y (inr a) = let h = mapped_among f xs y a in (h.0, inr h.1, h.2)

declared_in : (m x : Name) (us : List UnionDeclaration) (k : Constructor) → Among k (constructors_in m us x) →
    IsDeclared m x us k
declared_in m x [] k a = absurd a
declared_in m x (u ∷ us) k a = by (same_name u.name x) refl a (declared_in m x us k)
  where
    by : (b : Bool) → same_name u.name x ≡ b →
        Among k (if b then constructors m u else constructors_in m us x) →
        (Among k (constructors_in m us x) → IsDeclared m x us k) → IsDeclared m x (u ∷ us) k
    by true s c rest =
        let h = mapped_among (constructor_of m u) (zip (alternatives u.union) u.fields) k c in record {
          union = u;
          among = inl refl;
          name = one_name u.name x s;
          part = h.0;
          part_among = h.1;
          is = h.2;
        }
    by false s c rest =
        let h = rest c in record {
          union = h.union;
          among = inr h.among;
          name = h.name;
          part = h.part;
          part_among = h.part_among;
          is = h.is;
        }

-- a module among others
pub record IsAt (cs : List Compiled) (m x : Name) (k : Constructor) : Type 0 where
  pub before : List Compiled
  pub by : Compiled
  pub after : List Compiled
  pub split : before ++ by ∷ after ≡ cs
  pub home : home_of by ≡ m
  pub declared : IsDeclared m x by.resolved.whole.unions k

declared_at : (cs : List Compiled) (m x : Name) (k : Constructor) → Among k (unions_at cs m x) → IsAt cs m x k
declared_at [] m x k a = absurd a
declared_at (c ∷ cs) m x k a = by (same_name m (home_of c)) refl a (declared_at cs m x k)
  where
    by : (b : Bool) → same_name m (home_of c) ≡ b →
        Among k (if b then constructors_in m c.resolved.whole.unions x else unions_at cs m x) →
        (Among k (unions_at cs m x) → IsAt cs m x k) → IsAt (c ∷ cs) m x k
    by true s d rest = record {
      before = [];
      by = c;
      after = cs;
      split = refl;
      home = sym (one_name m (home_of c) s);
      declared = declared_in m x c.resolved.whole.unions k d;
    }
    by false s d rest =
        let h = rest d in record {
          before = c ∷ h.before;
          by = h.by;
          after = h.after;
          split = ap (λ ds. c ∷ ds) h.split;
          home = h.home;
          declared = h.declared;
        }

-- its type stands among those that its module declares
mapped_there : {X Y : Type 0} (f : X → Y) (xs : List X) (x : X) → Among x xs → Among (f x) (map f xs)
mapped_there f [] x a = absurd a
mapped_there f (z ∷ xs) x (inl e) = inl (ap f e)
mapped_there f (z ∷ xs) x (inr a) = inr (mapped_there f xs x a)

flat_there : {X Y : Type 0} (f : X → List Y) (xs : List X) (x : X) (y : Y) → Among x xs → Among y (f x) →
    Among y (flat_map f xs)
flat_there f [] x y a b = absurd a
flat_there f (z ∷ xs) x y (inl e) b =
    among_left (f z) (flat_map f xs) y (subst (λ v. Among y (f v)) e b)
flat_there f (z ∷ xs) x y (inr a) b = among_right (f z) (flat_map f xs) y (flat_there f xs x y a b)

-- ---- two modules of one name

one_place : (cs : List Compiled) (i j : ℕ) (c d : Compiled) → HomesApart (resolved_of cs) → slice_get cs i ≡ Some c →
    slice_get cs j ≡ Some d → home_of c ≡ home_of d → c ≡ d
one_place [] i j c d apart a b e = absurd cc
one_place (x ∷ cs) zero zero c d apart a b e = let p : x ≡ c = cc in let q : x ≡ d = cc in sym p ∙ q
one_place (x ∷ cs) zero (suc j) c d apart a b e =
    let p : x ≡ c = cc in
    absurd (false≢true (sym (other_home (home_of x) cs j d apart.0 b)
    ∙ subst (λ h. same_name (home_of x) h ≡ true) (ap (λ (z : Compiled). home_of z) p ∙ e) (name_itself (home_of x))))
one_place (x ∷ cs) (suc i) zero c d apart a b e =
    let p : x ≡ d = cc in
    absurd (false≢true (sym (other_home (home_of x) cs i c apart.0 a)
    ∙ subst (λ h. same_name (home_of x) h ≡ true) (ap (λ (z : Compiled). home_of z) p ∙ sym e) (name_itself (home_of x))))
one_place (x ∷ cs) (suc i) (suc j) c d apart a b e = one_place cs i j c d apart.1 a b e

-- ---- a constructor of a module

module _ (before : List Compiled) (c : Compiled) (after : List Compiled) (all : AreModules (before ++ c ∷ after))
    (x : Name) (a : Annotation)
    (declares : Among (x, a) (flat_map (union_makers c.resolved.whole.name) c.resolved.whole.unions)) where
  abbrev cs : List Compiled
  cs = before ++ c ∷ after

  abbrev m : Module
  m = c.resolved.whole

  is : IsCompiled before c
  is = compiled_here before c after all

  no_faults : module_faults c.resolved.setting c.resolved.written m ≡ []
  no_faults =
      subst (λ s. module_faults s c.resolved.written m ≡ []) (sym is.setting) is.typed.is_named.named

  name : m.name ≡ home_of c
  name = (is_next before c after all).is.name

  maker : Among (x, a) (flat_map (union_makers m.name) m.unions ++ flat_map alias_makers m.aliases)
  maker = among_left (flat_map (union_makers m.name) m.unions) (flat_map alias_makers m.aliases) (x, a) declares

  looked : lookup (bytes_eq x) (declared m) ≡ Some a
  looked =
      found c.resolved.setting c.resolved.written m (is_next before c after all).is (is_next before c after all).read
      no_faults is.given c.told (x, a)
      (among_left (flat_map (union_makers m.name) m.unions ++ flat_map alias_makers m.aliases)
      (map (λ q. (q.name, q.port_type)) m.ports) (x, a) maker)

  own_is : own c x ≡ Some (annotation_scheme a)
  own_is =
      ap (λ b. if b then c.told (Top (home_of c) x) else option_map annotation_scheme (lookup (bytes_eq x) (declared m)))
      (undefined c.resolved.setting c.resolved.written m (is_next before c after all).is
      (is_next before c after all).read no_faults is.given c.told x a looked)
      ∙ ap (option_map annotation_scheme) looked

  tells_is : tells c x ≡ Some (annotation_scheme a)
  tells_is = by (type_in (home_of c) (Some (interface_of c)) x) refl
    where
      by : (o : Option Scheme) → type_in (home_of c) (Some (interface_of c)) x ≡ o →
          option_or o (own c x) ≡ Some (annotation_scheme a)
      by None e = own_is
      by (Some k) e =
          ap (λ z. Some z)
          (offered_exact c.resolved.setting c.resolved.written m (is_next before c after all).is
          (is_next before c after all).read no_faults is.given c.told x k a maker
          (subst (λ h. type_in h (Some (interface_of c)) x ≡ Some k) (sym name) e))

  told_is : told cs (home_of c) x ≡ Some (annotation_scheme a)
  told_is = told_at cs (length before) c all.resolved.apart (get_here before after c) x ∙ tells_is

  -- where a module of the build stands
  inside : (done : List Compiled) (d : Compiled) (rest : List Compiled) → done ++ d ∷ rest ≡ cs →
      known_in d.resolved.whole (told cs) (home_of c) x ≡ Some (annotation_scheme a)
  inside done d rest e = by (bytes_eq (home_of c) d.resolved.whole.name) refl
    where
      its_name : d.resolved.whole.name ≡ home_of d
      its_name = (is_next done d rest (subst AreModules (sym e) all)).is.name

      by : (b : Bool) → bytes_eq (home_of c) d.resolved.whole.name ≡ b →
          (if b then option_map annotation_scheme (lookup (bytes_eq x) (declared d.resolved.whole))
          else told cs (home_of c) x) ≡ Some (annotation_scheme a)
      by false s = told_is
      by true s =
          let same = one_place cs (length before) (length done) c d all.resolved.apart (get_here before after c)
          (subst (λ ds. slice_get ds (length done) ≡ Some d) e (get_here done rest d))
          (one_name (home_of c) d.resolved.whole.name s ∙ its_name) in
          subst
          (λ (z : Compiled). option_map annotation_scheme (lookup (bytes_eq x) (declared z.resolved.whole))
          ≡ Some (annotation_scheme a)) same (ap (option_map annotation_scheme) looked)

  everywhere : (done rest : List Compiled) (n : Name) → done ++ rest ≡ cs →
      known_at rest (told cs) n (home_of c) x ≡ Some (annotation_scheme a)
  everywhere done [] n e = told_is
  everywhere done (d ∷ rest) n e =
      by (same_name n (home_of d)) (inside done d rest e)
      (everywhere (done ++ d ∷ []) rest n (append_assoc done (d ∷ []) rest ∙ e))
    where
      by : (b : Bool) → known_in d.resolved.whole (told cs) (home_of c) x ≡ Some (annotation_scheme a) →
          known_at rest (told cs) n (home_of c) x ≡ Some (annotation_scheme a) →
          (if b then known_in d.resolved.whole (told cs) else known_at rest (told cs) n) (home_of c) x
          ≡ Some (annotation_scheme a)
      by true f g = f
      by false f g = g

-- ---- all

module _ (cs : List Compiled) (outs ins : Name → Option Payload) (all : AreModules cs) (m x : Name) (known : Known)
    (is_known : KnownIn (world cs outs ins) known) (k : Constructor) (h : IsAt cs m x k) where
  abbrev u : UnionDeclaration
  u = h.declared.union

  abbrev a : Annotation
  a = function_to h.declared.part.1 (union_type m u)

  its_name : h.by.resolved.whole.name ≡ m
  its_name = (is_next h.before h.by h.after (subst AreModules (sym h.split) all)).is.name ∙ h.home

  listed : Among (h.declared.part.0.name, a)
      (flat_map (union_makers h.by.resolved.whole.name) h.by.resolved.whole.unions)
  listed =
      subst (λ n. Among (h.declared.part.0.name, a) (flat_map (union_makers n) h.by.resolved.whole.unions))
      (sym its_name)
      (flat_there (union_makers m) h.by.resolved.whole.unions u (h.declared.part.0.name, a) h.declared.among
      (mapped_there (λ (e : Alternative × Annotations). (e.0.name, function_to e.1 (union_type m u)))
      (zip (alternatives u.union) u.fields) h.declared.part h.declared.part_among))

  there : known m h.declared.part.0.name ≡ Some (annotation_scheme a)
  there =
      ap (λ (f : Known). f m h.declared.part.0.name) is_known.1
      ∙ subst (λ ds. known_at ds (told ds) is_known.0 m h.declared.part.0.name ≡ Some (annotation_scheme a)) h.split
      (subst
      (λ n. known_at (h.before ++ h.by ∷ h.after) (told (h.before ++ h.by ∷ h.after)) is_known.0 n
      h.declared.part.0.name ≡ Some (annotation_scheme a)) h.home
      (everywhere h.before h.by h.after (subst AreModules (sym h.split) all) h.declared.part.0.name a listed []
      (h.before ++ h.by ∷ h.after) is_known.0 refl))

  one_known : (s : Scheme) × (known m k.alternative.name ≡ Some s) × (s.type ≡ functions k.fields (made_type m x k))
  one_known =
      subst
      (λ (z : Constructor). (s : Scheme) × (known m z.alternative.name ≡ Some s)
      × (s.type ≡ functions z.fields (made_type m x z))) (sym h.declared.is) (
        annotation_scheme a,
        there,
        makers_have m u h.declared.part
            ∙ ap (λ y. functions (constructor_of m u h.declared.part).fields
            (made_type m y (constructor_of m u h.declared.part))) h.declared.name,
      )

pub makers_known : MakersAreKnown
makers_known cs outs ins all m x known is_known k a =
    one_known cs outs ins all m x known is_known k (declared_at cs m x k a)
