-- The unions of a build's world: `unions_sound`, `unions_declared`.
use Rattle.std.proofs.Common.{◌≡◌, ℕ, ◌+◌, List, [], ◌∷◌, ◌++◌, map, Bool, true, false, inl, inr, refl, sym, ap, subst}
use Rattle.std.proofs.Common.{append_assoc, if◌then◌else◌}
use Rattle.std.specs.List.{zip, enumerate_from}
use Rattle.elm_tree.specs.Tree.{Declaration, Value, Port, Union, Alias, ConstructorOf}
use Rattle.elm_canon.specs.Names.{Name, same_name}
use Rattle.elm_canon.specs.Unions.{Declared}
use Rattle.elm_canon.specs.Tree.{UnionDeclaration}
use Rattle.canon_env.proofs.Adding.{one_name}
use Rattle.canon_env.specs.Imports.{name_of}
use Rattle.canon_env.specs.Naming.{World}
use Rattle.canon_type.specs.Unions.{alternative_of, fields_of, unions_in, union_of}
use Rattle.canon_module.specs.Resolve.{world_of}
use Rattle.typed_values.specs.World.{Constructor, Among}
use Rattle.told_modules.specs.Schemes.{constructor_of}
use Rattle.build_safety.specs.Compiled.{Compiled, home_of, AreModules}
use Rattle.build_safety.proofs.Among.{is_next}
use Rattle.build_safety.specs.BuildWorlds.{constructors, constructors_in, unions_at}
use Rattle.build_safety.proofs.WorldMakers.{makers_known}
use Rattle.build_safety.specs.UnionTags.{AreTagged}
use Rattle.build_safety.proofs.UnionTags.{unions_tagged}
use Rattle.build_safety.specs.WorldUnions.{UnionsAreSound, UnionsAreDeclared}

-- ---- tags

none_tagged : AreTagged []
none_tagged = record {
  counted = λ k a. absurd a;
  told = λ k l a b e. absurd a;
  alike = λ k l a b. absurd a;
  bare = λ k a. absurd a;
  signs = λ k l a b. absurd a;
}

in_tagged : (m x : Name) (us : List UnionDeclaration) →
    ((u : UnionDeclaration) → Among u us → AreTagged (constructors m u)) → AreTagged (constructors_in m us x)
in_tagged m x [] h = none_tagged
in_tagged m x (u ∷ us) h = by (same_name u.name x) (h u (inl refl)) (in_tagged m x us (λ v a. h v (inr a)))
  where
    by : (b : Bool) → AreTagged (constructors m u) → AreTagged (constructors_in m us x) →
        AreTagged (if b then constructors m u else constructors_in m us x)
    by true f g = f
    by false f g = g

all_tagged : (m x : Name) (done cs : List Compiled) → AreModules (done ++ cs) → AreTagged (unions_at cs m x)
all_tagged m x done [] all = none_tagged
all_tagged m x done (c ∷ cs) all =
    by (same_name m (home_of c)) refl
    (all_tagged m x (done ++ c ∷ []) cs (subst AreModules (sym (append_assoc done (c ∷ []) cs)) all))
  where
    here : AreTagged (constructors_in (home_of c) c.resolved.whole.unions x)
    here =
        in_tagged (home_of c) x c.resolved.whole.unions
        (λ u a. unions_tagged c.resolved.setting c.resolved.written c.resolved.whole (is_next done c cs all).is
        (is_next done c cs all).read u a)

    by : (b : Bool) → same_name m (home_of c) ≡ b → AreTagged (unions_at cs m x) →
        AreTagged (if b then constructors_in m c.resolved.whole.unions x else unions_at cs m x)
    by true e rest =
        subst (λ h. AreTagged (constructors_in h c.resolved.whole.unions x)) (sym (one_name m (home_of c) e)) here
    by false e rest = rest

pub unions_sound : UnionsAreSound
unions_sound cs outs ins all m x proper =
    let tagged = all_tagged m x [] cs all in record {
      makes = λ known is_known k a. makers_known cs outs ins all m x known is_known k a;
      counted = tagged.counted;
      closed = λ k a. (proper k a).closed;
      told = tagged.told;
      alike = tagged.alike;
      bare = tagged.bare;
      nodes = λ k a e. (proper k a).node e;
      signs = tagged.signs;
    }

-- ---- alternatives

same_alternatives : (home x : Name) (w : World) (u : UnionDeclaration) (n : ℕ) (cs : List ConstructorOf) →
    map (λ (k : Constructor). k.alternative)
    (map (constructor_of home u) (zip (map (alternative_of home x) (enumerate_from n cs)) (map (fields_of w) cs)))
    ≡ map (alternative_of home x) (enumerate_from n cs)
same_alternatives home x w u n [] = refl
same_alternatives home x w u n (c ∷ cs) =
    ap (λ as_. alternative_of home x (n, c) ∷ as_) (same_alternatives home x w u (n + 1) cs)

each_declared : (home : Name) (w : World) (ds : List Declaration) (u : UnionDeclaration) →
    Among u (map (union_of home w) (unions_in ds)) →
    u.union ≡ Declared home u.name (map (λ (k : Constructor). k.alternative) (constructors home u))
each_declared home w [] u a = absurd a
each_declared home w (Value d ∷ ds) u a = each_declared home w ds u a
each_declared home w (Port y t ∷ ds) u a = each_declared home w ds u a
each_declared home w (Alias y ps t ∷ ds) u a = each_declared home w ds u a
each_declared home w (Union y ps cs ∷ ds) u (inl e) =
    let first = union_of home w (record { name = y; parameters = ps; constructors = cs }) in
    subst
    (λ (z : UnionDeclaration). z.union
    ≡ Declared home z.name (map (λ (k : Constructor). k.alternative) (constructors home z))) (sym e)
    (ap (Declared home (name_of y)) (sym (same_alternatives home (name_of y) w first 0 cs)))
each_declared home w (Union y ps cs ∷ ds) u (inr a) = each_declared home w ds u a

pub unions_declared : UnionsAreDeclared
unions_declared s t m is u a =
    each_declared s.home (world_of s t.declarations m) t.declarations u (subst (Among u) is.types.unions a)
