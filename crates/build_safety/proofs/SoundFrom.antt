-- Of which module and union a constructor of the world of a build is.
use Rattle.std.proofs.Common.{◌≡◌, ℕ, zero, suc, ◌+◌, List, [], ◌∷◌, ◌++◌, map, Bool, true, false, Some, inl, inr, refl}
use Rattle.std.proofs.Common.{sym, ap, ◌∙◌, subst, append_assoc, if◌then◌else◌, pos, negsuc, codes}
use Rattle.std.specs.Prelude.{◌&&◌, nat_eq, slice_get}
use Rattle.std.specs.List.{zip, enumerate_from}
use Rattle.elm_tree.specs.Tree.{Declaration, Value, Port, Union, Alias, ConstructorOf}
use Rattle.elm_canon.specs.Names.{Name, same_name}
use Rattle.elm_canon.specs.declared.unions.Tag.TheVariants.{Number, Truth}
use Rattle.elm_canon.specs.Tree.{UnionDeclaration}
use Rattle.canon_env.proofs.Adding.{one_name}
use Rattle.canon_env.specs.Imports.{name_of}
use Rattle.canon_env.specs.Naming.{World}
use Rattle.canon_type.specs.Unions.{is_type, tag_of, alternative_of, fields_of, unions_in, union_of}
use Rattle.typed_values.specs.World.{Constructor, Among}
use Rattle.told_modules.specs.Schemes.{constructor_of}
use Rattle.build_safety.specs.Compiled.{Compiled, home_of}
use Rattle.build_safety.specs.BuildWorlds.{constructors, constructors_in, unions_at}

-- ---- a module at its place

pub record Parted {X : Type 0} (xs : List X) (x : X) : Type 0 where
  pub before : List X
  pub after : List X
  pub is : before ++ x ∷ after ≡ xs

pub parted : {X : Type 0} (xs : List X) (i : ℕ) (x : X) → slice_get xs i ≡ Some x → Parted xs x
parted [] i x e = absurd cc
parted (y ∷ xs) zero x e =
    let s : x ≡ y = cc in record { before = []; after = xs; is = ap (λ z. z ∷ xs) s }
parted (y ∷ xs) (suc i) x e =
    let r = parted xs i x e in record { before = y ∷ r.before; after = r.after; is = ap (λ zs. y ∷ zs) r.is }

-- ---- constructors

pub record IsFrom (cs : List Compiled) (m x : Name) (k : Constructor) : Type 0 where
  pub before : List Compiled
  pub by : Compiled
  pub after : List Compiled
  pub is : before ++ by ∷ after ≡ cs
  pub home : m ≡ home_of by
  pub declared : UnionDeclaration
  pub among : Among declared by.resolved.whole.unions
  pub name : declared.name ≡ x
  pub made : Among k (constructors (home_of by) declared)

record IsOf (m x : Name) (us : List UnionDeclaration) (k : Constructor) : Type 0 where
  declared : UnionDeclaration
  among : Among declared us
  name : declared.name ≡ x
  made : Among k (constructors m declared)

in_union : (m x : Name) (us : List UnionDeclaration) (k : Constructor) → Among k (constructors_in m us x)
    → IsOf m x us k
in_union m x [] k a = absurd a
in_union m x (u ∷ us) k a = by (same_name u.name x) refl a (λ b. in_union m x us k b)
  where
    by : (b : Bool) → same_name u.name x ≡ b → Among k (if b then constructors m u else constructors_in m us x)
        → (Among k (constructors_in m us x) → IsOf m x us k) → IsOf m x (u ∷ us) k
    by true is c rest = record { declared = u; among = inl refl; name = one_name u.name x is; made = c }
    by false is c rest =
        let r = rest c in
        record { declared = r.declared; among = inr r.among; name = r.name; made = r.made }

from : (m x : Name) (done cs : List Compiled) (k : Constructor) → Among k (unions_at cs m x)
    → IsFrom (done ++ cs) m x k
from m x done [] k a = absurd a
from m x done (c ∷ cs) k a =
    by (same_name m (home_of c)) refl a
    (λ b. subst (λ z. IsFrom z m x k) (append_assoc done (c ∷ []) cs) (from m x (done ++ c ∷ []) cs k b))
  where
    by : (b : Bool) → same_name m (home_of c) ≡ b
        → Among k (if b then constructors_in m c.resolved.whole.unions x else unions_at cs m x)
        → (Among k (unions_at cs m x) → IsFrom (done ++ c ∷ cs) m x k) → IsFrom (done ++ c ∷ cs) m x k
    by true is d rest =
        let r = in_union m x c.resolved.whole.unions k d in record {
          before = done;
          by = c;
          after = cs;
          is = refl;
          home = one_name m (home_of c) is;
          declared = r.declared;
          among = r.among;
          name = r.name;
          made = subst (λ z. Among k (constructors z r.declared)) (one_name m (home_of c) is) r.made;
        }
    by false is d rest = rest d

pub from_one : (m x : Name) (cs : List Compiled) (k : Constructor) → Among k (unions_at cs m x) → IsFrom cs m x k
from_one m x cs k a = from m x [] cs k a

-- ---- their tags

both : (b c : Bool) → (b && c) ≡ true → (b ≡ true) × (c ≡ true)
both true c e = (refl, e)
both false c e = absurd cc

-- the number -1 is that of dictionaries
pub dictionary : (m x : Name) (i : ℕ) → tag_of m x i ≡ Number (negsuc 0) → (m ≡ codes "Dict") × (x ≡ codes "Dict")
dictionary m x i e =
    let t = both (same_name m (codes "Dict")) (same_name x (codes "Dict"))
    (by (is_type (codes "Basics") (codes "Bool") m x) (is_type (codes "Dict") (codes "Dict") m x) e) in
    (one_name m (codes "Dict") t.0, one_name x (codes "Dict") t.1)
  where
    by : (b c : Bool) → (if b then Truth (nat_eq i 0) else (if c then Number (negsuc i) else Number (pos i)))
        ≡ Number (negsuc 0) → c ≡ true
    by true c e = absurd cc
    by false true e = refl
    by false false e = absurd cc

tagged : (home x : Name) (w : World) (u : UnionDeclaration) (n : ℕ) (cs : List ConstructorOf) (k : Constructor)
    → Among k (map (constructor_of home u)
    (zip (map (alternative_of home x) (enumerate_from n cs)) (map (fields_of w) cs)))
    → (i : ℕ) × (k.alternative.tag ≡ tag_of home x i)
tagged home x w u n [] k a = absurd a
tagged home x w u n (c ∷ cs) k (inl e) = (n, ap (λ (z : Constructor). z.alternative.tag) e)
tagged home x w u n (c ∷ cs) k (inr a) = tagged home x w u (n + 1) cs k a

pub each_tagged : (home : Name) (w : World) (ds : List Declaration) (u : UnionDeclaration)
    → Among u (map (union_of home w) (unions_in ds)) → (k : Constructor) → Among k (constructors home u)
    → (i : ℕ) × (k.alternative.tag ≡ tag_of home u.name i)
each_tagged home w [] u a k b = absurd a
each_tagged home w (Value d ∷ ds) u a k b = each_tagged home w ds u a k b
each_tagged home w (Port y t ∷ ds) u a k b = each_tagged home w ds u a k b
each_tagged home w (Alias y ps t ∷ ds) u a k b = each_tagged home w ds u a k b
each_tagged home w (Union y ps cs ∷ ds) u (inl e) k b =
    let first = union_of home w (record { name = y; parameters = ps; constructors = cs }) in
    let t = tagged home (name_of y) w first 0 cs k (subst (λ z. Among k (constructors home z)) e b) in
    (t.0, t.1 ∙ ap (λ (z : UnionDeclaration). tag_of home z.name t.0) (sym e))
each_tagged home w (Union y ps cs ∷ ds) u (inr a) k b = each_tagged home w ds u a k b
