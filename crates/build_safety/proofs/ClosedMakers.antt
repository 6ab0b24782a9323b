-- The constructors of a closed union: `makers_closed`.
use Rattle.std.proofs.Common.{◌≡◌, List, [], ◌∷◌, map, Bool, true, false, inl, inr, refl, sym, ap, subst}
use Rattle.std.specs.Prelude.{◌||◌}
use Rattle.std.specs.List.{AllByRecursion, zip}
use Rattle.std.proofs.lemmas.Bool.{false≢true}
use Rattle.elm_canon.specs.Names.{Name, same_name}
use Rattle.elm_canon.specs.Unions.{alternatives}
use Rattle.elm_canon.specs.declared.unions.Alternative.{Alternative}
use Rattle.elm_canon.specs.Tree.{Annotation, Annotations, UnionDeclaration}
use Rattle.type_items.specs.Annotations.{number_of, own_variables, scheme_variable}
use Rattle.typed_values.specs.World.{Constructor, Among, IsOneOf}
use Rattle.canon_env.proofs.Adding.{one_name}
use Rattle.canon_env.specs.Exposing.{is_among}
use Rattle.told_modules.specs.Schemes.{maker_type, constructor_of}
use Rattle.told_modules.specs.Closed.{IsNamed, AreClosed}
use Rattle.build_safety.specs.ClosedMakers.{MakerIsClosed, MakersAreClosed}
use Rattle.build_safety.proofs.ClosedVariables.{list_has}

-- a name among others has its number among theirs
numbered : (own : List Name) (a : Name) (ps : List Name) → is_among a ps ≡ true
    → Among (number_of a own) (map (λ b. number_of b own) ps)
numbered own a [] e = absurd (false≢true e)
numbered own a (b ∷ ps) e = by (same_name a b) refl e (λ k. numbered own a ps k)
  where
    by : (c : Bool) → same_name a b ≡ c → (c || is_among a ps) ≡ true
        → (is_among a ps ≡ true → Among (number_of a own) (map (λ b. number_of b own) ps))
        → Among (number_of a own) (map (λ b. number_of b own) (b ∷ ps))
    by true is k rest = inl (ap (λ z. number_of z own) (one_name a b is))
    by false is k rest = inr (rest k)

maker_closed : (m : Name) (u : UnionDeclaration) (c : Alternative × Annotations) → AreClosed u.parameters c.1
    → MakerIsClosed (constructor_of m u c)
maker_closed m u c h =
    let whole : Annotation = maker_type m u c.1 in
    let own : List Name = own_variables [] whole in
    list_has (IsOneOf (constructor_of m u c).arguments) (IsNamed u.parameters) (scheme_variable [] whole)
    (λ a named. (numbered own a u.parameters named, tt)) c.1 h

each_closed : (m : Name) (u : UnionDeclaration) (as_ : List Alternative) (fs : List Annotations)
    → AllByRecursion (AreClosed u.parameters) fs → (k : Constructor) → Among k (map (constructor_of m u) (zip as_ fs))
    → MakerIsClosed k
each_closed m u [] fs h k among = absurd among
each_closed m u (a ∷ as_) [] h k among = absurd among
each_closed m u (a ∷ as_) (f ∷ fs) h k (inl e) = subst MakerIsClosed (sym e) (maker_closed m u (a, f) h.0)
each_closed m u (a ∷ as_) (f ∷ fs) h k (inr among) = each_closed m u as_ fs h.1 k among

pub makers_closed : MakersAreClosed
makers_closed m u h k among = each_closed m u (alternatives u.union) u.fields h k among
