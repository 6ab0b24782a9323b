-- Names that are the same.
use Rattle.std.proofs.Common.{◌≡◌, Bool, true, false, refl, sym, ap, ◌∙◌}
use Rattle.std.proofs.lemmas.Slice.Eq.{bytes_eq-Decides}
use Rattle.elm_canon.specs.Names.{Name, same_name}

pub one_name : (x y : Name) → same_name x y ≡ true → x ≡ y
one_name x y e = (bytes_eq-Decides x y).0 e

pub same_itself : (x : Name) → same_name x x ≡ true
same_itself x = (bytes_eq-Decides x x).1 refl

pub same_back : (x y : Name) → same_name x y ≡ same_name y x
same_back x y = go (same_name x y) (same_name y x) refl refl
  where
    go : (a b : Bool) → same_name x y ≡ a → same_name y x ≡ b → a ≡ b
    go true true e f = refl
    go false false e f = refl
    go true false e f =
        let s : x ≡ y = one_name x y e in
        absurd (let t : same_name y x ≡ true = ap (λ z. same_name z x) (sym s) ∙ same_itself x in cc)
    go false true e f =
        let s : y ≡ x = one_name y x f in
        absurd (let t : same_name x y ≡ true = ap (λ z. same_name z y) (sym s) ∙ same_itself y in cc)
