-- The order of names.
use Rattle.std.proofs.Common.{◌≡◌, Bool, true, false, Ordering, Less, Equal, Greater, refl, sym, ap, ◌∙◌}
use Rattle.std.specs.Ordering.{is_eq, is_lt, nat_cmp, ordering_reverse}
use Rattle.std.specs.Cmp.Lexicographic.{slice_cmp}
use Rattle.std.specs.Str.{bytes_eq}
use Rattle.std.proofs.lemmas.Cmp.{nat_list_cmp_total, tied_itself}
use Rattle.std.proofs.lemmas.Map.Text.{is_eq-slice_cmp}
use Rattle.std.proofs.lemmas.Slice.Eq.{bytes_eq-Decides}
use Rattle.elm_type.specs.Types.{Name}
use Rattle.elm_type.specs.Rows.{name_lt}

abbrev order : Name → Name → Ordering
order x y = slice_cmp nat_cmp x y

less : (o : Ordering) → is_lt o ≡ true → o ≡ Less
less Less e = refl
less Equal e = absurd (cc)
less Greater e = absurd (cc)

pub lt_trans : (x y z : Name) → name_lt x y ≡ true → name_lt y z ≡ true → name_lt x z ≡ true
lt_trans x y z a b = ap is_lt (nat_list_cmp_total.trans x y z (less (order x y) a) (less (order y z) b))

pub lt_itself : (x : Name) → name_lt x x ≡ false
lt_itself x = ap is_lt (tied_itself nat_list_cmp_total x)

pub lt_back : (x y : Name) → name_lt x y ≡ true → name_lt y x ≡ false
lt_back x y a = ap is_lt (nat_list_cmp_total.antisymm y x ∙ ap ordering_reverse (less (order x y) a))

pub same_name : (x y : Name) → bytes_eq x y ≡ true → x ≡ y
same_name x y e = (bytes_eq-Decides x y).0 e

pub equal_itself : (x : Name) → bytes_eq x x ≡ true
equal_itself x = (bytes_eq-Decides x x).1 refl

pub data Compared (x y : Name) : Type 0 where
  Below : name_lt x y ≡ true → Compared x y
  Equals : x ≡ y → Compared x y
  Above : name_lt y x ≡ true → Compared x y

compared_as : (x y : Name) (o : Ordering) → order x y ≡ o → Compared x y
compared_as x y Less e = Below (ap is_lt e)
compared_as x y Equal e = Equals (same_name x y (sym (is_eq-slice_cmp x y) ∙ ap is_eq e))
compared_as x y Greater e = Above (ap is_lt (nat_list_cmp_total.antisymm y x ∙ ap ordering_reverse e))

pub compared : (x y : Name) → Compared x y
compared x y = compared_as x y (order x y) refl

pub lt_apart : (x y : Name) → name_lt x y ≡ true → bytes_eq x y ≡ false
lt_apart x y a = go (bytes_eq x y) refl
  where
    go : (b : Bool) → bytes_eq x y ≡ b → bytes_eq x y ≡ false
    go true e = absurd (let s : x ≡ y = same_name x y e in let n : name_lt x x ≡ false = lt_itself x in cc)
    go false e = e

pub not_equal_swap : (x y : Name) → bytes_eq x y ≡ false → bytes_eq y x ≡ false
not_equal_swap x y n = go (bytes_eq y x) refl
  where
    go : (b : Bool) → bytes_eq y x ≡ b → bytes_eq y x ≡ false
    go true e = absurd (let s : y ≡ x = same_name y x e in let f : bytes_eq x x ≡ true = equal_itself x in cc)
    go false e = e
