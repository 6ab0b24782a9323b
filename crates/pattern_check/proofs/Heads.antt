-- Heads that are the same.
use Rattle.std.proofs.Common.{◌≡◌, ℕ, zero, ℤ, pos, negsuc, List, [], ◌∷◌, Bool, true, false, ◌&&◌, ◌||◌, refl, sym, ap, ◌∙◌}
use Rattle.std.proofs.Common.{subst, ⊎_elim}
use Rattle.std.specs.Prelude.{nat_eq}
use Rattle.std.specs.List.{Contains}
use Rattle.std.specs.Cmp.Lexicographic.{bytes_decides}
use Rattle.std.proofs.lemmas.Bool.{eqb-true, eq-eqb, false≢true}
use Rattle.elm_canon.specs.declared.unions.Tag.{Tag}
use Rattle.elm_canon.specs.declared.unions.Tag.TheVariants as tag
use Rattle.elm_canon.specs.declared.unions.Alternative.{Alternative}
use Rattle.elm_canon.specs.declared.tree.Literal.{Literal}
use Rattle.elm_canon.specs.declared.tree.Literal.TheVariants as literal
use Rattle.elm_canon.specs.Constructors.{same_int, same_truth, same_tag, is_one_of}
use Rattle.pattern_check.specs.Shapes.{Key, LiteralKey, ConstructorKey, key_of}
use Rattle.pattern_check.specs.Shapes.{Head, Literally, OtherLiteral, Constructor, same_literal, same_head, arity_of}
use Rattle.pattern_check.proofs.Members.{no_member, first_member, later_member, member_cases}

pub and_parts : (a b : Bool) → (a && b) ≡ true → (a ≡ true) × (b ≡ true)
and_parts true b e = (refl, e)
and_parts false b e = absurd (false≢true e)

pub and_both : (a b : Bool) → a ≡ true → b ≡ true → (a && b) ≡ true
and_both a b e f = ap (λ z. z && b) e ∙ f

pub both_ways : (a b : Bool) → (a ≡ true → b ≡ true) → (b ≡ true → a ≡ true) → a ≡ b
both_ways true b f g = sym (f refl)
both_ways false true f g = g refl
both_ways false false f g = refl

-- ---- numbers, tags and literals

int_is : (m n : ℤ) → same_int m n ≡ true → m ≡ n
int_is (pos m) (pos n) e = ap pos (eqb-true _ _ e)
int_is (negsuc m) (negsuc n) e = ap negsuc (eqb-true _ _ e)
int_is _ _ e = absurd (false≢true e)

int_same : (n : ℤ) → same_int n n ≡ true
int_same (pos n) = eq-eqb _ _ refl
int_same (negsuc n) = eq-eqb _ _ refl

truth_is : (a b : Bool) → same_truth a b ≡ true → a ≡ b
truth_is true true e = refl
truth_is true false e = sym e
truth_is false true e = e
truth_is false false e = refl

tag_is : (s t : Tag) → same_tag s t ≡ true → s ≡ t
tag_is (tag.Number m) (tag.Number n) e = ap tag.Number (int_is m n e)
tag_is (tag.Truth a) (tag.Truth b) e = ap tag.Truth (truth_is a b e)
tag_is tag.Blank tag.Blank e = refl
tag_is _ _ e = absurd (false≢true e)

tag_same : (t : Tag) → same_tag t t ≡ true
tag_same (tag.Number n) = int_same n
tag_same (tag.Truth true) = refl
tag_same (tag.Truth false) = refl
tag_same tag.Blank = refl

literal_is : (l m : Literal) → same_literal l m ≡ true → l ≡ m
literal_is (literal.Int m) (literal.Int n) e = ap literal.Int (int_is m n e)
literal_is (literal.Char s) (literal.Char t) e = ap literal.Char ((bytes_decides s t).0 e)
literal_is (literal.Text s) (literal.Text t) e = ap literal.Text ((bytes_decides s t).0 e)
literal_is _ _ e = absurd (false≢true e)

literal_same : (l : Literal) → same_literal l l ≡ true
literal_same (literal.Int n) = int_same n
literal_same (literal.Char s) = (bytes_decides s s).1 refl
literal_same (literal.Text s) = (bytes_decides s s).1 refl

-- ---- heads

to_key : (g h : Head) → same_head g h ≡ true → key_of g ≡ key_of h
to_key (Literally l) (Literally m) e = ap LiteralKey (literal_is l m e)
to_key OtherLiteral OtherLiteral e = refl
to_key (Constructor u a) (Constructor v b) e =
    let p = and_parts (same_tag a.tag b.tag) (nat_eq a.arity b.arity) e in
    ap (λ t. ConstructorKey t a.arity) (tag_is a.tag b.tag p.0) ∙ ap (ConstructorKey b.tag) (eqb-true _ _ p.1)
to_key _ _ e = absurd (false≢true e)

from_key : (g h : Head) → key_of g ≡ key_of h → same_head g h ≡ true
from_key (Literally l) (Literally m) e =
    let q : l ≡ m = cc in subst (λ z. same_literal l z ≡ true) q (literal_same l)
from_key OtherLiteral OtherLiteral e = refl
from_key (Constructor u a) (Constructor v b) e =
    let s : a.tag ≡ b.tag = cc in
    let n : a.arity ≡ b.arity = cc in
    and_both (same_tag a.tag b.tag) (nat_eq a.arity b.arity)
    (subst (λ z. same_tag a.tag z ≡ true) s (tag_same a.tag)) (eq-eqb _ _ n)
from_key (Literally l) OtherLiteral e = absurd cc
from_key (Literally l) (Constructor v b) e = absurd cc
from_key OtherLiteral (Literally m) e = absurd cc
from_key OtherLiteral (Constructor v b) e = absurd cc
from_key (Constructor u a) (Literally m) e = absurd cc
from_key (Constructor u a) OtherLiteral e = absurd cc

pub head_same : (h : Head) → same_head h h ≡ true
head_same h = from_key h h refl

-- two that are the same as a third
pub head_joins : (f g h : Head) → same_head f h ≡ true → same_head g h ≡ true → same_head f g ≡ true
head_joins f g h e k = from_key f g (to_key f h e ∙ sym (to_key g h k))

-- the same as either of two that are the same
pub head_moves : (f g h : Head) → same_head g h ≡ true → same_head f g ≡ same_head f h
head_moves f g h e =
    both_ways (same_head f g) (same_head f h) (λ k. from_key f h (to_key f g k ∙ to_key g h e))
    (λ k. from_key f g (to_key f h k ∙ sym (to_key g h e)))

abbrev key_arity : Key → ℕ
key_arity (ConstructorKey t n) = n
key_arity _ = zero

arity_is : (h : Head) → key_arity (key_of h) ≡ arity_of h
arity_is (Literally l) = refl
arity_is OtherLiteral = refl
arity_is (Constructor u a) = refl

pub same_arity : (g h : Head) → same_head g h ≡ true → arity_of g ≡ arity_of h
same_arity g h e = sym (arity_is g) ∙ ap key_arity (to_key g h e) ∙ arity_is h

-- ---- constructors of a union

or_first : (a b : Bool) → a ≡ true → (a || b) ≡ true
or_first a b e = ap (λ z. z || b) e

or_second : (a b : Bool) → b ≡ true → (a || b) ≡ true
or_second true b e = refl
or_second false b e = e

abbrev same_alternative : Alternative → Alternative → Bool
same_alternative a b = same_tag a.tag b.tag && nat_eq a.arity b.arity

pub member_is_one : (bs : List Alternative) (b : Alternative) → Contains bs b → is_one_of b bs ≡ true
member_is_one [] b m = absurd (no_member b m)
member_is_one (a ∷ bs) b m =
    ⊎_elim (λ e. or_first (same_alternative b a) (is_one_of b bs) (subst (λ z. same_alternative z a ≡ true) e (alternative_same a)))
    (λ k. or_second (same_alternative b a) (is_one_of b bs) (member_is_one bs b k)) (member_cases a b bs m)
  where
    alternative_same : (a : Alternative) → same_alternative a a ≡ true
    alternative_same a = and_both (same_tag a.tag a.tag) (nat_eq a.arity a.arity) (tag_same a.tag) (eq-eqb _ _ refl)

pub one_is_member : (bs : List Alternative) (a : Alternative) → is_one_of a bs ≡ true →
    (b : Alternative) × Contains bs b × (same_alternative a b ≡ true)
one_is_member [] a e = absurd (false≢true e)
one_is_member (b ∷ bs) a e = by (same_alternative a b) refl (one_is_member bs a) e
  where
    by : (t : Bool) → same_alternative a b ≡ t →
        (is_one_of a bs ≡ true → (c : Alternative) × Contains bs c × (same_alternative a c ≡ true)) →
        (t || is_one_of a bs) ≡ true → (c : Alternative) × Contains (b ∷ bs) c × (same_alternative a c ≡ true)
    by true k later f = (b, first_member b bs, k)
    by false k later f = let r = later f in (r.0, later_member b r.0 bs r.1, r.2)
