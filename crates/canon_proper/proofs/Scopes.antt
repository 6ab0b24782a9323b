-- Names in scopes: what is among them, and names that are new.
use Rattle.std.proofs.Common.{◌≡◌, List, [], ◌∷◌, ◌++◌, map, Bool, true, false, refl, sym, ap, ◌∙◌, subst}
use Rattle.std.specs.Prelude.{◌&&◌, ◌||◌, if◌then◌else◌, not}
use Rattle.std.specs.List.{list_any}
use Rattle.std.proofs.lemmas.Bool.{and_parts, false≢true}
use Rattle.std.proofs.lemmas.Slice.Eq.{bytes_eq-Decides}
use Rattle.elm_tree.specs.Tree.{Word}
use Rattle.elm_canon.specs.Names.{Name, same_name, same_ref}
use Rattle.elm_canon.specs.declared.reference.Ref.{Ref}
use Rattle.elm_canon.specs.declared.reference.Ref.TheVariants.{Local, Top}
use Rattle.canon_env.specs.Imports.{name_of}
use Rattle.canon_env.specs.Exposing.{is_among}
use Rattle.canon_env.proofs.Adding.{one_name}
use Rattle.canon_env.specs.Sites.{repeats_from}
use Rattle.elm_canon.specs.Spelled.{are_fields}
use Rattle.elm_canon.specs.Proper.{Scope, among, IsIn, with_all, AreFresh, locals}
use Rattle.canon_proper.specs.Patterns.{AreSpelledWords}

-- ---- names

pub name_itself : (x : Name) → same_name x x ≡ true
name_itself x = (bytes_eq-Decides x x).1 refl

pub ref_itself : (r : Ref) → same_ref r r ≡ true
ref_itself (Local x) = name_itself x
ref_itself (Top m x) = ap (λ b. b && same_name x x) (name_itself m) ∙ name_itself x

pub one_ref : (r q : Ref) → same_ref r q ≡ true → r ≡ q
one_ref (Local x) (Local y) e = ap (λ z. Local z) (one_name x y e)
one_ref (Local x) (Top n y) e = absurd (false≢true e)
one_ref (Top m x) (Local y) e = absurd (false≢true e)
one_ref (Top m x) (Top n y) e =
    let p = and_parts (same_name m n) (same_name x y) e in
    ap (λ k. Top k x) (one_name m n p.0) ∙ ap (λ z. Top n z) (one_name x y p.1)

-- what words bind
abbrev pub refs : List Word → List Ref
refs ws = map (λ w. Local (name_of w)) ws

pub refs-append : (xs ys : List Word) → refs (xs ++ ys) ≡ refs xs ++ refs ys
refs-append [] ys = refl
refs-append (x ∷ xs) ys = ap (λ rs. Local (name_of x) ∷ rs) (refs-append xs ys)

pub refs_locals : (xs : List Word) → locals (map name_of xs) ≡ refs xs
refs_locals [] = refl
refs_locals (x ∷ xs) = ap (λ rs. Local (name_of x) ∷ rs) (refs_locals xs)

-- ---- what is among names

pub among-append : (x : Ref) (xs ys : Scope) → among x (xs ++ ys) ≡ (among x xs || among x ys)
among-append x [] ys = refl
among-append x (z ∷ xs) ys = by (same_ref x z) (among x xs) (among-append x xs ys)
  where
    by : (b c : Bool) → among x (xs ++ ys) ≡ (c || among x ys) →
        (if b then true else among x (xs ++ ys)) ≡ ((if b then true else c) || among x ys)
    by true c e = refl
    by false c e = e

pub among-with_all : (x : Ref) (xs : List Ref) (scope : Scope) →
    among x (with_all xs scope) ≡ (among x xs || among x scope)
among-with_all x [] scope = refl
among-with_all x (z ∷ xs) scope = among-with_all x xs (z ∷ scope) ∙ by (same_ref x z) (among x xs) (among x scope)
  where
    by : (b c d : Bool) → (c || (if b then true else d)) ≡ ((if b then true else c) || d)
    by true true d = refl
    by true false d = refl
    by false c d = refl

pub in_first : (x : Ref) (scope : Scope) → IsIn x (x ∷ scope)
in_first x scope = ap (λ b. if b then true else among x scope) (ref_itself x)

pub in_later : (x y : Ref) (scope : Scope) → IsIn x scope → IsIn x (y ∷ scope)
in_later x y scope e = by (same_ref x y)
  where
    by : (b : Bool) → (if b then true else among x scope) ≡ true
    by true = refl
    by false = e

pub or_right : (b c : Bool) → c ≡ true → (b || c) ≡ true
or_right true c e = refl
or_right false c e = e

pub in_more : (x : Ref) (xs : List Ref) (scope : Scope) → IsIn x scope → IsIn x (with_all xs scope)
in_more x xs scope e = among-with_all x xs scope ∙ or_right (among x xs) (among x scope) e

-- ---- names that are new

abbrev pub NoneIn : List Ref → Scope → Type 0
NoneIn [] scope = Unit {0}
NoneIn (x ∷ xs) scope = (among x scope ≡ false) × NoneIn xs scope

pub fresh_apart : (xs : List Ref) (before scope : Scope) → AreFresh xs before → NoneIn xs scope →
    AreFresh xs (before ++ scope)
fresh_apart [] before scope f n = tt
fresh_apart (x ∷ xs) before scope f n = (
  among-append x before scope ∙ ap (λ b. b || among x scope) f.0 ∙ n.0,
  fresh_apart xs (x ∷ before) scope f.1 n.1,
)

pub fresh_split : (xs ys : List Ref) (scope : Scope) → AreFresh (xs ++ ys) scope →
    AreFresh xs scope × AreFresh ys (with_all xs scope)
fresh_split [] ys scope f = (tt, f)
fresh_split (x ∷ xs) ys scope f = let r = fresh_split xs ys (x ∷ scope) f.1 in ((f.0, r.0), r.1)

among_names : (x : Name) (ys : List Name) → among (Local x) (locals ys) ≡ is_among x ys
among_names x [] = refl
among_names x (y ∷ ys) = by (same_name x y) (among_names x ys)
  where
    by : (b : Bool) → among (Local x) (locals ys) ≡ is_among x ys →
        (if b then true else among (Local x) (locals ys)) ≡ (b || is_among x ys)
    by true e = refl
    by false e = e

-- words of which none stands twice
pub fresh_from : (before : List Name) (ws : List Word) → repeats_from before ws ≡ [] → AreFresh (refs ws) (locals before)
fresh_from before [] e = tt
fresh_from before (w ∷ ws) e =
    let r = by (is_among (name_of w) before) e in
    (among_names (name_of w) before ∙ r.0, fresh_from (name_of w ∷ before) ws r.1)
  where
    by : (b : Bool) →
        (if b then w ∷ repeats_from (name_of w ∷ before) ws else repeats_from (name_of w ∷ before) ws) ≡ [] →
        (b ≡ false) × (repeats_from (name_of w ∷ before) ws ≡ [])
    by true none = absurd (cc)
    by false none = (refl, none)

-- fields
none_again : (k : Name) (ks : List Word) (scope : Scope) → IsIn (Local k) scope → AreFresh (refs ks) scope →
    list_any (same_name k) (map name_of ks) ≡ false
none_again k [] scope m f = refl
none_again k (y ∷ ks) scope m f =
    by (same_name k (name_of y)) refl
    (none_again k ks (Local (name_of y) ∷ scope) (in_later (Local k) (Local (name_of y)) scope m) f.1)
  where
    by : (b : Bool) → same_name k (name_of y) ≡ b → list_any (same_name k) (map name_of ks) ≡ false →
        (b || list_any (same_name k) (map name_of ks)) ≡ false
    by true is rest =
        absurd (false≢true (sym f.0 ∙ subst (λ z. among (Local z) scope ≡ true) (one_name k (name_of y) is) m))
    by false is rest = rest

pub fields_are : (xs : List Word) (scope : Scope) → AreFresh (refs xs) scope → AreSpelledWords xs →
    are_fields (map name_of xs) ≡ true
fields_are [] scope f s = refl
fields_are (x ∷ xs) scope f s =
    ap (λ b. b && (not (list_any (same_name (name_of x)) (map name_of xs)) && are_fields (map name_of xs))) s.0
    ∙ ap (λ b. not b && are_fields (map name_of xs))
    (none_again (name_of x) xs (Local (name_of x) ∷ scope) (in_first (Local (name_of x)) scope) f.1)
    ∙ fields_are xs (Local (name_of x) ∷ scope) f.1 s.1
