-- Lists of names that have no name in common.
use Rattle.std.proofs.Common.{◌≡◌, List, [], ◌∷◌, ◌++◌, Bool, true, false, refl, sym, ap, ◌∙◌, subst, ◌⊎◌}
use Rattle.std.specs.Prelude.{◌||◌, if◌then◌else◌}
use Rattle.std.proofs.lemmas.Bool.{false≢true}
use Rattle.decl_groups.proofs.Ordering.{not_true}
use Rattle.decl_groups.proofs.Reaching.{or_cases}
use Rattle.elm_canon.specs.Names.{same_ref}
use Rattle.elm_canon.specs.declared.reference.Ref.{Ref}
use Rattle.elm_canon.specs.Proper.{Scope, among, with_all, AreFresh}
use Rattle.canon_proper.proofs.Scopes.{among-append, among-with_all, in_first, in_later, one_ref, NoneIn, fresh_apart}
use Rattle.canon_proper.proofs.Scopes.{or_right}

abbrev pub Apart : List Ref → List Ref → Type 0
Apart xs ys = (r : Ref) → among r xs ≡ true → among r ys ≡ false

pub turned : (xs ys : List Ref) → Apart xs ys → Apart ys xs
turned xs ys a = λ r e. not_true (among r xs) (λ f. false≢true (sym (a r f) ∙ e))

pub none_in : (xs : List Ref) (scope : Scope) → Apart xs scope → NoneIn xs scope
none_in [] scope a = tt
none_in (x ∷ xs) scope a = (a x (in_first x xs), none_in xs scope (λ r e. a r (in_later r x xs e)))

not_later : (b c : Bool) → (if b then true else c) ≡ false → c ≡ false
not_later true c e = absurd (false≢true (sym e))
not_later false c e = e

pub fresh_none : (xs : List Ref) (scope : Scope) → AreFresh xs scope → Apart xs scope
fresh_none [] scope f = λ r e. absurd (false≢true e)
fresh_none (x ∷ xs) scope f = λ r e. by r (same_ref r x) refl e (fresh_none xs (x ∷ scope) f.1 r)
  where
    by : (r : Ref) (b : Bool) → same_ref r x ≡ b → (if b then true else among r xs) ≡ true →
        (among r xs ≡ true → among r (x ∷ scope) ≡ false) → among r scope ≡ false
    by r true same e rest = subst (λ z. among z scope ≡ false) (sym (one_ref r x same)) f.0
    by r false same e rest = not_later (same_ref r x) (among r scope) (rest e)

pub fresh_less : (xs : List Ref) (a b : Scope) → ((r : Ref) → among r b ≡ true → among r a ≡ true) → AreFresh xs a →
    AreFresh xs b
fresh_less [] a b less f = tt
fresh_less (x ∷ xs) a b less f = (
  not_true (among x b) (λ e. false≢true (sym f.0 ∙ less x e)),
  fresh_less xs (x ∷ a) (x ∷ b) (λ r e. by r (same_ref r x) e) f.1,
)
  where
    by : (r : Ref) (c : Bool) → (if c then true else among r b) ≡ true → (if c then true else among r a) ≡ true
    by r true e = refl
    by r false e = less r e

pub fresh_join : (xs ys : List Ref) (scope : Scope) → AreFresh xs scope → AreFresh ys (with_all xs scope) →
    AreFresh (xs ++ ys) scope
fresh_join [] ys scope f g = g
fresh_join (x ∷ xs) ys scope f g = (f.0, fresh_join xs ys (x ∷ scope) f.1 g)

or_nothing : (b : Bool) → (b || false) ≡ b
or_nothing true = refl
or_nothing false = refl

-- names of two lists that have none in common
pub fresh_both : (xs ys : List Ref) → AreFresh xs [] → AreFresh ys [] → Apart ys xs → AreFresh (xs ++ ys) []
fresh_both xs ys f g a =
    fresh_join xs ys [] f
    (fresh_apart ys [] (with_all xs []) g
    (none_in ys (with_all xs [])
    (λ r e. among-with_all r xs [] ∙ or_nothing (among r xs) ∙ a r e)))

pub fresh_in : (xs : List Ref) (scope : Scope) → AreFresh xs [] → Apart xs scope → AreFresh xs scope
fresh_in xs scope f a = fresh_apart xs [] scope f (none_in xs scope a)

pub in_either : (r : Ref) (xs ys : List Ref) → among r (xs ++ ys) ≡ true → (among r xs ≡ true) ⊎ (among r ys ≡ true)
in_either r xs ys e = or_cases (among r xs) (among r ys) (sym (among-append r xs ys) ∙ e)

pub in_left : (r : Ref) (xs ys : List Ref) → among r xs ≡ true → among r (xs ++ ys) ≡ true
in_left r xs ys e = among-append r xs ys ∙ ap (λ b. b || among r ys) e

pub in_right : (r : Ref) (xs ys : List Ref) → among r ys ≡ true → among r (xs ++ ys) ≡ true
in_right r xs ys e = among-append r xs ys ∙ or_right (among r xs) (among r ys) e

pub in_neither : (r : Ref) (xs ys : List Ref) → among r xs ≡ false → among r ys ≡ false → among r (xs ++ ys) ≡ false
in_neither r xs ys e f = among-append r xs ys ∙ ap (λ b. b || among r ys) e ∙ f
