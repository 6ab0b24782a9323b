-- Declarations that are left of proper ones, with all that they use, are proper: `left_proper`.
use Rattle.std.proofs.Common.{◌≡◌, List, [], ◌∷◌, Bool, ◌||◌, true, false, ◌⊎◌, inl, inr, ⊎_elim, refl, sym}
use Rattle.std.proofs.Common.{◌∙◌}
use Rattle.std.proofs.lemmas.Bool.{false≢true}
use Rattle.elm_canon.specs.Names.{Name}
use Rattle.elm_canon.specs.declared.reference.Ref.{Ref}
use Rattle.elm_canon.specs.declared.reference.Ref.TheVariants.{Local}
use Rattle.elm_canon.specs.Tree.{Declaration, Given, Define, Together, Constant, Destructure}
use Rattle.elm_canon.specs.Proper.{Scope, among, IsIn, with_all, function_names}
use Rattle.elm_canon.specs.Declarations.{ProperDeclaration, ProperDeclarations, declared_names, after_declarations}
use Rattle.decl_groups.proofs.Reaching.{or_cases}
use Rattle.decl_groups.proofs.Ordering.{not_true}
use Rattle.canon_proper.specs.Narrower.{IsNarrower, KeepsAll}
use Rattle.canon_proper.proofs.Narrowing.{narrow_group, narrower_with}
use Rattle.canon_proper.proofs.Apart.{fresh_none, in_either, in_left, in_right}
use Rattle.canon_proper.proofs.Scopes.{among-with_all, in_more}
use Rattle.link.specs.Made.{refs_used}
use Rattle.project_proper.proofs.Sublists.{Sub, none, take, skip, names_all, names_sub}

-- ---- scopes

pub in_with : (r : Ref) (xs : List Ref) (scope : Scope) → IsIn r (with_all xs scope) → IsIn r xs ⊎ IsIn r scope
in_with r xs scope e = or_cases (among r xs) (among r scope) (sym (among-with_all r xs scope) ∙ e)

or_left : (a b : Bool) → a ≡ true → (a || b) ≡ true
or_left true b e = refl
or_left false b e = absurd (false≢true e)

pub in_front : (r : Ref) (xs : List Ref) (scope : Scope) → IsIn r xs → IsIn r (with_all xs scope)
in_front r xs scope e = among-with_all r xs scope ∙ or_left (among r xs) (among r scope) e

pub after_in : (ds : List Declaration) (scope : Scope) (r : Ref) → IsIn r scope → IsIn r (after_declarations ds scope)
after_in [] scope r e = e
after_in (d ∷ ds) scope r e = after_in ds (with_all (declared_names d) scope) r (in_more r (declared_names d) scope e)

pub after_names : (ds : List Declaration) (scope : Scope) (r : Ref) → IsIn r (names_all ds)
    → IsIn r (after_declarations ds scope)
after_names [] scope r e = absurd (false≢true e)
after_names (d ∷ ds) scope r e =
    ⊎_elim (λ h. after_in ds (with_all (declared_names d) scope) r (in_front r (declared_names d) scope h))
    (after_names ds (with_all (declared_names d) scope) r) (in_either r (declared_names d) (names_all ds) e)

pub after_only : (ds : List Declaration) (scope : Scope) (r : Ref) → IsIn r (after_declarations ds scope)
    → IsIn r (names_all ds) ⊎ IsIn r scope
after_only [] scope r e = inr e
after_only (d ∷ ds) scope r e =
    ⊎_elim (λ h. inl (in_right r (declared_names d) (names_all ds) h))
    (λ h. ⊎_elim (λ k. inl (in_left r (declared_names d) (names_all ds) k)) inr (in_with r (declared_names d) scope h))
    (after_only ds (with_all (declared_names d) scope) r e)

-- ---- names are new

one_in : (r x : Ref) (scope : Scope) → among x scope ≡ false → IsIn r (x ∷ []) → among r scope ≡ false
one_in r x scope f e = fresh_none (x ∷ []) scope (f, tt) r e

names_new : (d : Declaration) (scope : Scope) → ProperDeclaration scope d → (r : Ref) → IsIn r (declared_names d)
    → among r scope ≡ false
names_new (Given x k) scope p r e = one_in r x scope p.1.0 e
names_new (Define (Together fs)) scope p r e = fresh_none (function_names fs) scope p.1.0 r e
names_new (Define (Constant title v)) scope p r e = one_in r title.name scope p.1.1.0 e
names_new (Define (Destructure q v)) scope p r e = absurd (false≢true (sym p.0))

less_in : (r : Ref) (a b : Scope) → (IsIn r a → IsIn r b) → among r b ≡ false → among r a ≡ false
less_in r a b f e = not_true (among r a) (λ h. false≢true (sym e ∙ f h))

pub all_new : (ds : List Declaration) (scope : Scope) → ProperDeclarations scope ds → (r : Ref) → IsIn r (names_all ds)
    → among r scope ≡ false
all_new [] scope p r e = absurd (false≢true e)
all_new (d ∷ ds) scope p r e =
    ⊎_elim (names_new d scope p.0 r)
    (λ h. less_in r scope (with_all (declared_names d) scope) (in_more r (declared_names d) scope)
    (all_new ds (with_all (declared_names d) scope) p.1 r h))
    (in_either r (declared_names d) (names_all ds) e)

-- ---- declarations that are left

pub narrow_declaration : (d : Declaration) (a b : Scope) → IsNarrower a b → KeepsAll a b (refs_used d)
    → ProperDeclaration a d → ProperDeclaration b d
narrow_declaration (Given x k) a b n h p = (p.0, (less_in x b a (n.within x) p.1.0, p.1.1))
narrow_declaration (Define g) a b n h p = (p.0, narrow_group g a b n h p.1)

-- what each uses of these names is kept
abbrev pub UsesKept : Scope → List Ref → List Declaration → Type 0
UsesKept whole names [] = Unit {0}
UsesKept whole names (d ∷ ds) =
    ((r : Ref) → IsIn r (refs_used d) → IsIn r whole → IsIn r names) × UsesKept whole names ds

-- a: the scope with all, b: with those that are left; names: all that are left
pub left_proper : (whole : Scope) (names : List Ref) → ((x : Name) → among (Local x) whole ≡ false) →
    {left all : List Declaration} → Sub left all → (a b : Scope) → ProperDeclarations a all → IsNarrower a b →
    ((r : Ref) → IsIn r a → IsIn r names → IsIn r b) → ((r : Ref) → IsIn r names → IsIn r a ⊎ IsIn r (names_all left)) →
    ((r : Ref) → IsIn r (after_declarations all a) → IsIn r whole) → UsesKept whole names left → ProperDeclarations b
    left
left_proper whole names no_locals none a b p n known rest inside uses = tt
left_proper whole names no_locals (take {x = d} {xs = left} {ys = all} s) a b p n known rest inside uses = (
  narrow_declaration d a b n (λ r i e. known r e (uses.0 r i (inside r (after_in (d ∷ all) a r e)))) p.0,
  left_proper whole names no_locals s (with_all ns a) (with_all ns b) p.1 (narrower_with ns a b n)
      (λ r e k. ⊎_elim (in_front r ns b) (λ h. in_more r ns b (known r h k)) (in_with r ns a e))
      (λ r k. ⊎_elim (λ h. inl (in_more r ns a h))
      (λ h. ⊎_elim (λ g. inl (in_front r ns a g)) inr (in_either r ns (names_all left) h)) (rest r k))
      inside uses.1,
)
  where
    ns : List Ref
    ns = declared_names d
left_proper whole names no_locals (skip {x = d} {xs = left} {ys = all} s) a b p n known rest inside uses =
    left_proper whole names no_locals s (with_all ns a) b p.1
    (record {
      within = λ r e. in_more r ns a (n.within r e);
      locals = λ x e. absurd (false≢true (sym (no_locals x) ∙ inside (Local x)
          (after_in all (with_all ns a) (Local x) e)));
    })
    (λ r e k. ⊎_elim (λ h. gone r h k) (λ h. known r h k) (in_with r ns a e))
    (λ r k. ⊎_elim (λ h. inl (in_more r ns a h)) inr (rest r k)) inside uses
  where
    ns : List Ref
    ns = declared_names d

    -- a name of the declaration that is not left is not kept
    gone : (r : Ref) → IsIn r ns → IsIn r names → IsIn r b
    gone r h k =
        ⊎_elim (λ e. absurd (false≢true (sym (names_new d a p.0 r h) ∙ e)))
        (λ e. absurd (false≢true (sym (all_new all (with_all ns a) p.1 r (names_sub s r e)) ∙ in_front r ns a h)))
        (rest r k)
