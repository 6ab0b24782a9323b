-- Modules, resolved one after another: each declaration is proper where all of them are in scope. `all_inside`.
use Rattle.std.proofs.Common.{◌≡◌, List, [], ◌∷◌, ◌++◌, map, true, false, sym, ◌∙◌, subst}
use Rattle.std.proofs.Common.{◌⊎◌, inl, inr, ⊎_elim, append_assoc}
use Rattle.std.proofs.lemmas.Bool.{false≢true}
use Rattle.std.proofs.lemmas.Grind.{flat_map-append}
use Rattle.decl_groups.proofs.Ordering.{not_true}
use Rattle.elm_canon.specs.Names.{Name}
use Rattle.elm_canon.specs.Tree.{Declaration, Given, Define, Group, Together, Constant, Destructure}
use Rattle.elm_canon.specs.declared.reference.Ref.{Ref}
use Rattle.elm_canon.specs.declared.reference.Ref.TheVariants.{Local, Top}
use Rattle.canon_env.specs.Imports.{name_of}
use Rattle.canon_module.specs.Names.{names_in}
use Rattle.canon_env.specs.Uses.{group_uses}
use Rattle.elm_canon.specs.Proper.{Scope, among, IsIn, with_all}
use Rattle.canon_proper.specs.Narrower.{IsNarrower, KeepsAll}
use Rattle.canon_proper.proofs.Scopes.{in_more, name_itself}
use Rattle.canon_proper.proofs.Narrowing.{narrow, narrow_functions}
use Rattle.module_proper.specs.Modules.{value_refs, maker_refs, IsAround}
use Rattle.module_proper.specs.Inside.{IsInside, IsInsideGroup, AllInside}
use Rattle.module_proper.proofs.Inside.{inside_both}
use Rattle.module_proper.proofs.Resolved.{resolved_inside, resolved_there}
use Rattle.module_proper.proofs.Numbers.{no_local}
use Rattle.link.specs.Made.{refs_used}
use Rattle.project_proper.proofs.Sublists.{names_all}
use Rattle.project_proper.proofs.Left.{in_with, in_front, after_only, after_names}
use Rattle.project_proper.specs.Resolved.{Resolved, all_declarations, scope_after, IsUnused, IsNext, AreNext}
use Rattle.project_proper.specs.Resolved.{HomesApart}
use Rattle.project_proper.proofs.First.{home_of, is_of, Owned, owned_of, in_scope_of, in_scope}
use Rattle.project_proper.proofs.First.{in_names, names_left, names_right, none_of, later_than, around, no_later_local}
use Rattle.project_proper.proofs.First.{later_unused, Good, IsFit, next_good, next_fit, new_after, new_before}

-- ---- declarations inside a narrower scope

inside_group : (g : Group) (a b : Scope) → IsNarrower a b → KeepsAll a b (group_uses g) → IsInsideGroup a g →
    IsInsideGroup b g
inside_group (Together fs) a b n k p = narrow_functions fs a b n k p
inside_group (Constant title e) a b n k p = (p.0, narrow e a b n k p.1)
inside_group (Destructure x e) a b n k p = p

inside_one : (d : Declaration) (a b : Scope) → IsNarrower a b → KeepsAll a b (refs_used d) → IsInside a d →
    IsInside b d
inside_one (Given r k) a b n h p = p
inside_one (Define g) a b n h p = inside_group g a b n h p

-- all but names that are not used are in the narrower one
inside_less : (xs : List Ref) (ds : List Declaration) (a b : Scope) → IsNarrower a b →
    ((x : Ref) → IsIn x a → IsIn x b ⊎ IsIn x xs) → ((x : Ref) → IsIn x xs → IsUnused x ds) → AllInside a ds →
    AllInside b ds
inside_less xs [] a b n s u p = tt
inside_less xs (d ∷ ds) a b n s u p = (
  inside_one d a b n
      (λ x i e. ⊎_elim (λ k. k) (λ k. absurd (false≢true (sym (u x k).0 ∙ i))) (s x e)) p.0,
  inside_less xs ds a b n s (λ x k. (u x k).1) p.1,
)

-- ---- a module among all

module _ (before : List Resolved) (r : Resolved) (after : List Resolved) (g : Good before) (n : IsNext before r)
    (apart : HomesApart (before ++ r ∷ after)) (owned : Owned after) where
  abbrev home : Name
  home = home_of r

  abbrev ds : List Declaration
  ds = r.whole.declarations

  abbrev s : Scope
  s = scope_after before

  abbrev extra : List Ref
  extra = later_than before r

  abbrev others : List Ref
  others = names_all (all_declarations after)

  abbrev rest : Scope
  rest = with_all others s

  abbrev t : Scope
  t = with_all extra rest

  abbrev w : Scope
  w = scope_after (before ++ r ∷ after)

  others_of : (x : Ref) → IsIn x others → is_of after x ≡ true
  others_of x e = owned_of after owned x e

  in_t : (x : Ref) → IsIn x t → IsIn x extra ⊎ (IsIn x others ⊎ IsIn x s)
  in_t x e = ⊎_elim inl (λ k. inr (in_with x others s k)) (in_with x extra rest e)

  no_locals : (x : Name) → among (Local x) t ≡ false
  no_locals x =
      not_true (among (Local x) t)
      (λ e. ⊎_elim (λ k. false≢true (sym (no_later_local before r g.fit n x) ∙ k))
      (λ k. ⊎_elim (λ l. false≢true (others_of (Local x) l)) (λ l. false≢true (in_scope_of before g.owned (Local x) l))
      k)
      (in_t (Local x) e))

  nothing_own : (x : Name) → among (Top home x) t ≡ false
  nothing_own x =
      not_true (among (Top home x) t)
      (λ e. ⊎_elim
      (λ k. false≢true (sym (later_unused before r g.fit n (Top home x) k).0 ∙ name_itself home))
      (λ k. ⊎_elim (λ l. none_of after home x (new_after before r after apart) (others_of (Top home x) l))
      (λ l. none_of before home x (new_before before r after apart) (in_scope_of before g.owned (Top home x) l)) k)
      (in_t (Top home x) e))

  is_around : IsAround home r.setting.imports r.written.declarations t
  is_around =
      around before r g.fit n t (λ x e. in_more x extra rest (in_more x others s e)) no_locals nothing_own
      (λ x e. in_front x extra rest e)

  abbrev own_values : List Ref
  own_values = value_refs home r.written.declarations

  abbrev own_makers : List Ref
  own_makers = maker_refs home r.written.declarations

  abbrev full : Scope
  full = with_all own_values (with_all own_makers t)

  inside_full : AllInside full ds
  inside_full = resolved_inside r.setting r.written r.whole t n.is is_around n.read n.none

  -- ---- the scope with everything

  all_both : all_declarations (before ++ r ∷ after) ≡ all_declarations before ++ (ds ++ all_declarations after)
  all_both = flat_map-append (λ (q : Resolved). q.whole.declarations) before (r ∷ after)

  to_w : (x : Ref) → IsIn x (names_all (all_declarations before ++ (ds ++ all_declarations after))) → IsIn x w
  to_w x e = in_scope (before ++ r ∷ after) x (subst (λ es. IsIn x (names_all es)) (sym all_both) e)

  before_w : (x : Ref) → IsIn x s → IsIn x w
  before_w x e =
      ⊎_elim (λ k. to_w x (names_left x (all_declarations before) (ds ++ all_declarations after) k))
      (λ k. absurd (false≢true k)) (after_only (all_declarations before) [] x e)

  own_w : (x : Ref) → IsIn x (names_all ds) → IsIn x w
  own_w x e =
      to_w x (names_right x (all_declarations before) (ds ++ all_declarations after)
      (names_left x ds (all_declarations after) e))

  after_w : (x : Ref) → IsIn x others → IsIn x w
  after_w x e =
      to_w x (names_right x (all_declarations before) (ds ++ all_declarations after)
      (names_right x ds (all_declarations after) e))

  fit : IsFit r
  fit = next_fit before r g n (new_before before r after apart)

  full_w : (x : Ref) → IsIn x full → IsIn x w ⊎ IsIn x extra
  full_w x e =
      ⊎_elim (λ k. inl (own_w x (fit.values x k)))
      (λ k. ⊎_elim (λ l. inl (own_w x (fit.makers x l)))
      (λ l. ⊎_elim inr (λ m. inl (⊎_elim (after_w x) (before_w x) m)) (in_t x l)) (in_with x own_makers t k))
      (in_with x own_values (with_all own_makers t) e)

  t_full : (x : Ref) → IsIn x t → IsIn x full
  t_full x e = in_more x own_values (with_all own_makers t) (in_more x own_makers t e)

  names_full : (x : Ref) → IsIn x (names_all ds) → IsIn x full
  names_full x m =
      sym (resolved_there r.setting r.written r.whole t n.is is_around n.read n.none x) ∙ after_names ds t x m

  w_full : (x : Ref) → IsIn x w → IsIn x full
  w_full x e =
      ⊎_elim
      (λ k. ⊎_elim (λ l. t_full x (in_more x extra rest (in_more x others s (in_scope before x l))))
      (λ l. ⊎_elim (λ m. names_full x m) (λ m. t_full x (in_more x extra rest (in_front x others s m)))
      (in_names x ds (all_declarations after) l))
      (in_names x (all_declarations before) (ds ++ all_declarations after)
      (subst (λ es. IsIn x (names_all es)) all_both k)))
      (λ k. absurd (false≢true k)) (after_only (all_declarations (before ++ r ∷ after)) [] x e)

  full_locals : (x : Name) → among (Local x) full ≡ false
  full_locals x =
      not_true (among (Local x) full)
      (λ e. ⊎_elim (λ k. false≢true (sym (no_local home x (map name_of (names_in r.written.declarations).values)) ∙ k))
      (λ k. ⊎_elim
      (λ l. false≢true (sym (no_local home x (map name_of (names_in r.written.declarations).constructors)) ∙ l))
      (λ l. false≢true (sym (no_locals x) ∙ l))
      (in_with (Local x) own_makers t k)) (in_with (Local x) own_values (with_all own_makers t) e))

  pub inside_next : AllInside w ds
  inside_next =
      inside_less extra ds full w
      (record {
        within = w_full;
        locals = λ x e. absurd (false≢true (sym (full_locals x) ∙ e));
      })
      full_w (λ x e. (later_unused before r g.fit n x e).1) inside_full

pub all_inside : (rest before : List Resolved) → Good before → AreNext before rest → HomesApart (before ++ rest) →
    Owned rest → AllInside (scope_after (before ++ rest)) (all_declarations rest)
all_inside [] before g n h o = tt
all_inside (r ∷ rest) before g n h o =
    let e = append_assoc before (r ∷ []) rest in
    inside_both (scope_after (before ++ (r ∷ rest))) r.whole.declarations (all_declarations rest)
    (inside_next before r rest g n.0 h o.1)
    (subst (λ rs. AllInside (scope_after rs) (all_declarations rest)) e
    (all_inside rest (before ++ r ∷ []) (next_good before r g n.0 (new_before before r rest h)) n.1
    (subst HomesApart (sym e) h) o.1))
