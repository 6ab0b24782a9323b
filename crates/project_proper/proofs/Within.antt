-- What shows no more than another thing offers no more, and has records where that has: `offered_within`,
-- `records_within`.
use Rattle.std.proofs.Common.{◌≡◌, List, [], ◌∷◌, ◌++◌, true, false, refl, sym, ap, ◌∙◌, subst}
use Rattle.std.proofs.Common.{⊎_elim, ◌||◌}
use Rattle.std.specs.List.{flat_map, Contains}
use Rattle.std.proofs.lemmas.Bool.{false≢true}
use Rattle.std.proofs.lemmas.List.{map-append}
use Rattle.decl_groups.proofs.Basics.{no_member, first_member, later_member, member_cases}
use Rattle.elm_canon.specs.Names.{Name, same_name}
use Rattle.elm_canon.specs.Tree.{UnionDeclaration, AliasDeclaration}
use Rattle.elm_canon.specs.declared.reference.Ref.{Ref}
use Rattle.elm_canon.specs.declared.reference.Ref.TheVariants.{Local, Top}
use Rattle.canon_env.proofs.Adding.{same_name-sym}
use Rattle.canon_env.specs.Env.{declared_alternatives}
use Rattle.canon_env.specs.Exposing.{is_among}
use Rattle.canon_env.specs.Shown.{Shown}
use Rattle.elm_canon.specs.Proper.{Scope, IsIn}
use Rattle.canon_proper.proofs.Apart.{in_either, in_left, in_right}
use Rattle.canon_proper.specs.Rows.{AreConstructors, AreUnions}
use Rattle.module_proper.specs.Modules.{tops, HasAll, IsOffered, union_makers, alias_makers, shown_makers}
use Rattle.module_proper.proofs.Numbers.{one_home, among_tops, no_local}
use Rattle.module_proper.specs.Records.{HasRecords, AliasesHaveRecords}
use Rattle.project_proper.specs.Resolved.{ShowsWithin}
use Rattle.canon_module.specs.TopUses.{is_named}

-- ---- names of the parts of a list

module _ {X : Type 0} (names : X → List Name) (home : Name) (r : Ref) where
  split : (w : X) (ws : List X) →
      tops home (flat_map names (w ∷ ws)) ≡ tops home (names w) ++ tops home (flat_map names ws)
  split w ws = map-append (λ x. Top home x) (names w) (flat_map names ws)

  one_in : (ws : List X) (u : X) → Contains ws u → IsIn r (tops home (names u)) → IsIn r (tops home (flat_map names ws))
  one_in [] u c i = absurd (no_member u c)
  one_in (w ∷ ws) u c i =
      subst (IsIn r) (sym (split w ws))
      (⊎_elim
      (λ e. in_left r (tops home (names w)) (tops home (flat_map names ws))
      (subst (λ z. IsIn r (tops home (names z))) (sym e) i))
      (λ k. in_right r (tops home (names w)) (tops home (flat_map names ws)) (one_in ws u k i)) (member_cases w u ws c))

  all_in : (us ws : List X) → ((u : X) → Contains us u → Contains ws u) → IsIn r (tops home (flat_map names us)) →
      IsIn r (tops home (flat_map names ws))
  all_in [] ws c i = absurd (false≢true i)
  all_in (u ∷ us) ws c i =
      ⊎_elim (one_in ws u (c u (first_member u us)))
      (all_in us ws (λ z k. c z (later_member u z us k)))
      (in_either r (tops home (names u)) (tops home (flat_map names us)) (subst (IsIn r) (split u us) i))

-- ---- names

turned : (x : Name) (xs : List Name) → is_named x xs ≡ is_among x xs
turned x [] = refl
turned x (y ∷ xs) = ap (λ b. b || is_named x xs) (same_name-sym y x) ∙ ap (λ c. same_name x y || c) (turned x xs)

names_in : (home : Name) (xs ys : List Name) → ((x : Name) → is_among x xs ≡ true → is_among x ys ≡ true) → (r : Ref) →
    IsIn r (tops home xs) → IsIn r (tops home ys)
names_in home xs ys h (Local x) i = absurd (false≢true (sym (no_local home x xs) ∙ i))
names_in home xs ys h (Top m x) i =
    let same = one_home m home x xs i in
    let at : IsIn (Top home x) (tops home xs) = subst (λ z. IsIn (Top z x) (tops home xs)) same i in
    subst (λ z. IsIn (Top z x) (tops home ys)) (sym same)
    (among_tops home x ys ∙ turned x ys ∙ h x (sym (among_tops home x xs ∙ turned x xs) ∙ at))

-- ---- unions and aliases

union_of : (ws : List UnionDeclaration) (u : UnionDeclaration) → AreUnions ws → Contains ws u →
    AreConstructors u.union (declared_alternatives u.union)
union_of [] u a c = absurd (no_member u c)
union_of (w ∷ ws) u a c =
    ⊎_elim (λ e. subst (λ (z : UnionDeclaration). AreConstructors z.union (declared_alternatives z.union)) e a.0)
    (union_of ws u a.1) (member_cases w u ws c)

unions_in : (us ws : List UnionDeclaration) → AreUnions ws → ((u : UnionDeclaration) → Contains us u → Contains ws u) →
    AreUnions us
unions_in [] ws a c = tt
unions_in (u ∷ us) ws a c =
    (union_of ws u a (c u (first_member u us)), unions_in us ws a (λ z k. c z (later_member u z us k)))

alias_of : (ws : List AliasDeclaration) (d : AliasDeclaration) → AliasesHaveRecords ws → Contains ws d →
    HasRecords d.body
alias_of [] d a c = absurd (no_member d c)
alias_of (w ∷ ws) d a c =
    ⊎_elim (λ e. subst (λ (z : AliasDeclaration). HasRecords z.body) e a.0) (alias_of ws d a.1) (member_cases w d ws c)

aliases_in : (ds ws : List AliasDeclaration) → AliasesHaveRecords ws →
    ((d : AliasDeclaration) → Contains ds d → Contains ws d) → AliasesHaveRecords ds
aliases_in [] ws a c = tt
aliases_in (d ∷ ds) ws a c =
    (alias_of ws d a (c d (first_member d ds)), aliases_in ds ws a (λ z k. c z (later_member d z ds k)))

-- ---- what is shown

module _ (home : Name) (s whole : Shown) (within : ShowsWithin s whole) where
  makers_in : HasAll (tops home (shown_makers whole)) (tops home (shown_makers s))
  makers_in r i =
      let us = flat_map union_makers s.unions in
      let ds = flat_map alias_makers s.aliases in
      let vs = flat_map union_makers whole.unions in
      let es = flat_map alias_makers whole.aliases in
      subst (IsIn r) (sym (map-append (λ x. Top home x) vs es))
      (⊎_elim
      (λ k. in_left r (tops home vs) (tops home es)
      (all_in union_makers home r s.unions whole.unions within.unions k))
      (λ k. in_right r (tops home vs) (tops home es)
      (all_in alias_makers home r s.aliases whole.aliases within.aliases k))
      (in_either r (tops home us) (tops home ds) (subst (IsIn r) (map-append (λ x. Top home x) us ds) i)))

  pub offered_within : (t : Scope) → IsOffered home whole t → IsOffered home s t
  offered_within t o = record {
    values = λ r i. o.values r (names_in home s.values whole.values within.values r i);
    makers = λ r i. o.makers r (makers_in r i);
    unions = unions_in s.unions whole.unions o.unions within.unions;
  }

pub records_within : (s whole : Shown) → ShowsWithin s whole → AliasesHaveRecords whole.aliases →
    AliasesHaveRecords s.aliases
records_within s whole within a = aliases_in s.aliases whole.aliases a within.aliases
