-- No other unions and aliases are declared: where uses have an order, what the aliases stand for is told by it.
use Rattle.std.proofs.Common.{◌≡◌, ℕ, ◌+◌, ◌<◌, zero, suc, List, [], ◌∷◌, ◌++◌, Bool, true, false, ◌⊎◌, inl, inr, ⊎_elim}
use Rattle.std.proofs.Common.{Option, Some, None, length, map, refl, sym, ap, ◌∙◌, subst, arith}
use Rattle.std.specs.List.{Contains, enumerate_from, slice_index_or}
use Rattle.std.proofs.lemmas.Bool.{false≢true}
use Rattle.std.proofs.lemmas.List.{length-map}
use Rattle.elm_tree.specs.Tree.{Declaration, Long}
use Rattle.elm_canon.specs.Names.{Name}
use Rattle.elm_canon.specs.Tree.{AliasDeclaration}
use Rattle.decl_groups.specs.Groups.{Uses, IsOrder, all_placed, next, IsReady}
use Rattle.decl_groups.proofs.Basics.{no_member, member_cases}
use Rattle.decl_groups.specs.InOrder.{is_recursive, uses_itself}
use Rattle.decl_groups.proofs.Standing.{member_append}
use Rattle.canon_env.specs.Env.{Rows, types_by}
use Rattle.canon_env.specs.Imports.{exposes_type, Everything}
use Rattle.canon_env.specs.Found.{find, own_or, rows_of}
use Rattle.canon_env.specs.Shown.{Shown, TypeMeaning}
use Rattle.canon_env.specs.declared.found.Named.{Named}
use Rattle.canon_env.specs.Naming.{World, own_name, qualifier_of}
use Rattle.canon_type.specs.Written.{AliasTree, aliases_in, alias_names, union_names_in}
use Rattle.canon_type.specs.Recursion.{uses_of}
use Rattle.canon_type.specs.Unions.{union_of, unions_in}
use Rattle.canon_type.specs.Types.{alias_of}
use Rattle.canon_type.specs.CanonAliasesKept.{first, Got, Tells, Setting, IsSetting, no_alias, alias_at, world_with}
use Rattle.canon_type.specs.CanonAliasesKept as kept
use Rattle.canon_type.proofs.Agreeing.{Same}
use Rattle.canon_type.proofs.Grouping.{loops, used_before}
use Rattle.canon_type.proofs.Steps.{alias_stays}
use Rattle.canon_type.specs.DeclaredTypes.{module_world, uses_in, aliases_of, AreDeclared}
use Rattle.canon_type.specs.DeclaredTypesKept.{union_named, setting_of}
use Rattle.canon_type.proofs.Carrying.{map_same, one_union, one_alias}
use Rattle.canon_type.proofs.Meaning.{alias_named, Placed, first_placed, is_setting, types_are, in_module}

-- ---- in order of use

-- a group whose definitions do not use themselves has one
one_member : (uses : List (List ℕ)) (group : List ℕ) (i : ℕ) → Contains group i → is_recursive uses group ≡ false →
    group ≡ i ∷ []
one_member uses [] i m e = absurd (no_member i m)
one_member uses (j ∷ []) i m e =
    let same : j ≡ i = ⊎_elim (λ q. q) (λ k. absurd (no_member i k)) (member_cases j i [] m) in
    ap (λ z. z ∷ []) same
one_member uses (j ∷ k ∷ group) i m e = absurd (false≢true (sym e))

module _ (s : Setting) (is : IsSetting s) (old new : Got) (added more : List (Named TypeMeaning))
    (tells : Tells s.names (alias_names s.aliases) old added) (told : Tells s.names (alias_names s.aliases) new more)
    (before : (i : ℕ) → i < length s.aliases → old i ≡ Some (alias_of (world_with s added) (kept.uses_in s) (i, alias_at s i)))
    (after : (i : ℕ) → i < length s.aliases → new i ≡ Some (alias_of (world_with s more) (kept.uses_in s) (i, alias_at s i))) where
  -- what the aliases of a group use that do not reach themselves is placed before
  closed : (placed group : List ℕ) → IsReady (kept.uses_in s) placed group → (i : ℕ) → Contains group i →
      uses_itself (kept.uses_in s) i ≡ false → (j : ℕ) → Uses (kept.uses_in s) i j → Contains placed j
  closed placed group ready i m apart j u = by (is_recursive (kept.uses_in s) group) refl
    where
      by : (b : Bool) → is_recursive (kept.uses_in s) group ≡ b → Contains placed j
      by true e = absurd (false≢true (sym apart ∙ loops s placed group ready e i m))
      by false e = used_before s placed group ready i (one_member (kept.uses_in s) group i m e) e j u

  more_kept : (placed group : List ℕ) → IsReady (kept.uses_in s) placed group →
      ((p : ℕ) → Contains placed p → new p ≡ old p) → (p : ℕ) → Contains (placed ++ group) p → new p ≡ old p
  more_kept placed group ready kept_so p m =
      ⊎_elim (kept_so p)
      (λ n.
      let l : p < length s.aliases =
      subst (λ k. p < k) (length-map s.aliases (uses_of s.names (alias_names s.aliases)))
      ((ready.is_group.members p).0 n).0 in
      after p l
      ∙ ap Some (sym (alias_stays s is old new added more placed tells told kept_so p l (closed placed group ready p n)))
      ∙ sym (before p l))
      (member_append placed group p m)

  all_kept : (placed : List ℕ) (groups : List (List ℕ)) → IsOrder (kept.uses_in s) placed groups →
      ((p : ℕ) → Contains placed p → new p ≡ old p) → (p : ℕ) → p < length (kept.uses_in s) → new p ≡ old p
  all_kept placed [] (all_placed f) kept_so p l = kept_so p (f p l)
  all_kept placed (g ∷ groups) (next n o) kept_so p l =
      all_kept (placed ++ g) groups o (more_kept placed g n.ready kept_so) p l

-- ---- the aliases at their places

abbrev listed_at : List AliasDeclaration → Got
listed_at [] i = None
listed_at (d ∷ ds) zero = Some d
listed_at (d ∷ ds) (suc i) = listed_at ds i

same_lists : (as_now bs : List AliasDeclaration) → length as_now ≡ length bs →
    ((i : ℕ) → i < length as_now → listed_at as_now i ≡ listed_at bs i) → as_now ≡ bs
same_lists [] [] many e = refl
same_lists [] (b ∷ bs) many e = absurd (omega (arith, many))
same_lists (a ∷ as_now) [] many e = absurd (omega (arith, many))
same_lists (a ∷ as_now) (b ∷ bs) many e =
    let heads : Some a ≡ Some b = e 0 (omega arith) in
    let one : a ≡ b = cc in
    ap (λ z. z ∷ as_now) one
    ∙ ap (λ z. b ∷ z) (same_lists as_now bs (omega (arith, many)) (λ i l. e (suc i) (omega (arith, l))))

length_listed : (w : World) (uses : List (List ℕ)) (n : ℕ) (trees : List AliasTree) →
    length (map (alias_of w uses) (enumerate_from n trees)) ≡ length trees
length_listed w uses n [] = refl
length_listed w uses n (t ∷ trees) = ap suc (length_listed w uses (n + 1) trees)

placed_at : (w : World) (uses : List (List ℕ)) (n : ℕ) (trees : List AliasTree) →
    Placed w uses n trees (listed_at (map (alias_of w uses) (enumerate_from n trees)))
placed_at w uses n [] i l = absurd (omega (arith, l))
placed_at w uses n (t ∷ trees) zero l =
    let k : n ≡ n + 0 = omega arith in ap (λ j. Some (alias_of w uses (j, t))) k
placed_at w uses n (t ∷ trees) (suc i) l =
    let k : n + 1 + i ≡ n + suc i = omega arith in
    placed_at w uses (n + 1) trees i (omega (arith, l))
    ∙ ap (λ j. Some (alias_of w uses (j, slice_index_or trees i no_alias))) k

-- ---- a module whose types are declared

module _ (home : Name) (imported : Rows) (ds : List Declaration) (a : Shown) (h : AreDeclared home imported ds a) where
  pub aliases_so : a.aliases
      ≡ aliases_of (world_with (setting_of home imported ds) (map alias_named a.aliases)) (uses_in ds) (aliases_in ds)
  aliases_so =
      h.aliases
      ∙ sym (map_same
      (alias_of (world_with (setting_of home imported ds) (map alias_named a.aliases)) (uses_in ds))
      (alias_of (module_world home imported a) (uses_in ds))
      (λ d. one_alias (world_with (setting_of home imported ds) (map alias_named a.aliases)) (module_world home imported a)
      (in_module (setting_of home imported ds) (is_setting home imported ds) a (module_world home imported a) (unions_in ds)
      refl h.unions)
      (uses_in ds) d)
      (enumerate_from 0 (aliases_in ds)))

  pub many_so : length a.aliases ≡ length (aliases_in ds)
  many_so = ap length h.aliases ∙ length_listed (module_world home imported a) (uses_in ds) 0 (aliases_in ds)

  placed_so : Placed (world_with (setting_of home imported ds) (map alias_named a.aliases)) (uses_in ds) 0 (aliases_in ds)
      (listed_at a.aliases)
  placed_so i l =
      ap (λ as_now. listed_at as_now i) aliases_so
      ∙ placed_at (world_with (setting_of home imported ds) (map alias_named a.aliases)) (uses_in ds) 0 (aliases_in ds) i l

  pub at_places : (i : ℕ) → i < length (aliases_in ds) → listed_at a.aliases i
      ≡ Some (alias_of (world_with (setting_of home imported ds) (map alias_named a.aliases)) (uses_in ds)
      (i, slice_index_or (aliases_in ds) i no_alias))
  at_places i l =
      let k : 0 + i ≡ i = omega arith in
      placed_so i l
      ∙ ap (λ j. Some (alias_of (world_with (setting_of home imported ds) (map alias_named a.aliases)) (uses_in ds)
      (j, slice_index_or (aliases_in ds) i no_alias))) k

  pub tells_so : Tells (setting_of home imported ds).names (alias_names (aliases_in ds)) (listed_at a.aliases)
      (map alias_named a.aliases)
  tells_so x apart =
      ap (λ as_now. first x (map alias_named as_now)) aliases_so
      ∙ first_placed (world_with (setting_of home imported ds) (map alias_named a.aliases)) (uses_in ds) x 0 (aliases_in ds)
      (listed_at a.aliases) placed_so

  pub rows_so : types_by (exposes_type Everything) a
      ≡ (setting_of home imported ds).unions ++ map alias_named a.aliases
  rows_so =
      types_are (setting_of home imported ds) (is_setting home imported ds) a (module_world home imported a)
      (unions_in ds) refl h.unions

module _ (home : Name) (imported : Rows) (ds : List Declaration) (groups : List (List ℕ))
    (order : IsOrder (uses_in ds) [] groups) (a b : Shown) (h : AreDeclared home imported ds a)
    (g : AreDeclared home imported ds b) where
  at_each : (i : ℕ) → i < length (aliases_in ds) → listed_at b.aliases i ≡ listed_at a.aliases i
  at_each i l =
      all_kept (setting_of home imported ds) (is_setting home imported ds) (listed_at a.aliases) (listed_at b.aliases)
      (map alias_named a.aliases) (map alias_named b.aliases) (tells_so home imported ds a h)
      (tells_so home imported ds b g) (at_places home imported ds a h) (at_places home imported ds b g) [] groups order
      (λ p m. absurd (no_member p m)) i
      (subst (λ n. i < n) (sym (length-map (aliases_in ds) (uses_of (union_names_in ds) (alias_names (aliases_in ds))))) l)

  one_list : b.aliases ≡ a.aliases
  one_list =
      same_lists b.aliases a.aliases (many_so home imported ds b g ∙ sym (many_so home imported ds a h))
      (λ i l. at_each i (subst (λ n. i < n) (many_so home imported ds b g) l))

  one_meaning : (x : Long) → Same (module_world home imported b) (module_world home imported a) x
  one_meaning x =
      ap (λ ns. own_or (find (rows_of [] home ns) (qualifier_of x) (own_name x))
      (find imported.types (qualifier_of x) (own_name x)))
      (rows_so home imported ds b g
      ∙ ap (λ ms. (setting_of home imported ds).unions ++ map alias_named ms) one_list
      ∙ sym (rows_so home imported ds a h))

  pub none_other : (b.unions ≡ a.unions) × (b.aliases ≡ a.aliases)
  none_other = (
    g.unions
        ∙ map_same (union_of home (module_world home imported b)) (union_of home (module_world home imported a))
        (one_union (module_world home imported b) (module_world home imported a) one_meaning home) (unions_in ds)
        ∙ sym h.unions,
    one_list,
  )
