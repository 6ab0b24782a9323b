-- What the names of a module mean in its world, by what they mean once its aliases are declared.
use Rattle.std.proofs.Common.{◌≡◌, ℕ, ◌+◌, ◌<◌, suc, List, [], ◌∷◌, ◌++◌, Bool, true, false, if◌then◌else◌, Option, Some, None}
use Rattle.std.proofs.Common.{length, map, refl, sym, ap, ◌∙◌, subst, append-nil, arith}
use Rattle.std.specs.Prelude.{flat_map, filter_map, option_map}
use Rattle.std.specs.List.{enumerate_from, cons_option, slice_index_or}
use Rattle.std.proofs.lemmas.Bool.{false≢true}
use Rattle.std.proofs.lemmas.Cmp.{nat_list_eq_equiv}
use Rattle.elm_tree.specs.Tree as tree
use Rattle.elm_tree.specs.Tree.{Declaration, Long}
use Rattle.elm_canon.specs.Names.{Name, same_name}
use Rattle.elm_canon.specs.Tree.{UnionDeclaration, AliasDeclaration}
use Rattle.canon_env.specs.Imports.{name_of, exposes_type, Everything}
use Rattle.canon_env.specs.Exposing.{is_among}
use Rattle.canon_env.specs.Env.{Rows, IsEnvOf, union_type, alias_type, types_by}
use Rattle.canon_env.specs.Found.{Row, find, own_or, rows_of}
use Rattle.canon_env.specs.Shown.{Shown, TypeMeaning, alias_meaning}
use Rattle.canon_env.specs.declared.found.Named.{Named}
use Rattle.canon_env.specs.declared.env.World as env
use Rattle.canon_env.specs.Naming.{World, IsWorld, own_name, qualifier_of}
use Rattle.canon_type.specs.Written.{AliasTree, aliases_in, alias_names, union_names_in}
use Rattle.canon_type.specs.Recursion.{place_among}
use Rattle.canon_type.specs.Unions.{UnionTree, union_of, bare_union, unions_in}
use Rattle.canon_type.specs.Types.{alias_of}
use Rattle.canon_type.specs.CanonAliasesKept.{first, Got, meaning_at, named, Tells, Setting, IsSetting, Made, made_view, got_in}
use Rattle.canon_type.specs.CanonAliasesKept.{no_alias, alias_at, world_with, AreExpanded}
use Rattle.canon_type.specs.CanonAliasesKept as kept
use Rattle.canon_type.proofs.Agreeing.{Same}
use Rattle.canon_type.proofs.Firsts.{finds_agree, first-append}
use Rattle.canon_type.proofs.Steps.{own_types}
use Rattle.canon_type.specs.DeclaredTypes.{module_world, aliases_of}
use Rattle.canon_type.specs.DeclaredTypesKept.{bare_shown, union_named, setting_of}

-- everything is exposed
abbrev all : Name → Bool
all = exposes_type Everything

abbrev pub alias_named : AliasDeclaration → Named TypeMeaning
alias_named d = named d.name d

union_types : (home : Name) (w : World) (us : List UnionTree) →
    flat_map (union_type all) (map (union_of home w) us) ≡ map union_named us
union_types home w [] = refl
union_types home w (u ∷ us) = ap (λ z. union_named u ∷ z) (union_types home w us)

bare_types : (home : Name) (us : List UnionTree) →
    flat_map (union_type all) (map (bare_union home) us) ≡ map union_named us
bare_types home [] = refl
bare_types home (u ∷ us) = ap (λ z. union_named u ∷ z) (bare_types home us)

alias_types : (ds : List AliasDeclaration) → flat_map (alias_type all) ds ≡ map alias_named ds
alias_types [] = refl
alias_types (d ∷ ds) = ap (λ z. alias_named d ∷ z) (alias_types ds)

union_names : (ds : List Declaration) →
    map (λ (n : Named TypeMeaning). n.name) (map union_named (unions_in ds)) ≡ union_names_in ds
union_names [] = refl
union_names (tree.Value d ∷ ds) = union_names ds
union_names (tree.Port x t ∷ ds) = union_names ds
union_names (tree.Union x ps cs ∷ ds) = ap (λ z. name_of x ∷ z) (union_names ds)
union_names (tree.Alias x ps t ∷ ds) = union_names ds

-- ---- before its aliases are declared

pub is_setting : (home : Name) (imported : Rows) (ds : List Declaration) → IsSetting (setting_of home imported ds)
is_setting home imported ds = record {
  rows =
      ap (rows_of [] home)
      (append-nil (flat_map (union_type all) (map (bare_union home) (unions_in ds))) ∙ bare_types home (unions_in ds));
  named_so = union_names ds;
}

pub no_alias_yet : (s : Setting) (world : env.World) → IsEnvOf world.own s.base → IsEnvOf world.imported s.imported →
    IsWorld world (world_with s [])
no_alias_yet s world own imported =
    let rows : List (Row TypeMeaning) → Rows = λ ts. record { values = s.base.values; types = ts; makers = s.base.makers } in
    record {
      own = subst (IsEnvOf world.own) (ap rows (sym (append-nil s.base.types))) own;
      imported = imported;
    }

-- ---- once they are declared

module _ (w : World) (uses : List (List ℕ)) where
  -- each alias stands at its place
  abbrev pub Placed : ℕ → List AliasTree → Got → Type 0
  Placed n trees got = (i : ℕ) → i < length trees → got i ≡ Some (alias_of w uses (n + i, slice_index_or trees i no_alias))

  later : (n : ℕ) (t : AliasTree) (trees : List AliasTree) (got : Got) → Placed n (t ∷ trees) got →
      Placed (n + 1) trees (λ i. got (suc i))
  later n t trees got h i l =
      let k : n + suc i ≡ n + 1 + i = omega arith in
      h (suc i) (omega (arith, l)) ∙ ap (λ j. Some (alias_of w uses (j, slice_index_or trees i no_alias))) k

  here : (n : ℕ) (t : AliasTree) (trees : List AliasTree) (got : Got) → Placed n (t ∷ trees) got →
      got 0 ≡ Some (alias_of w uses (n, t))
  here n t trees got h =
      let k : n + 0 ≡ n = omega arith in
      h 0 (omega arith) ∙ ap (λ j. Some (alias_of w uses (j, t))) k

  listed : (n : ℕ) (trees : List AliasTree) (made : List Made) → length made ≡ length trees → Placed n trees (got_in made) →
      filter_map made_view made ≡ map (alias_of w uses) (enumerate_from n trees)
  listed n [] [] count h = refl
  listed n [] (m ∷ made) count h = absurd (omega (arith, count))
  listed n (t ∷ trees) [] count h = absurd (omega (arith, count))
  listed n (t ∷ trees) (m ∷ made) count h =
      ap (λ o. cons_option o (filter_map made_view made)) (here n t trees (got_in (m ∷ made)) h)
      ∙ ap (λ z. alias_of w uses (n, t) ∷ z)
      (listed (n + 1) trees made (omega (arith, count)) (later n t trees (got_in (m ∷ made)) h))

  next_place : (got : Got) (o : Option ℕ) → meaning_at o (λ i. got (suc i)) ≡ meaning_at (option_map suc o) got
  next_place got None = refl
  next_place got (Some p) = refl

  -- the first of a name is the one at its first place
  pub first_placed : (x : Name) (n : ℕ) (trees : List AliasTree) (got : Got) → Placed n trees got →
      first x (map alias_named (map (alias_of w uses) (enumerate_from n trees)))
      ≡ meaning_at (place_among x (alias_names trees)) got
  first_placed x n [] got h = refl
  first_placed x n (t ∷ trees) got h =
      by (same_name (name_of t.name) x) (same_name x (name_of t.name)) (nat_list_eq_equiv.symm (name_of t.name) x)
      (first_placed x (n + 1) trees (λ i. got (suc i)) (later n t trees got h))
    where
      by : (b c : Bool) → b ≡ c →
          first x (map alias_named (map (alias_of w uses) (enumerate_from (n + 1) trees)))
          ≡ meaning_at (place_among x (alias_names trees)) (λ i. got (suc i)) →
          (if c then Some (alias_meaning (alias_of w uses (n, t)))
          else first x (map alias_named (map (alias_of w uses) (enumerate_from (n + 1) trees))))
          ≡ meaning_at (if b then Some 0 else option_map suc (place_among x (alias_names trees))) got
      by true true e more = sym (ap (option_map alias_meaning) (here n t trees got h))
      by true false e more = absurd (false≢true (sym e))
      by false true e more = absurd (false≢true e)
      by false false e more = more ∙ next_place got (place_among x (alias_names trees))

-- worlds that tell of the same aliases
module _ (s : Setting) (is : IsSetting s) (got : Got) (added more : List (Named TypeMeaning))
    (tells : Tells s.names (alias_names s.aliases) got added) (told : Tells s.names (alias_names s.aliases) got more) where
  same_first : (x : Name) → first x (s.unions ++ added) ≡ first x (s.unions ++ more)
  same_first x =
      first-append x s.unions added
      ∙ ap (λ ns. if is_among x ns then first x s.unions else first x added) is.named_so
      ∙ by (is_among x s.names) refl
      ∙ sym (ap (λ ns. if is_among x ns then first x s.unions else first x more) is.named_so)
      ∙ sym (first-append x s.unions more)
    where
      by : (b : Bool) → is_among x s.names ≡ b →
          (if b then first x s.unions else first x added) ≡ (if b then first x s.unions else first x more)
      by true e = refl
      by false e = tells x e ∙ sym (told x e)

  told_same : (x : Long) → Same (world_with s added) (world_with s more) x
  told_same x =
      ap (λ f. own_or f (find s.imported.types (qualifier_of x) (own_name x)))
      (ap (λ rows. find rows (qualifier_of x) (own_name x)) (own_types s is added)
      ∙ finds_agree s.home (qualifier_of x) (own_name x) (s.unions ++ added) (s.unions ++ more)
      (λ bare. same_first (own_name x))
      ∙ ap (λ rows. find rows (qualifier_of x) (own_name x)) (sym (own_types s is more)))

-- the world of a module says of the names of types what its unions and its aliases say
module _ (s : Setting) (is : IsSetting s) (shown : Shown) (w : World) (us : List UnionTree)
    (told : s.unions ≡ map union_named us) (unions : shown.unions ≡ map (union_of s.home w) us) where
  pub types_are : types_by all shown ≡ s.unions ++ map alias_named shown.aliases
  types_are =
      ap (λ z. flat_map (union_type all) z ++ flat_map (alias_type all) shown.aliases) unions
      ∙ ap (λ z. z ++ flat_map (alias_type all) shown.aliases) (union_types s.home w us ∙ sym told)
      ∙ ap (λ z. s.unions ++ z) (alias_types shown.aliases)

  pub in_module : (x : Long) →
      Same (world_with s (map alias_named shown.aliases)) (module_world s.home s.imported shown) x
  in_module x =
      ap (λ f. own_or f (find s.imported.types (qualifier_of x) (own_name x)))
      (ap (λ rows. find rows (qualifier_of x) (own_name x))
      (own_types s is (map alias_named shown.aliases) ∙ ap (rows_of [] s.home) (sym types_are)))

module _ (s : Setting) (is : IsSetting s) (world : env.World) (made : List Made) (h : AreExpanded s world made) where
  placed : Placed (world_with s h.added) (kept.uses_in s) 0 s.aliases (got_in made)
  placed i l =
      let k : i ≡ 0 + i = omega arith in
      h.declared i l ∙ ap (λ j. Some (alias_of (world_with s h.added) (kept.uses_in s) (j, alias_at s i))) k

  pub all_listed : filter_map made_view made ≡ aliases_of (world_with s h.added) (kept.uses_in s) s.aliases
  all_listed = listed (world_with s h.added) (kept.uses_in s) 0 s.aliases made h.count placed

  pub same_names : (shown : Shown) (us : List UnionTree) → s.unions ≡ map union_named us →
      shown.unions ≡ map (union_of s.home (world_with s h.added)) us →
      shown.aliases ≡ aliases_of (world_with s h.added) (kept.uses_in s) s.aliases → (x : Long) →
      Same (world_with s h.added) (module_world s.home s.imported shown) x
  same_names shown us told unions aliases x =
      told_same s is (got_in made) h.added (map alias_named shown.aliases) h.tells
      (λ y apart.
      ap (λ ds. first y (map alias_named ds)) aliases
      ∙ first_placed (world_with s h.added) (kept.uses_in s) y 0 s.aliases (got_in made) placed)
      x
      ∙ in_module s is shown (world_with s h.added) us told unions x
