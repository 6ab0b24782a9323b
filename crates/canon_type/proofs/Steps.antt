-- One alias more: what was declared stays as it is.
use Rattle.std.proofs.Common.{◌≡◌, ℕ, ◌+◌, ◌<◌, List, [], ◌∷◌, ◌++◌, Bool, true, false, ◌⊎◌, inl, inr, ⊎_elim, if◌then◌else◌, Option, Some, None}
use Rattle.std.proofs.Common.{length, map, get_or, refl, sym, ap, ◌∙◌, subst, append_assoc, arith}
use Rattle.std.specs.Prelude.{filter_map, option_map}
use Rattle.std.specs.List.{Contains, slice_index_or}
use Rattle.std.proofs.lemmas.List.{map-append, get_or-map, get_or-set_same, get_or-set_other}
use Rattle.std.proofs.Math.ListN.{set, length-set}
use Rattle.std.proofs.lemmas.Bool.{false≢true, eqb-true, eq-eqb}
use Rattle.elm_tree.specs.Tree.{Long}
use Rattle.elm_canon.specs.Names.{Name, same_name}
use Rattle.elm_canon.specs.Tree.{Annotation, AliasDeclaration}
use Rattle.decl_groups.specs.Groups.{Uses, list_at}
use Rattle.decl_groups.proofs.Basics.{member_cases, no_member, first_member}
use Rattle.decl_groups.specs.InOrder.{uses_itself}
use Rattle.decl_groups.proofs.Standing.{member_append, front_member, append_member}
use Rattle.canon_env.specs.Exposing.{is_among}
use Rattle.std.specs.declared.alloc.Global.{Global}
use Rattle.std.specs.declared.sync.Arc.{Arc}
use Rattle.elm_canon.specs.View.{alias_declaration_view}
use Rattle.elm_canon.specs.declared.tree.AliasDeclaration as program
use Rattle.canon_env.specs.Env.{Rows, with_type, IsEnvOf}
use Rattle.canon_env.specs.Found.{Row, find, own_or, rows_of, row_of}
use Rattle.canon_env.specs.Shown.{TypeMeaning, alias_meaning}
use Rattle.canon_env.specs.declared.found.Named.{Named}
use Rattle.canon_env.specs.Naming.{World, IsWorld, own_name, qualifier_of}
use Rattle.canon_env.specs.Imports.{name_of}
use Rattle.canon_env.specs.Expanding.{blank}
use Rattle.canon_env.specs.Types.{type_of}
use Rattle.canon_type.specs.Written.{AliasTree, alias_names, names_in}
use Rattle.canon_type.specs.Recursion.{place_among, alias_place, place_of_name, uses_of}
use Rattle.canon_type.specs.Types.{standing_for, alias_of}
use Rattle.canon_type.specs.CanonAliasesKept.{first, Got, meaning_at, named, Tells, Setting, IsSetting, uses_in, alias_at, no_alias}
use Rattle.canon_type.specs.CanonAliasesKept.{own_with, world_with, Made, made_view, got_in, IsExpanding, is_place, with_first}
use Rattle.canon_env.specs.declared.env.World as env
use Rattle.canon_type.proofs.Agreeing.{Each, each_weaker, each_used, Same, type_agrees}
use Rattle.canon_type.proofs.Firsts.{finds_agree, first-append}
use Rattle.canon_type.proofs.Adding.{Gains, added_tells, hidden_tells, place_is}

pub at_map : {X Y : Type 0} → (f : X → Y) (xs : List X) (i : ℕ) (d : X) (e : Y) → i < length xs →
    slice_index_or (map f xs) i e ≡ f (slice_index_or xs i d)
at_map f xs i d e l = get_or-map f xs i d e l

module _ (s : Setting) (is : IsSetting s) where
  -- the types of the module's own world, as rows of one list of names
  pub own_types : (added : List (Named TypeMeaning)) → (own_with s added).types ≡ rows_of [] s.home (s.unions ++ added)
  own_types added =
      ap (λ z. z ++ rows_of [] s.home added) is.rows ∙ sym (map-append (row_of [] s.home) s.unions added)

  module _ (old new : Got) (added more : List (Named TypeMeaning)) (placed : List ℕ)
      (tells : Tells s.names (alias_names s.aliases) old added) (told : Tells s.names (alias_names s.aliases) new more)
      (kept : (p : ℕ) → Contains placed p → new p ≡ old p) where
    same_first : (x : Name) →
        ((p : ℕ) → is_among x s.names ≡ false → place_among x (alias_names s.aliases) ≡ Some p → Contains placed p) →
        first x (s.unions ++ added) ≡ first x (s.unions ++ more)
    same_first x used =
        first-append x s.unions added
        ∙ ap (λ ns. if is_among x ns then first x s.unions else first x added) is.named_so
        ∙ by (is_among x s.names) refl
        ∙ sym (ap (λ ns. if is_among x ns then first x s.unions else first x more) is.named_so)
        ∙ sym (first-append x s.unions more)
      where
        at : is_among x s.names ≡ false → (o : Option ℕ) → place_among x (alias_names s.aliases) ≡ o →
            meaning_at o old ≡ meaning_at o new
        at apart None e = refl
        at apart (Some p) e = ap (λ d. option_map alias_meaning d) (sym (kept p (used p apart e)))

        by : (b : Bool) → is_among x s.names ≡ b →
            (if b then first x s.unions else first x added) ≡ (if b then first x s.unions else first x more)
        by true e = refl
        by false e =
            tells x e ∙ at e (place_among x (alias_names s.aliases)) refl ∙ sym (told x e)

    -- a name whose alias is declared already, if it is that of an alias
    pub name_stays : (x : Long) →
        ((p : ℕ) → alias_place s.names (alias_names s.aliases) x ≡ Some p → Contains placed p) →
        Same (world_with s added) (world_with s more) x
    name_stays x used =
        ap (λ f. own_or f (find s.imported.types (qualifier_of x) (own_name x)))
        (ap (λ rows. find rows (qualifier_of x) (own_name x)) (own_types added)
        ∙ finds_agree s.home (qualifier_of x) (own_name x) (s.unions ++ added) (s.unions ++ more)
        (λ bare. same_first (own_name x) (λ p apart e. used p
        (ap (λ b. if b then (if is_among (own_name x) s.names then None else place_among (own_name x) (alias_names s.aliases)) else None) bare
        ∙ ap (λ b. if b then None else place_among (own_name x) (alias_names s.aliases)) apart ∙ e)))
        ∙ ap (λ rows. find rows (qualifier_of x) (own_name x)) (sym (own_types more)))

    uses_at : (i : ℕ) → i < length s.aliases →
        list_at (uses_in s) i ≡ filter_map (alias_place s.names (alias_names s.aliases)) (names_in (alias_at s i).body)
    uses_at i l = at_map (uses_of s.names (alias_names s.aliases)) s.aliases i no_alias [] l

    -- an alias whose uses are declared stands for what it stood for
    pub alias_stays : (i : ℕ) → i < length s.aliases →
        (uses_itself (uses_in s) i ≡ false → (j : ℕ) → Uses (uses_in s) i j → Contains placed j) →
        alias_of (world_with s added) (uses_in s) (i, alias_at s i)
        ≡ alias_of (world_with s more) (uses_in s) (i, alias_at s i)
    alias_stays i l closed = ap (standing_for (alias_at s i)) (by (uses_itself (uses_in s) i) refl)
      where
        by : (b : Bool) → uses_itself (uses_in s) i ≡ b →
            (if b then blank else type_of (world_with s added) (alias_at s i).body)
            ≡ (if b then blank else type_of (world_with s more) (alias_at s i).body)
        by true e = refl
        by false e =
            type_agrees (world_with s added) (world_with s more) (alias_at s i).body
            (each_weaker (λ x. (p : ℕ) → alias_place s.names (alias_names s.aliases) x ≡ Some p → Contains placed p)
            (Same (world_with s added) (world_with s more)) (λ x h. name_stays x h) (names_in (alias_at s i).body)
            (each_used (alias_place s.names (alias_names s.aliases)) (Contains placed) (names_in (alias_at s i).body)
            (λ p m. closed e p (subst (λ ps. Contains ps p) (sym (uses_at i l)) m))))

-- one place more
another : (placed : List ℕ) (i j : ℕ) → Contains (placed ++ i ∷ []) j → Contains placed j ⊎ (i ≡ j)
another placed i j m =
    ⊎_elim inl (λ n. ⊎_elim inr (λ k. absurd (no_member j k)) (member_cases i j [] n)) (member_append placed (i ∷ []) j m)

module _ (s : Setting) (is : IsSetting s) (old new : env.World) (before after : List Made) (placed : List ℕ)
    (h : IsExpanding s old before placed) (i : ℕ) (d : AliasDeclaration) (l : i < length s.aliases)
    (apart : Contains placed i → ⊥) (gains : Gains (got_in before) (got_in after) i d)
    (closed : uses_itself (uses_in s) i ≡ false → (j : ℕ) → Uses (uses_in s) i j → Contains placed j)
    (d_is : d ≡ alias_of (world_with s h.added) (uses_in s) (i, alias_at s i))
    (more : List (Named TypeMeaning)) (told : Tells s.names (alias_names s.aliases) (got_in after) more)
    (world_is : IsWorld new (world_with s more)) (count : length after ≡ length before) where
  kept : (p : ℕ) → Contains placed p → got_in after p ≡ got_in before p
  kept p m = gains.others p (λ e. apart (subst (Contains placed) e m))

  stays : (j : ℕ) → j < length s.aliases →
      (uses_itself (uses_in s) j ≡ false → (k : ℕ) → Uses (uses_in s) j k → Contains placed k) →
      alias_of (world_with s h.added) (uses_in s) (j, alias_at s j)
      ≡ alias_of (world_with s more) (uses_in s) (j, alias_at s j)
  stays j lj c = alias_stays s is (got_in before) (got_in after) h.added more placed h.tells told kept j lj c

  declared_so : (j : ℕ) → Contains (placed ++ i ∷ []) j →
      got_in after j ≡ Some (alias_of (world_with s more) (uses_in s) (j, alias_at s j))
  declared_so j m =
      ⊎_elim
      (λ k. kept j k ∙ h.declared j k ∙ ap Some (stays j (h.within j k) (λ e x u. h.closed j x k e u)))
      (λ e. subst (λ z. got_in after z ≡ Some (alias_of (world_with s more) (uses_in s) (z, alias_at s z))) e
      (gains.here ∙ ap Some (d_is ∙ stays i l closed)))
      (another placed i j m)

  -- the alias at the place is declared too
  pub expanding_more : IsExpanding s new after (placed ++ i ∷ [])
  expanding_more = record {
    added = more;
    world_is = world_is;
    count = count ∙ h.count;
    tells = told;
    declared = declared_so;
    absent = λ j none.
        gains.others j (λ e. none (append_member placed (i ∷ []) j (subst (λ z. Contains (i ∷ []) z) (sym e) (first_member i []))))
        ∙ h.absent j (λ m. none (front_member placed (i ∷ []) j m));
    within = λ j m. ⊎_elim (h.within j) (λ e. subst (λ z. z < length s.aliases) e l) (another placed i j m);
    closed = λ j k m e u.
        front_member placed (i ∷ []) k
        (⊎_elim (λ n. h.closed j k n e u)
        (λ same. closed (ap (uses_itself (uses_in s)) same ∙ e) k (subst (λ z. Uses (uses_in s) z k) (sym same) u))
        (another placed i j m));
  }

-- ---- one alias, under its name if it is the first of that name

place_told : (i : ℕ) (o : Option ℕ) → is_place i o ≡ true → o ≡ Some i
place_told i None e = absurd (false≢true e)
place_told i (Some p) e = ap Some (eqb-true p i e)

place_not_told : (i : ℕ) (o : Option ℕ) → is_place i o ≡ false → o ≡ Some i → ⊥
place_not_told i None e is = cc
place_not_told i (Some p) e is =
    let same : p ≡ i = cc in false≢true (sym e ∙ eq-eqb p i same)

grown : (s : Setting) (added : List (Named TypeMeaning)) (home y : Name) (m : TypeMeaning) → s.home ≡ home →
    with_type (own_with s added) home y m ≡ own_with s (added ++ record { name = y; meaning = m } ∷ [])
grown s added home y m e =
    let rows : List (Row TypeMeaning) → Rows = λ ts. record { values = s.base.values; types = ts; makers = s.base.makers } in
    let one : Named TypeMeaning = record { name = y; meaning = m } in
    ap rows
    (ap (λ z. (s.base.types ++ rows_of [] s.home added) ++ rows_of [] z (one ∷ [])) (sym e)
    ∙ append_assoc s.base.types (rows_of [] s.home added) (rows_of [] s.home (one ∷ []))
    ∙ ap (λ z. s.base.types ++ z) (sym (map-append (row_of [] s.home) added (one ∷ []))))

module _ (s : Setting) (is : IsSetting s) (old new : env.World) (before : List Made) (placed : List ℕ)
    (h : IsExpanding s old before placed) (i : ℕ) (one : Arc program.AliasDeclaration Global) (home y : Name)
    (l : i < length before) (same_home : s.home ≡ home)
    (at : alias_declaration_view one.value ≡ alias_of (world_with s h.added) (uses_in s) (i, alias_at s i))
    (y_is : y ≡ name_of (alias_at s i).name) (apart : Contains placed i → ⊥)
    (closed : uses_itself (uses_in s) i ≡ false → (j : ℕ) → Uses (uses_in s) i j → Contains placed j)
    (imported : new.imported ≡ old.imported) where
  d : AliasDeclaration
  d = alias_declaration_view one.value

  inside : i < length s.aliases
  inside = omega (arith, l, h.count)

  gains : Gains (got_in before) (got_in (set before i (Some one))) i (alias_declaration_view one.value)
  gains = record {
    here = ap made_view (get_or-set_same before i (Some one) None l);
    others = λ j other. ap made_view (get_or-set_other before i j (Some one) None other);
  }

  at_place : (x : Name) → place_among x (alias_names s.aliases) ≡ Some i → x ≡ y
  at_place x e =
      place_is x (alias_names s.aliases) i [] e
      ∙ at_map (λ (a : AliasTree). name_of a.name) s.aliases i no_alias [] inside ∙ sym y_is

  pub added_one : (b : Bool) → b ≡ is_place i (place_of_name s.names (alias_names s.aliases) y) →
      ((rows : Rows) → IsEnvOf old.own rows →
      IsEnvOf new.own (with_first b rows home y (alias_meaning (alias_declaration_view one.value)))) →
      IsExpanding s new (set before i (Some one)) (placed ++ i ∷ [])
  added_one true told step =
      let more = h.added ++ named y (alias_declaration_view one.value) ∷ [] in
      expanding_more s is old new before (set before i (Some one)) placed h i (alias_declaration_view one.value) inside
      apart gains closed at more
      (added_tells s.names (alias_names s.aliases) (got_in before) (got_in (set before i (Some one))) i y
      (alias_declaration_view one.value) gains (h.absent i apart) at_place h.added h.tells
      (place_told i (place_of_name s.names (alias_names s.aliases) y) (sym told)))
      (record {
        own =
            subst (IsEnvOf new.own)
            (grown s h.added home y (alias_meaning (alias_declaration_view one.value)) same_home)
            (step (own_with s h.added) h.world_is.own);
        imported = subst (λ z. IsEnvOf z s.imported) (sym imported) h.world_is.imported;
      })
      (length-set before i (Some one))
  added_one false told step =
      expanding_more s is old new before (set before i (Some one)) placed h i (alias_declaration_view one.value) inside
      apart gains closed at h.added
      (hidden_tells s.names (alias_names s.aliases) (got_in before) (got_in (set before i (Some one))) i y
      (alias_declaration_view one.value) gains (h.absent i apart) at_place h.added h.tells
      (place_not_told i (place_of_name s.names (alias_names s.aliases) y) (sym told)))
      (record {
        own = step (own_with s h.added) h.world_is.own;
        imported = subst (λ z. IsEnvOf z s.imported) (sym imported) h.world_is.imported;
      })
      (length-set before i (Some one))
