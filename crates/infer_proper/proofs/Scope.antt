-- The scope that a module stands in where everything is sound: all that its imports show, and the functions of the
-- operators of other modules. `stands`.
use Rattle.std.proofs.Common.{◌≡◌, ℕ, List, [], ◌∷◌, ◌++◌, map, Bool, true, false, refl, sym, ap, ◌∙◌, subst}
use Rattle.std.proofs.Common.{◌⊎◌, inl, inr, ◌||◌, if◌then◌else◌, Option, Some, None}
use Rattle.std.specs.Prelude.{flat_map, not, ◌&&◌, option_map}
use Rattle.std.specs.List.{AllByRecursion, list_any, filter, filter_map, cons_option}
use Rattle.std.specs.Str.{bytes_eq}
use Rattle.std.proofs.lemmas.Bool.{false≢true}
use Rattle.std.proofs.lemmas.Slice.Eq.{bytes_eq-Decides}
use Rattle.elm_base.specs.Units.{text_units}
use Rattle.elm_tree.specs.Regroup.{Row, operator_rows}
use Rattle.elm_tree.specs.Tree as tree
use Rattle.elm_tree.specs.Tree.{Declaration}
use Rattle.elm_canon.specs.Names.{Name, same_name}
use Rattle.elm_canon.specs.Tree.{UnionDeclaration, AliasDeclaration}
use Rattle.elm_canon.specs.declared.reference.Ref.{Ref}
use Rattle.elm_canon.specs.declared.reference.Ref.TheVariants.{Local, Top}
use Rattle.elm_canon.specs.declared.unions.Alternative.{Alternative}
use Rattle.elm_canon.specs.Spelled.{is_module}
use Rattle.elm_canon.specs.Proper.{Scope, among, IsIn, with_all}
use Rattle.canon_env.specs.Env.{Known, declared_alternatives}
use Rattle.canon_env.specs.Exposing.{is_operator, operator_home}
use Rattle.canon_env.specs.Imports.{Import, import_of}
use Rattle.canon_env.specs.Shown.{Shown}
use Rattle.canon_env.proofs.Adding.{one_name}
use Rattle.canon_expr.specs.Operators.{meaning_of}
use Rattle.canon_proper.specs.Rows.{AreConstructors, AreUnions}
use Rattle.canon_proper.specs.Worlds.{operator_ref}
use Rattle.canon_proper.proofs.Scopes.{among-with_all, in_first, in_later, in_more, name_itself}
use Rattle.canon_proper.proofs.Apart.{in_left, in_right, in_neither}
use Rattle.module_proper.specs.Modules.{tops, value_refs, HasAll, union_makers, alias_makers, shown_makers, IsOffered}
use Rattle.module_proper.specs.Modules.{AreOffered, IsAround}
use Rattle.module_proper.proofs.Numbers.{no_local, one_home}
use Rattle.module_proper.proofs.Rows.{has_left, has_right}
use Rattle.module_proper.specs.Records.{AliasesHaveRecords, ImportsHaveRecords}
use Rattle.interface.specs.Interface.{Interface}
use Rattle.module_offers.specs.Offers.{shown_of}
use Rattle.project_proper.specs.Laws.{OwnOperators}
use Rattle.module_made.specs.Around.{Around, home_of, known_import, setting_of}
use Rattle.infer_proper.specs.Sound.{AreOpaque, ShowsTypes, IsSound}
use Rattle.infer_proper.proofs.Lists.{empty, all_implied, all_both}

-- ---- names of modules

untrue : (b : Bool) → (b ≡ true → ⊥) → b ≡ false
untrue true h = absurd (h refl)
untrue false h = refl

same_back : (a b : Name) → same_name a b ≡ false → same_name b a ≡ false
same_back a b e = untrue (same_name b a) (λ k. false≢true (sym e ∙ (ap (same_name a) (one_name b a k) ∙ name_itself a)))

not_true_is : (b : Bool) → not b ≡ true → b ≡ false
not_true_is true e = absurd (false≢true e)
not_true_is false e = refl

-- ---- types without a text

no_makers : (us : List UnionDeclaration) → AreOpaque us → flat_map union_makers us ≡ []
no_makers [] h = refl
no_makers (u ∷ us) h =
    ap (λ cs. map (λ (c : Alternative). c.name) cs ++ flat_map union_makers us)
    (empty (declared_alternatives u.union) h.0.makers)
    ∙ no_makers us h.1

opaque_unions : (us : List UnionDeclaration) → AreOpaque us → AreUnions us
opaque_unions [] h = tt
opaque_unions (u ∷ us) h = (
  subst (AreConstructors u.union) (sym (empty (declared_alternatives u.union) h.0.makers)) tt,
  opaque_unions us h.1,
)

-- ---- imports

-- it is of another module, and what it shows is sound
pub record IsOther (home : Name) (k : Known) : Type 0 where
  pub other : same_name k.import.home home ≡ false
  pub unions : AreUnions k.shown.unions
  pub aliases : AliasesHaveRecords k.shown.aliases

abbrev pub IsFine : Name → Known → Type 0
IsFine home k = ShowsTypes k.shown ⊎ IsOther home k

abbrev pub AreFine : Name → List Known → Type 0
AreFine home ks = AllByRecursion (IsFine home) ks

abbrev beside : Import → Shown → Known
beside i s = record { import = i; shown = s }

module _ (a : Around) (sound : IsSound a) where
  not_own : (x : Name) (i : Interface) → a.interfaces x ≡ Some i → same_name x (home_of a) ≡ false
  not_own x i e =
      untrue (same_name x (home_of a))
      (λ s. sound.apart i (subst (λ n. a.interfaces n ≡ Some i) (one_name x (home_of a) s) e))

  one_fine : (i : Import) (o : Option Interface) → a.interfaces i.home ≡ o → (ks : List Known)
      → AreFine (home_of a) ks
      → AreFine (home_of a) (cons_option (option_map (beside i) (option_map (shown_of i.home) o)) ks)
  one_fine i None e ks h = h
  one_fine i (Some f) e ks h =
      let is = sound.interfaces i.home f e in
      let other : IsOther (home_of a) (beside i (shown_of i.home f)) =
      record { other = not_own i.home f e; unions = is.unions; aliases = is.aliases } in
      (inr other, h)

  each_fine : (is : List Import) → AreFine (home_of a) (filter_map (known_import a.interfaces) is)
  each_fine [] = tt
  each_fine (i ∷ is) =
      one_fine i (a.interfaces i.home) refl (filter_map (known_import a.interfaces) is) (each_fine is)

  pub imports_fine : (t : tree.Module) → AreFine (home_of a) (setting_of a t).imports
  imports_fine t =
      all_both (IsFine (home_of a)) a.known
      (filter_map (known_import a.interfaces) (a.defaults ++ map import_of t.head.imports))
      (all_implied (λ (k : Known). ShowsTypes k.shown) (IsFine (home_of a)) (λ k h. inl h) a.known sound.known)
      (each_fine (a.defaults ++ map import_of t.head.imports))

-- ---- what an import shows

abbrev pub shown_refs : Known → Scope
shown_refs k = tops k.import.home k.shown.values ++ tops k.import.home (shown_makers k.shown)

shows_none : (k : Known) → ShowsTypes k.shown → shown_refs k ≡ []
shows_none k h =
    ap (λ xs. tops k.import.home xs ++ tops k.import.home (shown_makers k.shown)) (empty k.shown.values h.values)
    ∙ (ap (λ xs. tops k.import.home (xs ++ flat_map alias_makers k.shown.aliases)) (no_makers k.shown.unions h.unions)
    ∙ ap (λ (ds : List AliasDeclaration). tops k.import.home (flat_map alias_makers ds))
    (empty k.shown.aliases h.aliases))

no_local_shown : (x : Name) (k : Known) → among (Local x) (shown_refs k) ≡ false
no_local_shown x k =
    in_neither (Local x) (tops k.import.home k.shown.values) (tops k.import.home (shown_makers k.shown))
    (no_local k.import.home x k.shown.values) (no_local k.import.home x (shown_makers k.shown))

not_home : (home x m : Name) (xs : List Name) → same_name m home ≡ false → among (Top home x) (tops m xs) ≡ false
not_home home x m xs o =
    untrue (among (Top home x) (tops m xs))
    (λ e. false≢true (sym o ∙ subst (λ n. same_name n home ≡ true) (one_home home m x xs e) (name_itself home)))

none_own_shown : (home x : Name) (k : Known) → IsFine home k → among (Top home x) (shown_refs k) ≡ false
none_own_shown home x k (inl h) = ap (among (Top home x)) (shows_none k h)
none_own_shown home x k (inr h) =
    in_neither (Top home x) (tops k.import.home k.shown.values) (tops k.import.home (shown_makers k.shown))
    (not_home home x k.import.home k.shown.values h.other)
    (not_home home x k.import.home (shown_makers k.shown) h.other)

fine_unions : (home : Name) (k : Known) → IsFine home k → AreUnions k.shown.unions
fine_unions home k (inl h) = opaque_unions k.shown.unions h.unions
fine_unions home k (inr h) = h.unions

fine_aliases : (home : Name) (k : Known) → IsFine home k → AliasesHaveRecords k.shown.aliases
fine_aliases home k (inl h) = subst AliasesHaveRecords (sym (empty k.shown.aliases h.aliases)) tt
fine_aliases home k (inr h) = h.aliases

-- ---- what all imports show

abbrev pub all_shown : List Known → Scope
all_shown ks = flat_map shown_refs ks

no_local_all : (x : Name) (ks : List Known) → among (Local x) (all_shown ks) ≡ false
no_local_all x [] = refl
no_local_all x (k ∷ ks) = in_neither (Local x) (shown_refs k) (all_shown ks) (no_local_shown x k) (no_local_all x ks)

none_own_all : (home x : Name) (ks : List Known) → AreFine home ks → among (Top home x) (all_shown ks) ≡ false
none_own_all home x [] h = refl
none_own_all home x (k ∷ ks) h =
    in_neither (Top home x) (shown_refs k) (all_shown ks) (none_own_shown home x k h.0) (none_own_all home x ks h.1)

offered_all : (home : Name) (scope : Scope) (ks : List Known) → AreFine home ks → HasAll scope (all_shown ks)
    → AreOffered ks scope
offered_all home scope [] h has = tt
offered_all home scope (k ∷ ks) h has =
    let first = has_left scope (shown_refs k) (all_shown ks) has in
    let values = tops k.import.home k.shown.values in
    let makers = tops k.import.home (shown_makers k.shown) in
    let offered : IsOffered k.import.home k.shown scope = record {
      values = has_left scope values makers first;
      makers = has_right scope values makers first;
      unions = fine_unions home k h.0;
    } in
    (offered, offered_all home scope ks h.1 (has_right scope (shown_refs k) (all_shown ks) has))

pub all_records : (home : Name) (ks : List Known) → AreFine home ks → ImportsHaveRecords ks
all_records home [] h = tt
all_records home (k ∷ ks) h = (fine_aliases home k h.0, all_records home ks h.1)

-- ---- the functions of the operators of other modules

abbrev is_other : Name → Row → Bool
is_other home o = not (same_name (text_units (operator_home o.text)) home)

abbrev row_ref : Row → Ref
row_ref o = operator_ref o.text

abbrev other_refs : Name → List Row → Scope
other_refs home rows = map row_ref (filter (is_other home) rows)

-- with one row more, if it is of another module
abbrev kept_refs : Name → Row → List Row → Bool → Scope
kept_refs home o rows b = map row_ref (if b then o ∷ filter (is_other home) rows else filter (is_other home) rows)

no_local_other : (x : Name) (rows : List Row) → among (Local x) (map row_ref rows) ≡ false
no_local_other x [] = refl
no_local_other x (o ∷ rows) = no_local_other x rows

none_own_other : (home x : Name) (rows : List Row) → among (Top home x) (other_refs home rows) ≡ false
none_own_other home x [] = refl
none_own_other home x (o ∷ rows) = by (is_other home o) refl (none_own_other home x rows)
  where
    by : (b : Bool) → is_other home o ≡ b → among (Top home x) (other_refs home rows) ≡ false
        → among (Top home x) (kept_refs home o rows b) ≡ false
    by true h rest =
        ap (λ c. if (c && same_name x (text_units (meaning_of o.text).function)) then true
        else among (Top home x) (other_refs home rows))
        (same_back (text_units (operator_home o.text)) home
        (not_true_is (same_name (text_units (operator_home o.text)) home) h))
        ∙ rest
    by false h rest = rest

other_there : (home : Name) (op : List ℕ) (rows : List Row) → same_name (text_units (operator_home op)) home ≡ false
    → list_any (λ (o : Row). bytes_eq op o.text) rows ≡ true → IsIn (operator_ref op) (other_refs home rows)
other_there home op [] s e = absurd (false≢true e)
other_there home op (o ∷ rows) s e =
    first (bytes_eq op o.text) refl e (λ f. other_there home op rows s f)
  where
    later : (b : Bool) → IsIn (operator_ref op) (other_refs home rows)
        → IsIn (operator_ref op) (kept_refs home o rows b)
    later true h = in_later (operator_ref op) (row_ref o) (other_refs home rows) h
    later false h = h

    here : (b : Bool) → is_other home o ≡ b → op ≡ o.text → IsIn (operator_ref op) (kept_refs home o rows b)
    here true h same =
        subst (λ t. IsIn (operator_ref op) (operator_ref t ∷ other_refs home rows)) same
        (in_first (operator_ref op) (other_refs home rows))
    here false h same =
        absurd (false≢true (sym h
        ∙ ap not (subst (λ t. same_name (text_units (operator_home t)) home ≡ false) same s)))

    first : (b : Bool) → bytes_eq op o.text ≡ b → (b || list_any (λ (q : Row). bytes_eq op q.text) rows) ≡ true
        → (list_any (λ (q : Row). bytes_eq op q.text) rows ≡ true → IsIn (operator_ref op) (other_refs home rows))
        → IsIn (operator_ref op) (kept_refs home o rows (is_other home o))
    first true h f again = here (is_other home o) refl ((bytes_eq-Decides op o.text).0 h)
    first false h f again = later (is_other home o) (again f)

unfoldable pub others_of : Name → Scope
others_of home = other_refs home operator_rows

no_local_others : (home x : Name) → among (Local x) (others_of home) ≡ false
unfolding others_of
no_local_others home x = no_local_other x (filter (is_other home) operator_rows)

none_own_others : (home x : Name) → among (Top home x) (others_of home) ≡ false
unfolding others_of
none_own_others home x = none_own_other home x operator_rows

others_there : (home : Name) (op : List ℕ) → same_name (text_units (operator_home op)) home ≡ false
    → is_operator op ≡ true → IsIn (operator_ref op) (others_of home)
unfolding others_of
others_there home op s e = other_there home op operator_rows s e

-- ---- the scope

abbrev pub scope_of : Name → List Known → Scope
scope_of home ks = all_shown ks ++ others_of home

module _ (home : Name) (ks : List Known) (fine : AreFine home ks) where
  module _ (ds : List Declaration) (own : OwnOperators home ds) where
    has_operator : (op : List ℕ) → is_operator op ≡ true → (b : Bool)
        → same_name (text_units (operator_home op)) home ≡ b
        → IsIn (operator_ref op) (with_all (value_refs home ds) (scope_of home ks))
    has_operator op e true s =
        among-with_all (operator_ref op) (value_refs home ds) (scope_of home ks)
        ∙ ap (λ b. b || among (operator_ref op) (scope_of home ks)) (own op e s)
    has_operator op e false s =
        in_more (operator_ref op) (value_refs home ds) (scope_of home ks)
        (in_right (operator_ref op) (all_shown ks) (others_of home) (others_there home op s e))

    pub stands : is_module true home ≡ true → IsAround home ks ds (scope_of home ks)
    stands name = record {
      name = name;
      no_locals = λ x.
          in_neither (Local x) (all_shown ks) (others_of home) (no_local_all x ks) (no_local_others home x);
      nothing_own = λ x.
          in_neither (Top home x) (all_shown ks) (others_of home) (none_own_all home x ks fine)
          (none_own_others home x);
      offered = offered_all home (scope_of home ks) ks fine
          (λ r i. in_left r (all_shown ks) (others_of home) i);
      operators = λ op e. has_operator op e (same_name (text_units (operator_home op)) home) refl;
    }
