-- The values of a resolved module, ports among them, are values that its text declares: so is what it offers, and its
-- `main`.
use Rattle.std.proofs.Common.{◌≡◌, ℕ, List, [], ◌∷◌, ◌++◌, map, Bool, true, false, Some, None, codes, refl, sym, ap}
use Rattle.std.proofs.Common.{◌∙◌}
use Rattle.std.proofs.Common.{subst, ⊎_elim, ◌⊎◌}
use Rattle.std.specs.Prelude.{Option, is_some, ◌||◌, if◌then◌else◌}
use Rattle.std.specs.List.{flat_map, list_any}
use Rattle.std.proofs.lemmas.Bool.{false≢true}
use Rattle.std.proofs.lemmas.Slice.Eq.{bytes_eq-Decides}
use Rattle.decl_groups.proofs.Reaching.{or_cases}
use Rattle.elm_tree.specs.Tree as tree
use Rattle.elm_canon.specs.Names.{Name, same_name}
use Rattle.elm_canon.specs.Tree as canon
use Rattle.elm_canon.specs.Tree.{Functions, NoFunction, MoreFunction, Group, Declaration, Given, Define}
use Rattle.elm_canon.specs.declared.reference.Ref.{Ref}
use Rattle.elm_canon.specs.declared.reference.Ref.TheVariants.{Local, Top}
use Rattle.elm_type.specs.Types.{Scheme}
use Rattle.canon_env.proofs.Adding.{one_name}
use Rattle.canon_env.specs.Imports.{name_of}
use Rattle.canon_env.specs.Exposing.{is_among}
use Rattle.canon_env.specs.Shown.{Shown}
use Rattle.canon_env.specs.Naming.{World}
use Rattle.canon_module.specs.Resolve.{Setting, IsModule, ports_in, world_of}
use Rattle.elm_canon.specs.Proper.{among, IsIn, function_names}
use Rattle.canon_proper.proofs.Scopes.{name_itself, in_first, in_later}
use Rattle.interface.specs.Interface.{Value, in_order, inserted, comes_before}
use Rattle.type_items.specs.Inferred.{Schemes}
use Rattle.module_offers.specs.Offers.{value, defined_value, pattern_count, function_values, group_values}
use Rattle.module_offers.specs.Offers.{declared_values, port_value, module_values, named_by, first_type, is_main}
use Rattle.module_offers.specs.Offers.{main_type, is_offered, module_interface}
use Rattle.module_proper.specs.Modules.{value_refs, HasAll}
use Rattle.module_proper.proofs.Numbers.{one_home}
use Rattle.module_offers.specs.Faults.{defined_in, defined_by}
use Rattle.project_proper.proofs.Defined.{first_in, later_in, module_defined}

-- ---- values of a name

abbrev pub named : Name → List Value → Bool
named x vs = is_among x (map (λ v. v.name) vs)

named_more : (x : Name) (vs us : List Value) → named x (vs ++ us) ≡ true → (named x vs || named x us) ≡ true
named_more x [] us e = e
named_more x (v ∷ vs) us e = by (same_name x v.name) e (named_more x vs us)
  where
    by : (b : Bool) → (b || named x (vs ++ us)) ≡ true →
        (named x (vs ++ us) ≡ true → (named x vs || named x us) ≡ true) →
        ((b || named x vs) || named x us) ≡ true
    by true e rest = refl
    by false e rest = rest e

named_either : (x : Name) (vs us : List Value) → named x (vs ++ us) ≡ true →
    (named x vs ≡ true) ⊎ (named x us ≡ true)
named_either x vs us e = or_cases (named x vs) (named x us) (named_more x vs us e)

-- ---- of definitions

-- a name that is defined, of whatever module
abbrev Titled : Name → List Ref → Type 0
Titled x refs = (m : Name) × (among (Top m x) refs ≡ true)

told_titled : (x m y : Name) (n : ℕ) (o : Option Scheme) (refs : List Ref) → named x (value y n o) ≡ true →
    Titled x (Top m y ∷ refs)
told_titled x m y n None refs e = absurd (false≢true e)
told_titled x m y n (Some s) refs e = (
  m,
  subst (λ z. among (Top m x) (Top m z ∷ refs) ≡ true) (one_name x y (by (same_name x y) e))
      (in_first (Top m x) refs),
)
  where
    by : (b : Bool) → (b || false) ≡ true → b ≡ true
    by true e = refl
    by false e = e

value_titled : (told : Schemes) (x : Name) (r : Ref) (n : ℕ) (refs : List Ref) →
    named x (defined_value told r n) ≡ true → Titled x (r ∷ refs)
value_titled told x (Local y) n refs e = absurd (false≢true e)
value_titled told x (Top m y) n refs e = told_titled x m y n (told (Top m y)) refs e

titled_later : (x : Name) (r : Ref) (refs : List Ref) → Titled x refs → Titled x (r ∷ refs)
titled_later x r refs t = (t.0, in_later (Top t.0 x) r refs t.1)

functions_titled : (told : Schemes) (x : Name) (fs : Functions) → named x (function_values told fs) ≡ true →
    Titled x (function_names fs)
functions_titled told x NoFunction e = absurd (false≢true e)
functions_titled told x (MoreFunction title ps b fs) e =
    ⊎_elim (value_titled told x title.name (pattern_count ps) (function_names fs))
    (λ k. titled_later x title.name (function_names fs) (functions_titled told x fs k))
    (named_either x (defined_value told title.name (pattern_count ps)) (function_values told fs) e)

group_titled : (told : Schemes) (x : Name) (g : Group) → named x (group_values told g) ≡ true → Titled x (defined_in g)
group_titled told x (canon.Together fs) e = functions_titled told x fs e
group_titled told x (canon.Constant title b) e = value_titled told x title.name 0 [] e
group_titled told x (canon.Destructure p b) e = absurd (false≢true e)

declared_titled : (told : Schemes) (x : Name) (d : Declaration) → named x (declared_values told d) ≡ true →
    Titled x (defined_by d)
declared_titled told x (Given r k) e = absurd (false≢true e)
declared_titled told x (Define g) e = group_titled told x g e

abbrev any_defines : List Declaration → Ref → Bool
any_defines ds r = list_any (λ d. among r (defined_by d)) ds

all_titled : (told : Schemes) (x : Name) (ds : List Declaration) → named x (flat_map (declared_values told) ds) ≡ true →
    (m : Name) × (any_defines ds (Top m x) ≡ true)
all_titled told x [] e = absurd (false≢true e)
all_titled told x (d ∷ ds) e =
    ⊎_elim (λ k. let t = declared_titled told x d k in (t.0, ap (λ b. b || any_defines ds (Top t.0 x)) t.1))
    (λ k. let t = all_titled told x ds k in
    (t.0, by (among (Top t.0 x) (defined_by d)) (any_defines ds (Top t.0 x)) t.1))
    (named_either x (declared_values told d) (flat_map (declared_values told) ds) e)
  where
    by : (b c : Bool) → c ≡ true → (b || c) ≡ true
    by true c h = refl
    by false c h = h

-- ---- of ports

ports_declared : (w : World) (x : Name) (full : List Ref) (ds : List tree.Declaration) →
    HasAll full (value_refs w.name ds) → named x (map port_value (flat_map (ports_in w) ds)) ≡ true →
    IsIn (Top w.name x) full
ports_declared w x full [] h e = absurd (false≢true e)
ports_declared w x full (tree.Value d ∷ ds) h e =
    ports_declared w x full ds (later_in w.name full (tree.Value d) ds h) e
ports_declared w x full (tree.Port y t ∷ ds) h e =
    by (same_name x (name_of y)) refl e (ports_declared w x full ds (later_in w.name full (tree.Port y t) ds h))
  where
    by : (b : Bool) → same_name x (name_of y) ≡ b → (b || named x (map port_value (flat_map (ports_in w) ds))) ≡ true →
        (named x (map port_value (flat_map (ports_in w) ds)) ≡ true → IsIn (Top w.name x) full) →
        IsIn (Top w.name x) full
    by true s e rest =
        subst (λ z. IsIn (Top w.name z) full) (sym (one_name x (name_of y) s))
        (first_in w.name full (tree.Port y t) ds h (Top w.name (name_of y)) (in_first (Top w.name (name_of y)) []))
    by false s e rest = rest e
ports_declared w x full (tree.Union y ps cs ∷ ds) h e =
    ports_declared w x full ds (later_in w.name full (tree.Union y ps cs) ds h) e
ports_declared w x full (tree.Alias y ps t ∷ ds) h e =
    ports_declared w x full ds (later_in w.name full (tree.Alias y ps t) ds h) e

-- ---- the module

module _ (s : Setting) (ds : List tree.Declaration) (m : canon.Module) (is : IsModule s ds m) (told : Schemes) where
  -- what is defined is a name of the module itself
  own : (x : Name) → (k : Name) × (any_defines m.declarations (Top k x) ≡ true) →
      IsIn (Top s.home x) (value_refs s.home ds)
  own x t =
      let i = module_defined s ds m is (Top t.0 x) t.1 in
      subst (λ k. IsIn (Top k x) (value_refs s.home ds)) (one_home t.0 s.home x _ i) i

  pub values_declared : (x : Name) → named x (module_values m told) ≡ true → IsIn (Top s.home x) (value_refs s.home ds)
  values_declared x e =
      ⊎_elim (λ k. own x (all_titled told x m.declarations k))
      (λ k. ports_declared (world_of s ds m) x (value_refs s.home ds) ds (λ r i. i)
      (subst (λ ps. named x (map port_value ps) ≡ true) is.ports k))
      (named_either x (flat_map (declared_values told) m.declarations) (map port_value m.ports) e)

-- ---- of values that pass a test

named_kept : (test : Name → Bool) (x : Name) (vs : List Value) → named x (named_by test vs) ≡ true →
    (named x vs ≡ true) × (test x ≡ true)
named_kept test x [] e = absurd (false≢true e)
named_kept test x (v ∷ vs) e = by (test v.name) refl e (named_kept test x vs)
  where
    more : (b : Bool) → (named x vs ≡ true) × (test x ≡ true) → ((b || named x vs) ≡ true) × (test x ≡ true)
    more true h = (refl, h.1)
    more false h = h

    here : (b : Bool) → same_name x v.name ≡ b → test v.name ≡ true → (b || named x (named_by test vs)) ≡ true →
        (named x (named_by test vs) ≡ true → (named x vs ≡ true) × (test x ≡ true)) →
        ((b || named x vs) ≡ true) × (test x ≡ true)
    here true s t e rest = (refl, ap test (one_name x v.name s) ∙ t)
    here false s t e rest = rest e

    by : (c : Bool) → test v.name ≡ c → named x (if c then v ∷ named_by test vs else named_by test vs) ≡ true →
        (named x (named_by test vs) ≡ true → (named x vs ≡ true) × (test x ≡ true)) →
        (named x (v ∷ vs) ≡ true) × (test x ≡ true)
    by true t e rest = here (same_name x v.name) refl t e rest
    by false t e rest = more (same_name x v.name) (rest e)

-- ---- in order

swapped : (c i d n : Bool) → (c || i) ≡ true → (i ≡ true → (d || n) ≡ true) → (d || (c || n)) ≡ true
swapped true i true n e f = refl
swapped true i false n e f = refl
swapped false i true n e f = refl
swapped false i false n e f = f e

named_inserted : (x : Name) (v : Value) (vs : List Value) → named x (inserted (λ v. v.name) v vs) ≡ true →
    named x (v ∷ vs) ≡ true
named_inserted x v [] e = e
named_inserted x v (u ∷ us) e = by (comes_before u.name v.name) e (named_inserted x v us)
  where
    by : (b : Bool) → named x (if b then u ∷ inserted (λ v. v.name) v us else v ∷ u ∷ us) ≡ true →
        (named x (inserted (λ v. v.name) v us) ≡ true → named x (v ∷ us) ≡ true) → named x (v ∷ u ∷ us) ≡ true
    by true e rest =
        swapped (same_name x u.name) (named x (inserted (λ v. v.name) v us)) (same_name x v.name) (named x us) e rest
    by false e rest = e

named_order : (x : Name) (vs : List Value) → named x (in_order (λ v. v.name) vs) ≡ true → named x vs ≡ true
named_order x [] e = e
named_order x (v ∷ vs) e =
    by (same_name x v.name) (named_inserted x v (in_order (λ v. v.name) vs) e) (named_order x vs)
  where
    by : (b : Bool) → (b || named x (in_order (λ v. v.name) vs)) ≡ true →
        (named x (in_order (λ v. v.name) vs) ≡ true → named x vs ≡ true) → (b || named x vs) ≡ true
    by true e rest = refl
    by false e rest = rest e

-- ---- what is offered

module _ (s : Setting) (ds : List tree.Declaration) (m : canon.Module) (is : IsModule s ds m) (told : Schemes) where
  -- what the interface offers is declared
  pub offered_declared : (shown : Shown) (x : Name) → named x (module_interface shown m told).values ≡ true →
      IsIn (Top s.home x) (value_refs s.home ds)
  unfolding module_interface
  offered_declared shown x e =
      values_declared s ds m is told x
      (named_kept (is_offered m.name shown) x (module_values m told)
      (named_order x (named_by (is_offered m.name shown) (module_values m told)) e)).0

  -- and it is shown, or a function that an operator names
  pub offered_shown : (shown : Shown) (x : Name) → named x (module_interface shown m told).values ≡ true →
      is_offered m.name shown x ≡ true
  unfolding module_interface
  offered_shown shown x e =
      (named_kept (is_offered m.name shown) x (module_values m told)
      (named_order x (named_by (is_offered m.name shown) (module_values m told)) e)).1

  -- ---- `main`

  first_named : (test : Name → Bool) (vs : List Value) → is_some (first_type (named_by test vs)) ≡ true →
      (x : Name) × ((test x ≡ true) × (named x vs ≡ true))
  first_named test [] e = absurd (false≢true e)
  first_named test (v ∷ vs) e = by (test v.name) refl e (first_named test vs)
    where
      here : (b : Bool) → b ≡ true → (b || named v.name vs) ≡ true
      here b h = ap (λ c. c || named v.name vs) h

      more : (b c : Bool) → c ≡ true → (b || c) ≡ true
      more true c h = refl
      more false c h = h

      by : (c : Bool) → test v.name ≡ c →
          is_some (first_type (if c then v ∷ named_by test vs else named_by test vs)) ≡ true →
          (is_some (first_type (named_by test vs)) ≡ true → (x : Name) × ((test x ≡ true) × (named x vs ≡ true))) →
          (x : Name) × ((test x ≡ true) × (named x (v ∷ vs) ≡ true))
      by true t e rest = (v.name, (t, here (same_name v.name v.name) (name_itself v.name)))
      by false t e rest =
          let r = rest e in (r.0, (r.1.0, more (same_name r.0 v.name) (named r.0 vs) r.1.1))

  pub main_declared : is_some (main_type m told) ≡ true → IsIn (Top s.home (codes "main")) (value_refs s.home ds)
  main_declared e =
      let f = first_named is_main (module_values m told) e in
      values_declared s ds m is told (codes "main")
      (subst (λ x. named x (module_values m told) ≡ true) ((bytes_eq-Decides f.0 (codes "main")).0 f.1.0) f.1.1)
