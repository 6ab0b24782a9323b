-- What inference tells of a module's names: each instance of it is one that its definitions have.
use Rattle.std.proofs.Common.{◌≡◌, ℕ, zero, suc, ◌+◌, List, [], ◌∷◌, ◌++◌, map, Bool, true, false, cond, Option, Some, None, inl, inr, refl, sym, ap, ◌∙◌, subst, eqb-true, eq-eqb, arith}
use Rattle.std.specs.Prelude.{◌||◌, ◌&&◌, if◌then◌else◌, not, nat_eq}
use Rattle.std.specs.List.{AllByRecursion, enumerate_from, list_any, position_or_len}
use Rattle.elm_canon.specs.Names.{same_ref}
use Rattle.elm_canon.specs.declared.reference.Ref.{Ref}
use Rattle.elm_canon.specs.declared.reference.Ref.TheVariants.{Local, Top}
use Rattle.elm_canon.specs.Tree.{Annotation, Module}
use Rattle.elm_canon.specs.Proper.{among}
use Rattle.elm_type.specs.Types.{Name, ElmType, ElmTypes, Fields, Closed, Over, Made, Record, NoType, MoreType, NoField, MoreField, end_variables, variables, variables_all, variables_fields, variable, Rigid, Leaf, Free, Fixed, Kind, Scheme, kind_at}
use Rattle.elm_type.specs.Classes.{Ground, meets}
use Rattle.elm_type.specs.Rows.{name_lt, insert_field, insert_all, extend, substitute, substitute_all, substitute_fields}
use Rattle.elm_type.specs.Schemes.{rename, placed, in_order, noted, appearing}
use Rattle.elm_type.specs.Ground.{leaf_value, value, fits, lacks_all}
use Rattle.type_items.specs.Items.{Place, child, Wanted, Item}
use Rattle.type_items.specs.Scopes.{Entry, Mono, Instance, Entries, Known, Scope, entry_of, one_type}
use Rattle.type_items.specs.Annotations.{annotation_scheme}
use Rattle.std.specs.Option.{option_map}
use Rattle.type_items.specs.Definitions.{Definition, annotated_names, in_written_order, group_types, group_items, general}
use Rattle.type_items.specs.Definitions.{around_items, list_groups}
use Rattle.type_items.specs.Expressions.{definitions}
use Rattle.type_items.specs.Modules.{known_in, module_scope, module_definitions, module_items}
use Rattle.type_items.specs.Solutions.{Values, Solves}
use Rattle.type_items.specs.Principal.{IsInstance, IsPrincipal, Outside}
use Rattle.type_items.specs.Inferred.{Schemes, HasPrincipal, NameHasScheme, GroupHasSchemes, first_annotation}
use Rattle.typed_values.specs.Frames.{Frame, of, kind_of, Stands, Chosen, ground_instance, instance_leaf}
use Rattle.typed_values.specs.World.{Among}
use Rattle.typed_values.specs.Simple.{defines, AreApart}
use Rattle.typed_values.specs.Sample.{sample, sample_frame}
use Rattle.typed_values.proofs.Names.{not_both, same_refs, solves_right}
use Rattle.typed_values.proofs.Keeping.{and_left, and_right, and_both}
use Rattle.typed_values.proofs.Rows.{extend_none, substitute_twice, after_renamed, insert_after, insert_before}
use Rattle.typed_values.proofs.Unions.{agree}
use Rattle.typed_values.proofs.SampleFrame.{below_itself, lacks_own}
use Rattle.typed_values.proofs.SampleWorld.{sample_is_sound}
use Rattle.type_safety.proofs.Sound.{steps_keep_types}
use Rattle.type_safety.specs.Modules.{groups_in, scope_after}
use Rattle.type_safety.proofs.Modules.{declared_definitions}
use Rattle.type_safety.proofs.Stagings.{at_name, Named, AllNamed, EachNamed, last_scope, adds_as, adds, adds_some, group_at, scope_at, place_at, first_definer, definer_type, listed_scope, listed_items, last_none, last_adding, scope_alike, named_at, found_left}
use Rattle.type_safety.proofs.Orders.{written_among, among_written, group_covers, group_alone, group_among}
use Rattle.type_safety.proofs.Lets.{Hs, T, plain_adding, adds_defines, annotated_entry, none_at, adds_member, Alone, one_definer, solves_copied, among_ref, all_among, all_from, each_at, same_before}
use Rattle.type_safety.proofs.Progress.{top_named}
use Rattle.program_safety.specs.Parts.{Part, HasInstances, IsInstanceOf, Tells}
use Rattle.program_safety.specs.Told.{IsVariable, IsInferred, InferredModulesTell}
use Rattle.program_safety.proofs.Chain.{definer}

-- ---- the constants of a type in the place of variables

module _ (P : Rigid → Type 0) where
  abbrev All : List Rigid → Type 0
  All rs = AllByRecursion P rs

  all_both : (xs ys : List Rigid) → All xs → All ys → All (xs ++ ys)
  all_both [] ys h k = k
  all_both (x ∷ xs) ys h k = (h.0, all_both xs ys h.1 k)

  all_first : (xs ys : List Rigid) → All (xs ++ ys) → All xs
  all_first [] ys h = tt
  all_first (x ∷ xs) ys h = (h.0, all_first xs ys h.1)

  all_second : (xs ys : List Rigid) → All (xs ++ ys) → All ys
  all_second [] ys h = h
  all_second (x ∷ xs) ys h = all_second xs ys h.1

  all_inserted : (k : Name) (t : Ground) (fs : Fields Rigid) → All (variables t) → All (variables_fields fs) → All (variables_fields (insert_field k t fs))
  all_inserted k t NoField a b = all_both (variables t) [] a tt
  all_inserted k t (MoreField m v fs) a b = go (all_inserted k t fs a (all_second (variables v) (variables_fields fs) b)) (name_lt m k) refl
    where
      go : All (variables_fields (insert_field k t fs)) → (c : Bool) → name_lt m k ≡ c → All (variables_fields (insert_field k t (MoreField m v fs)))
      go again true e =
          subst (λ z. All (variables_fields z)) (sym (insert_after k m t v fs e)) (all_both (variables v) (variables_fields (insert_field k t fs)) (all_first (variables v) (variables_fields fs) b) again)
      go again false e = subst (λ z. All (variables_fields z)) (sym (insert_before k m t v fs e)) (all_both (variables t) (variables_fields (MoreField m v fs)) a b)

  all_all : (fs gs : Fields Rigid) → All (variables_fields fs) → All (variables_fields gs) → All (variables_fields (insert_all fs gs))
  all_all NoField gs a b = b
  all_all (MoreField k t fs) gs a b =
      all_inserted k t (insert_all fs gs) (all_first (variables t) (variables_fields fs) a) (all_all fs gs (all_second (variables t) (variables_fields fs) a) b)

  all_extend : (fs : Fields Rigid) (g : Ground) → All (variables_fields fs) → All (variables g) → All (variables (extend fs g))
  all_extend fs (Made h ts) a b = b
  all_extend fs (Record gs end) a b =
      all_both (end_variables end) (variables_fields (insert_all fs gs)) (all_first (end_variables end) (variables_fields gs) b)
      (all_all fs gs a (all_second (end_variables end) (variables_fields gs) b))

  module _ {X : Type 0} (L : X → Ground) where
    abbrev Each : List X → Type 0
    Each xs = AllByRecursion (λ x. All (variables (L x))) xs

    each_first : (xs ys : List X) → Each (xs ++ ys) → Each xs
    each_first [] ys h = tt
    each_first (x ∷ xs) ys h = (h.0, each_first xs ys h.1)

    each_second : (xs ys : List X) → Each (xs ++ ys) → Each ys
    each_second [] ys h = h
    each_second (x ∷ xs) ys h = each_second xs ys h.1

    mutual
      all_substituted : (t : ElmType X) → Each (variables t) → All (variables (substitute L t))
      all_substituted (Made h ts) e = all_types ts e
      all_substituted (Record fs Closed) e = all_extend (substitute_fields L fs) (Record NoField Closed) (all_fields fs e) tt
      all_substituted (Record fs (Over x)) e = all_extend (substitute_fields L fs) (L x) (all_fields fs e.1) e.0

      all_types : (ts : ElmTypes X) → Each (variables_all ts) → All (variables_all (substitute_all L ts))
      all_types NoType e = tt
      all_types (MoreType t ts) e =
          all_both (variables (substitute L t)) (variables_all (substitute_all L ts)) (all_substituted t (each_first (variables t) (variables_all ts) e)) (all_types ts (each_second (variables t) (variables_all ts) e))

      all_fields : (fs : Fields X) → Each (variables_fields fs) → All (variables_fields (substitute_fields L fs))
      all_fields NoField e = tt
      all_fields (MoreField k t fs) e =
          all_both (variables (substitute L t)) (variables_fields (substitute_fields L fs)) (all_substituted t (each_first (variables t) (variables_fields fs) e)) (all_fields fs (each_second (variables t) (variables_fields fs) e))

-- ---- a constant for each variable of a scheme

abbrev fresh : ℕ → Kind → Rigid
fresh i k = record { place = []; name = i ∷ []; class = k.class; lacks = k.lacks }

fresh_fits : (i : ℕ) (k : Kind) → fits k (variable (fresh i k)) ≡ true
fresh_fits i k =
    and_both (meets k.class (variable (fresh i k))) (lacks_all k.lacks (variable (fresh i k))) (below_itself k.class) (lacks_own (fresh i k) [] k.lacks refl)

abbrev is_root : Place → Bool
is_root [] = true
is_root (i ∷ p) = false

abbrev number : Name → ℕ
number [] = 0
number (i ∷ x) = i

module _ (s : Scheme) (f : Frame) (stands : Stands f) (choice : ℕ → Ground) (chosen : Chosen s choice) where
  abbrev own : ℕ → Ground
  own i = variable (fresh i (kind_at s.kinds i))

  abbrev picked : Rigid → Bool → Ground
  picked r b = if b then choice (number r.name) else f.stands r

  abbrev test : Rigid → Bool
  test r = is_root r.place && fits (kind_of r) (choice (number r.name))

  abbrev θ : Rigid → Ground
  θ r = picked r (test r)

  θ_class : (r : Rigid) (b : Bool) → test r ≡ b → meets r.class (picked r b) ≡ true
  θ_class r true e =
      and_left (meets r.class (choice (number r.name))) (lacks_all r.lacks (choice (number r.name))) (and_right (is_root r.place) (fits (kind_of r) (choice (number r.name))) e)
  θ_class r false e = stands.classes r

  θ_rest : (r : Rigid) (b : Bool) → test r ≡ b → lacks_all r.lacks (picked r b) ≡ true
  θ_rest r true e =
      and_right (meets r.class (choice (number r.name))) (lacks_all r.lacks (choice (number r.name))) (and_right (is_root r.place) (fits (kind_of r) (choice (number r.name))) e)
  θ_rest r false e = stands.rests r

  abbrev framed : Values → Frame
  framed values = record { values = values; stands = θ }

  framed_stands : (values : Values) → Stands (framed values)
  framed_stands values = record { classes = λ r. θ_class r (test r) refl; rests = λ r. θ_rest r (test r) refl }

  θ_own : (i : ℕ) → θ (fresh i (kind_at s.kinds i)) ≡ choice i
  θ_own i = ap (λ b. picked (fresh i (kind_at s.kinds i)) b) (chosen.kinds i)

  -- what the scheme is with its constants is its instance
  own_is : AllByRecursion IsVariable (variables s.type) → (values : Values) (t : Wanted) → value values t ≡ value own s.type → of (framed values) t ≡ ground_instance choice f s
  own_is closed values t e =
      ap (substitute θ) e ∙ (substitute_twice (leaf_value own) θ s.type ∙ agree (λ l. substitute θ (leaf_value own l)) (instance_leaf choice f) s.type (each (variables s.type) closed))
    where
      each : (ls : List (Leaf ℕ)) → AllByRecursion IsVariable ls → AllByRecursion (λ l. substitute θ (leaf_value own l) ≡ instance_leaf choice f l) ls
      each [] h = tt
      each (Free i ∷ ls) h = (extend_none (θ (fresh i (kind_at s.kinds i))) ∙ θ_own i, each ls h.1)
      each (Fixed r ∷ ls) h = absurd h.0

  -- the constants are of no module that stands at a place
  own_outside : (p : Place) → (p ≡ [] → ⊥) → AllByRecursion IsVariable (variables s.type) → Outside p (value own s.type)
  own_outside p placed closed = all_substituted (λ r. (q : Place) → r.place ≡ p ++ q → ⊥) (leaf_value own) s.type (each (variables s.type) closed)
    where
      not_root : (p q : Place) → (p ≡ [] → ⊥) → [] ≡ p ++ q → ⊥
      not_root [] q n e = n refl
      not_root (i ∷ p) q n e = (let z : [] ≡ i ∷ (p ++ q) = e in cc)

      each : (ls : List (Leaf ℕ)) → AllByRecursion IsVariable ls → AllByRecursion (λ l. AllByRecursion (λ r. (q : Place) → r.place ≡ p ++ q → ⊥) (variables (leaf_value own l))) ls
      each [] h = tt
      each (Free i ∷ ls) h = (((λ q e. not_root p q placed e), tt), each ls h.1)
      each (Fixed r ∷ ls) h = absurd h.0

  own_instance : IsInstance s (value own s.type)
  own_instance = record { choice = own; ground = λ i. refl; kinds = λ i. fresh_fits i (kind_at s.kinds i); is = refl }

-- ---- a group without annotations

-- of some of the groups, which has a definition
record AtGroup (Gs : List (List Definition)) (p : Place) (i k : ℕ) (Q : ℕ × List Definition → Type 0) : Type 0 where
  pub number : ℕ
  pub holds : Q (number, group_at Gs k)
  pub place_is : place_at Gs p i k ≡ child p number

at_group : (Gs : List (List Definition)) (p : Place) (i k : ℕ) (Q : ℕ × List Definition → Type 0) → AllByRecursion Q (enumerate_from i Gs) → (group_at Gs k ≡ [] → ⊥) → AtGroup Gs p i k Q
at_group [] p i k Q h some = absurd (some refl)
at_group (G ∷ Gs) p i zero Q h some = record { number = i; holds = h.0; place_is = refl }
at_group (G ∷ Gs) p i (suc k) Q h some =
    let r = at_group Gs p (i + 1) k Q h.1 some in
    record { number = r.number; holds = r.holds; place_is = r.place_is }

principal_at : (p : Place) (items : List Item) (schemes : Schemes) (y : Ref) (t : Wanted) (ns : Entries) → AllByRecursion (NameHasScheme p items schemes) ns → at_name y ns ≡ Some (Mono t) → HasPrincipal p items (schemes y) t
principal_at p items schemes y t [] h e = absurd (let z : None ≡ Some (Mono t) = e in cc)
principal_at p items schemes y t ((x, o) ∷ ns) h e = go (same_ref y x) refl e (principal_at p items schemes y t ns h.1)
  where
    go : (b : Bool) → same_ref y x ≡ b → cond b (Some o) (at_name y ns) ≡ Some (Mono t) → (at_name y ns ≡ Some (Mono t) → HasPrincipal p items (schemes y) t) → HasPrincipal p items (schemes y) t
    go true is f again =
        let z : Some o ≡ Some (Mono t) = f in
        let same : o ≡ Mono t = cc in
        subst (λ x. HasPrincipal p items (schemes x) t) (sym (same_refs y x is)) (subst (λ o. AllByRecursion (HasPrincipal p items (schemes x)) (one_type o)) same h.0).0
    go false is f again = again f

plain_schemes : (p : Place) (items : List Item) (schemes : Schemes) (K : Known) (q : Place) (G : List Definition) (y : Ref) → adds G y ≡ true → GroupHasSchemes p items schemes K q (first_annotation G) G
    → AllByRecursion (NameHasScheme p items schemes) (group_types G K q)
plain_schemes p items schemes K q [] y e h = not_both false e refl
plain_schemes p items schemes K q (d ∷ ds) y e h = go d.annotation e h
  where
    go : (o : Option Annotation) → adds_as o (d ∷ ds) y ≡ true → GroupHasSchemes p items schemes K q o (d ∷ ds) → AllByRecursion (NameHasScheme p items schemes) (group_types (d ∷ ds) K q)
    go None f k = k
    go (Some note) f k = not_both false f refl

module _ (told : Known) (t : Part) (ok : IsInferred told t) where
  abbrev m : Module
  m = t.module_

  abbrev es : List Definition
  es = module_definitions m

  abbrev K : Known
  K = known_in m told

  abbrev S : Scope
  S = module_scope m told

  abbrev p : Place
  p = t.place

  abbrev its : List Item
  its = module_items m told p

  abbrev H : List (List Definition)
  H = Hs sample es S p sample_frame

  abbrev T0 : Scope
  T0 = T sample es S p sample_frame

  same : es ≡ definitions (groups_in m.declarations)
  same = declared_definitions m.declarations

  named : AllNamed K es
  named = subst (AllNamed K) (sym same) (top_named sample (steps_keep_types sample sample_is_sound) (groups_in m.declarations) K ok.titled)

  apart : AreApart es
  apart = subst AreApart (sym same) ok.apart

  each_named : EachNamed K H
  each_named = each_at K H (λ k. all_from (Named K) (group_at H k) (λ d n. all_among (Named K) es d named (among_written d es (group_among (in_written_order es) k d n))))

  scope_is : (y : Ref) → entry_of (scope_after m told p) y ≡ entry_of (last_scope H T0) y
  scope_is y = ap (λ z. entry_of z y) (listed_scope H T0 p 0)

  -- a name whose group has no annotation
  general_tells : (y : Ref) (s : Scheme) → ok.schemes y ≡ Some s → AllByRecursion IsVariable (variables s.type) → (k : ℕ) → adds (group_at H k) y ≡ true → (f : Frame) (choice : ℕ → Ground) → Stands f
      → Chosen s choice → IsInstanceOf (general (group_at H k) (scope_at H T0 k) y) (ground_instance choice f s)
  general_tells y s told_is closed k adding f choice stands chosen =
      let G = group_at H k in
      let U = scope_at H T0 k in
      let a = at_group H p 0 k (λ g. GroupHasSchemes p its ok.schemes K (child p g.0) (first_annotation g.1) g.1) ok.inferred.types (some_group G y adding) in
      let q = place_at H p 0 k in
      let known_is : U.known ≡ K = (scope_alike H T0 k).known in
      let r = first_definer K G U.known q 0 y known_is (named_at K H k each_named) (adds_defines G y adding) in
      let names = plain_schemes p its ok.schemes K (child p a.number) G y adding a.holds in
      let found : at_name y (group_types G K (child p a.number)) ≡ Some (Mono r.type) = subst (λ z. at_name y (group_types G K z) ≡ Some (Mono r.type)) a.place_is (subst (λ z. at_name y (group_types G z q) ≡ Some (Mono r.type)) known_is r.found) in
      let h = principal_at p its ok.schemes y r.type (group_types G K (child p a.number)) names found in
      let e : Some s ≡ Some h.scheme = sym told_is ∙ h.is in
      let same_scheme : s ≡ h.scheme = cc in
      let principal : IsPrincipal p its r.type s = subst (IsPrincipal p its r.type) (sym same_scheme) h.principal in
      let has = principal.kept (value (own s f stands choice chosen) s.type) (own_outside s f stands choice chosen p ok.placed closed) (own_instance s f stands choice chosen) in
      let values = has.solution.values in
      let frame = framed s f stands choice chosen values in
      let listed : Solves values (group_items G U q) = subst (Solves values) (plain_adding G U q y adding).items (listed_items H T0 p 0 frame (solves_right frame (around_items (in_written_order es) S.constants) (list_groups H T0 p 0).items has.solution.solves) k) in (
        frame,
        q,
        framed_stands s f stands choice chosen values,
        solves_copied values (group_items G U q) listed,
        ap (of frame) (definer_type K G U.known q y (named_at K H k each_named) r) ∙ own_is s f stands choice chosen closed values r.type has.has,
      )
    where
      some_group : (G : List Definition) (y : Ref) → adds G y ≡ true → G ≡ [] → ⊥
      some_group [] y e n = not_both false e refl
      some_group (d ∷ ds) y e n = (let z : d ∷ ds ≡ [] = n in cc)

-- ---- schemes with their variables in order

any_front : (i : ℕ) (xs ys : List ℕ) → list_any (nat_eq i) xs ≡ true → list_any (nat_eq i) (xs ++ ys) ≡ true
any_front i [] ys e = not_both false e refl
any_front i (x ∷ xs) ys e = go (nat_eq i x) e (any_front i xs ys)
  where
    go : (b : Bool) → (b || list_any (nat_eq i) xs) ≡ true → (list_any (nat_eq i) xs ≡ true → list_any (nat_eq i) (xs ++ ys) ≡ true) → (b || list_any (nat_eq i) (xs ++ ys)) ≡ true
    go true f again = refl
    go false f again = again f

any_back : (i : ℕ) (xs ys : List ℕ) → list_any (nat_eq i) ys ≡ true → list_any (nat_eq i) (xs ++ ys) ≡ true
any_back i [] ys e = e
any_back i (x ∷ xs) ys e = go (nat_eq i x) (any_back i xs ys e)
  where
    go : (b : Bool) → list_any (nat_eq i) (xs ++ ys) ≡ true → (b || list_any (nat_eq i) (xs ++ ys)) ≡ true
    go true f = refl
    go false f = f

noted_keeps : (order : List ℕ) (i j : ℕ) → list_any (nat_eq i) order ≡ true → list_any (nat_eq i) (noted order j) ≡ true
noted_keeps order i j e = go (list_any (nat_eq j) order)
  where
    go : (b : Bool) → list_any (nat_eq i) (if b then order else order ++ j ∷ []) ≡ true
    go true = e
    go false = any_front i order (j ∷ []) e

noted_own : (order : List ℕ) (j : ℕ) → list_any (nat_eq j) (noted order j) ≡ true
noted_own order j = go (list_any (nat_eq j) order) refl
  where
    go : (b : Bool) → list_any (nat_eq j) order ≡ b → list_any (nat_eq j) (if b then order else order ++ j ∷ []) ≡ true
    go true e = e
    go false e = any_back j order (j ∷ []) (ap (λ b. b || false) (eq-eqb j j refl))

in_order_keeps : (xs : List (Leaf ℕ)) (order : List ℕ) (i : ℕ) → list_any (nat_eq i) order ≡ true → list_any (nat_eq i) (in_order order xs) ≡ true
in_order_keeps [] order i e = e
in_order_keeps (Free j ∷ xs) order i e = in_order_keeps xs (noted order j) i (noted_keeps order i j e)
in_order_keeps (Fixed r ∷ xs) order i e = in_order_keeps xs order i e

abbrev IsIn : List ℕ → Leaf ℕ → Type 0
IsIn order (Free i) = list_any (nat_eq i) order ≡ true
IsIn order (Fixed r) = Unit {0}

all_in_order : (xs : List (Leaf ℕ)) (order : List ℕ) → AllByRecursion (IsIn (in_order order xs)) xs
all_in_order [] order = tt
all_in_order (Free j ∷ xs) order = (in_order_keeps xs (noted order j) j (noted_own order j), all_in_order xs (noted order j))
all_in_order (Fixed r ∷ xs) order = (tt, all_in_order xs order)

kind_there : (ks : List Kind) (order : List ℕ) (i : ℕ) → list_any (nat_eq i) order ≡ true → kind_at (map (kind_at ks) order) (position_or_len (nat_eq i) order) ≡ kind_at ks i
kind_there ks [] i e = not_both false e refl
kind_there ks (j ∷ order) i e = go (nat_eq i j) refl e (kind_there ks order i)
  where
    next : (n : ℕ) → kind_at (kind_at ks j ∷ map (kind_at ks) order) (1 + n) ≡ kind_at (map (kind_at ks) order) n
    next n = (let e : 1 + n ≡ suc n = omega arith in ap (kind_at (kind_at ks j ∷ map (kind_at ks) order)) e)

    go : (b : Bool) → nat_eq i j ≡ b → (b || list_any (nat_eq i) order) ≡ true → (list_any (nat_eq i) order ≡ true → kind_at (map (kind_at ks) order) (position_or_len (nat_eq i) order) ≡ kind_at ks i)
        → kind_at (kind_at ks j ∷ map (kind_at ks) order) (cond (not b) (1 + position_or_len (nat_eq i) order) 0) ≡ kind_at ks i
    go true is f again = ap (kind_at ks) (sym (eqb-true i j is))
    go false is f again = next (position_or_len (nat_eq i) order) ∙ again f

module _ (s : Scheme) (f : Frame) (stands : Stands f) (choice : ℕ → Ground) (chosen : Chosen (rename s) choice) where
  abbrev order : List ℕ
  order = appearing s

  abbrev placed_choice : ℕ → Bool → Ground
  placed_choice i b = if b then choice (position_or_len (nat_eq i) order) else variable (fresh i (kind_at s.kinds i))

  abbrev ordered_choice : ℕ → Ground
  ordered_choice i = placed_choice i (list_any (nat_eq i) order)

  ordered_fits : (i : ℕ) (b : Bool) → list_any (nat_eq i) order ≡ b → fits (kind_at s.kinds i) (placed_choice i b) ≡ true
  ordered_fits i true e =
      subst (λ k. fits k (choice (position_or_len (nat_eq i) order)) ≡ true) (kind_there s.kinds order i e) (chosen.kinds (position_or_len (nat_eq i) order))
  ordered_fits i false e = fresh_fits i (kind_at s.kinds i)

  renamed_has : (other : ℕ → Ground) × Chosen s other × (ground_instance other f s ≡ ground_instance choice f (rename s))
  renamed_has = (
    ordered_choice,
    record { kinds = λ i. ordered_fits i (list_any (nat_eq i) order) refl },
    agree (instance_leaf ordered_choice f) (λ l. instance_leaf choice f (placed order l)) s.type (each (variables s.type) (all_in_order (variables s.type) []))
        ∙ sym (after_renamed (placed order) (instance_leaf choice f) s.type),
  )
    where
      each : (ls : List (Leaf ℕ)) → AllByRecursion (IsIn order) ls → AllByRecursion (λ l. instance_leaf ordered_choice f l ≡ instance_leaf choice f (placed order l)) ls
      each [] h = tt
      each (Free i ∷ ls) h = (ap (placed_choice i) h.0, each ls h.1)
      each (Fixed r ∷ ls) h = (refl, each ls h.1)

  renamed_tells : IsInstanceOf (Instance s) (ground_instance choice f (rename s))
  renamed_tells = (f, renamed_has.0, stands, renamed_has.1, renamed_has.2)

-- with its variables in order a scheme has no other instances
pub renamed_instances : (s : Scheme) → HasInstances s (rename s)
renamed_instances s f choice stands chosen = renamed_has s f stands choice chosen

-- ---- all names

noted_schemes : (p : Place) (items : List Item) (schemes : Schemes) (K : Known) (q : Place) (G : List Definition) (d : Definition) (note : Annotation) (y : Ref) → Among d G → d.annotation ≡ Some note → among y d.names ≡ true
    → ((e : Definition) → Among e G → e ≡ d) → GroupHasSchemes p items schemes K q (first_annotation G) G → schemes y ≡ Some (rename (annotation_scheme note))
noted_schemes p items schemes K q [] d note y n is own alone h = absurd n
noted_schemes p items schemes K q (e ∷ G) d note y n is own alone h =
    let first : e.annotation ≡ Some note = ap (λ z. z.annotation) (alone e (inl refl)) ∙ is in
    let k : GroupHasSchemes p items schemes K q (Some note) (e ∷ G) = subst (λ o. GroupHasSchemes p items schemes K q o (e ∷ G)) first h in
    among_ref (λ x. schemes x ≡ Some (rename (annotation_scheme note))) d.names y
    (all_among (λ z. AllByRecursion (λ x. schemes x ≡ Some (rename (annotation_scheme note))) z.names) (e ∷ G) d k n) own

some_member : (G : List Definition) (d : Definition) → Among d G → G ≡ [] → ⊥
some_member [] d n e = n
some_member (g ∷ G) d n e = (let z : g ∷ G ≡ [] = e in cc)

module _ (told : Known) (t : Part) (ok : IsInferred told t) where
  abbrev Have : Ref → Scheme → Type 0
  Have y s =
      (entry : Entry) × (entry_of (scope_after t.module_ told t.place) y ≡ Some entry)
      × ((f : Frame) (choice : ℕ → Ground) → Stands f → Chosen s choice → IsInstanceOf entry (ground_instance choice f s))

  defined_tells : (y : Ref) (s : Scheme) → ok.schemes y ≡ Some s → AllByRecursion IsVariable (variables s.type) → defines (es told t ok) y ≡ true → Have y s
  defined_tells y s told_is closed defined = elim (last_adding (K told t ok) (H told t ok) (T0 told t ok) y refl (each_named told t ok)) [
    | inr r ↦ (
      general (group_at (H told t ok) r.number) (scope_at (H told t ok) (T0 told t ok) r.number) y,
      scope_is told t ok y ∙ r.found,
      general_tells told t ok y s told_is closed r.number r.own,
    )
    | inl none ↦ (let d = definer (es told t ok) y defined in noted d.0 d.1 d.2 d.0.annotation refl none)
  ]
    where
      noted : (d : Definition) → Among d (es told t ok) → among y d.names ≡ true → (o : Option Annotation) → d.annotation ≡ o → adds_some (H told t ok) y ≡ false → Have y s
      noted d among_es own None is none =
          let c = group_covers (in_written_order (es told t ok)) d (written_among d (es told t ok) among_es) in
          let alone : Alone (group_at (H told t ok) c.0) = λ e note n same x k. group_alone (in_written_order (es told t ok)) c.0 e note n same x k in
          not_both (adds (group_at (H told t ok) c.0) y) (adds_member d (group_at (H told t ok) c.0) y alone c.1 is own) (none_at (H told t ok) c.0 y none)
      noted d among_es own (Some note) is none =
          let written = in_written_order (es told t ok) in
          let in_written = written_among d (es told t ok) among_es in
          let c = group_covers written d in_written in
          let one : (e : Definition) → Among e written → among y e.names ≡ true → e ≡ d = λ e n other. one_definer (es told t ok) e d y (apart told t ok) (among_written e (es told t ok) n) among_es other own in
          let entry : Entry = Instance (annotation_scheme note) in
          let found : entry_of (T0 told t ok) y ≡ Some entry = found_left (S told t ok) (annotated_names written []) y entry (annotated_entry written [] d note y one in_written own is) in
          let a = at_group (H told t ok) t.place 0 c.0 (λ g. GroupHasSchemes t.place (its told t ok) ok.schemes (K told t ok) (child t.place g.0) (first_annotation g.1) g.1) ok.inferred.types (some_member (group_at (H told t ok) c.0) d c.1) in
          let told_as = noted_schemes t.place (its told t ok) ok.schemes (K told t ok) (child t.place a.number) (group_at (H told t ok) c.0) d note y c.1 is own
          (λ e n. group_alone written c.0 d note c.1 is e n) a.holds in
          let z : Some s ≡ Some (rename (annotation_scheme note)) = sym told_is ∙ told_as in
          let same_scheme : s ≡ rename (annotation_scheme note) = cc in (
            entry,
            scope_is told t ok y ∙ (last_none (K told t ok) (H told t ok) (T0 told t ok) y (each_named told t ok) none ∙ found),
            subst (λ z. (f : Frame) (choice : ℕ → Ground) → Stands f → Chosen z choice → IsInstanceOf entry (ground_instance choice f z)) (sym same_scheme)
                (λ f choice stands chosen. renamed_tells (annotation_scheme note) f stands choice chosen),
          )

  given_tells : (y : Ref) (s : Scheme) → entry_of (S told t ok) y ≡ Some (Instance s) → defines (es told t ok) y ≡ false → Have y s
  given_tells y s is none = (
    Instance s,
    scope_is told t ok y ∙ (same_before sample (es told t ok) (S told t ok) t.place sample_frame refl (named told t ok) y none ∙ is),
    λ f choice stands chosen. (f, choice, stands, chosen, refl),
  )

  -- another scheme that has no instances but those of one that it has
  has_less : (y : Ref) (u s : Scheme) → HasInstances u s → Have y u → Have y s
  has_less y u s less h = (
    h.0,
    h.1,
    λ f choice stands chosen.
        let r = less f choice stands chosen in
        subst (IsInstanceOf h.0) r.2 (h.2 f r.0 stands r.1),
  )

  own_tells : (x : Name) (s : Scheme) → told t.module_.name x ≡ Some s → Have (Top t.module_.name x) s
  own_tells x s is =
      let y = Top t.module_.name x in
      let r = ok.tells x s is in
      has_less y r.scheme s r.instances (elim r.is [
        | inl own ↦ defined_tells y r.scheme own.1 (ok.closed x r.scheme own.1) (ap (λ z. defines z y) (same told t ok) ∙ own.0)
        | inr given ↦ given_tells y r.scheme (ap (λ o. option_map (λ s. Instance s) o) given.1) (ap (λ z. defines z y) (same told t ok) ∙ given.0)
      ])

pub names_tell : InferredModulesTell
names_tell told t ok (Local x) o = tt
names_tell told t ok (Top m x) o = subst (λ z. Tells told t (Top z x)) (sym o) (λ s is. own_tells told t ok x s is)
