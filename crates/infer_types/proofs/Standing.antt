-- The type of a name with an annotation, with the annotation's own variables first.
use Rattle.std.proofs.Common.{◌≡◌, ℕ, ◌+◌, ◌-◌, ◌<◌, ◌≤◌, List, [], ◌∷◌, ◌++◌, length, map, Bool, true}
use Rattle.std.proofs.Common.{false}
use Rattle.std.proofs.Common.{cond, Option, Some, None, refl, sym, ap, ◌∙◌, subst, arith}
use Rattle.std.specs.Prelude.{◌||◌, not, is_none, filter, slice_get, unwrap_or, option_map, nat_lt}
use Rattle.std.specs.List.{AllByRecursion, AllZip}
use Rattle.std.specs.Map.{lookup}
use Rattle.std.specs.Str.{bytes_eq}
use Rattle.std.proofs.lemmas.Bool.Decides.{nat_tests}
use Rattle.std.proofs.lemmas.List.{length-map}
use Rattle.elm_canon.specs.Tree.{Annotation}
use Rattle.elm_type.specs.Types.{Name, ElmType, variable, variables, renamed, Rigid, Leaf, Free, Fixed, Kind, any_kind}
use Rattle.elm_type.specs.Types.{kind_at}
use Rattle.elm_type.specs.Rows.{ordered, substitute}
use Rattle.elm_type.specs.View.{kind_view}
use Rattle.elm_type.proofs.Substituting.{renames_by_substitution}
use Rattle.elm_type.specs.Ground.{contains}
use Rattle.type_items.specs.Scopes.{Constants}
use Rattle.type_items.specs.Annotations.{written, beside, variables_of, kind_of, number_of, annotation_type}
use Rattle.type_items.specs.Annotations.{constant_or}
use Rattle.type_items.specs.Annotations.{own_variables, scheme_variable, scheme_inside}
use Rattle.type_items.specs.Principal.{is_formed}
use Rattle.type_store.specs.Store.{Store}
use Rattle.type_store.proofs.Names.{same_name}
use Rattle.type_walks.specs.TypeStepsLaws.{Lacking}
use Rattle.type_walks.specs.Links.{Links, Live, Has}
use Rattle.infer_steps.specs.Codes.{Code, Declared}
use Rattle.infer_steps.specs.Ready.{IsBelow, IsReady, DeclaredReady}
use Rattle.infer_steps.specs.Means.{own_or_constant, IsDeclared, MeansConstant}
use Rattle.infer_types.proofs.Substituted.{formed_ordered}
use Rattle.infer_types.specs.Asking.{MeansConstants}
use Rattle.infer_types.specs.Fixing.{IsAnnotation}
use Rattle.infer_types.specs.Own.{own_view, own_of}
use Rattle.infer_types.specs.declared.own.OwnVariable.{OwnVariable}
use Rattle.infer_types.proofs.Constants.{formed}
use Rattle.infer_types.proofs.Numbering.{number_below, among, once_has, mentioned}
use Rattle.infer_types.proofs.Typing.{type_put, by_number, type_below, type_formed, covers, all_there}
use Rattle.infer_types.specs.Table.{is_own, own_names, outer_names, table, table_of, more_outer, outer_of}
use Rattle.infer_types.specs.Table.{moved}
use Rattle.infer_types.specs.Table.{LackAround}
use Rattle.infer_types.proofs.Placing.{placed, first_number, next_number, table_at, number, all_of, value_at}
use Rattle.infer_types.proofs.Placing.{own_there, placed_below}

-- ---- own variables and their kinds

same_filter : (f g : Name → Bool) → ((x : Name) → f x ≡ g x) → (xs : List Name) → filter f xs ≡ filter g xs
same_filter f g e [] = refl
same_filter f g e (x ∷ xs) =
    ap (λ b. cond b (x ∷ filter f xs) (filter f xs)) (e x)
    ∙ ap (λ ys. cond (g x) (x ∷ ys) ys) (same_filter f g e xs)

own_kinds : (code : Code) (f : Name → Kind) (xs : List Name)
    → map (λ (p : Name × Kind). p.1) (own_of code xs (map f xs)) ≡ map f (own_names code xs)
own_kinds code f [] = refl
own_kinds code f (x ∷ xs) = go (own_kinds code f xs) (is_own code x)
  where
    go : map (λ (p : Name × Kind). p.1) (own_of code xs (map f xs)) ≡ map f (own_names code xs) → (b : Bool)
        → map (λ (p : Name × Kind). p.1) (cond b ((x, f x) ∷ own_of code xs (map f xs)) (own_of code xs (map f xs)))
        ≡ map f (cond b (x ∷ own_names code xs) (own_names code xs))
    go again true = ap (λ ks. f x ∷ ks) again
    go again false = again

-- ---- variables of annotations around

outers_live : (code : Code) (d : ℕ) (s : Store) → ((x : Name) (v : ℕ) → code.constants x ≡ Some v → Live d s v)
    → (xs : List Name) → AllByRecursion (Live d s) (outer_of code xs)
outers_live code d s live [] = tt
outers_live code d s live (x ∷ xs) = go (code.constants x) (live x) (outers_live code d s live xs)
  where
    go : (o : Option ℕ) → ((v : ℕ) → o ≡ Some v → Live d s v) → AllByRecursion (Live d s) (outer_of code xs)
        → AllByRecursion (Live d s) (more_outer o (outer_of code xs))
    go None live again = again
    go (Some v) live again = (live v refl, again)

outers_lack : (code : Code) (s : Store) (f : Name → Kind) (xs : List Name) → LackAround code s xs (map f xs)
    → AllZip (λ v (k : Kind). Lacking s v k.lacks) (outer_of code xs) (map f (outer_names code xs))
outers_lack code s f [] h = tt
outers_lack code s f (x ∷ xs) h = go (code.constants x) h.0 (outers_lack code s f xs h.1)
  where
    go : (o : Option ℕ) → ((v : ℕ) → o ≡ Some v → Lacking s v (f x).lacks)
        → AllZip (λ v (k : Kind). Lacking s v k.lacks) (outer_of code xs) (map f (outer_names code xs))
        → AllZip (λ v (k : Kind). Lacking s v k.lacks) (more_outer o (outer_of code xs))
        (map f (cond (not (is_none o)) (x ∷ outer_names code xs) (outer_names code xs)))
    go None lack again = again
    go (Some v) lack again = (lack v refl, again)

-- ---- their constants

abbrev more_constant : Option Rigid → List Rigid → List Rigid
more_constant None rs = rs
more_constant (Some r) rs = r ∷ rs

abbrev constants_in : Constants → List Name → List Rigid
constants_in around [] = []
constants_in around (x ∷ xs) = more_constant (lookup (bytes_eq x) around) (constants_in around xs)

abbrev not_own : Constants → Name → Bool
not_own around x = not (is_none (lookup (bytes_eq x) around))

-- the constant at the place of its name
constant_at : (around : Constants) (a : Name) (r : Rigid) → lookup (bytes_eq a) around ≡ Some r → (xs : List Name)
    → contains a xs ≡ true
    → slice_get (constants_in around xs) (number_of a (filter (not_own around) xs)) ≡ Some r
constant_at around a r is [] e = absurd cc
constant_at around a r is (x ∷ xs) e =
    go (constant_at around a r is xs) (bytes_eq a x) refl (lookup (bytes_eq x) around) refl e
  where
    go : (contains a xs ≡ true → slice_get (constants_in around xs) (number_of a (filter (not_own around) xs)) ≡ Some r)
        → (b : Bool)
        → bytes_eq a x ≡ b → (o : Option Rigid) → lookup (bytes_eq x) around ≡ o → (b || contains a xs) ≡ true
        → slice_get (more_constant o (constants_in around xs))
        (number_of a (cond (not (is_none o)) (x ∷ (filter (not_own around) xs)) (filter (not_own around) xs))) ≡ Some r
    go again true same None at h =
        absurd (let both : Some r ≡ None = sym is ∙ (ap (λ y. lookup (bytes_eq y) around) (same_name a x same) ∙ at) in
        cc)
    go again true same (Some q) at h =
        ap (slice_get (q ∷ constants_in around xs)) (first_number a x (filter (not_own around) xs) same)
        ∙ (sym at ∙ (ap (λ y. lookup (bytes_eq y) around) (sym (same_name a x same)) ∙ is))
    go again false same None at h = again h
    go again false same (Some q) at h =
        ap (slice_get (q ∷ constants_in around xs)) (next_number a x (filter (not_own around) xs) same) ∙ again h

both_none : (links : Links) (o : Option ℕ) (p : Option Rigid) → MeansConstant links o p → is_none o ≡ is_none p
both_none links None None h = refl
both_none links None (Some r) h = absurd h
both_none links (Some v) None h = absurd h
both_none links (Some v) (Some r) h = refl

module _ (code : Code) (links : Links) (around : Constants) (means : MeansConstants code links around) where
  constants_have : (xs : List Name)
      → AllZip (λ v r. Has links v (variable (Fixed r))) (outer_of code xs) (constants_in around xs)
  constants_have [] = tt
  constants_have (x ∷ xs) = go (code.constants x) (lookup (bytes_eq x) around) (means x) (constants_have xs)
    where
      go : (o : Option ℕ) (p : Option Rigid) → MeansConstant links o p
          → AllZip (λ v r. Has links v (variable (Fixed r))) (outer_of code xs) (constants_in around xs)
          → AllZip (λ v r. Has links v (variable (Fixed r))) (more_outer o (outer_of code xs))
          (more_constant p (constants_in around xs))
      go None None h again = again
      go None (Some r) h again = absurd h
      go (Some v) None h again = absurd h
      go (Some v) (Some r) h again = (h, again)

  own_both : (x : Name) → is_own code x ≡ is_none (lookup (bytes_eq x) around)
  own_both x = both_none links (code.constants x) (lookup (bytes_eq x) around) (means x)

  own_same : (t : Annotation) → own_names code (variables_of t) ≡ own_variables around t
  own_same t =
      same_filter (is_own code) (λ x. is_none (lookup (bytes_eq x) around)) own_both (variables_of t)

  outer_same : (xs : List Name) → outer_names code xs ≡ filter (not_own around) xs
  outer_same xs = same_filter (λ x. not (is_own code x)) (not_own around) (λ x. ap not (own_both x)) xs

  -- what the numbers stand for

  own_leaf : (n i : ℕ) (rs : List Rigid) → i < n → own_or_constant n rs (Free i) ≡ Free i
  own_leaf n i rs l = go (nat_lt i n) refl
    where
      go : (b : Bool) → nat_lt i n ≡ b
          → cond b (Free i) (unwrap_or (option_map (λ (r : Rigid). Fixed r) (slice_get rs (i - n))) (Free i)) ≡ Free i
      go true e = refl
      go false e = absurd (let more : n ≤ i = grind (arith, nat_tests) in omega (arith, l, more))

  constant_leaf : (n i j : ℕ) (rs : List Rigid) (r : Rigid) → i ≡ n + j → slice_get rs j ≡ Some r
      → own_or_constant n rs (Free i) ≡ Fixed r
  constant_leaf n i j rs r e there = go (nat_lt i n) refl
    where
      go : (b : Bool) → nat_lt i n ≡ b
          → cond b (Free i) (unwrap_or (option_map (λ (r : Rigid). Fixed r) (slice_get rs (i - n))) (Free i)) ≡ Fixed r
      go true below = absurd (let less : i < n = grind (arith, nat_tests) in omega (arith, e, less))
      go false below =
          (let same : i - n ≡ j = omega (arith, e) in
          ap (λ o. unwrap_or (option_map (λ (r : Rigid). Fixed r) o) (Free i)) (ap (slice_get rs) same ∙ there))

  -- its scheme's variables are the own ones, and the others are constants
  module _ (t : Annotation) where
    abbrev xs : List Name
    xs = variables_of t

    abbrev n : ℕ
    n = length (own_names code xs)

    abbrev rs : List Rigid
    rs = constants_in around xs

    leaf_is : (a : Name) → contains a xs ≡ true
        → variable (own_or_constant n rs (Free (number code xs a))) ≡ scheme_variable around t a
    leaf_is a e = go (is_own code a) refl (lookup (bytes_eq a) around) refl
      where
        go : (b : Bool) → is_own code a ≡ b → (p : Option Rigid) → lookup (bytes_eq a) around ≡ p
            → variable (own_or_constant n rs (Free (placed b 0 n (own_names code xs) (outer_names code xs) a)))
            ≡ constant_or p (variable (Free (number_of a (own_variables around t))))
        go true own None at =
            (let z : 0 + number_of a (own_names code xs) ≡ number_of a (own_names code xs) = omega arith in
            let l = number_below a (own_names code xs) (own_there code xs a e own) in
            ap (λ i. variable (own_or_constant n rs (Free i))) z
            ∙ (ap (λ x. variable x) (own_leaf n (number_of a (own_names code xs)) rs l)
            ∙ ap (λ ys. variable (Free (number_of a ys))) (own_same t)))
        go true own (Some r) at =
            absurd (let both : true ≡ false = sym own ∙ (own_both a ∙ ap is_none at) in cc)
        go false own None at =
            absurd (let both : false ≡ true = sym own ∙ (own_both a ∙ ap is_none at) in cc)
        go false own (Some r) at =
            ap (λ x. variable x) (constant_leaf n (n + number_of a (outer_names code xs))
            (number_of a (outer_names code xs)) rs r refl
            (ap (λ ys. slice_get rs (number_of a ys)) (outer_same xs) ∙ constant_at around a r at xs e))

-- ---- the type with the numbers of the table

module _ (code : Code) (t : Annotation) (xs : List Name) (ks : List Kind) (type : ElmType (Leaf ℕ))
    (is : IsAnnotation t xs ks type) where
  abbrev names : List Name
  names = variables_of t

  abbrev counted : Name → ℕ
  counted a = number_of a names

  abbrev new_type : ElmType (Leaf ℕ)
  new_type = annotation_type (by_number (number code names)) t

  abbrev kinds_all : List Kind
  kinds_all = all_of code names (kind_of t)

  in_order : ordered type ≡ true
  in_order = formed_ordered ks type (formed t xs ks type is)

  moved_leaf : (a : Name) → contains a names ≡ true
      → moved (table_of code names) (Free (counted a)) ≡ Free (number code names a)
  moved_leaf a e =
      ap (λ o. Free (unwrap_or o 0)) (table_at code a names 0 (length (own_names code names)) e)

  type_moved : renamed (moved (table_of code xs)) type ≡ new_type
  type_moved =
      sym (renames_by_substitution (moved (table_of code xs)) type in_order)
      ∙ (ap (λ ys. substitute (λ x. variable (moved (table_of code ys) x)) type) is.names
      ∙ (ap (substitute (λ x. variable (moved (table_of code names) x))) is.type
      ∙ type_put (λ x. variable (moved (table_of code names) x)) (by_number counted)
      (by_number (number code names)) t is.once
      (all_there (λ a. substitute (λ x. variable (moved (table_of code names) x)) (by_number counted a)
      ≡ by_number (number code names) a) (written t)
      (λ a e. ap (λ x. variable x) (moved_leaf a (among a t e))))))

  new_below : AllByRecursion (IsBelow (length kinds_all)) (variables new_type)
  new_below =
      type_below (number code names) (length kinds_all) t is.once
      (all_there (λ a. number code names a < length kinds_all) (written t)
      (λ a e. placed_below code names (kind_of t) a (among a t e)))

  new_formed : is_formed kinds_all new_type ≡ true
  new_formed =
      type_formed (number code names) kinds_all t is.once
      (covers (λ a k. contains k (kind_at kinds_all (number code names a)).lacks ≡ true) t
      (λ a k e. ap (λ (o : Option Kind). contains k (unwrap_or o any_kind).lacks)
      (value_at code names (kind_of t) a (among a t (mentioned a k t e)))
      ∙ once_has k (beside a t) [] e refl))

  module _ (declared : Declared) (type_is : declared.scheme.type ≡ renamed (moved (table_of code xs)) type)
      (kinds_are : declared.scheme.kinds ≡ map (λ (p : Name × Kind). p.1) (own_of code xs ks))
      (outer_is : declared.outer ≡ outer_of code xs) where
    own_kinds_are : declared.scheme.kinds ≡ map (kind_of t) (own_names code names)
    own_kinds_are =
        kinds_are
        ∙ (ap (λ ys. map (λ (p : Name × Kind). p.1) (own_of code ys ks)) is.names
        ∙ (ap (λ ls. map (λ (p : Name × Kind). p.1) (own_of code names ls)) is.kinds
        ∙ own_kinds code (kind_of t) names))

    type_new : declared.scheme.type ≡ new_type
    type_new = type_is ∙ type_moved

    all_kinds_are : declared.scheme.kinds ++ map (kind_of t) (outer_names code names) ≡ kinds_all
    all_kinds_are = ap (λ ls. ls ++ map (kind_of t) (outer_names code names)) own_kinds_are

    -- the name can be used
    pub ready : (d : ℕ) (s : Store) → IsReady code d s → LackAround code s xs ks → DeclaredReady d s declared
    ready d s code_ready lack = record {
      kinds = map (kind_of t) (outer_names code names);
      written = record {
        below =
            subst (λ ls. AllByRecursion (IsBelow (length ls)) (variables declared.scheme.type)) (sym all_kinds_are)
            (subst (λ u. AllByRecursion (IsBelow (length kinds_all)) (variables u)) (sym type_new) new_below);
        formed =
            ap (λ ls. is_formed ls declared.scheme.type) all_kinds_are ∙ (ap (is_formed kinds_all) type_new
            ∙ new_formed);
      };
      live =
          subst (AllByRecursion (Live d s)) (sym (outer_is ∙ ap (outer_of code) is.names))
          (outers_live code d s code_ready.constants names);
      lacks =
          subst (λ vs. AllZip (λ v (k : Kind). Lacking s v k.lacks) vs (map (kind_of t) (outer_names code names)))
          (sym (outer_is ∙ ap (outer_of code) is.names))
          (outers_lack code s (kind_of t) names
          (subst (λ ys. LackAround code s ys (map (kind_of t) names)) is.names
          (subst (LackAround code s xs) is.kinds lack)));
    }

    -- and stands for the annotation's scheme
    module _ (links : Links) (around : Constants) (means : MeansConstants code links around) where
      abbrev constants : List Rigid
      constants = constants_in around names

      abbrev n_own : ℕ
      n_own = length (own_names code names)

      new_ordered : ordered new_type ≡ true
      new_ordered = formed_ordered kinds_all new_type new_formed

      scheme_type : renamed (own_or_constant n_own constants) new_type ≡ (scheme_inside around t).type
      scheme_type =
          sym (renames_by_substitution (own_or_constant n_own constants) new_type new_ordered)
          ∙ type_put (λ x. variable (own_or_constant n_own constants x)) (by_number (number code names))
          (scheme_variable around t) t is.once
          (all_there (λ a. substitute (λ x. variable (own_or_constant n_own constants x))
          (by_number (number code names) a) ≡ scheme_variable around t a) (written t)
          (λ a e. leaf_is code links around means t a (among a t e)))

      own_many : length declared.scheme.kinds ≡ n_own
      own_many = ap length own_kinds_are ∙ length-map (own_names code names) (kind_of t)

      pub is_declared : IsDeclared links declared (scheme_inside around t)
      is_declared = record {
        constants = constants;
        has =
            subst (λ vs. AllZip (λ v r. Has links v (variable (Fixed r))) vs constants)
            (sym (outer_is ∙ ap (outer_of code) is.names)) (constants_have code links around means names);
        kinds = sym (own_kinds_are ∙ ap (map (kind_of t)) (own_same code links around means t));
        type =
            sym (ap (λ n. renamed (own_or_constant n constants) declared.scheme.type) own_many
            ∙ (ap (renamed (own_or_constant n_own constants)) type_new ∙ scheme_type));
      }

-- ---- as the code finds them

views_kinds : (own : List OwnVariable) → map (λ o. kind_view o.kind) own ≡ map (λ (p : Name × Kind). p.1)
    (map own_view own)
views_kinds [] = refl
views_kinds (o ∷ own) = ap (λ ks. kind_view o.kind ∷ ks) (views_kinds own)

module _ (code : Code) (t : Annotation) (xs : List Name) (ks : List Kind) (type : ElmType (Leaf ℕ))
    (is : IsAnnotation t xs ks type) (own : List OwnVariable) (own_is : map own_view own ≡ own_of code xs ks) where
  own_names_many : length own ≡ length (own_names code xs)
  own_names_many =
      sym (length-map own own_view)
      ∙ (ap length own_is
      ∙ (sym (length-map (own_of code xs ks) (λ (p : Name × Kind). p.1))
      ∙ (ap (λ ls. length (map (λ (p : Name × Kind). p.1) (own_of code xs ls))) (is.kinds ∙ ap (map (kind_of t))
      (sym is.names))
      ∙ (ap length (own_kinds code (kind_of t) xs) ∙ length-map (own_names code xs) (kind_of t)))))

  pub table_is : (n : ℕ) (numbers : List ℕ) → n ≡ length own → numbers ≡ table code 0 n xs → numbers ≡ table_of code xs
  table_is n numbers many e = e ∙ ap (λ m. table code 0 m xs) (many ∙ own_names_many)

  pub kinds_are_own : (kinds : List Kind) → kinds ≡ map (λ o. kind_view o.kind) own
      → kinds ≡ map (λ (p : Name × Kind). p.1) (own_of code xs ks)
  kinds_are_own kinds e = e ∙ (views_kinds own ∙ ap (map (λ (p : Name × Kind). p.1)) own_is)
