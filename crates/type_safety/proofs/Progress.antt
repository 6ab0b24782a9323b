-- Typed expressions end well, where each single step keeps types.
use Rattle.std.proofs.Common.{◌≡◌, ℕ, zero, suc, ◌+◌, List, [], ◌∷◌, ◌++◌, map, Bool, true, false, cond, Option, Some, None, ◌⊎◌, inl, inr, refl, sym, ap, ◌∙◌, subst}
use Rattle.std.specs.Prelude.{◌||◌, if◌then◌else◌}
use Rattle.std.specs.List.{AllByRecursion}
use Rattle.elm_base.specs.declared.position.Pos.{Pos}
use Rattle.runs.specs.Ends.{End, Val, Crashed, OutOfFuel, Unsafe, Stuck, then_do}
use Rattle.elm_canon.specs.Names.{same_ref}
use Rattle.elm_canon.specs.declared.reference.Ref.{Ref}
use Rattle.elm_canon.specs.declared.tree.Literal.TheVariants as literal
use Rattle.elm_canon.specs.declared.tree.Connective.{Connective}
use Rattle.elm_canon.specs.declared.tree.Connective.TheVariants.{And, Or}
use Rattle.elm_canon.specs.Tree.{Pattern, Patterns, NoPattern, MorePattern, Title, Op, Expr, Is, NameOf, Accessor, Lambda, Apply, Strict}
use Rattle.elm_canon.specs.Tree.{If, Logical, Let, Case, Located, Exprs, NoExpr, MoreExpr, Branches, NoBranch, MoreBranch, Groups}
use Rattle.elm_canon.specs.Tree.{NoGroup, MoreGroup, Group, Together, Constant, Destructure, Functions, NoFunction, MoreFunction}
use Rattle.elm_canon.specs.Proper.{count_exprs}
use Rattle.elm_meaning.specs.Functions.{Getter}
use Rattle.elm_meaning.specs.Values.{Value, IntV, TextV, TagV, RecordV, CloV, KnownV, WireV, MoreValue, Env, Bind}
use Rattle.elm_meaning.specs.Match.{matches, on_match}
use Rattle.elm_meaning.specs.Operate.{perform}
use Rattle.elm_meaning.specs.Eval.{Call, eval_with, evals_with, apply_with, choose_with, if_true, left_decides, bind_with, group_with, enter, call_at}
use Rattle.elm_type.specs.Types.{NoType, MoreType, Made, Record, NoField, MoreField, Closed, function, functions, int_type, char_type, string_type, bool_type}
use Rattle.elm_type.specs.Classes.{Ground, meets}
use Rattle.elm_type.specs.declared.class.Class.TheVariants.{Number}
use Rattle.elm_type.specs.Rows.{extend, substitute}
use Rattle.elm_type.specs.Ground.{value, leaf_value}
use Rattle.type_items.specs.Items.{Item, Place, child, Wanted, at, children}
use Rattle.type_items.specs.Scopes.{Entry, entry_of, Mono, Known, Scope, elsewhere}
use Rattle.type_items.specs.Patterns.{pattern_items, patterns_items, parameter_types, bind_pattern, bind_patterns}
use Rattle.type_items.specs.Operations.{plan}
use Rattle.type_items.specs.Uses.{used, used_each, used_branches, used_groups, used_group, used_functions}
use Rattle.type_items.specs.Definitions.{Definition, in_written_order, around_items, list_groups, list_definitions}
use Rattle.type_items.specs.Expressions.{items, each_items, part_items, branch_items, function_items, titled, definitions, group_definitions, function_definitions}
use Rattle.type_items.specs.Solutions.{Solves}
use Rattle.typed_values.specs.Frames.{Frame, of, Stands}
use Rattle.typed_values.specs.World.{KnownIn, World, Knows, sent_type}
use Rattle.typed_values.specs.Simple.{Without}
use Rattle.typed_values.specs.Typed.{EndsWell, or_named, bind_from, IsChecked, Has, HasEach, Fits}
use Rattle.typed_values.specs.Simple.{IsPattern, IsOperation, Takes, branch_patterns, Simple, SimpleEach, SimpleBranches, SimpleMap, SimpleGroups, SimpleGroup}
use Rattle.typed_values.specs.Exhaustive.{IsPatternOf}
use Rattle.typed_values.specs.Steps.{IfMatched, StepsKeepTypes}
use Rattle.typed_values.proofs.Names.{not_both, not_or, all_left, all_right, solves_left, solves_right}
use Rattle.typed_values.proofs.Envs.{of_functions, fits_known, agree_refl}
use Rattle.elm_canon.specs.Proper.{bound_by, among}
use Rattle.elm_meaning.specs.Values.{Nil}
use Rattle.elm_meaning.specs.Envs.{lookup}
use Rattle.type_items.specs.Patterns.{pattern_names, pattern_start}
use Rattle.type_items.specs.Expressions.{nowhere}
use Rattle.typed_values.specs.World.{Among}
use Rattle.typed_values.specs.Frames.{Serves}
use Rattle.typed_values.specs.Simple.{defines, AreApart, UseEarlier}
use Rattle.typed_values.specs.Typed.{Stages, AtStage, hides}
use Rattle.typed_values.proofs.Names.{yes_or_no, or_not}
use Rattle.std.specs.Map.{lookup as entry_at}
use Rattle.std.specs.Option.{option_map, option_or}
use Rattle.elm_canon.specs.Tree as canon
use Rattle.elm_canon.specs.Tree.{Declaration, Given, Define, Module}
use Rattle.elm_meaning.specs.Functions as functions
use Rattle.elm_meaning.specs.Values.{NoValue}
use Rattle.elm_meaning.specs.Primitives.{known}
use Rattle.elm_meaning.specs.Run.{declare_with}
use Rattle.type_items.specs.Scopes.{Instance}
use Rattle.type_items.specs.Modules.{known_in, module_scope, module_definitions, module_items}
use Rattle.type_safety.specs.Modules.{groups_in, given_in, IsTyped, AreTyped, AreTitled, before_own, UseGivenBefore, IsPlain}
use Rattle.type_safety.specs.Modules.{scope_after}
use Rattle.type_safety.proofs.Mapped.{mapped_good}
use Rattle.type_safety.proofs.Modules.{GivenServes, Instances, declared_definitions}
use Rattle.type_safety.proofs.Lets.{same_before}
use Rattle.type_safety.proofs.Transfers.{fits_shown}
use Rattle.type_safety.proofs.Stagings.{at_name, Named, AllNamed, group_at, listed_scope, last_alike, stage_wider}
use Rattle.type_safety.proofs.Lets.{among_append, among_front, among_one, one_among, defines_append, Hs, T, Last, let_stages}
use Rattle.type_safety.proofs.Lets.{fits_start, serve, Covered, covered, stage_fits, stage_free, title_own, title_noted}
use Rattle.type_safety.proofs.Lets.{one_type_of, functions_fit}
use Rattle.type_safety.proofs.Destructured.{names_mono, names_skip, names_has, Binds, bind_all, match_binds, hide_binds}
use Rattle.type_safety.proofs.Destructured.{hide_lookup, fits_binds, binds_typed}
use Rattle.typed_values.proofs.Rows.{substitute_extend}
use Rattle.typed_values.proofs.Numbers.{standing_number, standing_lacks}
use Rattle.typed_values.proofs.Uses.{uses_end_well}
use Rattle.typed_values.proofs.Patterns.{up, no_nonsense, match_good}

pub then_well : {X Y : Type 0} (P : X → Type 0) (Q : Y → Type 0) (o : End X) (go : X → End Y) → EndsWell P o → ((x : X) → P x → EndsWell Q (go x)) → EndsWell Q (then_do o go)
then_well P Q (Val x) go h k = k x h
then_well P Q (Crashed t) go h k = tt
then_well P Q OutOfFuel go h k = tt
then_well P Q Unsafe go h k = tt
then_well P Q Stuck go h k = absurd h

then_each : {X Y : Type 0} (P : X → Type 0) (Q : Y → Type 0) (o : End X) (go : X → End Y) → EndsWell P o → ((x : X) → o ≡ Val x → EndsWell Q (go x)) → EndsWell Q (then_do o go)
then_each P Q (Val x) go h k = k x refl
then_each P Q (Crashed t) go h k = tt
then_each P Q OutOfFuel go h k = tt
then_each P Q Unsafe go h k = tt
then_each P Q Stuck go h k = absurd h

abbrev first_part : Ground → Ground
first_part (Made h (MoreType t ts)) = t
first_part (Made h NoType) = int_type
first_part (Record fs end) = int_type

abbrev second_part : Ground → Ground
second_part (Made h (MoreType t (MoreType u ts))) = u
second_part (Made h (MoreType t NoType)) = int_type
second_part (Made h NoType) = int_type
second_part (Record fs end) = int_type

-- every branch passes the value over
abbrev PassOver : Branches → Value → Env → Type 0
PassOver bs v env = AllByRecursion (λ p. matches p v env ≡ Val None) (branch_patterns bs)

pattern_typed : (W : World) (q : Pattern) (known : Known) (a : Frame) (here : Pos) (p : Place) (t : Wanted) → IsPattern W q → Stands a → KnownIn W known
    → Solves a.values (pattern_items q known here p t) → IsPatternOf W (of a t) q
pattern_typed W q known a here p t proper bare same sol = record {
  is_pattern = proper;
  here = here;
  place = p;
  wanted = t;
  frame = a;
  stands = bare;
  known = known;
  is_known = same;
  solves = sol;
  is = refl;
}

branches_typed : (W : World) (bs : Branches) (S : Scope) (a : Frame) (here : Pos) (p : Place) (i : ℕ) (t w : Wanted) → SimpleBranches W bs → Stands a → KnownIn W S.known
    → Solves a.values (branch_items bs S here p i t w) → AllByRecursion (IsPatternOf W (of a t)) (branch_patterns bs)
branches_typed W NoBranch S a here p i t w simple bare same sol = tt
branches_typed W (MoreBranch q e bs) S a here p i t w simple bare same sol =
    let is = pattern_items q S.known here (child (child p i) 0) t in
    let js = items e (bind_pattern q (child (child p i) 0) t S) here (child (child p i) 1) w in
    let ks = branch_items bs S here p (i + 1) t w in (
      pattern_typed W q S.known a here (child (child p i) 0) t simple.0 bare same (solves_left a is (js ++ ks) sol),
      branches_typed W bs S a here p (i + 1) t w simple.2 bare same (solves_right a js ks (solves_right a is (js ++ ks) sol)),
    )

module _ (W : World) (steps : StepsKeepTypes W) where
  abbrev pub Good : End Value → Ground → Type 0
  Good o g = EndsWell (λ v. Has W v g) o

  abbrev pub CallOk : Call → Type 0
  CallOk call = (f v : Value) (a b : Ground) → Has W f (function a b) → Has W v a → Good (call f v) b

  good_as : (o : End Value) (g h : Ground) → g ≡ h → Good o g → Good o h
  good_as o g h e k = subst (λ x. Good o x) e k

  if_well : (v : Value) (one other : End Value) (g : Ground) → Has W v bool_type → Good one g → Good other g → Good (if_true v one other) g
  if_well v one other g has h k =
      let r = steps.truths v has in
      subst (λ x. Good (if_true x one other) g) (sym r.1) (go r.0)
    where
      go : (b : Bool) → Good (if b then one else other) g
      go true = h
      go false = k

  decided : (op : Connective) (v : Value) (right : End Value) (g : Ground) → Has W v bool_type → Has W v g → Good right g → Good (left_decides op v right) g
  decided And v right g has own h = if_well v right (Val v) g has h own
  decided Or v right g has own h = if_well v (Val v) right g has own h

  branch_good : (q : Pattern) (v : Value) (env : Env) (o : End (Option Env)) (go : Env → End Value) (others : End Value) (bs : Branches) (U : Ref → Bool) (inner : Scope) (a : Frame) (g : Ground)
      → matches q v env ≡ o → EndsWell (IfMatched (λ env2. Fits W env2 U inner a)) o → ((env2 : Env) → Fits W env2 U inner a → Good (go env2) g) → Good others g ⊎ PassOver bs v env
      → Good (on_match o go others) g ⊎ ((matches q v env ≡ Val None) × PassOver bs v env)
  branch_good q v env (Val (Some env2)) go others bs U inner a g is fits h rest = inl (h env2 fits)
  branch_good q v env (Val None) go others bs U inner a g is fits h rest = elim rest [ inl good ↦ inl good | inr passed ↦ inr (is, passed) ]
  branch_good q v env (Crashed t) go others bs U inner a g is fits h rest = inl tt
  branch_good q v env OutOfFuel go others bs U inner a g is fits h rest = inl tt
  branch_good q v env Unsafe go others bs U inner a g is fits h rest = inl tt
  branch_good q v env Stuck go others bs U inner a g is fits h rest = absurd fits

  -- ---- the definitions of a `let`

  titled_named : (title : Title) (uses : List Ref) (list : Scope → Place → Wanted → List Item) → (K : Known) → Named K (titled title uses list)
  titled_named title uses list K = record {
    mono = λ known p v. tt;
    inside = λ known p v y k e. (v, ap (λ b. cond b (Some (Mono v)) None) (one_among title.name y e));
    outside = λ known p v y e. ap (λ b. cond b (Some (Mono v)) None) (not_among title.name y e);
  }
    where
      not_among : (x y : Ref) → among y (x ∷ []) ≡ false → same_ref y x ≡ false
      not_among x y e = go (same_ref y x) e
        where
          go : (b : Bool) → (if b then true else false) ≡ false → b ≡ false
          go true f = f
          go false f = f

  abbrev destructured : Pattern → Expr → Definition
  destructured q e =
      let start = pattern_start nowhere q in record {
        names = bound_by q;
        place = start;
        annotation = None;
        uses = used e;
        list = λ scope p v. pattern_items q scope.known start (child p 0) v ++ items e scope start (child p 1) v;
        types = λ known p v. pattern_names q known (child p 0) v [];
      }

  functions_named : (fs : Functions) (K : Known) → AllNamed K (function_definitions fs)
  functions_named NoFunction K = tt
  functions_named (MoreFunction title qs e fs) K = (titled_named title (used e) (λ scope p v. function_items qs (items e) scope title.place p v) K, functions_named fs K)

  group_named : (g : Group) (K : Known) → KnownIn W K → SimpleGroup W g → AllNamed K (group_definitions g)
  group_named (Together fs) K is simple = functions_named fs K
  group_named (Constant title e) K is simple = (titled_named title (used e) (λ scope p v. function_items NoPattern (items e) scope title.place p v) K, tt)
  group_named (Destructure q e) K is simple = (
    record {
      mono = λ known p v. names_mono q known (child p 0) v [] tt;
      inside = λ known p v y k own. names_has W steps q simple.0.0 known (child p 0) v [] y (subst (KnownIn W) (sym k) is) own;
      outside = λ known p v y other. names_skip q known (child p 0) v [] y other;
    },
    tt,
  )

  all_append : (P : Definition → Type 0) (xs ys : List Definition) → AllByRecursion P xs → AllByRecursion P ys → AllByRecursion P (xs ++ ys)
  all_append P [] ys h k = k
  all_append P (x ∷ xs) ys h k = (h.0, all_append P xs ys h.1 k)

  definitions_named : (gs : Groups) (K : Known) → KnownIn W K → SimpleGroups W gs → AllNamed K (definitions gs)
  definitions_named NoGroup K is simple = tt
  definitions_named (MoreGroup g gs) K is simple = all_append (Named K) (group_definitions g) (definitions gs) (group_named g K is simple.0) (definitions_named gs K is simple.1)

  -- at the top level nothing is destructured, so that names are told without the patterns
  pub top_named : (gs : Groups) (K : Known) → AreTitled gs → AllNamed K (definitions gs)
  top_named NoGroup K h = tt
  top_named (MoreGroup (Together fs) gs) K h = all_append (Named K) (function_definitions fs) (definitions gs) (functions_named fs K) (top_named gs K h)
  top_named (MoreGroup (Constant title e) gs) K h =
      all_append (Named K) (group_definitions (Constant title e)) (definitions gs)
      (titled_named title (used e) (λ scope p v. function_items NoPattern (items e) scope title.place p v) K, tt) (top_named gs K h)
  top_named (MoreGroup (Destructure q e) gs) K h = absurd h

  record IsLet (ds : List Definition) (S : Scope) (p : Place) (a : Frame) : Type 0 where
    known : KnownIn W S.known
    named : AllNamed S.known ds
    apart : AreApart ds
    stands : Stands a
    solves : Solves a.values (list_groups (Hs W ds S p a) (T W ds S p a) p 0).items

  -- what is hidden before these groups are bound
  abbrev later : Groups → (Ref → Bool) → Ref → Bool
  later gs U y = defines (definitions gs) y || U y

  without_or : (h k : Ref → Bool) (xs : List Ref) → Without h xs → Without k xs → Without (λ y. h y || k y) xs
  without_or h k [] a b = tt
  without_or h k (x ∷ xs) a b = (or_not (h x) (k x) a.0 b.0, without_or h k xs a.1 b.1)

  rest_earlier : (g : Group) (gs : Groups) → UseEarlier (MoreGroup g gs) → UseEarlier gs
  rest_earlier (Together fs) gs h = h.1
  rest_earlier (Constant title e) gs h = h.1
  rest_earlier (Destructure q e) gs h = h.1

  hides_not : (fs : Functions) (h : Ref → Bool) (y : Ref) → hides fs h y ≡ false → (defines (function_definitions fs) y ≡ false) × (h y ≡ false)
  hides_not NoFunction h y n = (refl, n)
  hides_not (MoreFunction title qs e fs) h y n =
      let r = hides_not fs (or_named title.name h) y n in
      let o = not_or (same_ref y title.name) (h y) r.1 in
      (or_not (among y (title.name ∷ [])) (defines (function_definitions fs) y) (among_one title.name y o.0) r.0, o.1)

  -- a parameter that leaves nothing out
  taken_here : (q : Pattern) (v : Value) (env : Env) (S : Scope) (a : Frame) (here : Pos) (p : Place) (t : Wanted) → IsPattern W q → Takes q → Stands a → KnownIn W S.known
      → Solves a.values (pattern_items q S.known here p t) → Has W v (of a t) → matches q v env ≡ Val None → ⊥
  taken_here q v env S a here p t proper takes bare same sol has e =
      steps.taken (q ∷ []) v (of a t) env (pattern_typed W q S.known a here p t proper bare same sol, tt) takes has (e, tt)

  -- a destructured value, which has its type at every stage
  module _ (q : Pattern) (e : Expr) (gs : Groups) (env : Env) (ds : List Definition) (U : Ref → Bool) (S : Scope) (a : Frame) (p : Place) (ok : IsLet ds S p a)
      (inside : (d : Definition) → Among d (definitions (MoreGroup (Destructure q e) gs)) → Among d ds) (simple : IsPattern W q × Takes q)
      (f : Fits W env (later (MoreGroup (Destructure q e) gs) U) (Last W ds S p a) a) (v : Value)
      (typed : (k : ℕ) (r : Place) (g : Frame) → AtStage (let_stages W ds S p a (later (MoreGroup (Destructure q e) gs) U)) k r g → Among (destructured q e) (group_at (Hs W ds S p a) k)
      → (place : Place) (u : Wanted) → Solves g.values ((destructured q e).list ((let_stages W ds S p a (later (MoreGroup (Destructure q e) gs) U)).scopes k r) place u) → Has W v (of g u)) where
    abbrev stages : Stages
    stages = let_stages W ds S p a (later (MoreGroup (Destructure q e) gs) U)

    abbrev last : Scope
    last = Last W ds S p a

    abbrev d : Definition
    d = destructured q e

    abbrev start : Pos
    start = pattern_start nowhere q

    abbrev c : Covered W ds S p a refl ok.named ok.apart ok.stands ok.solves (later (MoreGroup (Destructure q e) gs) U) (destructured q e)
    c = covered W ds S p a refl ok.named ok.apart ok.stands ok.solves (later (MoreGroup (Destructure q e) gs) U) (destructured q e) (inside (destructured q e) (inl refl))

    patterns : (k : ℕ) (r : Place) (g : Frame) (place : Place) (u : Wanted) → Solves g.values (d.list (stages.scopes k r) place u)
        → Solves g.values (pattern_items q (stages.scopes k r).known start (child place 0) u)
    patterns k r g place u solved =
        solves_left g (pattern_items q (stages.scopes k r).known start (child place 0) u) (items e (stages.scopes k r) start (child place 1) u) solved

    known_at : (k : ℕ) (r : Place) → (stages.scopes k r).known ≡ S.known
    known_at k r = (stage_wider S.known (Hs W ds S p a) (T W ds S p a) p 0 a (later (MoreGroup (Destructure q e) gs) U) k r).known ∙ (last_alike (Hs W ds S p a) (T W ds S p a)).known

    well : EndsWell (IfMatched (λ inner. Fits W inner (stages.hidden c.stage) (bind_pattern q (child c.place 0) c.type (stages.scopes c.stage c.at_place)) a)) (matches q v env)
    well =
        match_good W steps (stages.hidden c.stage) a ok.stands q simple.0 v env (stages.scopes c.stage c.at_place) start (child c.place 0) c.type
        (patterns c.stage c.at_place a c.place c.type c.solves) (typed c.stage c.at_place a c.at_stage c.member c.place c.type c.solves)
        (stage_fits W ds S p a refl ok.named ok.apart ok.stands ok.solves (later (MoreGroup (Destructure q e) gs) U) env c.stage c.at_place a c.at_stage f)

    -- the names have their types at each stage
    bound : (b : Binds q v) (k : ℕ) (r : Place) (g : Frame) → AtStage stages k r g → Among d (group_at (Hs W ds S p a) k) → (place : Place) (t : Wanted)
        → Solves g.values (d.list (stages.scopes k r) place t) → (x : Ref) (u : Wanted) → among x (bound_by q) ≡ true → at_name x (d.types S.known place t) ≡ Some (Mono u)
        → EndsWell (λ w. Has W w (of g u)) (lookup x (bind_all b.binds Nil))
    bound b k r g st m place t solved x u own named =
        binds_typed W steps q simple.0 v b S.known start (child place 0) t g x u ok.known st.stands
        (subst (λ n. Solves g.values (pattern_items q n start (child place 0) t)) (known_at k r) (patterns k r g place t solved))
        (typed k r g st m place t solved) own named

    serves : (b : Binds q v) (x : Ref) (w : Value) → later gs U x ≡ false → lookup x (bind_all b.binds Nil) ≡ Val w → (entry : Entry) → entry_of last x ≡ Some entry
        → Serves (λ g. Has W w g) entry last a
    serves b x w n is entry found = elim (yes_or_no (among x (bound_by q))) [
      | inl own ↦ serve W ds S p a refl ok.named ok.apart ok.stands ok.solves (later (MoreGroup (Destructure q e) gs) U) d x (λ g. Has W w g) (inside d (inl refl)) own
          (λ note none known place u. (let z : None ≡ Some note = none in absurd cc))
          (λ k r g st m place t solved u named. subst (λ o. EndsWell (λ z. Has W z (of g u)) o) is (bound b k r g st m place t solved x u own named)) entry found
      | inr other ↦ (let z : Stuck ≡ Val w = sym (b.leaves x other Nil) ∙ is in absurd cc)
    ]

    shown : (b : Binds q v) (y : Ref) → hide_binds b.binds (later gs U) y ≡ false → later (MoreGroup (Destructure q e) gs) U y ≡ false
    shown b y n =
        let r = hide_lookup b.binds (later gs U) y n in
        let m = not_or (defines (definitions gs) y) (U y) r.0 in
        or_not (defines (definitions (MoreGroup (Destructure q e) gs)) y) (U y) (or_not (among y (bound_by q)) (defines (definitions gs) y) (elim (yes_or_no (among y (bound_by q))) [
          | inl own ↦ (let t = names_has W steps q simple.0 S.known (child c.place 0) c.type [] y ok.known own in
              absurd (subst (λ o. EndsWell (λ w. Has W w (of a t.0)) o) (r.1 Nil) (bound b c.stage c.at_place a c.at_stage c.member c.place c.type c.solves y t.0 own t.1)))
          | inr other ↦ other
        ]) m.0) m.1

    end_good : (o : End (Option Env)) → matches q v env ≡ o
        → EndsWell (IfMatched (λ inner. Fits W inner (stages.hidden c.stage) (bind_pattern q (child c.place 0) c.type (stages.scopes c.stage c.at_place)) a)) o
        → EndsWell (λ inner. Fits W inner (later gs U) last a) (on_match o (λ inner. Val inner) Stuck)
    end_good (Val None) is ends =
        absurd (taken_here q v env (stages.scopes c.stage c.at_place) a start (child c.place 0) c.type simple.0 simple.1 ok.stands (subst (KnownIn W) (sym (known_at c.stage c.at_place)) ok.known)
        (patterns c.stage c.at_place a c.place c.type c.solves) (typed c.stage c.at_place a c.at_stage c.member c.place c.type c.solves) is)
    end_good (Val (Some inner)) is ends =
        let b = match_binds q v env inner is in
        let z : Val (Some (bind_all b.binds env)) ≡ Val (Some inner) = sym (b.matched env) ∙ is in
        let same : bind_all b.binds env ≡ inner = cc in
        subst (λ x. Fits W x (later gs U) last a) same
        (fits_binds W last a b.binds env (later gs U) (serves b)
        (fits_shown W env (later (MoreGroup (Destructure q e) gs) U) (hide_binds b.binds (later gs U)) last a (shown b) (agree_refl last a) f))
    end_good (Crashed t) is ends = tt
    end_good OutOfFuel is ends = tt
    end_good Unsafe is ends = tt
    end_good Stuck is ends = absurd ends

    destructure_good : EndsWell (λ inner. Fits W inner (later gs U) (Last W ds S p a) a) (on_match (matches q v env) (λ inner. Val inner) Stuck)
    destructure_good = end_good (matches q v env) refl well

  -- what is hidden before these declarations are bound
  abbrev unbound : List Declaration → (Ref → Bool) → Ref → Bool
  unbound ds U y = defines (definitions (groups_in ds)) y || (among y (given_in ds) || U y)

  given_entry : (x : Ref) (k : canon.Known) (S : Scope) (g : GivenServes W S.known x k) → S.names ≡ [] → entry_of S x ≡ Some (Instance g.scheme)
  given_entry x k S g empty =
      ap (λ ns. option_or (entry_at (same_ref x) ns) (elsewhere S.known x)) empty
      ∙ (ap (elsewhere S.known) g.name_is ∙ ap (λ o. option_map (λ s. Instance s) o) g.known_is)

  abbrev pub AllServed : Known → Type 0
  AllServed K = (x : Ref) (k : canon.Known) → IsTyped W K x k → GivenServes W K x k

  module _ (call : Call) (calls : CallOk call) where
    mutual
      eval_good : (e : Expr) (env : Env) (U : Ref → Bool) (S : Scope) (a : Frame) (here : Pos) (p : Place) (w : Wanted) → Simple W e → Stands a → Without U (used e) → Fits W env U S a
          → Solves a.values (items e S here p w) → Good (eval_with call e env) (of a w)
      eval_good (Is (literal.Int n)) env U S a here p w simple bare free f sol =
          ap (meets Number) (sym (up a (at (child p 0)) w sol.1.0)) ∙ standing_number a bare (value a.values (at (child p 0))) sol.0
      eval_good (Is (literal.Char us)) env U S a here p w simple bare free f sol = inr (up a char_type w sol.0)
      eval_good (Is (literal.Text us)) env U S a here p w simple bare free f sol = inl (up a string_type w sol.0)
      eval_good (NameOf x) env U S a here p w simple bare free f sol = uses_end_well W env U S a x here p w f bare free.0 sol
      eval_good (Accessor x) env U S a here p w simple bare free f sol =
          let place = child (child p 1) 0 in
          let r = of a (at (child p 0)) in
          let t = of a (at place) in
          let rest = extend (MoreField x (at place) NoField) (at (child p 0)) in
          let k = steps.getter x r t (standing_lacks a bare x (child p 0) sol.0) in
          let row : of a rest ≡ extend (MoreField x t NoField) r =
          ap (substitute a.stands) (substitute_extend (leaf_value a.values) (MoreField x (at place) NoField) (at (child p 0)))
          ∙ substitute_extend a.stands (MoreField x (value a.values (at place)) NoField) (value a.values (at (child p 0))) in
          let same : function (extend (MoreField x t NoField) r) t ≡ of a w = sym (ap (λ u. function u t) row) ∙ up a (function rest (at place)) w sol.1.0 in
          ([], subst (λ g. Knows W (Getter x) [] g) same k, tt)
      eval_good (Lambda qs e) env U S a here p w simple bare free f sol =
          let ts = parameter_types qs (child p 0) in
          let patterns = patterns_items qs S.known here (child p 0) 0 ts in
          let body = items e (bind_patterns qs (child p 0) ts S) here (child p 1) (at (child p 1)) in record {
            hidden = U;
            scope = S;
            frame = a;
            here = here;
            patterns_at = child p 0;
            first = 0;
            parameters = ts;
            body_at = child p 1;
            result = at (child p 1);
            stands = bare;
            fits = f;
            patterns = solves_left a patterns body sol.1;
            body = solves_right a patterns body sol.1;
            is = sym (of_functions a ts (at (child p 1))) ∙ up a (functions ts (at (child p 1))) w sol.0;
            some = simple.0;
            is_checked = record { checked = (simple.1, simple.2); free = free };
          }
      eval_good (Apply g es) env U S a here p w simple bare free f sol =
          let ts = children (child p 1) (count_exprs es) in
          let is = items g S here (child p 0) (functions ts w) in
          let js = each_items es S here (child p 1) 0 ts in
          then_well (λ v. Has W v (of a (functions ts w))) (λ v. Has W v (of a w)) (eval_with call g env) (λ v. apply_with call es v env)
          (eval_good g env U S a here (child p 0) (functions ts w) simple.0 bare (all_left (λ x. U x ≡ false) (used g) (used_each es) free) f (solves_left a is js sol))
          (λ v has. apply_good es v env U S a here (child p 1) 0 ts w simple.1 bare (all_right (λ x. U x ≡ false) (used g) (used_each es) free) f (solves_right a is js sol)
          (subst (λ t. Has W v t) (of_functions a ts w) has))
      eval_good (Strict op es) env U S a here p w simple bare free f sol = strict_good es op env U S a here p w simple.0 simple.1 bare free f sol
      eval_good (If c x y) env U S a here p w simple bare free f sol =
          let is = items c S here (child p 0) bool_type in
          let js = items x S here (child p 1) w in
          let ks = items y S here (child p 2) w in
          let rest = solves_right a is (js ++ ks) sol in
          let free_c : Without U (used c) = all_left (λ x. U x ≡ false) (used c) (used x) (all_left (λ x. U x ≡ false) (used c ++ used x) (used y) free) in
          let free_x : Without U (used x) = all_right (λ x. U x ≡ false) (used c) (used x) (all_left (λ x. U x ≡ false) (used c ++ used x) (used y) free) in
          let free_y : Without U (used y) = all_right (λ x. U x ≡ false) (used c ++ used x) (used y) free in
          then_well (λ v. Has W v bool_type) (λ v. Has W v (of a w)) (eval_with call c env) (λ v. if_true v (eval_with call x env) (eval_with call y env))
          (eval_good c env U S a here (child p 0) bool_type simple.0 bare free_c f (solves_left a is (js ++ ks) sol))
          (λ v has. if_well v (eval_with call x env) (eval_with call y env) (of a w) has
          (eval_good x env U S a here (child p 1) w simple.1 bare free_x f (solves_left a js ks rest))
          (eval_good y env U S a here (child p 2) w simple.2 bare free_y f (solves_right a js ks rest)))
      eval_good (Logical pos op x y) env U S a here p w simple bare free f sol =
          let t = at (child p 0) in
          let u = at (child p 1) in
          let is = items x S here (child p 0) t in
          let js = items y S here (child p 1) u in
          let es : of a (functions (bool_type ∷ bool_type ∷ []) bool_type) ≡ of a (functions (t ∷ u ∷ []) w) = up a (functions (bool_type ∷ bool_type ∷ []) bool_type) (functions (t ∷ u ∷ []) w) sol.0 in
          let et : bool_type ≡ of a t = ap first_part es in
          let eu : bool_type ≡ of a u = ap first_part (ap second_part es) in
          let ew : bool_type ≡ of a w = ap second_part (ap second_part es) in
          then_well (λ v. Has W v (of a t)) (λ v. Has W v (of a w)) (eval_with call x env) (λ v. left_decides op v (eval_with call y env))
          (eval_good x env U S a here (child p 0) t simple.0 bare (all_left (λ x. U x ≡ false) (used x) (used y) free) f (solves_left a is js sol.1)) (λ v has.
          let own : Has W v (of a w) = subst (λ g. Has W v g) (sym et ∙ ew) has in
          let right : Good (eval_with call y env) (of a w) = good_as (eval_with call y env) (of a u) (of a w) (sym eu ∙ ew)
          (eval_good y env U S a here (child p 1) u simple.1 bare (all_right (λ x. U x ≡ false) (used x) (used y) free) f (solves_right a is js sol.1)) in
          decided op v (eval_with call y env) (of a w) (subst (λ g. Has W v g) (sym et) has) own right)
      eval_good (Let gs e) env U S a here p w simple bare free f sol =
          let ds = definitions gs in
          let listed = list_definitions ds S (child p 0) in
          let last = Last W ds S (child p 0) a in
          let same : listed.scope ≡ last = listed_scope (Hs W ds S (child p 0) a) (T W ds S (child p 0) a) (child p 0) 0 in
          let ok : IsLet ds S (child p 0) a = record {
            known = fits_known W env U S a f;
            named = definitions_named gs S.known (fits_known W env U S a f) simple.2;
            apart = simple.0;
            stands = bare;
            solves = solves_right a (around_items (in_written_order ds) S.constants) (list_groups (Hs W ds S (child p 0) a) (T W ds S (child p 0) a) (child p 0) 0).items (solves_left a listed.items (items e listed.scope here (child p 1) w) sol);
          } in
          let body : Solves a.values (items e last here (child p 1) w) =
          subst (λ R. Solves a.values (items e R here (child p 1) w)) same (solves_right a listed.items (items e listed.scope here (child p 1) w) sol) in
          then_well (λ inner. Fits W inner U last a) (λ v. Has W v (of a w)) (bind_with call gs env) (λ inner. eval_with call e inner)
          (bind_good gs env ds U S a (child p 0) ok (λ d m. m) simple.2 simple.1 (all_left (λ x. U x ≡ false) (used_groups gs) (used e) free)
          (fits_start W ds S (child p 0) a refl ok.named env U f))
          (λ inner g. eval_good e inner U last a here (child p 1) w simple.3 bare (all_right (λ x. U x ≡ false) (used_groups gs) (used e) free) g body)
      eval_good (Case e bs) env U S a here p w simple bare free f sol =
          let t = at (child p 0) in
          let is = items e S here (child p 0) t in
          let js = branch_items bs S here (child p 1) 0 t w in
          then_well (λ v. Has W v (of a t)) (λ v. Has W v (of a w)) (eval_with call e env) (λ v. choose_with call bs v env)
          (eval_good e env U S a here (child p 0) t simple.0 bare (all_left (λ x. U x ≡ false) (used e) (used_branches bs) free) f (solves_left a is js sol)) (λ v has.
          let free_bs = all_right (λ x. U x ≡ false) (used e) (used_branches bs) free in
          let asked = solves_right a is js sol in
          elim simple.1 as (λ _. Good (choose_with call bs v env) (of a w)) [
            | inl all ↦ elim (choose_good bs v env U S a here (child p 1) 0 t w all.0 bare free_bs f asked has) as (λ _. Good (choose_with call bs v env) (of a w)) [
              | inl good ↦ good
              | inr passed ↦ absurd (steps.taken (branch_patterns bs) v (of a t) env (branches_typed W bs S a here (child p 1) 0 t w all.0 bare (fits_known W env U S a f) asked) all.1 has passed)
            ]
            | inr maps ↦ map_good bs v env U S a here (child p 1) t w maps bare free_bs f asked has
          ])
      eval_good (Located pos e) env U S a here p w simple bare free f sol = eval_good e env U S a pos p w simple bare free f sol

      bind_good : (gs : Groups) (env : Env) (ds : List Definition) (U : Ref → Bool) (S : Scope) (a : Frame) (p : Place) → IsLet ds S p a → ((d : Definition) → Among d (definitions gs) → Among d ds)
          → SimpleGroups W gs → UseEarlier gs → Without U (used_groups gs) → Fits W env (later gs U) (Last W ds S p a) a
          → EndsWell (λ inner. Fits W inner U (Last W ds S p a) a) (bind_with call gs env)
      bind_good NoGroup env ds U S a p ok inside simple earlier free f = f
      bind_good (MoreGroup g gs) env ds U S a p ok inside simple earlier free f =
          let last = Last W ds S p a in
          then_well (λ inner. Fits W inner (later gs U) last a) (λ inner. Fits W inner U last a) (group_with call g env) (λ inner. bind_with call gs inner)
          (group_good g gs env ds U S a p ok inside simple.0 earlier (all_left (λ x. U x ≡ false) (used_group g) (used_groups gs) free) f)
          (λ inner h. bind_good gs inner ds U S a p ok (λ d m. inside d (among_append d (group_definitions g) (definitions gs) m)) simple.1 (rest_earlier g gs earlier)
          (all_right (λ x. U x ≡ false) (used_group g) (used_groups gs) free) h)

      group_good : (g : Group) (gs : Groups) (env : Env) (ds : List Definition) (U : Ref → Bool) (S : Scope) (a : Frame) (p : Place) → IsLet ds S p a
          → ((d : Definition) → Among d (definitions (MoreGroup g gs)) → Among d ds) → SimpleGroup W g → UseEarlier (MoreGroup g gs) → Without U (used_group g)
          → Fits W env (later (MoreGroup g gs) U) (Last W ds S p a) a → EndsWell (λ inner. Fits W inner (later gs U) (Last W ds S p a) a) (group_with call g env)
      group_good (Together fs) gs env ds U S a p ok inside simple earlier free f =
          let last = Last W ds S p a in
          let V = later gs U in
          functions_fit W ds S p a refl ok.named ok.apart ok.stands ok.solves V fs env (λ d m. inside d (among_front d (function_definitions fs) (definitions gs) m)) simple
          (without_or (defines (definitions gs)) U (used_functions fs) earlier.0 free)
          (fits_shown W env (later (MoreGroup (Together fs) gs) U) (hides fs V) last a (λ y n.
          let o = hides_not fs V y n in
          let m = not_or (defines (definitions gs) y) (U y) o.1 in
          or_not (defines (definitions (MoreGroup (Together fs) gs)) y) (U y) (defines_append (function_definitions fs) (definitions gs) y o.0 m.0) m.1) (agree_refl last a) f)
      group_good (Constant title e) gs env ds U S a p ok inside simple earlier free f =
          let last = Last W ds S p a in
          let V = later (MoreGroup (Constant title e) gs) U in
          let stages = let_stages W ds S p a V in
          let list : Scope → Place → Wanted → List Item = λ scope q v. function_items NoPattern (items e) scope title.place q v in
          let d = titled title (used e) list in
          let free_v : Without V (used e) = without_or (defines (definitions (MoreGroup (Constant title e) gs))) U (used e) earlier.0 free in
          let typed : (k : ℕ) (q : Place) (g : Frame) → AtStage stages k q g → Among d (group_at (Hs W ds S p a) k) → (place : Place) (v : Wanted)
          → Solves g.values (list (stages.scopes k q) place v) → Good (eval_with call e env) (of g v) =
          λ k q g st m place v solved. good_as (eval_with call e env) (of g (at (child place 1))) (of g v) (up g (at (child place 1)) v solved.0)
          (eval_good e env (stages.hidden k) (stages.scopes k q) g title.place (child place 1) (at (child place 1)) simple st.stands
          (stage_free W ds S p a refl ok.named ok.apart ok.stands ok.solves V k d m free_v)
          (stage_fits W ds S p a refl ok.named ok.apart ok.stands ok.solves V env k q g st f) solved.1) in
          let c = covered W ds S p a refl ok.named ok.apart ok.stands ok.solves V d (inside d (inl refl)) in
          then_each (λ v. Has W v (of a c.type)) (λ inner. Fits W inner (later gs U) last a) (eval_with call e env) (λ v. Val (Bind title.name v env))
          (typed c.stage c.at_place a c.at_stage c.member c.place c.type c.solves) (λ v is. (
            λ n entry found. serve W ds S p a refl ok.named ok.apart ok.stands ok.solves V d title.name (λ t. Has W v t) (inside d (inl refl)) (title_own W ds S p a refl ok.named ok.apart ok.stands ok.solves V title)
                (title_noted W ds S p a refl ok.named ok.apart ok.stands ok.solves V title (used e) list) (λ k q g st m place u solved t named_t.
                subst (λ x. Has W v (of g x)) (one_type_of W ds S p a refl ok.named ok.apart ok.stands ok.solves V title.name u t named_t)
                (subst (λ o. Good o (of g u)) is (typed k q g st m place u solved))) entry found,
            fits_shown W env V (or_named title.name (later gs U)) last a (λ y n.
                let o = not_or (same_ref y title.name) (later gs U y) n in
                let m = not_or (defines (definitions gs) y) (U y) o.1 in
                or_not (defines (definitions (MoreGroup (Constant title e) gs)) y) (U y) (or_not (among y (title.name ∷ [])) (defines (definitions gs) y) (among_one title.name y o.0) m.0) m.1) (agree_refl last a) f,
          ))
      group_good (Destructure q e) gs env ds U S a p ok inside simple earlier free f =
          let last = Last W ds S p a in
          let V = later (MoreGroup (Destructure q e) gs) U in
          let stages = let_stages W ds S p a V in
          let start = pattern_start nowhere q in
          let d = destructured q e in
          let free_v : Without V (used e) = without_or (defines (definitions (MoreGroup (Destructure q e) gs))) U (used e) earlier.0 free in
          let typed : (k : ℕ) (r : Place) (g : Frame) → AtStage stages k r g → Among d (group_at (Hs W ds S p a) k) → (place : Place) (v : Wanted)
          → Solves g.values (d.list (stages.scopes k r) place v) → Good (eval_with call e env) (of g v) =
          λ k r g st m place v solved. eval_good e env (stages.hidden k) (stages.scopes k r) g start (child place 1) v simple.1 st.stands
          (stage_free W ds S p a refl ok.named ok.apart ok.stands ok.solves V k d m free_v)
          (stage_fits W ds S p a refl ok.named ok.apart ok.stands ok.solves V env k r g st f)
          (solves_right g (pattern_items q (stages.scopes k r).known start (child place 0) v) (items e (stages.scopes k r) start (child place 1) v) solved) in
          let c = covered W ds S p a refl ok.named ok.apart ok.stands ok.solves V d (inside d (inl refl)) in
          then_each (λ v. Has W v (of a c.type)) (λ inner. Fits W inner (later gs U) last a) (eval_with call e env) (λ v. on_match (matches q v env) (λ inner. Val inner) Stuck)
          (typed c.stage c.at_place a c.at_stage c.member c.place c.type c.solves)
          (λ v is. destructure_good q e gs env ds U S a p ok inside simple.0 f v (λ k r g st m place u solved. subst (λ o. Good o (of g u)) is (typed k r g st m place u solved)))

      each_good : (es : Exprs) (env : Env) (U : Ref → Bool) (S : Scope) (a : Frame) (here : Pos) (p : Place) (i : ℕ) (ts : List Wanted) → SimpleEach W es → Stands a → Without U (used_each es) → Fits W env U S a
          → Solves a.values (each_items es S here p i ts) → EndsWell (λ vs. HasEach W vs (map (of a) ts)) (evals_with call es env)
      each_good NoExpr env U S a here p i [] simple bare free f sol = tt
      each_good NoExpr env U S a here p i (t ∷ ts) simple bare free f sol = no_nonsense a here sol
      each_good (MoreExpr e es) env U S a here p i [] simple bare free f sol = no_nonsense a here sol
      each_good (MoreExpr e es) env U S a here p i (t ∷ ts) simple bare free f sol =
          let is = items e S here (child p i) t in
          let js = each_items es S here p (i + 1) ts in
          then_well (λ v. Has W v (of a t)) (λ vs. HasEach W vs (map (of a) (t ∷ ts))) (eval_with call e env) (λ v. then_do (evals_with call es env) (λ vs. Val (MoreValue v vs)))
          (eval_good e env U S a here (child p i) t simple.0 bare (all_left (λ x. U x ≡ false) (used e) (used_each es) free) f (solves_left a is js sol)) (λ v has.
          then_well (λ vs. HasEach W vs (map (of a) ts)) (λ vs. HasEach W vs (map (of a) (t ∷ ts))) (evals_with call es env) (λ vs. Val (MoreValue v vs))
          (each_good es env U S a here p (i + 1) ts simple.1 bare (all_right (λ x. U x ≡ false) (used e) (used_each es) free) f (solves_right a is js sol)) (λ vs all. (has, all)))

      apply_good : (es : Exprs) (v : Value) (env : Env) (U : Ref → Bool) (S : Scope) (a : Frame) (here : Pos) (p : Place) (i : ℕ) (ts : List Wanted) (w : Wanted) → SimpleEach W es → Stands a → Without U (used_each es) → Fits W env U S a
          → Solves a.values (each_items es S here p i ts) → Has W v (functions (map (of a) ts) (of a w)) → Good (apply_with call es v env) (of a w)
      apply_good NoExpr v env U S a here p i [] w simple bare free f sol has = has
      apply_good NoExpr v env U S a here p i (t ∷ ts) w simple bare free f sol has = no_nonsense a here sol
      apply_good (MoreExpr e es) v env U S a here p i [] w simple bare free f sol has = no_nonsense a here sol
      apply_good (MoreExpr e es) v env U S a here p i (t ∷ ts) w simple bare free f sol has =
          let is = items e S here (child p i) t in
          let js = each_items es S here p (i + 1) ts in
          then_well (λ x. Has W x (of a t)) (λ x. Has W x (of a w)) (eval_with call e env) (λ x. then_do (call v x) (λ u. apply_with call es u env))
          (eval_good e env U S a here (child p i) t simple.0 bare (all_left (λ x. U x ≡ false) (used e) (used_each es) free) f (solves_left a is js sol)) (λ x arg.
          then_well (λ u. Has W u (functions (map (of a) ts) (of a w))) (λ u. Has W u (of a w)) (call v x) (λ u. apply_with call es u env) (calls v x (of a t) (functions (map (of a) ts) (of a w)) has arg)
          (λ u rest. apply_good es u env U S a here p (i + 1) ts w simple.1 bare (all_right (λ x. U x ≡ false) (used e) (used_each es) free) f (solves_right a is js sol) rest))

      strict_good : (es : Exprs) (op : Op) (env : Env) (U : Ref → Bool) (S : Scope) (a : Frame) (here : Pos) (p : Place) (w : Wanted) → IsOperation W op (count_exprs es) → SimpleEach W es → Stands a → Without U (used_each es) → Fits W env U S a
          → Solves a.values (part_items es (plan op (count_exprs es) S here p w) S here (child p 0)) → Good (then_do (evals_with call es env) (λ vs. perform op vs)) (of a w)
      strict_good NoExpr op env U S a here p w proper simple bare free f sol = steps.performs_none op S here p w a (fits_known W env U S a f) proper bare sol
      strict_good (MoreExpr e es) op env U S a here p w proper simple bare free f sol =
          let l = plan op (suc (count_exprs es)) S here p w in
          let is = items e S here (child (child p 0) 0) l.first in
          let js = each_items es S here (child p 0) 1 l.rest in
          let r1 = solves_right a l.before (is ++ (l.between ++ (js ++ l.after))) sol in
          let r2 = solves_right a is (l.between ++ (js ++ l.after)) r1 in
          let r3 = solves_right a l.between (js ++ l.after) r2 in
          let parts : EndsWell (λ vs. HasEach W vs (of a l.first ∷ map (of a) l.rest)) (evals_with call (MoreExpr e es) env) =
          then_well (λ v. Has W v (of a l.first)) (λ vs. HasEach W vs (of a l.first ∷ map (of a) l.rest)) (eval_with call e env) (λ v. then_do (evals_with call es env) (λ vs. Val (MoreValue v vs)))
          (eval_good e env U S a here (child (child p 0) 0) l.first simple.0 bare (all_left (λ x. U x ≡ false) (used e) (used_each es) free) f (solves_left a is (l.between ++ (js ++ l.after)) r1)) (λ v has.
          then_well (λ vs. HasEach W vs (map (of a) l.rest)) (λ vs. HasEach W vs (of a l.first ∷ map (of a) l.rest)) (evals_with call es env) (λ vs. Val (MoreValue v vs))
          (each_good es env U S a here (child p 0) 1 l.rest simple.1 bare (all_right (λ x. U x ≡ false) (used e) (used_each es) free) f (solves_left a js l.after r3)) (λ vs all. (has, all))) in
          then_well (λ vs. HasEach W vs (of a l.first ∷ map (of a) l.rest)) (λ v. Has W v (of a w)) (evals_with call (MoreExpr e es) env) (λ vs. perform op vs) parts
          (λ vs all. steps.performs op (count_exprs es) S here p w a vs (fits_known W env U S a f) proper bare
          (record { before = solves_left a l.before (is ++ (l.between ++ (js ++ l.after))) sol; between = solves_left a l.between (js ++ l.after) r2; after = solves_right a js l.after r3 }) all)

      map_good : (bs : Branches) (v : Value) (env : Env) (U : Ref → Bool) (S : Scope) (a : Frame) (here : Pos) (p : Place) (t w : Wanted) → SimpleMap W bs → Stands a
          → Without U (used_branches bs) → Fits W env U S a → Solves a.values (branch_items bs S here p 0 t w) → Has W v (of a t) → Good (choose_with call bs v env) (of a w)
      map_good NoBranch v env U S a here p t w maps bare free f sol has = absurd maps
      map_good (MoreBranch q e NoBranch) v env U S a here p t w maps bare free f sol has = absurd maps
      map_good (MoreBranch q e (MoreBranch r b NoBranch)) v env U S a here p t w maps bare free f sol has =
          let inner = bind_pattern r (child (child p 1) 0) t S in
          let is = pattern_items q S.known here (child (child p 0) 0) t in
          let js = items e (bind_pattern q (child (child p 0) 0) t S) here (child (child p 0) 1) w in
          let ks = pattern_items r S.known here (child (child p 1) 0) t in
          let ls = items b inner here (child (child p 1) 1) w in
          let rest = solves_right a ks (ls ++ []) (solves_right a js (ks ++ (ls ++ [])) (solves_right a is (js ++ (ks ++ (ls ++ []))) sol)) in
          let free_b : Without U (used b) = all_left (λ x. U x ≡ false) (used b) [] (all_right (λ x. U x ≡ false) (used e) (used b ++ []) free) in
          mapped_good W steps call q e r b env U S a bare (all_left (λ x. U x ≡ false) (used e) (used b ++ []) free) f here p t w sol maps.0 v has
          (λ env2 g. eval_good b env2 U inner a here (child (child p 1) 1) w maps.1 bare free_b g (solves_left a ls [] rest))
      map_good (MoreBranch q e (MoreBranch r b (MoreBranch s c bs))) v env U S a here p t w maps bare free f sol has = absurd maps

      choose_good : (bs : Branches) (v : Value) (env : Env) (U : Ref → Bool) (S : Scope) (a : Frame) (here : Pos) (p : Place) (i : ℕ) (t w : Wanted) → SimpleBranches W bs → Stands a → Without U (used_branches bs) → Fits W env U S a
          → Solves a.values (branch_items bs S here p i t w) → Has W v (of a t) → Good (choose_with call bs v env) (of a w) ⊎ PassOver bs v env
      choose_good NoBranch v env U S a here p i t w simple bare free f sol has = inr tt
      choose_good (MoreBranch q e bs) v env U S a here p i t w simple bare free f sol has =
          let place = child p i in
          let inner = bind_pattern q (child place 0) t S in
          let is = pattern_items q S.known here (child place 0) t in
          let js = items e inner here (child place 1) w in
          let ks = branch_items bs S here p (i + 1) t w in
          let rest = solves_right a is (js ++ ks) sol in
          branch_good q v env (matches q v env) (λ env2. eval_with call e env2) (choose_with call bs v env) bs U inner a (of a w) refl
          (match_good W steps U a bare q simple.0 v env S here (child place 0) t (solves_left a is (js ++ ks) sol) has f)
          (λ env2 g. eval_good e env2 U inner a here (child place 1) w simple.1 bare (all_left (λ x. U x ≡ false) (used e) (used_branches bs) free) g (solves_left a js ks rest))
          (choose_good bs v env U S a here p (i + 1) t w simple.2 bare (all_right (λ x. U x ≡ false) (used e) (used_branches bs) free) f (solves_right a js ks rest) has)

    -- ---- the declarations of a module

    declare_good : (ds : List Declaration) (env : Env) (es : List Definition) (U : Ref → Bool) (S : Scope) (a : Frame) (p : Place) → AllServed S.known → IsLet es S p a → S.names ≡ []
        → ((d : Definition) → Among d (definitions (groups_in ds)) → Among d es) → AreTyped W S.known ds → UseGivenBefore ds → UseEarlier (groups_in ds) → Without (defines es) (given_in ds)
        → SimpleGroups W (groups_in ds) → Without U (used_groups (groups_in ds)) → Fits W env (unbound ds U) (Last W es S p a) a
        → EndsWell (λ inner. Fits W inner U (Last W es S p a) a) (declare_with call ds env)
    declare_good [] env es U S a p served ok empty inside makers before earlier others simple free f = f
    declare_good (Given x k ∷ ds) env es U S a p served ok empty inside makers before earlier others simple free f =
        let last = Last W es S p a in
        let g = served x k makers.0 in
        then_well (Instances W g.scheme) (λ inner. Fits W inner U last a) (known (functions.Given k) NoValue) (λ v. declare_with call ds (Bind x v env)) g.ends (λ v serves.
        declare_good ds (Bind x v env) es U S a p served ok empty inside makers.1 before earlier others.1 simple free (
          λ n entry found.
              let e : Instance g.scheme ≡ entry =
              (let z : Some (Instance g.scheme) ≡ Some entry = sym (same_before W es S p a refl ok.named x others.0 ∙ given_entry x k S g empty) ∙ found in cc) in
              subst (λ o. Serves (λ t. Has W v t) o last a) e (serves last a),
          fits_shown W env (unbound (Given x k ∷ ds) U) (or_named x (unbound ds U)) last a (λ y n.
              let o = not_or (same_ref y x) (unbound ds U y) n in
              let m = not_or (defines (definitions (groups_in ds)) y) (among y (given_in ds) || U y) o.1 in
              let l = not_or (among y (given_in ds)) (U y) m.1 in
              or_not (defines (definitions (groups_in ds)) y) (among y (x ∷ given_in ds) || U y) m.0
              (or_not (among y (x ∷ given_in ds)) (U y) (ap (λ b. if b then true else among y (given_in ds)) o.0 ∙ l.0) l.1)) (agree_refl last a) f,
        ))
    declare_good (Define g ∷ ds) env es U S a p served ok empty inside makers before earlier others simple free f =
        let last = Last W es S p a in
        then_well (λ inner. Fits W inner (unbound ds U) last a) (λ inner. Fits W inner U last a) (group_with call g env) (λ inner. declare_with call ds inner)
        (group_good g (groups_in ds) env es (λ y. among y (given_in ds) || U y) S a p ok inside simple.0 earlier
        (without_or (λ y. among y (given_in ds)) U (used_group g) before.0 (all_left (λ x. U x ≡ false) (used_group g) (used_groups (groups_in ds)) free)) f)
        (λ inner h. declare_good ds inner es U S a p served ok empty (λ d m. inside d (among_append d (group_definitions g) (definitions (groups_in ds)) m)) makers before.1
        (rest_earlier g (groups_in ds) earlier) others simple.1 (all_right (λ x. U x ≡ false) (used_group g) (used_groups (groups_in ds)) free) h)

  -- ---- calls

  taken_good : (q : Pattern) (v : Value) (env : Env) (o : End (Option Env)) (go : Env → End Value) (U : Ref → Bool) (inner : Scope) (a : Frame) (g : Ground) → matches q v env ≡ o → (matches q v env ≡ Val None → ⊥)
      → EndsWell (IfMatched (λ env2. Fits W env2 U inner a)) o → ((env2 : Env) → Fits W env2 U inner a → Good (go env2) g) → Good (on_match o go Stuck) g
  taken_good q v env (Val (Some env2)) go U inner a g is takes fits h = h env2 fits
  taken_good q v env (Val None) go U inner a g is takes fits h = absurd (takes is)
  taken_good q v env (Crashed t) go U inner a g is takes fits h = tt
  taken_good q v env OutOfFuel go U inner a g is takes fits h = tt
  taken_good q v env Unsafe go U inner a g is takes fits h = tt
  taken_good q v env Stuck go U inner a g is takes fits h = absurd fits

  -- what is done with the bodies of functions keeps types
  abbrev BodyOk : (Expr → Env → End Value) → Type 0
  BodyOk does =
      (e : Expr) (env : Env) (U : Ref → Bool) (S : Scope) (a : Frame) (here : Pos) (p : Place) (w : Wanted) → Simple W e → Stands a → Without U (used e) → Fits W env U S a
      → Solves a.values (items e S here p w) → Good (does e env) (of a w)

  -- a function with its next parameter, whose types are these
  closure_good : (does : Expr → Env → End Value) → BodyOk does → (env : Env) (q : Pattern) (qs : Patterns) (e : Expr) (v : Value) (g h : Ground) (U : Ref → Bool) (S : Scope) (a : Frame) (here : Pos) (q0 : Place) (i : ℕ) (ts : List Wanted) (p : Place) (r : Wanted)
      → Stands a → Fits W env U S a → Solves a.values (patterns_items (MorePattern q qs) S.known here q0 i ts) → Solves a.values (items e (bind_from (MorePattern q qs) q0 i ts S) here p r)
      → functions (map (of a) ts) (of a r) ≡ function g h → IsChecked W U (MorePattern q qs) e → Has W v g → Good (enter does (CloV env (MorePattern q qs) e) v) h
  closure_good does ok env q qs e v g h U S a here q0 i [] p r bare f sol body is checked arg = no_nonsense a here sol
  closure_good does ok env q NoPattern e v g h U S a here q0 i (t ∷ []) p r bare f sol body is checked arg =
      let head_items = pattern_items q S.known here (child q0 i) t in
      let arg_t : Has W v (of a t) = subst (λ x. Has W v x) (sym (ap first_part is)) arg in
      let r_h : of a r ≡ h = ap second_part is in
      taken_good q v env (matches q v env) (λ inner. does e inner) U (bind_pattern q (child q0 i) t S) a h refl (taken_here q v env S a here (child q0 i) t checked.checked.0.proper.0 checked.checked.0.takes.0 bare (fits_known W env U S a f) (solves_left a head_items [] sol) arg_t)
      (match_good W steps U a bare q checked.checked.0.proper.0 v env S here (child q0 i) t (solves_left a head_items [] sol) arg_t f)
      (λ env2 fits. good_as (does e env2) (of a r) h r_h
      (ok e env2 U (bind_pattern q (child q0 i) t S) a here p r checked.checked.1 bare checked.free fits body))
  closure_good does ok env q NoPattern e v g h U S a here q0 i (t ∷ (u ∷ ts)) p r bare f sol body is checked arg =
      no_nonsense a here (solves_right a (pattern_items q S.known here (child q0 i) t) _ sol)
  closure_good does ok env q (MorePattern q2 qs) e v g h U S a here q0 i (t ∷ ts) p r bare f sol body is checked arg =
      let head_items = pattern_items q S.known here (child q0 i) t in
      let rest = patterns_items (MorePattern q2 qs) S.known here q0 (i + 1) ts in
      let arg_t : Has W v (of a t) = subst (λ x. Has W v x) (sym (ap first_part is)) arg in
      let inner = bind_pattern q (child q0 i) t S in
      taken_good q v env (matches q v env) (λ env2. Val (CloV env2 (MorePattern q2 qs) e)) U inner a h refl (taken_here q v env S a here (child q0 i) t checked.checked.0.proper.0 checked.checked.0.takes.0 bare (fits_known W env U S a f) (solves_left a head_items rest sol) arg_t)
      (match_good W steps U a bare q checked.checked.0.proper.0 v env S here (child q0 i) t (solves_left a head_items rest sol) arg_t f)
      (λ env2 fits. record {
        hidden = U;
        scope = inner;
        frame = a;
        here = here;
        patterns_at = q0;
        first = i + 1;
        parameters = ts;
        body_at = p;
        result = r;
        stands = bare;
        fits = fits;
        patterns = solves_right a head_items rest sol;
        body = body;
        is = ap second_part is;
        some = refl;
        is_checked = record {
          checked = (record { takes = checked.checked.0.takes.1; proper = checked.checked.0.proper.1 }, checked.checked.1);
          free = checked.free;
        };
      })

  enter_good : (does : Expr → Env → End Value) → BodyOk does → CallOk (λ f v. enter does f v)
  enter_good does ok (IntV n) v a b has arg = not_both false has refl
  enter_good does ok (TextV us) v a b has arg = elim has as (λ _. Good Stuck b) [ inl e ↦ absurd (cc) | inr e ↦ absurd (cc) ]
  enter_good does ok (TagV tag vs) v a b has arg = absurd (steps.no_function tag vs has.0 a b has.1)
  enter_good does ok (RecordV fs) v a b has arg = absurd (let e : Record has.0 Closed ≡ function a b = has.1 in cc)
  enter_good does ok (WireV w) v a b has arg = absurd (let e : sent_type has.port ≡ function a b = has.is in cc)
  enter_good does ok (KnownV k vs) v a b has arg = steps.knows k vs has.0 v a b has.2 has.1 arg
  enter_good does ok (CloV env NoPattern e) v a b has arg = not_both false has.some refl
  enter_good does ok (CloV env (MorePattern q qs) e) v a b has arg =
      closure_good does ok env q qs e v a b has.hidden has.scope has.frame has.here has.patterns_at has.first has.parameters has.body_at has.result has.stands has.fits has.patterns has.body has.is has.is_checked arg

  pub call_good : (n : ℕ) → CallOk (call_at n)
  call_good zero f v a b has arg = enter_good (λ e inner. OutOfFuel) (λ e env U S g here p w simple stands free fits sol. tt) f v a b has arg
  call_good (suc n) f v a b has arg =
      enter_good (λ e inner. eval_with (call_at n) e inner) (λ e env U S g here p w simple stands free fits sol.
      eval_good (call_at n) (call_good n) e env U S g here p w simple stands free fits sol) f v a b has arg

  pub expression_good : (n : ℕ) (e : Expr) (env : Env) (U : Ref → Bool) (S : Scope) (a : Frame) (here : Pos) (p : Place) (w : Wanted) → Simple W e → Stands a → Without U (used e) → Fits W env U S a
      → Solves a.values (items e S here p w) → Good (eval_with (call_at n) e env) (of a w)
  expression_good n = eval_good (call_at n) (call_good n)

  -- ---- whole modules

  -- Those declarations of a module that are there. What was bound before them fits the scope after the module, where
  -- what they bind is hidden.
  pub part_from : (n : ℕ) (m : Module) (ds : List Declaration) (known : Known) (env : Env) (U : Ref → Bool) (a : Frame) (p : Place) → AllServed (known_in m known)
      → AllNamed (known_in m known) (module_definitions m) → AreApart (module_definitions m)
      → ((d : Definition) → Among d (definitions (groups_in ds)) → Among d (module_definitions m))
      → AreTyped W (known_in m known) ds → UseGivenBefore ds → UseEarlier (groups_in ds) → Without (defines (module_definitions m)) (given_in ds) → SimpleGroups W (groups_in ds)
      → Without U (used_groups (groups_in ds)) → Stands a → KnownIn W (known_in m known) → Fits W env (unbound ds U) (scope_after m known p) a → Solves a.values (module_items m known p)
      → EndsWell (λ inner. Fits W inner U (scope_after m known p) a) (declare_with (call_at n) ds env)
  part_from n m ds known env U a p served named apart inside given before earlier others simple free stands is_known f sol =
      let S = module_scope m known in
      let es = module_definitions m in
      let ok : IsLet es S p a = record { known = is_known; named = named; apart = apart; stands = stands; solves = solves_right a (around_items (in_written_order es) S.constants) (list_groups (Hs W es S p a) (T W es S p a) p 0).items sol } in
      let same = listed_scope (Hs W es S p a) (T W es S p a) p 0 in
      subst (λ R. EndsWell (λ inner. Fits W inner U R a) (declare_with (call_at n) ds env)) (sym same)
      (declare_good (call_at n) (call_good n) ds env es U S a p served ok refl inside given before earlier others simple free
      (subst (λ R. Fits W env (unbound ds U) R a) same f))

  -- Those that are there, where what else the module defines is hidden.
  pub part_good : (n : ℕ) (m : Module) (ds : List Declaration) (known : Known) (env : Env) (U : Ref → Bool) (a : Frame) (p : Place) → AllServed (known_in m known)
      → AllNamed (known_in m known) (module_definitions m) → AreApart (module_definitions m)
      → ((d : Definition) → Among d (definitions (groups_in ds)) → Among d (module_definitions m))
      → ((y : Ref) → U y ≡ false → defines (definitions (groups_in ds)) y ≡ false → defines (module_definitions m) y ≡ false)
      → AreTyped W (known_in m known) ds → UseGivenBefore ds → UseEarlier (groups_in ds) → Without (defines (module_definitions m)) (given_in ds) → SimpleGroups W (groups_in ds)
      → Without U (used_groups (groups_in ds)) → Stands a → Fits W env (before_own m ds U) (module_scope m known) a → Solves a.values (module_items m known p)
      → EndsWell (λ inner. Fits W inner U (scope_after m known p) a) (declare_with (call_at n) ds env)
  part_good n m ds known env U a p served named apart inside covers given before earlier others simple free stands f sol =
      let S = module_scope m known in
      let es = module_definitions m in
      let start = before_own m ds U in
      let last = Last W es S p a in
      part_from n m ds known env U a p served named apart inside given before earlier others simple free stands (fits_known W env start S a f)
      (subst (λ R. Fits W env (unbound ds U) R a) (sym (listed_scope (Hs W es S p a) (T W es S p a) p 0))
      (fits_shown W env (λ y. defines es y || start y) (unbound ds U) last a (λ y o.
      let k = not_or (defines (definitions (groups_in ds)) y) (among y (given_in ds) || U y) o in
      let shown = (not_or (among y (given_in ds)) (U y) k.1).1 in
      let none = covers y shown k.0 in
      or_not (defines es y) (start y) none (or_not (defines es y) (among y (given_in ds) || U y) none k.1)) (agree_refl last a) (fits_start W es S p a refl named env start f))) sol

  pub module_good : (n : ℕ) (m : Module) (known : Known) (env : Env) (U : Ref → Bool) (a : Frame) (p : Place) → AllServed (known_in m known) → IsPlain W (known_in m known) m
      → Without U (used_groups (groups_in m.declarations)) → Stands a → Fits W env (before_own m m.declarations U) (module_scope m known) a → Solves a.values (module_items m known p)
      → EndsWell (λ inner. Fits W inner U (scope_after m known p) a) (declare_with (call_at n) m.declarations env)
  module_good n m known env U a p served plain free stands f sol =
      let ds = m.declarations in
      let e = declared_definitions ds in
      part_good n m ds known env U a p served
      (subst (AllNamed (known_in m known)) (sym e) (definitions_named (groups_in ds) (known_in m known) (fits_known W env (before_own m ds U) (module_scope m known) a f) plain.simple))
      (subst AreApart (sym e) plain.apart) (λ d k. subst (Among d) (sym e) k) (λ y _ n. ap (λ es. defines es y) e ∙ n) plain.given plain.before plain.earlier
      (subst (λ es. Without (defines es) (given_in ds)) (sym e) plain.others) plain.simple free stands f sol
