-- The branches of a `map` of commands or of subscriptions: what a port made is built again, of the type that is wanted.
use Rattle.std.proofs.Common.{◌≡◌, pos, ◌⊎◌, List, [], ◌∷◌, ◌++◌, map, Bool, true, false, Option, Some, None, inl, inr, refl, sym, ap, ◌∙◌, subst}
use Rattle.std.specs.Prelude.{◌||◌, ◌&&◌, ◌==◌, not, if◌then◌else◌, option_map, codes}
use Rattle.elm_base.specs.declared.position.Pos.{Pos}
use Rattle.runs.specs.Ends.{End, Val, Stuck, then_do}
use Rattle.elm_canon.specs.Names.{Name, same_name, same_ref}
use Rattle.elm_canon.specs.declared.reference.Ref.{Ref}
use Rattle.elm_canon.specs.declared.reference.Ref.TheVariants.{Local}
use Rattle.elm_canon.specs.declared.unions.Tag.TheVariants.{Number}
use Rattle.elm_canon.specs.Unions.{Declared}
use Rattle.elm_canon.specs.Tree.{Pattern, Anything, Named, As, Exactly, Construct, FieldsOf, LocatedPattern, NoPattern, MorePattern, Build}
use Rattle.elm_canon.specs.Tree.{Expr, Is, NameOf, Accessor, Lambda, Apply, Strict, If, Logical, Let, Case, Located, NoExpr, MoreExpr}
use Rattle.elm_canon.specs.Tree.{NoBranch, MoreBranch, Functions, NoFunction, MoreFunction}
use Rattle.elm_canon.specs.Proper.{among}
use Rattle.elm_meaning.specs.Seen.{same_tag}
use Rattle.elm_meaning.specs.Values.{Value, TextV, TagV, CloV, Values, NoValue, MoreValue, count_of, Env, Nil, Bind, BindGroup}
use Rattle.elm_meaning.specs.Envs.{lookup}
use Rattle.elm_meaning.specs.Match.{matches, matches_all, is_of, is_of_one, and_match, on_match}
use Rattle.elm_meaning.specs.Operate.{build}
use Rattle.elm_meaning.specs.Eval.{Call, eval_with, choose_with}
use Rattle.elm_type.specs.Types.{Rigid, variable, function, functions, named, string_type}
use Rattle.elm_type.specs.Classes.{Ground, meets}
use Rattle.elm_type.specs.declared.class.Class.{Class}
use Rattle.elm_type.specs.declared.class.Class.TheVariants.{Any, Number as NumberClass, Comparable, Appendable, CompAppend}
use Rattle.elm_type.specs.Ground.{lacks_all}
use Rattle.type_items.specs.Items.{Item, Place, child, Wanted, at, Same}
use Rattle.type_items.specs.Scopes.{Entry, Mono, Entries, Scope, entry_of, elsewhere, use_items}
use Rattle.type_items.specs.Patterns.{shape, shape_items, pattern_items, patterns_items, pattern_names, patterns_names, bind_pattern, bind_patterns}
use Rattle.type_items.specs.Uses.{used}
use Rattle.type_items.specs.Expressions.{items, branch_items}
use Rattle.type_items.specs.Solutions.{Solves}
use Rattle.pattern_check.specs.Shapes.{Open, shape_of, written}
use Rattle.pattern_check.specs.Missing.{missing_shape}
use Rattle.elm_canon.specs.Maps.{bare, bare_pattern, Rebuilds, IsSame, IsAfter}
use Rattle.typed_values.specs.Payloads.{payload_type, sub_type}
use Rattle.typed_values.specs.Frames.{Frame, of, Stands, Serves}
use Rattle.typed_values.specs.World.{World, is_ported, Sends, Listens}
use Rattle.typed_values.specs.Simple.{Without, Takes, IsPattern, Simple, RebuildsIn, MapsPorts}
use Rattle.typed_values.specs.Typed.{EndsWell, or_named, bind_from, Stages, Lists, Members, hides, Has, HasEach, Fits}
use Rattle.typed_values.specs.Steps.{Carries, StepsKeepTypes}
use Rattle.typed_values.proofs.Names.{yes_or_no, not_both, not_or, or_not, ref_itself, same_refs, found, skip, first, all_left, all_right, solves_left, solves_right}
use Rattle.typed_values.proofs.Rows.{extend_none}
use Rattle.typed_values.proofs.Keeping.{meets_any}
use Rattle.typed_values.proofs.SampleFrame.{lacks_own}
use Rattle.typed_values.proofs.Envs.{of_functions, fits_bind, fits_known}
use Rattle.typed_values.proofs.Uses.{use_good}
use Rattle.typed_values.proofs.Patterns.{up, no_nonsense}
use Rattle.typed_values.proofs.Sent.{unlike}

-- ---- what stands there, wherever it begins

-- what holds of it holds of it at a place
under : (P : Expr → Type 0) → ((place : Pos) (e : Expr) → P e → P (Located place e)) → (e : Expr) → P (bare e) → P e
under P step (Located place e) h = step place e (under P step e h)
under P step (Is l) h = h
under P step (NameOf x) h = h
under P step (Accessor x) h = h
under P step (Lambda qs e) h = h
under P step (Apply f es) h = h
under P step (Strict op es) h = h
under P step (If c a b) h = h
under P step (Logical place op a b) h = h
under P step (Let gs e) h = h
under P step (Case e bs) h = h

within : (P : Expr → Type 0) → ((place : Pos) (e : Expr) → P (Located place e) → P e) → (e : Expr) → P e → P (bare e)
within P step (Located place e) h = within P step e (step place e h)
within P step (Is l) h = h
within P step (NameOf x) h = h
within P step (Accessor x) h = h
within P step (Lambda qs e) h = h
within P step (Apply f es) h = h
within P step (Strict op es) h = h
within P step (If c a b) h = h
within P step (Logical place op a b) h = h
within P step (Let gs e) h = h
within P step (Case e bs) h = h

under_pattern : (P : Pattern → Type 0) → ((place : Pos) (q : Pattern) → P q → P (LocatedPattern place q)) → (q : Pattern) → P (bare_pattern q) → P q
under_pattern P step (LocatedPattern place q) h = step place q (under_pattern P step q h)
under_pattern P step Anything h = h
under_pattern P step (Named x) h = h
under_pattern P step (As q x) h = h
under_pattern P step (Exactly l) h = h
under_pattern P step (Construct u alt qs) h = h
under_pattern P step (FieldsOf xs) h = h

within_pattern : (P : Pattern → Type 0) → ((place : Pos) (q : Pattern) → P (LocatedPattern place q) → P q) → (q : Pattern) → P q → P (bare_pattern q)
within_pattern P step (LocatedPattern place q) h = within_pattern P step q (step place q h)
within_pattern P step Anything h = h
within_pattern P step (Named x) h = h
within_pattern P step (As q x) h = h
within_pattern P step (Exactly l) h = h
within_pattern P step (Construct u alt qs) h = h
within_pattern P step (FieldsOf xs) h = h

evals : (call : Call) (e x : Expr) (env : Env) → bare e ≡ x → eval_with call e env ≡ eval_with call x env
evals call e x env is = under (λ z. eval_with call z env ≡ eval_with call x env) (λ place z h. h) e (ap (λ z. eval_with call z env) is)

uses : (e x : Expr) → bare e ≡ x → used e ≡ used x
uses e x is = under (λ z. used z ≡ used x) (λ place z h. h) e (ap used is)

-- what it asks, at some place
abbrev Asks : Frame → Expr → Scope → Place → Wanted → Type 0
Asks a e S p w = (here : Pos) × Solves a.values (items e S here p w)

asks : (a : Frame) (e x : Expr) (S : Scope) (here : Pos) (p : Place) (w : Wanted) → bare e ≡ x → Solves a.values (items e S here p w) → Asks a x S p w
asks a e x S here p w is sol = subst (λ z. Asks a z S p w) is (within (λ z. Asks a z S p w) (λ place z k. (place, k.1)) e (here, sol))

abbrev Answers : Frame → Expr → Scope → Place → Wanted → Type 0
Answers a e S p w = (here : Pos) → Solves a.values (items e S here p w)

answers : (a : Frame) (e x : Expr) (S : Scope) (p : Place) (w : Wanted) → bare e ≡ x → Answers a x S p w → Answers a e S p w
answers a e x S p w is all = under (λ z. Answers a z S p w) (λ place z k here. k place) e (subst (λ z. Answers a z S p w) (sym is) all)

pattern_matches : (q x : Pattern) (v : Value) (env : Env) → bare_pattern q ≡ x → matches q v env ≡ matches x v env
pattern_matches q x v env is = under_pattern (λ z. matches z v env ≡ matches x v env) (λ place z h. h) q (ap (λ z. matches z v env) is)

names_are : (q x : Pattern) (S : Scope) (p : Place) (t : Wanted) (rest : Entries) → bare_pattern q ≡ x → pattern_names q S.known p t rest ≡ pattern_names x S.known p t rest
names_are q x S p t rest is = under_pattern (λ z. pattern_names z S.known p t rest ≡ pattern_names x S.known p t rest) (λ place z h. h) q (ap (λ z. pattern_names z S.known p t rest) is)

abbrev PatternAsks : Frame → Pattern → Scope → Place → Wanted → Type 0
PatternAsks a q S p t = (here : Pos) × Solves a.values (pattern_items q S.known here p t)

pattern_asks : (a : Frame) (q x : Pattern) (S : Scope) (here : Pos) (p : Place) (t : Wanted) → bare_pattern q ≡ x → Solves a.values (pattern_items q S.known here p t) → PatternAsks a x S p t
pattern_asks a q x S here p t is sol = subst (λ z. PatternAsks a z S p t) is (within_pattern (λ z. PatternAsks a z S p t) (λ place z k. (place, k.1)) q (here, sol))

-- a name is a pattern that asks nothing, and takes each value
named_asks : (a : Frame) (q : Pattern) (x : Name) (S : Scope) (here : Pos) (p : Place) (t : Wanted) → bare_pattern q ≡ Named x → Solves a.values (pattern_items q S.known here p t)
named_asks a q x S here p t is =
    under_pattern (λ z. (h : Pos) → Solves a.values (pattern_items z S.known h p t)) (λ place z k h. k place) q
    (subst (λ z. (h : Pos) → Solves a.values (pattern_items z S.known h p t)) (sym is) (λ h. tt)) here

named_takes : (q : Pattern) (x : Name) → bare_pattern q ≡ Named x → Takes q
named_takes q x is =
    ap (λ s. option_map written (missing_shape (s ∷ []))) (under_pattern (λ z. shape_of z ≡ Open) (λ place z h. h) q (ap shape_of is))

named_is : (W : World) (q : Pattern) (x : Name) → bare_pattern q ≡ Named x → IsPattern W q
named_is W q x is = under_pattern (λ z. IsPattern W z) (λ place z h. h) q (subst (λ z. IsPattern W z) (sym is) tt)

-- ---- lists

solves_both : (a : Frame) (is js : List Item) → Solves a.values is → Solves a.values js → Solves a.values (is ++ js)
solves_both a [] js h k = k
solves_both a (i ∷ is) js h k = (h.0, solves_both a is js h.1 k)

among_here : (y : Ref) (xs : List Ref) → among y (y ∷ xs) ≡ true
among_here y xs = ap (λ b. if b then true else among y xs) (ref_itself y)

among_later : (y x : Ref) (xs : List Ref) → among y xs ≡ true → among y (x ∷ xs) ≡ true
among_later y x xs h = go (same_ref y x)
  where
    go : (b : Bool) → (if b then true else among y xs) ≡ true
    go true = refl
    go false = h

not_here : (y x : Ref) (xs : List Ref) → same_ref y x ≡ false → among y (x ∷ xs) ≡ among y xs
not_here y x xs n = ap (λ b. if b then true else among y xs) n

other_way : (x y : Ref) → same_ref x y ≡ false → same_ref y x ≡ false
other_way x y n = elim (yes_or_no (same_ref y x)) [
  | inl e ↦ not_both (same_ref x y) (subst (λ z. same_ref x z ≡ true) (sym (same_refs y x e)) (ref_itself x)) n
  | inr m ↦ m
]

yes : (b : Bool) → not b ≡ false → b ≡ true
yes true e = refl
yes false e = absurd (let z : true ≡ false = e in cc)

two_types : (a : Frame) (ts : List Wanted) (g h : Ground) → map (of a) ts ≡ g ∷ h ∷ [] → (t : Wanted) × (u : Wanted) × (ts ≡ t ∷ u ∷ []) × (of a t ≡ g) × (of a u ≡ h)
two_types a [] g h e = absurd (cc)
two_types a (t ∷ []) g h e = absurd (cc)
two_types a (t ∷ u ∷ []) g h e = (t, u, refl, cc, cc)
two_types a (t ∷ u ∷ v ∷ ts) g h e = absurd (cc)

-- ---- an environment fits a scope where one name alone is shown, with one type

module _ (W : World) (S N : Scope) (a b : Frame) (f : Ref) (entry : Entry) (t : Wanted) (has_entry : entry_of S f ≡ Some entry) (has_type : entry_of N f ≡ Some (Mono t)) (same : N.known ≡ S.known)
    (turn : (H : Ground → Type 0) → Serves H entry S a → H (of b t)) where
  -- what is shown was shown, and is the name, or none of the scope's
  abbrev Only : (h k : Ref → Bool) → Type 0
  Only h k = (y : Ref) → k y ≡ false → (h y ≡ false) × ((y ≡ f) ⊎ (entry_of N y ≡ None))

  only_more : (h k : Ref → Bool) (x : Ref) → Only h k → Only (or_named x h) (or_named x k)
  only_more h k x only y n =
      let o = not_or (same_ref y x) (k y) n in
      let r = only y o.1 in
      (or_not (same_ref y x) (h y) o.0 r.0, r.1)

  only_all : (fs : Functions) (h k : Ref → Bool) → Only h k → Only (hides fs h) (hides fs k)
  only_all NoFunction h k only = only
  only_all (MoreFunction title qs e fs) h k only = only_all fs (or_named title.name h) (or_named title.name k) (only_more h k title.name only)

  served : (H : Ground → Type 0) (y : Ref) → (y ≡ f) ⊎ (entry_of N y ≡ None) → ((e : Entry) → entry_of S y ≡ Some e → Serves H e S a) → (e : Entry) → entry_of N y ≡ Some e → Serves H e N b
  served H y (inl is) serves e found =
      let z : Some (Mono t) ≡ Some e = sym has_type ∙ (ap (entry_of N) (sym is) ∙ found) in
      let m : Mono t ≡ e = cc in
      subst (λ o. Serves H o N b) m (turn H (serves entry (ap (entry_of S) is ∙ has_entry)))
  served H y (inr none) serves e found = absurd (let z : None ≡ Some e = sym none ∙ found in cc)

  members_only : (s : Stages) (fs : Functions) (h k : Ref → Bool) → Only h k → Members W s fs h S a → Members W s fs k N b
  members_only s NoFunction h k only m = tt
  members_only s (MoreFunction title qs e fs) h k only m = (
    (λ n. let o = only title.name n in let r = m.0 o.0 in (r.0, served (λ g. Lists W s qs e g) title.name o.1 r.1)),
    members_only s fs (or_named title.name h) (or_named title.name k) (only_more h k title.name only) m.1,
  )

  fits_only : (env : Env) (h k : Ref → Bool) → Only h k → Fits W env h S a → Fits W env k N b
  fits_only Nil h k only i = (
    (i.0.0, same ∙ i.0.1),
    λ x e found. elim (yes_or_no (k x)) [
      | inl y ↦ y
      | inr n ↦ (let o = only x n in elim o.1 [
        | inl is ↦ not_both (h x) (i.1 x entry (ap (entry_of S) is ∙ has_entry)) o.0
        | inr none ↦ absurd (let z : None ≡ Some e = sym none ∙ found in cc)
      ])
    ],
  )
  fits_only (Bind x v env) h k only i = (
    (λ n. let o = only x n in served (λ g. Has W v g) x o.1 (i.0 o.0)),
    fits_only env (or_named x h) (or_named x k) (only_more h k x only) i.1,
  )
  fits_only (BindGroup fs env) h k only i = record {
    stages = i.stages;
    members = members_only i.stages fs h k only i.members;
    rest = fits_only env (hides fs h) (hides fs k) (only_all fs h k only) i.rest;
    closing = i.closing;
  }

-- ---- a frame of three types, by three places

abbrev result_place : Place
result_place = []

abbrev message_place : Place
message_place = child (child result_place 1) 0

abbrev payload_place : Place
payload_place = child (child message_place 1) 0

module _ (result message payload : Ground) where
  abbrev picked : Place → Ground
  picked [] = result
  picked (i ∷ []) = payload
  picked (i ∷ j ∷ []) = message
  picked (i ∷ j ∷ k ∷ p) = payload

  abbrev constant : Place → Rigid
  constant p = record { place = p; name = []; class = Any; lacks = [] }

  abbrev standing : Class → List Name → Place → Name → Ground
  standing Any [] p x = picked p
  standing Any (l ∷ ls) p x = variable (record { place = p; name = x; class = Any; lacks = l ∷ ls })
  standing NumberClass ls p x = variable (record { place = p; name = x; class = NumberClass; lacks = ls })
  standing Comparable ls p x = variable (record { place = p; name = x; class = Comparable; lacks = ls })
  standing Appendable ls p x = variable (record { place = p; name = x; class = Appendable; lacks = ls })
  standing CompAppend ls p x = variable (record { place = p; name = x; class = CompAppend; lacks = ls })

  abbrev three : Frame
  three = record { values = λ p. variable (constant p); stands = λ r. standing r.class r.lacks r.place r.name }

  meets_its : (c : Class) (ls : List Name) (p : Place) (x : Name) → meets c (standing c ls p x) ≡ true
  meets_its Any [] p x = meets_any (picked p)
  meets_its Any (l ∷ ls) p x = refl
  meets_its NumberClass ls p x = refl
  meets_its Comparable ls p x = refl
  meets_its Appendable ls p x = refl
  meets_its CompAppend ls p x = refl

  lacks_its : (c : Class) (ls : List Name) (p : Place) (x : Name) → lacks_all ls (standing c ls p x) ≡ true
  lacks_its Any [] p x = refl
  lacks_its Any (l ∷ ls) p x = lacks_own (record { place = p; name = x; class = Any; lacks = l ∷ ls }) [] (l ∷ ls) refl
  lacks_its NumberClass ls p x = lacks_own (record { place = p; name = x; class = NumberClass; lacks = ls }) [] ls refl
  lacks_its Comparable ls p x = lacks_own (record { place = p; name = x; class = Comparable; lacks = ls }) [] ls refl
  lacks_its Appendable ls p x = lacks_own (record { place = p; name = x; class = Appendable; lacks = ls }) [] ls refl
  lacks_its CompAppend ls p x = lacks_own (record { place = p; name = x; class = CompAppend; lacks = ls }) [] ls refl

  three_stands : Stands three
  three_stands = record {
    classes = λ r. meets_its r.class r.lacks r.place r.name;
    rests = λ r. lacks_its r.class r.lacks r.place r.name;
  }

  three_at : (p : Place) → of three (at p) ≡ picked p
  three_at p = extend_none (picked p)

-- ---- the function of a subscription

module _ (W : World) (port carried : Name) (e : Expr) (k : IsAfter port carried e) (apart : same_name port carried ≡ false) (env : Env) (U : Ref → Bool) (S : Scope) (a : Frame) (stands : Stands a)
    (fits : Fits W env U S a) (free : Without U (used e)) (t0 t1 : Wanted) (received payload message result other : Ground) (u v : Value) (has : Has W v (function payload message))
    (takes : of a t1 ≡ function received message) (here : Pos) (p : Place) (w : Wanted) (gives : of a w ≡ function other result) where
  -- the scope of the first branch
  abbrev inner : Scope
  inner = record { known = S.known; names = (Local carried, Mono t1) ∷ (Local port, Mono t0) ∷ S.names; constants = S.constants }

  abbrev inner_env : Env
  inner_env = Bind (Local carried) v (Bind (Local port) u env)

  abbrev parameter_type : Wanted
  parameter_type = at (child (child p 0) 0)

  abbrev with_parameter : Wanted → Scope → Scope
  with_parameter t R = record { known = R.known; names = (Local k.x, Mono t) ∷ R.names; constants = R.constants }

  abbrev body_place : Place
  body_place = child p 1

  abbrev first_place : Place
  first_place = child (child body_place 1) 0

  abbrev second_place : Place
  second_place = child (child first_place 1) 0

  -- ---- what was asked

  carried_entry : entry_of (with_parameter parameter_type inner) (Local carried) ≡ Some (Mono t1)
  carried_entry =
      skip (Local carried) (Local k.x) (Mono parameter_type) inner.names None k.apart
      ∙ first (Local carried) (Mono t1) ((Local port, Mono t0) ∷ S.names) None

  function_entry : entry_of (with_parameter parameter_type inner) k.f ≡ entry_of S k.f
  function_entry =
      skip k.f (Local k.x) (Mono parameter_type) inner.names (elsewhere S.known k.f) k.not_argument
      ∙ (skip k.f (Local carried) (Mono t1) ((Local port, Mono t0) ∷ S.names) (elsewhere S.known k.f) k.not_carried
      ∙ skip k.f (Local port) (Mono t0) S.names (elsewhere S.known k.f) k.not_port)

  -- the function takes the message, and gives the result
  record Asked : Type 0 where
    place : Pos
    solved : Solves a.values (use_items (entry_of S k.f) place (child body_place 0) (function (at first_place) (at body_place)))
    is : of a (function (at first_place) (at body_place)) ≡ function message result

  asked : Solves a.values (items e inner here p w) → Asked
  asked sol =
      let A = asks a e (Lambda (MorePattern k.parameter NoPattern) k.body) inner here p w k.is sol in
      let R = with_parameter parameter_type inner in
      let names : pattern_names k.parameter inner.known (child (child p 0) 0) parameter_type inner.names ≡ R.names =
      names_are k.parameter (Named k.x) inner (child (child p 0) 0) parameter_type inner.names k.binds in
      let patterns = patterns_items (MorePattern k.parameter NoPattern) inner.known A.0 (child p 0) 0 (parameter_type ∷ []) in
      let body_items = items k.body (bind_patterns (MorePattern k.parameter NoPattern) (child p 0) (parameter_type ∷ []) inner) A.0 body_place (at body_place) in
      let body : Solves a.values (items k.body R A.0 body_place (at body_place)) =
      subst (λ ns. Solves a.values (items k.body (record { known = S.known; names = ns; constants = S.constants }) A.0 body_place (at body_place))) names
      (solves_right a patterns body_items A.1.1) in
      let B = asks a k.body (Apply k.function (MoreExpr k.inner NoExpr)) R A.0 body_place (at body_place) k.calls body in
      let function_items_ = items k.function R B.0 (child body_place 0) (function (at first_place) (at body_place)) in
      let inner_items = items k.inner R B.0 first_place (at first_place) in
      let C = asks a k.function (NameOf k.f) R B.0 (child body_place 0) (function (at first_place) (at body_place)) k.first (solves_left a function_items_ (inner_items ++ []) B.1) in
      let D = asks a k.inner (Apply k.message (MoreExpr k.argument NoExpr)) R B.0 first_place (at first_place) k.calls_first
      (solves_left a inner_items [] (solves_right a function_items_ (inner_items ++ []) B.1)) in
      let message_items = items k.message R D.0 (child first_place 0) (function (at second_place) (at first_place)) in
      let argument_items = items k.argument R D.0 second_place (at second_place) in
      let E = asks a k.message (NameOf (Local carried)) R D.0 (child first_place 0) (function (at second_place) (at first_place)) k.second (solves_left a message_items (argument_items ++ []) D.1) in
      let one : Solves a.values (use_items (Some (Mono t1)) E.0 (child first_place 0) (function (at second_place) (at first_place))) =
      subst (λ o. Solves a.values (use_items o E.0 (child first_place 0) (function (at second_place) (at first_place)))) carried_entry E.1 in
      let m : function received message ≡ function (of a (at second_place)) (of a (at first_place)) =
      sym takes ∙ up a t1 (function (at second_place) (at first_place)) one.0 in
      let m1 : message ≡ of a (at first_place) = cc in
      let r : function (of a parameter_type) (of a (at body_place)) ≡ function other result =
      up a (function parameter_type (at body_place)) w A.1.0 ∙ gives in
      let r1 : of a (at body_place) ≡ result = cc in record {
        place = C.0;
        solved = subst (λ o. Solves a.values (use_items o C.0 (child body_place 0) (function (at first_place) (at body_place)))) function_entry C.1;
        is = ap (λ g. function g (of a (at body_place))) (sym m1) ∙ ap (function message) r1;
      }

  -- ---- the scope of the new function

  abbrev frame : Frame
  frame = three result message payload

  abbrev message_type : Wanted
  message_type = function (at payload_place) (at message_place)

  abbrev function_type : Wanted
  function_type = function (at message_place) (at result_place)

  abbrev shown : Scope
  shown = record { known = S.known; names = (Local carried, Mono message_type) ∷ (k.f, Mono function_type) ∷ []; constants = [] }

  abbrev ours : List Ref
  ours = k.f ∷ Local carried ∷ Local k.x ∷ []

  abbrev hidden : Ref → Bool
  hidden y = not (among y ours) || U y

  message_is : of frame message_type ≡ function payload message
  message_is = ap (λ g. function g (of frame (at message_place))) (three_at result message payload payload_place) ∙ ap (function payload) (three_at result message payload message_place)

  function_is : of frame function_type ≡ function message result
  function_is = ap (λ g. function g (of frame (at result_place))) (three_at result message payload message_place) ∙ ap (function message) (three_at result message payload result_place)

  shown_function : entry_of shown k.f ≡ Some (Mono function_type)
  shown_function =
      skip k.f (Local carried) (Mono message_type) ((k.f, Mono function_type) ∷ []) (elsewhere S.known k.f) k.not_carried
      ∙ first k.f (Mono function_type) [] (elsewhere S.known k.f)

  shown_none : (x : Name) → same_ref (Local x) (Local carried) ≡ false → same_ref (Local x) k.f ≡ false → entry_of shown (Local x) ≡ None
  shown_none x n m =
      skip (Local x) (Local carried) (Mono message_type) ((k.f, Mono function_type) ∷ []) None n
      ∙ skip (Local x) k.f (Mono function_type) [] None m

  -- in the environment of the branch one other name is shown
  shown_one : (y : Ref) → same_ref y (Local carried) ≡ false → hidden y ≡ false → (U y ≡ false) × ((y ≡ k.f) ⊎ (entry_of shown y ≡ None))
  shown_one y n h =
      let o = not_or (not (among y ours)) (U y) h in (
        o.1,
        elim (yes_or_no (same_ref y k.f)) [
          | inl is ↦ inl (same_refs y k.f is)
          | inr m ↦ (let mine : among y (Local k.x ∷ []) ≡ true =
              sym (not_here y (Local carried) (Local k.x ∷ []) n) ∙ (sym (not_here y k.f (Local carried ∷ Local k.x ∷ []) m) ∙ yes (among y ours) o.0) in
              let is : y ≡ Local k.x = same_refs y (Local k.x) (last (same_ref y (Local k.x)) mine) in
              inr (subst (λ z. same_ref z (Local carried) ≡ false → same_ref z k.f ≡ false → entry_of shown z ≡ None) (sym is) (shown_none k.x) n m))
        ],
      )
    where
      last : (b : Bool) → (if b then true else false) ≡ true → b ≡ true
      last true e = refl
      last false e = e

  shown_fits : Asked → Fits W inner_env hidden shown frame
  shown_fits q = go (entry_of S k.f) refl q.solved
    where
      go : (o : Option Entry) → entry_of S k.f ≡ o → Solves a.values (use_items o q.place (child body_place 0) (function (at first_place) (at body_place))) → Fits W inner_env hidden shown frame
      go None none solved = no_nonsense a q.place solved
      go (Some entry) is solved = (
        (λ n other found.
            let z : Some (Mono message_type) ≡ Some other = sym (first (Local carried) (Mono message_type) ((k.f, Mono function_type) ∷ []) None) ∙ found in
            let m : Mono message_type ≡ other = cc in
            subst (λ o. Serves (λ g. Has W v g) o shown frame) m (subst (λ g. Has W v g) (sym message_is) has)),
        (
          (λ n other found. absurd (let z : None ≡ Some other = sym (shown_none port apart (other_way k.f (Local port) k.not_port)) ∙ found in cc)),
          fits_only W S shown a frame k.f entry function_type is shown_function refl
              (λ H serves. subst H (q.is ∙ sym function_is) (use_good H entry q.place (child body_place 0) (function (at first_place) (at body_place)) S a stands serves solved))
              env U (or_named (Local port) (or_named (Local carried) hidden)) (λ y n.
              let o = not_or (same_ref y (Local port)) (or_named (Local carried) hidden y) n in
              let c = not_or (same_ref y (Local carried)) (hidden y) o.1 in
              shown_one y c.0 c.1) fits,
        ),
      )

  -- ---- the function

  abbrev called : Scope
  called = with_parameter (at payload_place) shown

  body_solves : Answers frame k.body called result_place (at result_place)
  body_solves =
      answers frame k.body (Apply k.function (MoreExpr k.inner NoExpr)) called result_place (at result_place) k.calls (λ h.
      solves_both frame (items k.function called h (child result_place 0) function_type) (items k.inner called h message_place (at message_place) ++ [])
      (answers frame k.function (NameOf k.f) called (child result_place 0) function_type k.first (λ i.
      subst (λ o. Solves frame.values (use_items o i (child result_place 0) function_type)) (sym function_found) (refl, tt)) h)
      (solves_both frame (items k.inner called h message_place (at message_place)) []
      (answers frame k.inner (Apply k.message (MoreExpr k.argument NoExpr)) called message_place (at message_place) k.calls_first (λ i.
      solves_both frame (items k.message called i (child message_place 0) message_type) (items k.argument called i payload_place (at payload_place) ++ [])
      (answers frame k.message (NameOf (Local carried)) called (child message_place 0) message_type k.second (λ j.
      subst (λ o. Solves frame.values (use_items o j (child message_place 0) message_type)) (sym message_found) (refl, tt)) i)
      (solves_both frame (items k.argument called i payload_place (at payload_place)) []
      (answers frame k.argument (NameOf (Local k.x)) called payload_place (at payload_place) k.third (λ j.
      subst (λ o. Solves frame.values (use_items o j payload_place (at payload_place))) (sym payload_found) (refl, tt)) i) tt)) h) tt))
    where
      function_found : entry_of called k.f ≡ Some (Mono function_type)
      function_found = skip k.f (Local k.x) (Mono (at payload_place)) shown.names (elsewhere S.known k.f) k.not_argument ∙ shown_function

      message_found : entry_of called (Local carried) ≡ Some (Mono message_type)
      message_found =
          skip (Local carried) (Local k.x) (Mono (at payload_place)) shown.names None k.apart
          ∙ first (Local carried) (Mono message_type) ((k.f, Mono function_type) ∷ []) None

      payload_found : entry_of called (Local k.x) ≡ Some (Mono (at payload_place))
      payload_found = first (Local k.x) (Mono (at payload_place)) shown.names None

  body_uses : used k.body ≡ ours
  body_uses =
      uses k.body (Apply k.function (MoreExpr k.inner NoExpr)) k.calls
      ∙ (ap (λ xs. xs ++ (used k.inner ++ [])) (uses k.function (NameOf k.f) k.first)
      ∙ ap (λ xs. k.f ∷ (xs ++ [])) (uses k.inner (Apply k.message (MoreExpr k.argument NoExpr)) k.calls_first
      ∙ (ap (λ xs. xs ++ (used k.argument ++ [])) (uses k.message (NameOf (Local carried)) k.second)
      ∙ ap (λ xs. Local carried ∷ (xs ++ [])) (uses k.argument (NameOf (Local k.x)) k.third))))

  body_free : Without hidden (used k.body)
  body_free =
      let all : Without U ours = subst (Without U) (uses e (Lambda (MorePattern k.parameter NoPattern) k.body) k.is ∙ body_uses) free in
      subst (Without hidden) (sym body_uses) (
        show k.f (among_here k.f (Local carried ∷ Local k.x ∷ [])) all.0,
        (
          show (Local carried) (among_later (Local carried) k.f (Local carried ∷ Local k.x ∷ []) (among_here (Local carried) (Local k.x ∷ []))) all.1.0,
          (
            show (Local k.x) (among_later (Local k.x) k.f (Local carried ∷ Local k.x ∷ []) (among_later (Local k.x) (Local carried) (Local k.x ∷ []) (among_here (Local k.x) []))) all.1.1.0,
            tt,
          ),
        ),
      )
    where
      show : (y : Ref) → among y ours ≡ true → U y ≡ false → hidden y ≡ false
      show y m n = or_not (not (among y ours)) (U y) (ap not m) n

  body_simple : Simple W k.body
  body_simple =
      simple k.body (Apply k.function (MoreExpr k.inner NoExpr)) k.calls (
        simple k.function (NameOf k.f) k.first tt,
        (
          simple k.inner (Apply k.message (MoreExpr k.argument NoExpr)) k.calls_first (
            simple k.message (NameOf (Local carried)) k.second tt,
            (simple k.argument (NameOf (Local k.x)) k.third tt, tt),
          ),
          tt,
        ),
      )
    where
      simple : (z x : Expr) → bare z ≡ x → Simple W x → Simple W z
      simple z x is s = under (λ y. Simple W y) (λ place y h. h) z (subst (λ y. Simple W y) (sym is) s)

  abbrev closure_of : Value
  closure_of = CloV inner_env (MorePattern k.parameter NoPattern) k.body

  closure_has : Solves a.values (items e inner here p w) → Has W closure_of (function payload result)
  closure_has sol =
      let patterns = pattern_items k.parameter S.known here (child result_place 0) (at payload_place) in
      let names : pattern_names k.parameter S.known (child result_place 0) (at payload_place) shown.names ≡ called.names =
      names_are k.parameter (Named k.x) shown (child result_place 0) (at payload_place) shown.names k.binds in record {
        hidden = hidden;
        scope = shown;
        frame = frame;
        here = here;
        patterns_at = result_place;
        first = 0;
        parameters = at payload_place ∷ [];
        body_at = result_place;
        result = at result_place;
        stands = three_stands result message payload;
        fits = shown_fits (asked sol);
        patterns = solves_both frame patterns [] (named_asks frame k.parameter k.x shown here (child result_place 0) (at payload_place) k.binds) tt;
        body = subst (λ ns. Solves frame.values (items k.body (record { known = S.known; names = ns; constants = [] }) here result_place (at result_place))) (sym names) (body_solves here);
        is = ap (λ g. function g (of frame (at result_place))) (three_at result message payload payload_place) ∙ ap (function payload) (three_at result message payload result_place);
        some = refl;
        is_checked = record {
          checked = (record { takes = (named_takes k.parameter k.x k.binds, tt); proper = (named_is W k.parameter k.x k.binds, tt) }, body_simple);
          free = body_free;
        };
      }

-- ---- both branches

abbrev two : Value → Value → Values
two u v = MoreValue u (MoreValue v NoValue)

module _ (W : World) (steps : StepsKeepTypes W) (call : Call) (m x : Name) (Again : Name → Name → Expr → Type 0) (q : Pattern) (e : Expr) (r : Pattern) (b : Expr) (d : RebuildsIn W m x Again q e r) (ported : is_ported m x ≡ true)
    (env : Env) (U : Ref → Bool) (S : Scope) (a : Frame) (stands : Stands a) (fits : Fits W env U S a) (here : Pos) (p : Place) (t w : Wanted)
    (sol : Solves a.values (branch_items (MoreBranch q e (MoreBranch r b NoBranch)) S here p 0 t w)) where
  abbrev i : Rebuilds m x Again q e r
  i = d.0

  abbrev first_at : Place
  first_at = child p 0

  abbrev second_at : Place
  second_at = child p 1

  abbrev body_at : Place
  body_at = child first_at 1

  abbrev taken : Scope
  taken = bind_pattern q (child first_at 0) t S

  first_pattern : Solves a.values (pattern_items q S.known here (child first_at 0) t)
  first_pattern = solves_left a (pattern_items q S.known here (child first_at 0) t) (items e taken here body_at w ++ branch_items (MoreBranch r b NoBranch) S here p 1 t w) sol

  after_pattern : Solves a.values (items e taken here body_at w ++ branch_items (MoreBranch r b NoBranch) S here p 1 t w)
  after_pattern = solves_right a (pattern_items q S.known here (child first_at 0) t) (items e taken here body_at w ++ branch_items (MoreBranch r b NoBranch) S here p 1 t w) sol

  first_body : Solves a.values (items e taken here body_at w)
  first_body = solves_left a (items e taken here body_at w) (branch_items (MoreBranch r b NoBranch) S here p 1 t w) after_pattern

  second_pattern : Solves a.values (pattern_items r S.known here (child second_at 0) t)
  second_pattern =
      solves_left a (pattern_items r S.known here (child second_at 0) t) (items b (bind_pattern r (child second_at 0) t S) here (child second_at 1) w ++ [])
      (solves_right a (items e taken here body_at w) (branch_items (MoreBranch r b NoBranch) S here p 1 t w) after_pattern)

  -- ---- the types of the first pattern, of what is built, and of the second pattern

  abbrev taken_place : Place
  taken_place = child (child first_at 0) 0

  abbrev built_place : Place
  built_place = child body_at 1

  abbrev batch_place : Place
  batch_place = child (child second_at 0) 0

  abbrev taken_types : Carries m x i.constructors i.carrier a (shape (Declared m x i.constructors) i.carrier S.known taken_place)
  taken_types = steps.carriers m x i.constructors i.carrier S.known taken_place a (fits_known W env U S a fits) ported d.1 i.carrier_is

  abbrev built_types : Carries m x i.constructors i.carrier a (shape (Declared m x i.constructors) i.carrier S.known built_place)
  built_types = steps.carriers m x i.constructors i.carrier S.known built_place a (fits_known W env U S a fits) ported d.1 i.carrier_is

  -- the subject
  subject_is : named m x (taken_types.message ∷ []) ≡ of a t
  subject_is =
      let u = Declared m x i.constructors in
      let s = shape u i.carrier S.known taken_place in
      let pa = pattern_asks a q (Construct u i.carrier (MorePattern i.port_pattern (MorePattern i.carried_pattern NoPattern))) S here (child first_at 0) t i.takes first_pattern in
      let same = solves_right a (shape_items u i.carrier S.known pa.0 taken_place)
      (Same pa.0 s.result t ∷ patterns_items (MorePattern i.port_pattern (MorePattern i.carried_pattern NoPattern)) S.known pa.0 (child (child first_at 0) 1) 0 s.parts) pa.1 in
      sym taken_types.result_is ∙ up a s.result t same.0

  -- the names of the first pattern
  record Names : Type 0 where
    port_type : Wanted
    carried_type : Wanted
    carried_is : of a carried_type ≡ taken_types.carried
    names : taken.names ≡ (Local i.carried, Mono carried_type) ∷ (Local i.port, Mono port_type) ∷ S.names

  names_taken : Names
  names_taken =
      let u = Declared m x i.constructors in
      let s = shape u i.carrier S.known taken_place in
      let g = two_types a s.parts string_type taken_types.carried taken_types.parts_are in
      let qs = MorePattern i.port_pattern (MorePattern i.carried_pattern NoPattern) in
      let at_names = child (child first_at 0) 1 in record {
        port_type = g.0;
        carried_type = g.1;
        carried_is = g.4;
        names = names_are q (Construct u i.carrier qs) S (child first_at 0) t S.names i.takes
            ∙ (ap (λ ts. patterns_names qs S.known at_names 0 ts S.names) g.2
            ∙ (names_are i.carried_pattern (Named i.carried) S (child at_names 1) g.1 (pattern_names i.port_pattern S.known (child at_names 0) g.0 S.names) i.carried_bound
            ∙ ap (λ ns. (Local i.carried, Mono g.1) ∷ ns) (names_are i.port_pattern (Named i.port) S (child at_names 0) g.0 S.names i.port_bound)));
      }

  abbrev inner_of : Wanted → Wanted → Scope
  inner_of t0 t1 = record { known = S.known; names = (Local i.carried, Mono t1) ∷ (Local i.port, Mono t0) ∷ S.names; constants = S.constants }

  abbrev again_place : Place
  again_place = child (child body_at 0) 1

  -- what is built
  record Built : Type 0 where
    at_pos : Pos
    again_asks : Solves a.values (items i.again (inner_of names_taken.port_type names_taken.carried_type) at_pos again_place (at again_place))
    again_is : of a (at again_place) ≡ built_types.carried
    is : named m x (built_types.message ∷ []) ≡ of a w

  what_is_built : Built
  what_is_built =
      let u = Declared m x i.constructors in
      let s = shape u i.carrier S.known built_place in
      let n = names_taken in
      let R = inner_of n.port_type n.carried_type in
      let body : Solves a.values (items e R here body_at w) =
      subst (λ ns. Solves a.values (items e (record { known = S.known; names = ns; constants = S.constants }) here body_at w)) n.names first_body in
      let A = asks a e (Strict (Build i.place u i.carrier) (MoreExpr i.name (MoreExpr i.again NoExpr))) R here body_at w i.builds body in
      let ts = at (child (child body_at 0) 0) ∷ at again_place ∷ [] in
      let same = Same i.place (functions s.parts s.result) (functions ts w) in
      let before = shape_items u i.carrier S.known i.place built_place ++ same ∷ [] in
      let name_items = items i.name R A.0 (child (child body_at 0) 0) (at (child (child body_at 0) 0)) in
      let again_items = items i.again R A.0 again_place (at again_place) in
      let after_before = solves_right a before (name_items ++ ([] ++ ((again_items ++ []) ++ []))) A.1 in
      let asked = solves_right a (shape_items u i.carrier S.known i.place built_place) (same ∷ []) (solves_left a before (name_items ++ ([] ++ ((again_items ++ []) ++ []))) A.1) in
      let types : function string_type (function built_types.carried (of a s.result)) ≡ function (of a (at (child (child body_at 0) 0))) (function (of a (at again_place)) (of a w)) =
      sym (of_functions a s.parts s.result ∙ ap (λ gs. functions gs (of a s.result)) built_types.parts_are) ∙ up a (functions s.parts s.result) (functions ts w) asked.0 in
      let one : of a (at again_place) ≡ built_types.carried = cc in
      let other : of a s.result ≡ of a w = cc in record {
        at_pos = A.0;
        again_asks = solves_left a again_items [] (solves_left a (again_items ++ []) [] (solves_right a name_items ((again_items ++ []) ++ []) after_before));
        again_is = one;
        is = sym built_types.result_is ∙ other;
      }

  -- ---- what a port made

  abbrev env_with : Name → Value → Env
  env_with port v = Bind (Local i.carried) v (Bind (Local i.port) (TextV port) env)

  -- the body of the first branch, by what is carried on
  built_again : (port : Name) (u v : Value) → eval_with call i.again (env_with port u) ≡ Val v → eval_with call e (env_with port u) ≡ Val (TagV (Number (pos 0)) (two (TextV port) v))
  built_again port u v is =
      let inner = env_with port u in
      let name : eval_with call i.name inner ≡ Val (TextV port) =
      evals call i.name (NameOf (Local i.port)) inner i.name_is
      ∙ (ap (λ c. if c then Val u else lookup (Local i.port) (Bind (Local i.port) (TextV port) env)) i.apart
      ∙ ap (λ c. if c then Val (TextV port) else lookup (Local i.port) env) (ref_itself (Local i.port))) in
      evals call e (Strict (Build i.place (Declared m x i.constructors) i.carrier) (MoreExpr i.name (MoreExpr i.again NoExpr))) inner i.builds
      ∙ (ap (λ o. then_do (then_do o (λ n. then_do (then_do (eval_with call i.again inner) (λ z. then_do (Val NoValue) (λ vs. Val (MoreValue z vs)))) (λ vs. Val (MoreValue n vs)))) (λ vs. build i.carrier.tag vs)) name
      ∙ (ap (λ o. then_do (then_do (then_do o (λ z. then_do (Val NoValue) (λ vs. Val (MoreValue z vs)))) (λ vs. Val (MoreValue (TextV port) vs))) (λ vs. build i.carrier.tag vs)) is
      ∙ ap (λ tag. build tag (two (TextV port) v)) i.carrier_is))

  first_matches : (port : Name) (u : Value) → matches q (TagV (Number (pos 0)) (two (TextV port) u)) env ≡ Val (Some (env_with port u))
  first_matches port u =
      let vs = two (TextV port) u in
      let qs = MorePattern i.port_pattern (MorePattern i.carried_pattern NoPattern) in
      pattern_matches q (Construct (Declared m x i.constructors) i.carrier qs) (TagV (Number (pos 0)) vs) env i.takes
      ∙ (ap (λ c. if c then (if is_of (Number (pos 0)) vs i.carrier then matches_all qs vs env else Val None) else Stuck) (taken_types.one (TextV port) u)
      ∙ (ap (λ c. if c then matches_all qs vs env else Val None) (taken_types.this (TextV port) u)
      ∙ (ap (λ o. and_match o (λ inner. and_match (matches i.carried_pattern u inner) (λ last. Val (Some last)))) (pattern_matches i.port_pattern (Named i.port) (TextV port) env i.port_bound)
      ∙ ap (λ o. and_match o (λ last. Val (Some last))) (pattern_matches i.carried_pattern (Named i.carried) u (Bind (Local i.port) (TextV port) env) i.carried_bound))))

  -- what is carried on, with its type
  record Carried (port : Name) (u : Value) : Type 0 where
    value_ : Value
    type : Ground
    evaluates : eval_with call i.again (env_with port u) ≡ Val value_
    has : Has W value_ type
    carries : Sends port type (of a w) ⊎ Listens W port type (of a w)

  abbrev chosen : Value → End Value
  chosen v = choose_with call (MoreBranch q e (MoreBranch r b NoBranch)) v env

  from_port : (port : Name) (u : Value) → Carried port u → EndsWell (λ v. Has W v (of a w)) (chosen (TagV (Number (pos 0)) (two (TextV port) u)))
  from_port port u c =
      let others = choose_with call (MoreBranch r b NoBranch) (TagV (Number (pos 0)) (two (TextV port) u)) env in
      subst (λ o. EndsWell (λ v. Has W v (of a w)) (on_match o (λ inner. eval_with call e inner) others)) (sym (first_matches port u))
      (subst (λ o. EndsWell (λ v. Has W v (of a w)) o) (sym (built_again port u c.value_ c.evaluates)) (
        string_type ∷ c.type ∷ [],
        inr (record {
          port = port;
          rest = MoreValue c.value_ NoValue;
          carried = c.type;
          tag_is = refl;
          begins = refl;
          parts_are = refl;
          carries = c.carries;
        }),
        (inl refl, (c.has, tt)),
      ))

  -- ---- a batch

  first_passes : (fields : Values) → is_of_one (Number (pos 1)) fields i.constructors ≡ true → matches q (TagV (Number (pos 1)) fields) env ≡ Val None
  first_passes fields one =
      let qs = MorePattern i.port_pattern (MorePattern i.carried_pattern NoPattern) in
      pattern_matches q (Construct (Declared m x i.constructors) i.carrier qs) (TagV (Number (pos 1)) fields) env i.takes
      ∙ (ap (λ c. if c then (if is_of (Number (pos 1)) fields i.carrier then matches_all qs fields env else Val None) else Stuck) one
      ∙ ap (λ c. if c then matches_all qs fields env else Val None) (ap (λ tag. same_tag (Number (pos 1)) tag && (count_of fields == i.carrier.arity)) i.carrier_is))

  record Bound (fields : Values) (parts : List Wanted) : Type 0 where
    inner : Env
    matched : matches_all (MorePattern i.all_pattern NoPattern) fields env ≡ Val (Some inner)
    fits_inner : Fits W inner U (bind_from (MorePattern i.all_pattern NoPattern) (child (child second_at 0) 1) 0 parts S) a

  all_bound : (pos_ : Pos) (parts : List Wanted) (fields : Values) → Solves a.values (patterns_items (MorePattern i.all_pattern NoPattern) S.known pos_ (child (child second_at 0) 1) 0 parts)
      → HasEach W fields (map (of a) parts) → Bound fields parts
  all_bound pos_ [] fields asked has = no_nonsense a pos_ asked
  all_bound pos_ (g ∷ h ∷ ts) fields asked has =
      no_nonsense a pos_ (solves_right a (pattern_items i.all_pattern S.known pos_ (child (child (child second_at 0) 1) 0) g) _ asked)
  all_bound pos_ (g ∷ []) NoValue asked has = absurd has
  all_bound pos_ (g ∷ []) (MoreValue v (MoreValue u vs)) asked has = absurd has.1
  all_bound pos_ (g ∷ []) (MoreValue v NoValue) asked has = record {
    inner = Bind (Local i.all) v env;
    matched = ap (λ o. and_match o (λ last. Val (Some last))) (pattern_matches i.all_pattern (Named i.all) v env i.all_bound);
    fits_inner = subst (λ ns. Fits W (Bind (Local i.all) v env) U (record { known = S.known; names = ns; constants = S.constants }) a)
        (sym (names_are i.all_pattern (Named i.all) S (child (child (child second_at 0) 1) 0) g S.names i.all_bound))
        (fits_bind W env (Local i.all) v g S.names U S a has.0 fits refl);
  }

  from_batch : (fields : Values) → is_of_one (Number (pos 1)) fields i.constructors ≡ true → is_of (Number (pos 1)) fields i.batch ≡ true
      → HasEach W fields (map (of a) (shape (Declared m x i.constructors) i.batch S.known batch_place).parts)
      → ((inner : Env) → Fits W inner U (bind_pattern r (child second_at 0) t S) a → EndsWell (λ v. Has W v (of a w)) (eval_with call b inner))
      → EndsWell (λ v. Has W v (of a w)) (chosen (TagV (Number (pos 1)) fields))
  from_batch fields one this has second =
      let u = Declared m x i.constructors in
      let s = shape u i.batch S.known batch_place in
      let qs = MorePattern i.all_pattern NoPattern in
      let pa = pattern_asks a r (Construct u i.batch qs) S here (child second_at 0) t i.takes_all second_pattern in
      let rest = solves_right a (shape_items u i.batch S.known pa.0 batch_place) (Same pa.0 s.result t ∷ patterns_items qs S.known pa.0 (child (child second_at 0) 1) 0 s.parts) pa.1 in
      let c = all_bound pa.0 s.parts fields rest.1 has in
      let matched : matches r (TagV (Number (pos 1)) fields) env ≡ Val (Some c.inner) =
      pattern_matches r (Construct u i.batch qs) (TagV (Number (pos 1)) fields) env i.takes_all
      ∙ (ap (λ z. if z then (if is_of (Number (pos 1)) fields i.batch then matches_all qs fields env else Val None) else Stuck) one
      ∙ (ap (λ z. if z then matches_all qs fields env else Val None) this ∙ c.matched)) in
      let fits_r : Fits W c.inner U (bind_pattern r (child second_at 0) t S) a =
      subst (λ ns. Fits W c.inner U (record { known = S.known; names = ns; constants = S.constants }) a) (sym (names_are r (Construct u i.batch qs) S (child second_at 0) t S.names i.takes_all)) c.fits_inner in
      subst (λ o. EndsWell (λ v. Has W v (of a w)) (on_match o (λ inner. eval_with call e inner) (choose_with call (MoreBranch r b NoBranch) (TagV (Number (pos 1)) fields) env))) (sym (first_passes fields one))
      (subst (λ o. EndsWell (λ v. Has W v (of a w)) (on_match o (λ inner. eval_with call b inner) Stuck)) (sym matched) (second c.inner fits_r))

  -- ---- any value of the subject

  rebuilt : (v : Value) → Has W v (of a t)
      → ((port : Name) (u : Value) (carried : Ground) → Has W u carried → Sends port carried (named m x (taken_types.message ∷ [])) ⊎ Listens W port carried (named m x (taken_types.message ∷ [])) → Carried port u)
      → ((inner : Env) → Fits W inner U (bind_pattern r (child second_at 0) t S) a → EndsWell (λ z. Has W z (of a w)) (eval_with call b inner))
      → EndsWell (λ z. Has W z (of a w)) (chosen v)
  rebuilt v has carry second =
      let u = Declared m x i.constructors in
      let s = shape u i.batch S.known batch_place in
      let qs = MorePattern i.all_pattern NoPattern in
      let pa = pattern_asks a r (Construct u i.batch qs) S here (child second_at 0) t i.takes_all second_pattern in
      let rest = solves_right a (shape_items u i.batch S.known pa.0 batch_place) (Same pa.0 s.result t ∷ patterns_items qs S.known pa.0 (child (child second_at 0) 1) 0 s.parts) pa.1 in
      let type : of a s.result ≡ of a t = up a s.result t rest.0 in
      elim (steps.ported m x i.constructors i.batch S.known batch_place a v (fits_known W env U S a fits) ported d.2 i.batch_is (subst (λ g. Has W v g) (sym type) has)) [
        | inl made ↦ subst (λ z. EndsWell (λ y. Has W y (of a w)) (chosen z)) (sym made.is)
            (from_port made.port made.inner (carry made.port made.inner made.carried made.has
            (subst (λ g. Sends made.port made.carried g ⊎ Listens W made.port made.carried g) (type ∙ sym subject_is) made.carries)))
        | inr made ↦ subst (λ z. EndsWell (λ y. Has W y (of a w)) (chosen z)) (sym made.is) (from_batch made.fields made.one made.this made.has second)
      ]

-- ---- of commands, and of subscriptions

module _ (W : World) (steps : StepsKeepTypes W) (call : Call) (q : Pattern) (e : Expr) (r : Pattern) (b : Expr) (env : Env) (U : Ref → Bool) (S : Scope) (a : Frame) (stands : Stands a) (free : Without U (used e))
    (fits : Fits W env U S a) (here : Pos) (p : Place) (t w : Wanted) (sol : Solves a.values (branch_items (MoreBranch q e (MoreBranch r b NoBranch)) S here p 0 t w)) where
  abbrev Second : Type 0
  Second = (inner : Env) → Fits W inner U (bind_pattern r (child (child p 1) 0) t S) a → EndsWell (λ v. Has W v (of a w)) (eval_with call b inner)

  abbrev Chosen : Value → Type 0
  Chosen v = EndsWell (λ z. Has W z (of a w)) (choose_with call (MoreBranch q e (MoreBranch r b NoBranch)) v env)

  commands : RebuildsIn W (codes "Platform.Cmd") (codes "Cmd") IsSame q e r → (v : Value) → Has W v (of a t) → Second → Chosen v
  commands d v has second =
      rebuilt W steps call (codes "Platform.Cmd") (codes "Cmd") IsSame q e r b d refl env U S a stands fits here p t w sol v has (λ port u carried h c. elim c [
        | inl sends ↦ record {
          value_ = u;
          type = carried;
          evaluates = evals call d.0.again (NameOf (Local d.0.carried)) (Bind (Local d.0.carried) u (Bind (Local d.0.port) (TextV port) env)) d.0.again_is
              ∙ ap (λ z. if z then Val u else lookup (Local d.0.carried) (Bind (Local d.0.port) (TextV port) env)) (ref_itself (Local d.0.carried));
          has = h;
          carries = inl (record {
            message = (built_types W steps call (codes "Platform.Cmd") (codes "Cmd") IsSame q e r b d refl env U S a stands fits here p t w sol).message;
            carried_is = sends.carried_is;
            is = (what_is_built W steps call (codes "Platform.Cmd") (codes "Cmd") IsSame q e r b d refl env U S a stands fits here p t w sol).is;
          });
        }
        | inr listens ↦ unlike (taken_types W steps call (codes "Platform.Cmd") (codes "Cmd") IsSame q e r b d refl env U S a stands fits here p t w sol).message listens.message (sym listens.is)
      ]) second

  subscriptions : RebuildsIn W (codes "Platform.Sub") (codes "Sub") IsAfter q e r → (v : Value) → Has W v (of a t) → Second → Chosen v
  subscriptions d v has second =
      let i = d.0 in
      let taken = taken_types W steps call (codes "Platform.Sub") (codes "Sub") IsAfter q e r b d refl env U S a stands fits here p t w sol in
      let built = built_types W steps call (codes "Platform.Sub") (codes "Sub") IsAfter q e r b d refl env U S a stands fits here p t w sol in
      let what = what_is_built W steps call (codes "Platform.Sub") (codes "Sub") IsAfter q e r b d refl env U S a stands fits here p t w sol in
      let names = names_taken W steps call (codes "Platform.Sub") (codes "Sub") IsAfter q e r b d refl env U S a stands fits here p t w sol in
      let free_e : Without U (used i.again) =
      all_left (λ y. U y ≡ false) (used i.again) []
      (all_right (λ y. U y ≡ false) (used i.name) (used i.again ++ [])
      (subst (Without U) (uses e (Strict (Build i.place (Declared (codes "Platform.Sub") (codes "Sub") i.constructors) i.carrier) (MoreExpr i.name (MoreExpr i.again NoExpr))) i.builds) free)) in
      let place = child (child (child (child p 0) 1) 0) 1 in
      let l = taken.listens refl in
      let o = built.listens refl in
      rebuilt W steps call (codes "Platform.Sub") (codes "Sub") IsAfter q e r b d refl env U S a stands fits here p t w sol v has (λ port u carried h c. elim c [
        | inl sends ↦ unlike sends.message taken.message sends.is
        | inr listens ↦ (let z : sub_type listens.message ≡ sub_type taken.message = listens.is in
            let same : listens.message ≡ taken.message = cc in
            let g = payload_type listens.payload in
            let h2 : Has W u (function g taken.message) = subst (λ y. Has W u y) (listens.carried_is ∙ ap (function g) same) h in record {
              value_ = closure_of W i.port i.carried i.again i.again_is i.apart env U S a stands fits free_e names.port_type names.carried_type l.0 g taken.message built.message o.0 (TextV port) u h2
                  (names.carried_is ∙ l.1) what.at_pos place (at place) (what.again_is ∙ o.1);
              type = function g built.message;
              evaluates = evals call i.again (Lambda (MorePattern i.again_is.parameter NoPattern) i.again_is.body) (Bind (Local i.carried) u (Bind (Local i.port) (TextV port) env)) i.again_is.is;
              has = closure_has W i.port i.carried i.again i.again_is i.apart env U S a stands fits free_e names.port_type names.carried_type l.0 g taken.message built.message o.0 (TextV port) u h2
                  (names.carried_is ∙ l.1) what.at_pos place (at place) (what.again_is ∙ o.1) what.again_asks;
              carries = inr (record {
                message = built.message;
                payload = listens.payload;
                in_ = listens.in_;
                carried_is = refl;
                is = what.is;
              });
            })
      ]) second

  pub mapped_good : MapsPorts W q e r → (v : Value) → Has W v (of a t) → Second → Chosen v
  mapped_good (inl d) v has second = commands d v has second
  mapped_good (inr d) v has second = subscriptions d v has second
