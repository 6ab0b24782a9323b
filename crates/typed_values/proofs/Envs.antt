-- Environments that fit a scope: names more, other frames, and looking names up.
use Rattle.std.proofs.Common.{◌≡◌, ℕ, List, [], ◌∷◌, map, Bool, true, false, cond, Option, Some, None, inl, inr, refl, sym, ap, ◌∙◌, subst}
use Rattle.std.specs.Prelude.{if◌then◌else◌}
use Rattle.std.specs.List.{AllByRecursion}
use Rattle.std.specs.Map.{lookup as entry_at}
use Rattle.std.specs.Option.{option_or, option_map}
use Rattle.runs.specs.Ends.{End, Val}
use Rattle.elm_canon.specs.Names.{Name, same_ref}
use Rattle.elm_canon.specs.declared.reference.Ref.{Ref}
use Rattle.elm_canon.specs.declared.reference.Ref.TheVariants.{Local, Top}
use Rattle.elm_base.specs.declared.position.Pos.{Pos}
use Rattle.elm_canon.specs.Tree.{Patterns, NoPattern, MorePattern, Expr, Is, NameOf, Accessor, Lambda, Apply, Strict, If}
use Rattle.elm_canon.specs.Tree.{Logical, Let, Case, Located, Functions, NoFunction, MoreFunction}
use Rattle.elm_canon.specs.Proper.{has_parameter, is_function}
use Rattle.elm_meaning.specs.Values.{Value, CloV, Env, Nil, Bind, BindGroup}
use Rattle.elm_meaning.specs.Envs.{lookup, member, closure}
use Rattle.elm_type.specs.Types.{Rigid, function, functions, Scheme}
use Rattle.elm_type.specs.Classes.{Ground}
use Rattle.elm_type.specs.Rows.{substitute}
use Rattle.type_items.specs.Items.{Place, child, Wanted, at}
use Rattle.type_items.specs.Scopes.{Entry, Mono, Instance, General, Entries, Scope, elsewhere, entry_of, one_types}
use Rattle.type_items.specs.Patterns.{patterns_items, parameter_types, bind_patterns}
use Rattle.type_items.specs.Uses.{used}
use Rattle.type_items.specs.Expressions.{items}
use Rattle.type_items.specs.Solutions.{Solves}
use Rattle.typed_values.specs.Frames.{Frame, of, Stands, Agree, Serves}
use Rattle.typed_values.specs.World.{KnownIn, World}
use Rattle.typed_values.specs.Simple.{Without, Simple}
use Rattle.typed_values.specs.Typed.{EndsWell, Stages, AtStage, Lists, Members, hides, or_named, Has, Fits}
use Rattle.typed_values.proofs.Names.{yes_or_no, not_both, not_or, or_not, same_refs, found, skip, first, solves_left, solves_right}

pub serves_map : (H K : Ground → Type 0) (entry : Entry) (S : Scope) (f : Frame) → ((g : Ground) → H g → K g) → Serves H entry S f → Serves K entry S f
serves_map H K (Mono t) S f m h = m (of f t) h
serves_map H K (Instance s) S f m h = λ g choice stands agree chosen. m _ (h g choice stands agree chosen)
serves_map H K (General list type) S f m h = λ q g stands agree sol. m (of g (type q)) (h q g stands agree sol)

-- ---- more names

-- what is not hidden later was not hidden before, and has the entry that it has later
abbrev pub Keeps : (h k : Ref → Bool) → (S T : Scope) → Type 0
Keeps h k S T = (y : Ref) → k y ≡ false → (h y ≡ false) × ((entry : Entry) → entry_of T y ≡ Some entry → entry_of S y ≡ Some entry)

keeps_more : (h k : Ref → Bool) (S T : Scope) (x : Ref) → Keeps h k S T → Keeps (or_named x h) (or_named x k) S T
keeps_more h k S T x keeps y e =
    let n = not_or (same_ref y x) (k y) e in
    let o = keeps y n.1 in
    (or_not (same_ref y x) (h y) n.0 o.0, o.1)

keeps_all : (fs : Functions) (h k : Ref → Bool) (S T : Scope) → Keeps h k S T → Keeps (hides fs h) (hides fs k) S T
keeps_all NoFunction h k S T keeps = keeps
keeps_all (MoreFunction title qs e fs) h k S T keeps =
    keeps_all fs (or_named title.name h) (or_named title.name k) S T (keeps_more h k S T title.name keeps)

-- the later scope knows the same, and whoever agrees in it agrees in the earlier one
pub record Wider (S T : Scope) : Type 0 where
  pub known : T.known ≡ S.known
  pub agree : (f g : Frame) → Agree T f g → Agree S f g

pub serves_wider : (H : Ground → Type 0) (entry : Entry) (S T : Scope) (f : Frame) → Wider S T → Serves H entry S f → Serves H entry T f
serves_wider H (Mono t) S T f wide h = h
serves_wider H (Instance s) S T f wide h = λ g choice stands agree chosen. h g choice stands (wide.agree f g agree) chosen
serves_wider H (General list type) S T f wide h = λ q g stands agree sol. h q g stands (wide.agree f g agree) sol

members_keep : (w : World) (s : Stages) (fs : Functions) (h k : Ref → Bool) (S T : Scope) (f : Frame) → Keeps h k S T → Wider S T
    → Members w s fs h S f → Members w s fs k T f
members_keep w s NoFunction h k S T f keeps wide m = tt
members_keep w s (MoreFunction title qs e fs) h k S T f keeps wide m = (
  (λ n. let o = keeps title.name n in let r = m.0 o.0 in (r.0, λ entry i. serves_wider (Lists w s qs e) entry S T f wide (r.1 entry (o.1 entry i)))),
  members_keep w s fs (or_named title.name h) (or_named title.name k) S T f (keeps_more h k S T title.name keeps) wide m.1,
)

-- ---- another frame

all_refl : (ts : List Wanted) (f : Frame) → AllByRecursion (λ t. of f t ≡ of f t) ts
all_refl [] f = tt
all_refl (t ∷ ts) f = (refl, all_refl ts f)

all_constants : (cs : List (Name × Rigid)) (f : Frame) → AllByRecursion (λ c. f.stands c.1 ≡ f.stands c.1) cs
all_constants [] f = tt
all_constants (c ∷ cs) f = (refl, all_constants cs f)

pub agree_refl : (S : Scope) (f : Frame) → Agree S f f
agree_refl S f = record { types = all_refl (one_types S.names) f; constants = all_constants S.constants f }

all_trans : {X : Type 0} (v : Frame → X → Ground) (ts : List X) (f g h : Frame) → AllByRecursion (λ t. v g t ≡ v f t) ts
    → AllByRecursion (λ t. v h t ≡ v g t) ts → AllByRecursion (λ t. v h t ≡ v f t) ts
all_trans v [] f g h a b = tt
all_trans v (t ∷ ts) f g h a b = (b.0 ∙ a.0, all_trans v ts f g h a.1 b.1)

pub agree_trans : (S : Scope) (f g h : Frame) → Agree S f g → Agree S g h → Agree S f h
agree_trans S f g h a b = record {
  types = all_trans (λ k t. of k t) (one_types S.names) f g h a.types b.types;
  constants = all_trans (λ k c. k.stands c.1) S.constants f g h a.constants b.constants;
}

-- a name's one type is among those types
found_mono : (P : Wanted → Type 0) (names : Entries) (x : Ref) (o : Option Entry) (t : Wanted) → AllByRecursion P (one_types names) → (o ≡ Some (Mono t) → P t)
    → found x names o ≡ Some (Mono t) → P t
found_mono P [] x o t all other e = other e
found_mono P ((y, Mono u) ∷ names) x o t all other e = go (same_ref x y) (found_mono P names x o t all.1 other) e
  where
    go : (b : Bool) → (found x names o ≡ Some (Mono t) → P t) → option_or (cond b (Some (Mono u)) (entry_at (same_ref x) names)) o ≡ Some (Mono t) → P t
    go true again q = (let r : u ≡ t = cc in subst P r all.0)
    go false again q = again q
found_mono P ((y, Instance s) ∷ names) x o t all other e = go (same_ref x y) (found_mono P names x o t all other) e
  where
    go : (b : Bool) → (found x names o ≡ Some (Mono t) → P t) → option_or (cond b (Some (Instance s)) (entry_at (same_ref x) names)) o ≡ Some (Mono t) → P t
    go true again q = absurd (cc)
    go false again q = again q
found_mono P ((y, General list type) ∷ names) x o t all other e = go (same_ref x y) (found_mono P names x o t all other) e
  where
    go : (b : Bool) → (found x names o ≡ Some (Mono t) → P t) → option_or (cond b (Some (General list type)) (entry_at (same_ref x) names)) o ≡ Some (Mono t) → P t
    go true again q = absurd (cc)
    go false again q = again q

elsewhere_mono : (S : Scope) (x : Ref) (t : Wanted) → elsewhere S.known x ≡ Some (Mono t) → ⊥
elsewhere_mono S (Local x) t e = cc
elsewhere_mono S (Top m x) t e = go (S.known m x) e
  where
    go : (o : Option Scheme) → option_map (λ s. Instance s) o ≡ Some (Mono t) → ⊥
    go None q = cc
    go (Some s) q = cc

pub serves_move : (H : Ground → Type 0) (entry : Entry) (S : Scope) (x : Ref) (f g : Frame) → entry_of S x ≡ Some entry → Agree S f g → Serves H entry S f → Serves H entry S g
serves_move H (Mono t) S x f g e a h =
    subst H (sym (found_mono (λ u. of g u ≡ of f u) S.names x (elsewhere S.known x) t a.types (λ q. absurd (elsewhere_mono S x t q)) e)) h
serves_move H (Instance s) S x f g e a h = λ k choice stands agree chosen. h k choice stands (agree_trans S f g k a agree) chosen
serves_move H (General list type) S x f g e a h = λ q k stands agree sol. h q k stands (agree_trans S f g k a agree) sol

members_move : (w : World) (s : Stages) (fs : Functions) (h : Ref → Bool) (S : Scope) (f g : Frame) → Agree S f g
    → Members w s fs h S f → Members w s fs h S g
members_move w s NoFunction h S f g a m = tt
members_move w s (MoreFunction title qs e fs) h S f g a m =
    ((λ n. let r = m.0 n in (r.0, λ entry i. serves_move (Lists w s qs e) entry S title.name f g i a (r.1 entry i))), members_move w s fs (or_named title.name h) S f g a m.1)

pub of_functions : (f : Frame) (ts : List Wanted) (r : Wanted) → of f (functions ts r) ≡ functions (map (of f) ts) (of f r)
of_functions f [] r = refl
of_functions f (t ∷ ts) r = ap (function (of f t)) (of_functions f ts r)

module _ (w : World) where
  pub fits_keep : (env : Env) (h k : Ref → Bool) (S T : Scope) (f : Frame) → Keeps h k S T → Wider S T → Fits w env h S f → Fits w env k T f
  fits_keep Nil h k S T f keeps wide i = (
    (i.0.0, wide.known ∙ i.0.1),
    λ x entry e. elim (yes_or_no (k x)) [
      | inl y ↦ y
      | inr n ↦ (let o = keeps x n in not_both (h x) (i.1 x entry (o.1 entry e)) o.0)
    ],
  )
  fits_keep (Bind x v env) h k S T f keeps wide i = (
    (λ n entry e. let o = keeps x n in serves_wider (λ g. Has w v g) entry S T f wide (i.0 o.0 entry (o.1 entry e))),
    fits_keep env (or_named x h) (or_named x k) S T f (keeps_more h k S T x keeps) wide i.1,
  )
  fits_keep (BindGroup fs env) h k S T f keeps wide i = record {
    stages = i.stages;
    members = members_keep w i.stages fs h k S T f keeps wide i.members;
    rest = fits_keep env (hides fs h) (hides fs k) S T f (keeps_all fs h k S T keeps) wide i.rest;
    closing = i.closing;
  }

  pub fits_move : (env : Env) (h : Ref → Bool) (S : Scope) (f g : Frame) → Agree S f g → Fits w env h S f → Fits w env h S g
  fits_move Nil h S f g a i = i
  fits_move (Bind x v env) h S f g a i =
      ((λ n entry e. serves_move (λ t. Has w v t) entry S x f g e a (i.0 n entry e)), fits_move env (or_named x h) S f g a i.1)
  fits_move (BindGroup fs env) h S f g a i = record {
    stages = i.stages;
    members = members_move w i.stages fs h S f g a i.members;
    rest = fits_move env (hides fs h) S f g a i.rest;
    closing = i.closing;
  }

  -- a name more, with its entry; the other names are those of the scope
  pub fits_entry : (env : Env) (x : Ref) (v : Value) (entry : Entry) (names : Entries) (U : Ref → Bool) (S : Scope) (f : Frame)
      → (let T : Scope = record { known = S.known; names = (x, entry) ∷ names; constants = S.constants } in
      Serves (λ g. Has w v g) entry T f → Wider S T → Fits w env U S f → names ≡ S.names → Fits w (Bind x v env) U T f)
  fits_entry env x v entry names U S f serves wide i e =
      let T : Scope = record { known = S.known; names = (x, entry) ∷ names; constants = S.constants } in (
        (λ _ other is.
            let r : Some entry ≡ Some other = sym (first x entry names (elsewhere S.known x)) ∙ is in
            let m : entry ≡ other = cc in
            subst (λ o. Serves (λ g. Has w v g) o T f) m serves),
        fits_keep env U (or_named x U) S T f (λ y n. (let o = not_or (same_ref y x) (U y) n in (
          o.1,
          λ other is.
              sym (skip y x entry names (elsewhere S.known y) o.0 ∙ ap (λ ns. found y ns (elsewhere S.known y)) e) ∙ is,
        ))) wide i,
      )

  -- a name more, of one type
  pub fits_bind : (env : Env) (x : Ref) (v : Value) (t : Wanted) (names : Entries) (U : Ref → Bool) (S : Scope) (f : Frame) → Has w v (of f t)
      → Fits w env U S f → names ≡ S.names → Fits w (Bind x v env) U (record { known = S.known; names = (x, Mono t) ∷ names; constants = S.constants }) f
  fits_bind env x v t names U S f has i e =
      fits_entry env x v (Mono t) names U S f has
      (record {
        known = refl;
        agree = λ g h a. record { types = subst (λ ns. AllByRecursion (λ u. of h u ≡ of g u) (one_types ns)) e a.types.1; constants = a.constants };
      }) i e

  -- the scope knows what is known
  pub fits_known : (env : Env) (h : Ref → Bool) (S : Scope) (f : Frame) → Fits w env h S f → KnownIn w S.known
  fits_known Nil h S f i = i.0
  fits_known (Bind x v env) h S f i = fits_known env (or_named x h) S f i.1
  fits_known (BindGroup fs env) h S f i = fits_known env (hides fs h) S f i.rest

  -- ---- looking names up

  -- at each stage a group's members serve their entries, and so does what it hides
  abbrev Closing : Stages → Functions → Env → Type 0
  Closing s fs env =
      (k : ℕ) (q : Place) (g : Frame) → AtStage s k q g → Members w s fs (s.hidden k) (s.scopes k q) g × Fits w env (hides fs (s.hidden k)) (s.scopes k q) g

  -- a member's closure has the types that it is listed with
  listed_has : (s : Stages) (fs : Functions) (env : Env) (qs : Patterns) (e : Expr) (g : Ground) → Closing s fs env
      → has_parameter qs ≡ true → Lists w s qs e g → Has w (CloV (BindGroup fs env) qs e) g
  listed_has s fs env qs e g closing some l =
      let S = s.scopes l.stage l.at_place in
      let f = l.frame in
      let st = closing l.stage l.at_place f l.at_stage in
      let ts = parameter_types qs (child l.place 0) in
      let patterns = patterns_items qs S.known l.here (child l.place 0) 0 ts in
      let body = items e (bind_patterns qs (child l.place 0) ts S) l.here (child l.place 1) (at (child l.place 1)) in record {
        hidden = s.hidden l.stage;
        scope = S;
        frame = f;
        here = l.here;
        patterns_at = child l.place 0;
        first = 0;
        parameters = ts;
        body_at = child l.place 1;
        result = at (child l.place 1);
        stands = l.at_stage.stands;
        fits = record { stages = s; members = st.0; rest = st.1; closing = closing };
        patterns = solves_left f patterns body l.solves.1;
        body = solves_right f patterns body l.solves.1;
        is = sym (of_functions f ts (at (child l.place 1))) ∙ (ap (substitute f.stands) l.solves.0 ∙ l.is);
        some = some;
        is_checked = l.is_checked;
      }

  -- a body that is a lambda
  pub record IsLambda (env : Env) (e : Expr) : Type 0 where
    pub parameters : Patterns
    pub inner : Expr
    pub is : closure env NoPattern e ≡ Val (CloV env parameters inner)
    pub has : (hidden : Ref → Bool) (S : Scope) (f : Frame) (here : Pos) (p : Place) (t : Wanted) → Simple w e → Without hidden (used e) → Stands f → Fits w env hidden S f
        → Solves f.values (items e S here p t) → Has w (CloV env parameters inner) (of f t)

  lambda_is : (env : Env) (e : Expr) → is_function NoPattern e ≡ true → IsLambda env e
  lambda_is env (Lambda qs e) is = record {
    parameters = qs;
    inner = e;
    is = refl;
    has = λ hidden S f here p t simple free stands fits sol.
        let ts = parameter_types qs (child p 0) in
        let patterns = patterns_items qs S.known here (child p 0) 0 ts in
        let body = items e (bind_patterns qs (child p 0) ts S) here (child p 1) (at (child p 1)) in record {
          hidden = hidden;
          scope = S;
          frame = f;
          here = here;
          patterns_at = child p 0;
          first = 0;
          parameters = ts;
          body_at = child p 1;
          result = at (child p 1);
          stands = stands;
          fits = fits;
          patterns = solves_left f patterns body sol.1;
          body = solves_right f patterns body sol.1;
          is = sym (of_functions f ts (at (child p 1))) ∙ ap (substitute f.stands) sol.0;
          some = simple.0;
          is_checked = record { checked = (simple.1, simple.2); free = free };
        };
  }
  lambda_is env (Located start e) is =
      let r = lambda_is env e is in record {
        parameters = r.parameters;
        inner = r.inner;
        is = r.is;
        has = λ hidden S f here p t simple free stands fits sol. r.has hidden S f start p t simple free stands fits sol;
      }
  lambda_is env (Is l) is = not_both false is refl
  lambda_is env (NameOf x) is = not_both false is refl
  lambda_is env (Accessor x) is = not_both false is refl
  lambda_is env (Apply f es) is = not_both false is refl
  lambda_is env (Strict op es) is = not_both false is refl
  lambda_is env (If c a b) is = not_both false is refl
  lambda_is env (Logical start op a b) is = not_both false is refl
  lambda_is env (Let gs e) is = not_both false is refl
  lambda_is env (Case e bs) is = not_both false is refl

  lambda_has : (s : Stages) (fs : Functions) (env : Env) (e : Expr) (g : Ground) (r : IsLambda (BindGroup fs env) e) → Closing s fs env → Lists w s NoPattern e g
      → Has w (CloV (BindGroup fs env) r.parameters r.inner) g
  lambda_has s fs env e g r closing l =
      let S = s.scopes l.stage l.at_place in
      let st = closing l.stage l.at_place l.frame l.at_stage in
      subst (λ t. Has w (CloV (BindGroup fs env) r.parameters r.inner) t) (ap (substitute l.frame.stands) l.solves.0 ∙ l.is)
      (r.has (s.hidden l.stage) S l.frame l.here (child l.place 1) (at (child l.place 1)) l.is_checked.checked.1 l.is_checked.free l.at_stage.stands
      (record { stages = s; members = st.0; rest = st.1; closing = closing }) l.solves.1)

  closure_found : (s : Stages) (fs : Functions) (env : Env) (qs : Patterns) (e : Expr) (entry : Entry) (S : Scope) (f : Frame) → Closing s fs env
      → is_function qs e ≡ true → Serves (Lists w s qs e) entry S f → EndsWell (λ v. Serves (λ g. Has w v g) entry S f) (closure (BindGroup fs env) qs e)
  closure_found s fs env NoPattern e entry S f closing is serves =
      let r = lambda_is (BindGroup fs env) e is in
      subst (λ o. EndsWell (λ v. Serves (λ g. Has w v g) entry S f) o) (sym r.is)
      (serves_map (Lists w s NoPattern e) (λ g. Has w (CloV (BindGroup fs env) r.parameters r.inner) g) entry S f
      (λ g l. lambda_has s fs env e g r closing l) serves)
  closure_found s fs env (MorePattern q qs) e entry S f closing is serves =
      serves_map (Lists w s (MorePattern q qs) e) (λ g. Has w (CloV (BindGroup fs env) (MorePattern q qs) e) g) entry S f
      (λ g l. listed_has s fs env (MorePattern q qs) e g closing refl l) serves

  member_if : (b : Bool) (one other : End Value) (P : Value → Type 0) → (b ≡ true → EndsWell P one) → (b ≡ false → EndsWell P other) → EndsWell P (if b then one else other)
  member_if true one other P h k = h refl
  member_if false one other P h k = k refl

  -- among the members, or else in what they hide
  member_found : (s : Stages) (whole fs : Functions) (env : Env) (h : Ref → Bool) (S : Scope) (x : Ref) (entry : Entry) (f : Frame) (rest : End Value) → Closing s whole env
      → Members w s fs h S f → h x ≡ false → entry_of S x ≡ Some entry
      → (hides fs h x ≡ false → EndsWell (λ v. Serves (λ g. Has w v g) entry S f) rest)
      → EndsWell (λ v. Serves (λ g. Has w v g) entry S f) (member x fs (BindGroup whole env) rest)
  member_found s whole NoFunction env h S x entry f rest closing m n i go = go n
  member_found s whole (MoreFunction title qs e fs) env h S x entry f rest closing m n i go =
      member_if (same_ref x title.name) (closure (BindGroup whole env) qs e) (member x fs (BindGroup whole env) rest) (λ v. Serves (λ g. Has w v g) entry S f)
      (λ y. let is : x ≡ title.name = same_refs x title.name y in
      let r = m.0 (ap h (sym is) ∙ n) in
      closure_found s whole env qs e entry S f closing r.0 (r.1 entry (ap (entry_of S) (sym is) ∙ i)))
      (λ y. member_found s whole fs env (or_named title.name h) S x entry f rest closing m.1 (or_not (same_ref x title.name) (h x) y n) i go)

  -- what a name is bound to serves its entry
  pub look_good : (env : Env) (h : Ref → Bool) (S : Scope) (x : Ref) (entry : Entry) (f : Frame) → Fits w env h S f → h x ≡ false → entry_of S x ≡ Some entry
      → EndsWell (λ v. Serves (λ g. Has w v g) entry S f) (lookup x env)
  look_good Nil h S x entry f i n e = not_both (h x) (i.1 x entry e) n
  look_good (Bind y v env) h S x entry f i n e =
      member_if (same_ref x y) (Val v) (lookup x env) (λ u. Serves (λ g. Has w u g) entry S f)
      (λ b. let is : x ≡ y = same_refs x y b in i.0 (ap h (sym is) ∙ n) entry (ap (entry_of S) (sym is) ∙ e))
      (λ b. look_good env (or_named y h) S x entry f i.1 (or_not (same_ref x y) (h x) b n) e)
  look_good (BindGroup fs env) h S x entry f i n e =
      member_found i.stages fs fs env h S x entry f (lookup x env) i.closing i.members n e (λ m. look_good env (hides fs h) S x entry f i.rest m e)
