-- What patterns bind of typed values.
use Rattle.std.proofs.Common.{◌≡◌, ℕ, ◌+◌, List, [], ◌∷◌, map, Bool, true, false, Option, Some, None, inl, inr, refl, sym, ap, subst}
use Rattle.std.specs.Prelude.{if◌then◌else◌}
use Rattle.elm_base.specs.declared.position.Pos.{Pos}
use Rattle.runs.specs.Ends.{End, Val, Crashed, OutOfFuel, Unsafe, Stuck, then_do}
use Rattle.elm_canon.specs.declared.reference.Ref.{Ref}
use Rattle.elm_canon.specs.declared.reference.Ref.TheVariants.{Local}
use Rattle.elm_canon.specs.Tree.{Pattern, Anything, Named, As, Exactly, Construct, FieldsOf, LocatedPattern, Patterns}
use Rattle.elm_canon.specs.Tree.{NoPattern, MorePattern}
use Rattle.elm_meaning.specs.Values.{Value, Values, NoValue, MoreValue, Env, Bind}
use Rattle.elm_meaning.specs.Match.{matches, matches_all, is_of, and_match}
use Rattle.elm_type.specs.Types.{int_type, tuple}
use Rattle.elm_type.specs.Rows.{substitute}
use Rattle.elm_type.specs.Ground.{value}
use Rattle.type_items.specs.Items.{Place, child, Wanted, Same, nonsense}
use Rattle.type_items.specs.Scopes.{Scope}
use Rattle.type_items.specs.Patterns.{shape, shape_items, literal_type, pattern_items, patterns_items, bind_pattern}
use Rattle.type_items.specs.Solutions.{Solves}
use Rattle.typed_values.specs.Frames.{Frame, of, Stands}
use Rattle.typed_values.specs.World.{World}
use Rattle.typed_values.specs.Typed.{EndsWell, bind_from, Has, HasEach, Fits}
use Rattle.typed_values.specs.Simple.{IsPattern, ArePatterns}
use Rattle.typed_values.specs.Steps.{IfMatched, StepsKeepTypes}
use Rattle.typed_values.proofs.Names.{yes_or_no, solves_left, solves_right}
use Rattle.typed_values.proofs.Envs.{fits_bind, fits_known}

-- what is the same under the values is so in the frame
pub up : (f : Frame) (t u : Wanted) → value f.values t ≡ value f.values u → of f t ≡ of f u
up f t u e = ap (substitute f.stands) e

pub no_nonsense : {X : Type 0} (f : Frame) (pos : Pos) → Solves f.values (nonsense pos) → X
no_nonsense f pos h = absurd (let e : value f.values int_type ≡ value f.values (tuple []) = h.0 in cc)

match_well : (P : Env → Type 0) (Q : Option Env → Type 0) (o : End (Option Env)) (go : Env → End (Option Env)) → EndsWell (IfMatched P) o → Q None
    → ((env : Env) → P env → EndsWell Q (go env)) → EndsWell Q (and_match o go)
match_well P Q (Val None) go h n k = n
match_well P Q (Val (Some env)) go h n k = k env h
match_well P Q (Crashed t) go h n k = tt
match_well P Q OutOfFuel go h n k = tt
match_well P Q Unsafe go h n k = tt
match_well P Q Stuck go h n k = absurd h

test_well : (b : Bool) (P : Env → Type 0) (env : Env) → P env → IfMatched P (if b then Some env else None)
test_well true P env h = h
test_well false P env h = tt

module _ (W : World) (steps : StepsKeepTypes W) (U : Ref → Bool) (a : Frame) (bare : Stands a) where
  abbrev Matched : Scope → Option Env → Type 0
  Matched S = IfMatched (λ inner. Fits W inner U S a)

  mutual
    pub match_good : (q : Pattern) → IsPattern W q → (v : Value) (env : Env) (S : Scope) (here : Pos) (p : Place) (t : Wanted) → Solves a.values (pattern_items q S.known here p t)
        → Has W v (of a t) → Fits W env U S a → EndsWell (Matched (bind_pattern q p t S)) (matches q v env)
    match_good Anything proper v env S here p t sol has f = f
    match_good (Named x) proper v env S here p t sol has f = fits_bind W env (Local x) v t S.names U S a has f refl
    match_good (As q x) proper v env S here p t sol has f =
        match_well (λ inner. Fits W inner U (bind_pattern q p t S) a) (Matched (bind_pattern (As q x) p t S)) (matches q v env) (λ inner. Val (Some (Bind (Local x) v inner)))
        (match_good q proper v env S here p t sol has f) tt
        (λ inner g. fits_bind W inner (Local x) v t (bind_pattern q p t S).names U (bind_pattern q p t S) a has g refl)
    match_good (Exactly l) proper v env S here p t sol has f =
        let r = steps.literals l v a (subst (λ g. Has W v g) (sym (up a (literal_type l) t sol.0)) has) in
        subst (λ o. EndsWell (Matched S) (then_do o (λ same. Val (if same then Some env else None)))) (sym r.1) (test_well r.0 (λ inner. Fits W inner U S a) env f)
    match_good (Construct u alt qs) proper v env S here p t sol has f =
        let asked = shape_items u alt S.known here (child p 0) in
        let s = shape u alt S.known (child p 0) in
        let others = Same here s.result t ∷ patterns_items qs S.known here (child p 1) 0 s.parts in
        let rest = solves_right a asked others sol in
        let c = steps.constructs u alt S.known here (child p 0) a v (fits_known W env U S a f) proper.0 bare (solves_left a asked others sol) (subst (λ g. Has W v g) (sym (up a s.result t rest.0)) has) in
        let P = Matched (bind_pattern (Construct u alt qs) p t S) in
        let go : EndsWell P (if is_of c.tag c.fields alt then matches_all qs c.fields env else Val None) = elim (yes_or_no (is_of c.tag c.fields alt)) [
          | inl y ↦ subst (λ b. EndsWell P (if b then matches_all qs c.fields env else Val None)) (sym y) (matches_good qs proper.2 c.fields env S here (child p 1) 0 s.parts rest.1 (c.of_this y) f)
          | inr n ↦ subst (λ b. EndsWell P (if b then matches_all qs c.fields env else Val None)) (sym n) tt
        ] in
        subst (λ x. EndsWell P (matches (Construct u alt qs) x env)) (sym c.is)
        (subst (λ b. EndsWell P (if b then (if is_of c.tag c.fields alt then matches_all qs c.fields env else Val None) else Stuck)) (sym c.one) go)
    match_good (FieldsOf xs) proper v env S here p t sol has f = steps.fields xs here p t a v env U S proper bare sol has f
    match_good (LocatedPattern pos q) proper v env S here p t sol has f = match_good q proper v env S pos p t sol has f

    pub matches_good : (qs : Patterns) → ArePatterns W qs → (vs : Values) (env : Env) (S : Scope) (here : Pos) (p : Place) (i : ℕ) (ts : List Wanted) → Solves a.values (patterns_items qs S.known here p i ts)
        → HasEach W vs (map (of a) ts) → Fits W env U S a → EndsWell (Matched (bind_from qs p i ts S)) (matches_all qs vs env)
    matches_good NoPattern proper NoValue env S here p i [] sol has f = f
    matches_good NoPattern proper (MoreValue v vs) env S here p i [] sol has f = absurd has
    matches_good NoPattern proper vs env S here p i (t ∷ ts) sol has f = no_nonsense a here sol
    matches_good (MorePattern q qs) proper vs env S here p i [] sol has f = no_nonsense a here sol
    matches_good (MorePattern q qs) proper NoValue env S here p i (t ∷ ts) sol has f = absurd has
    matches_good (MorePattern q qs) proper (MoreValue v vs) env S here p i (t ∷ ts) sol has f =
        let first = pattern_items q S.known here (child p i) t in
        let rest = patterns_items qs S.known here p (i + 1) ts in
        match_well (λ inner. Fits W inner U (bind_pattern q (child p i) t S) a) (Matched (bind_from (MorePattern q qs) p i (t ∷ ts) S)) (matches q v env) (λ inner. matches_all qs vs inner)
        (match_good q proper.0 v env S here (child p i) t (solves_left a first rest sol) has.0 f) tt
        (λ inner g. matches_good qs proper.1 vs inner (bind_pattern q (child p i) t S) here p (i + 1) ts (solves_right a first rest sol) has.1 g)
