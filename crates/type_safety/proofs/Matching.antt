-- Some pattern matches, where nothing is missing.
use Rattle.std.proofs.Common.{◌≡◌, List, [], ◌∷◌, Bool, true, false, Option, Some, None, ◌⊎◌, inl, inr, refl, sym, subst}
use Rattle.std.specs.Prelude.{◌||◌, if◌then◌else◌}
use Rattle.std.specs.List.{AllByRecursion, Contains}
use Rattle.runs.specs.Ends.{End, Val, Crashed, OutOfFuel, Unsafe, Stuck, then_do}
use Rattle.elm_canon.specs.Names.{Name, same_ref}
use Rattle.elm_canon.specs.declared.reference.Ref.{Ref}
use Rattle.elm_canon.specs.declared.reference.Ref.TheVariants.{Local}
use Rattle.elm_canon.specs.declared.tree.Literal.{Literal}
use Rattle.elm_canon.specs.declared.tree.Literal.TheVariants as literal
use Rattle.elm_canon.specs.Unions.{alternatives}
use Rattle.elm_canon.specs.Tree.{Pattern, Anything, Named, As, Exactly, Construct, FieldsOf, LocatedPattern, Patterns}
use Rattle.elm_canon.specs.Tree.{NoPattern, MorePattern, Functions, NoFunction, MoreFunction}
use Rattle.elm_meaning.specs.Values.{Value, IntV, TextV, TagV, RecordV, CloV, KnownV, WireV, Values, NoValue, MoreValue}
use Rattle.elm_meaning.specs.Values.{FieldValues, NoFieldV, MoreFieldV, Env, Nil, Bind, BindGroup, field_in}
use Rattle.elm_meaning.specs.Match.{matches, matches_all, and_match, bind_fields, is_literal, is_of, is_of_one}
use Rattle.elm_type.specs.Classes.{Ground}
use Rattle.type_items.specs.Scopes.{Scope}
use Rattle.type_items.specs.Patterns.{bind_pattern}
use Rattle.pattern_check.proofs.Members.{first_member, later_member}
use Rattle.typed_values.specs.Frames.{Frame}
use Rattle.typed_values.specs.World.{KnownIn, World, IsSound}
use Rattle.typed_values.specs.Typed.{EndsWell, Has, Fits, Members, Stages, or_named, hides}
use Rattle.typed_values.specs.Steps.{IfMatched}
use Rattle.typed_values.specs.Exhaustive.{IsPatternOf}
use Rattle.type_safety.specs.Matches.{SomePatternMatches}
use Rattle.typed_values.proofs.Names.{not_both}
use Rattle.typed_values.proofs.Patterns.{match_good}
use Rattle.type_safety.proofs.Exhaustive.{AllPass, none_passed}
use Rattle.type_safety.proofs.Sound.{steps_keep_types}

-- ---- a match ends with a value, or is Stuck

abbrev Plain : {X : Type 0} → End X → Type 0
Plain (Val x) = Unit {0}
Plain Stuck = Unit {0}
Plain (Crashed t) = ⊥
Plain OutOfFuel = ⊥
Plain Unsafe = ⊥

then_plain : {X Y : Type 0} (o : End X) (go : X → End Y) → Plain o → ((x : X) → Plain (go x)) → Plain (then_do o go)
then_plain (Val x) go h k = k x
then_plain Stuck go h k = tt
then_plain (Crashed t) go h k = absurd h
then_plain OutOfFuel go h k = absurd h
then_plain Unsafe go h k = absurd h

and_plain : (o : End (Option Env)) (go : Env → End (Option Env)) → Plain o → ((env : Env) → Plain (go env)) → Plain (and_match o go)
and_plain (Val None) go h k = tt
and_plain (Val (Some env)) go h k = k env
and_plain Stuck go h k = tt
and_plain (Crashed t) go h k = absurd h
and_plain OutOfFuel go h k = absurd h
and_plain Unsafe go h k = absurd h

if_plain : {X : Type 0} (b : Bool) (o p : End X) → Plain o → Plain p → Plain (if b then o else p)
if_plain true o p h k = h
if_plain false o p h k = k

field_plain : (x : Name) (fs : FieldValues) → Plain (field_in x fs)
field_plain x NoFieldV = tt
field_plain x (MoreFieldV k v fs) = if_plain _ (Val v) (field_in x fs) tt (field_plain x fs)

fields_plain : (xs : List Name) (fs : FieldValues) (env : Env) → Plain (bind_fields xs fs env)
fields_plain [] fs env = tt
fields_plain (x ∷ xs) fs env =
    then_plain (field_in x fs) (λ v. bind_fields xs fs (Bind (Local x) v env)) (field_plain x fs) (λ v. fields_plain xs fs (Bind (Local x) v env))

literal_plain : (l : Literal) (v : Value) → Plain (is_literal l v)
literal_plain (literal.Int n) (IntV m) = tt
literal_plain (literal.Int n) (TextV t) = tt
literal_plain (literal.Int n) (TagV tag vs) = tt
literal_plain (literal.Int n) (RecordV fs) = tt
literal_plain (literal.Int n) (CloV env qs e) = tt
literal_plain (literal.Int n) (KnownV k vs) = tt
literal_plain (literal.Int n) (WireV x) = tt
literal_plain (literal.Char s) (IntV m) = tt
literal_plain (literal.Char s) (TextV t) = tt
literal_plain (literal.Char s) (TagV tag vs) = tt
literal_plain (literal.Char s) (RecordV fs) = tt
literal_plain (literal.Char s) (CloV env qs e) = tt
literal_plain (literal.Char s) (KnownV k vs) = tt
literal_plain (literal.Char s) (WireV x) = tt
literal_plain (literal.Text s) (IntV m) = tt
literal_plain (literal.Text s) (TextV t) = tt
literal_plain (literal.Text s) (TagV tag vs) = tt
literal_plain (literal.Text s) (RecordV fs) = tt
literal_plain (literal.Text s) (CloV env qs e) = tt
literal_plain (literal.Text s) (KnownV k vs) = tt
literal_plain (literal.Text s) (WireV x) = tt

mutual
  match_plain : (q : Pattern) (v : Value) (env : Env) → Plain (matches q v env)
  match_plain Anything v env = tt
  match_plain (Named x) v env = tt
  match_plain (As q x) v env = and_plain (matches q v env) (λ inner. Val (Some (Bind (Local x) v inner))) (match_plain q v env) (λ inner. tt)
  match_plain (Exactly l) v env = then_plain (is_literal l v) (λ same. Val (if same then Some env else None)) (literal_plain l v) (λ same. tt)
  match_plain (Construct u a qs) (TagV tag vs) env =
      if_plain (is_of_one tag vs (alternatives u)) (if is_of tag vs a then matches_all qs vs env else Val None) Stuck
      (if_plain (is_of tag vs a) (matches_all qs vs env) (Val None) (all_plain qs vs env) tt) tt
  match_plain (Construct u a qs) (IntV n) env = tt
  match_plain (Construct u a qs) (TextV us) env = tt
  match_plain (Construct u a qs) (RecordV fs) env = tt
  match_plain (Construct u a qs) (CloV inner ps b) env = tt
  match_plain (Construct u a qs) (KnownV k vs) env = tt
  match_plain (Construct u a qs) (WireV x) env = tt
  match_plain (FieldsOf xs) (RecordV fs) env = fields_plain xs fs env
  match_plain (FieldsOf xs) (IntV n) env = tt
  match_plain (FieldsOf xs) (TextV us) env = tt
  match_plain (FieldsOf xs) (TagV tag vs) env = tt
  match_plain (FieldsOf xs) (CloV inner ps b) env = tt
  match_plain (FieldsOf xs) (KnownV k vs) env = tt
  match_plain (FieldsOf xs) (WireV x) env = tt
  match_plain (LocatedPattern start q) v env = match_plain q v env

  all_plain : (qs : Patterns) (vs : Values) (env : Env) → Plain (matches_all qs vs env)
  all_plain NoPattern NoValue env = tt
  all_plain NoPattern (MoreValue v vs) env = tt
  all_plain (MorePattern q qs) NoValue env = tt
  all_plain (MorePattern q qs) (MoreValue v vs) env =
      and_plain (matches q v env) (λ inner. matches_all qs vs inner) (match_plain q v env) (λ inner. all_plain qs vs inner)

-- ---- every environment fits a scope all of whose names are hidden

abbrev AllHidden : (Ref → Bool) → Type 0
AllHidden U = (x : Ref) → U x ≡ true

or_hidden : (x : Ref) (U : Ref → Bool) → AllHidden U → AllHidden (or_named x U)
or_hidden x U h y = go (same_ref y x)
  where
    go : (b : Bool) → (b || U y) ≡ true
    go true = refl
    go false = h y

hides_hidden : (fs : Functions) (U : Ref → Bool) → AllHidden U → AllHidden (hides fs U)
hides_hidden NoFunction U h = h
hides_hidden (MoreFunction title qs e fs) U h = hides_hidden fs (or_named title.name U) (or_hidden title.name U h)

members_hidden : (w : World) (s : Stages) (fs : Functions) (U : Ref → Bool) (S : Scope) (f : Frame) → AllHidden U → Members w s fs U S f
members_hidden w s NoFunction U S f h = tt
members_hidden w s (MoreFunction title qs e fs) U S f h = (
  λ n. not_both (U title.name) (h title.name) n,
  members_hidden w s fs (or_named title.name U) S f (or_hidden title.name U h),
)

fits_hidden : (w : World) (env : Env) (U : Ref → Bool) (S : Scope) (f : Frame) → KnownIn w S.known → AllHidden U → Fits w env U S f
fits_hidden w Nil U S f k h = (k, λ x entry e. h x)
fits_hidden w (Bind x v env) U S f k h = ((λ n entry e. not_both (U x) (h x) n), fits_hidden w env (or_named x U) S f k (or_hidden x U h))
fits_hidden w (BindGroup fs env) U S f k h =
    let stages : Stages = record { scopes = λ n q. S; listed = λ n q. []; hidden = λ n. U; around = S; base = f } in record {
      stages = stages;
      members = members_hidden w stages fs U S f h;
      rest = fits_hidden w env (hides fs U) S f k (hides_hidden fs U h);
      closing = λ n q g at_stage. (members_hidden w stages fs U S g h, fits_hidden w env (hides fs U) S g k (hides_hidden fs U h));
    }

-- ---- some pattern matches

abbrev Matched : Pattern → Value → Env → Type 0
Matched p v env = (inner : Env) × (matches p v env ≡ Val (Some inner))

module _ (w : World) (sound : IsSound w) where
  -- a pattern of the value's type matches it or does not
  decided : (g : Ground) (p : Pattern) (v : Value) (env : Env) → IsPatternOf w g p → Has w v g → (matches p v env ≡ Val None) ⊎ Matched p v env
  decided g p v env t has = go (matches p v env) refl (match_plain p v env) well
    where
      S : Scope
      S = record { known = t.known; names = []; constants = [] }

      U : Ref → Bool
      U x = true

      well : EndsWell (IfMatched (λ inner. Fits w inner U (bind_pattern p t.place t.wanted S) t.frame)) (matches p v env)
      well =
          match_good w (steps_keep_types w sound) U t.frame t.stands p t.is_pattern v env S t.here t.place t.wanted t.solves
          (subst (λ h. Has w v h) (sym t.is) has) (fits_hidden w env U S t.frame t.is_known (λ x. refl))

      go : (o : End (Option Env)) → matches p v env ≡ o → Plain o → EndsWell (IfMatched (λ inner. Fits w inner U (bind_pattern p t.place t.wanted S) t.frame)) o
          → (matches p v env ≡ Val None) ⊎ Matched p v env
      go (Val None) e plain ends = inl e
      go (Val (Some inner)) e plain ends = inr (inner, e)
      go (Crashed text) e plain ends = absurd plain
      go OutOfFuel e plain ends = absurd plain
      go Unsafe e plain ends = absurd plain
      go Stuck e plain ends = absurd ends

  search_match : (g : Ground) (ps : List Pattern) (v : Value) (env : Env) → AllByRecursion (IsPatternOf w g) ps → Has w v g
      → ((p : Pattern) × Contains ps p × Matched p v env) ⊎ AllPass ps v env
  search_match g [] v env typed has = inr tt
  search_match g (p ∷ ps) v env typed has = elim (decided g p v env typed.0 has) [
    | inr m ↦ inl (p, first_member p ps, m)
    | inl e ↦ elim (search_match g ps v env typed.1 has) [ inl m ↦ inl (m.0, later_member p m.0 ps m.1, m.2) | inr all ↦ inr (e, all) ]
  ]

pub some_matches : SomePatternMatches
some_matches w sound ps v g env typed none has = elim (search_match w sound g ps v env typed has) [
  | inl m ↦ m
  | inr all ↦ absurd (none_passed w sound ps v g env typed none has all)
]
