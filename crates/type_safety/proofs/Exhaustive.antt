-- Patterns of a type that leave nothing out pass over no value of the type.
use Rattle.std.proofs.Common.{◌≡◌, ℕ, ℤ, pos, negsuc, List, [], ◌∷◌, map, Bool, true, false, Option, Some, None, inl, inr, refl, sym, ◌∙◌, subst, eqb-true, eq-eqb}
use Rattle.std.specs.Prelude.{◌==◌, if◌then◌else◌}
use Rattle.std.specs.List.{AllByRecursion, Contains}
use Rattle.std.specs.Str.{bytes_eq}
use Rattle.std.proofs.lemmas.Slice.Eq.{bytes_eq-Decides}
use Rattle.runs.specs.Ends.{End, Val, Crashed, OutOfFuel, Unsafe, Stuck, then_do}
use Rattle.runs.specs.Numbers.{is_number}
use Rattle.elm_canon.specs.Names.{Name, same_name}
use Rattle.elm_canon.specs.declared.reference.Ref.TheVariants.{Local}
use Rattle.elm_canon.specs.declared.tree.Literal.{Literal}
use Rattle.elm_canon.specs.declared.tree.Literal.TheVariants as literal
use Rattle.elm_canon.specs.Unions.{alternatives}
use Rattle.elm_canon.specs.Tree.{Pattern, Anything, Named, As, Exactly, Construct, FieldsOf, LocatedPattern, Patterns}
use Rattle.elm_canon.specs.Tree.{NoPattern, MorePattern}
use Rattle.elm_canon.specs.Constructors as proper
use Rattle.elm_meaning.specs.Values.{Value, IntV, TextV, TagV, RecordV, CloV, KnownV, WireV, Values, NoValue, MoreValue}
use Rattle.elm_meaning.specs.Values.{FieldValues, Env, Bind, field_in}
use Rattle.elm_meaning.specs.Match.{matches, matches_all, and_match, bind_fields, is_of, is_of_one}
use Rattle.elm_type.specs.Classes.{Ground}
use Rattle.pattern_check.specs.Shapes.{Literally, Constructor, Shape, Begins, Shapes, NoShape, MoreShape, shape_of, shapes_of}
use Rattle.pattern_check.specs.Shapes.{overlaps, all_overlap, same_head}
use Rattle.pattern_check.specs.Missing.{missing}
use Rattle.pattern_check.proofs.Members.{no_member, member_cases, map_member}
use Rattle.pattern_check.proofs.Reported.{reports_all}
use Rattle.typed_values.specs.World.{World, IsSound}
use Rattle.typed_values.specs.Typed.{Has}
use Rattle.typed_values.specs.Exhaustive.{IsPatternOf}
use Rattle.typed_values.proofs.Names.{yes_or_no, not_both}
use Rattle.typed_values.proofs.Keeping.{and_left, and_right}
use Rattle.typed_values.proofs.Makers.{is_of_yes}
use Rattle.type_safety.proofs.TypedShapes.{OfType, Shows, ShowEach, head_tags, pattern_shape, shape_proper, shape_fits}
use Rattle.type_safety.proofs.TypedShapes.{value_shape}

-- ---- what does not match overlaps no shape of the value

abbrev Passed : End (Option Env) → Type 0
Passed o = o ≡ Val None

then_none : {X : Type 0} (o : End X) (go : X → End (Option Env)) → ((x : X) → Passed (go x) → ⊥) → Passed (then_do o go) → ⊥
then_none (Val x) go h e = h x e
then_none (Crashed t) go h e = absurd cc
then_none OutOfFuel go h e = absurd cc
then_none Unsafe go h e = absurd cc
then_none Stuck go h e = absurd cc

and_none : (o : End (Option Env)) (go : Env → End (Option Env)) → (Passed o → ⊥) → ((env : Env) → Passed (go env) → ⊥) → Passed (and_match o go) → ⊥
and_none (Val None) go n h e = n e
and_none (Val (Some env)) go n h e = h env e
and_none (Crashed t) go n h e = absurd cc
and_none OutOfFuel go n h e = absurd cc
and_none Unsafe go n h e = absurd cc
and_none Stuck go n h e = absurd cc

fields_none : (xs : List Name) (fs : FieldValues) (env : Env) → Passed (bind_fields xs fs env) → ⊥
fields_none [] fs env e = absurd cc
fields_none (x ∷ xs) fs env e =
    then_none (field_in x fs) (λ v. bind_fields xs fs (Bind (Local x) v env)) (λ v k. fields_none xs fs (Bind (Local x) v env) k) e

number_same : (m n : ℤ) → proper.same_int n m ≡ true → is_number m n ≡ true
number_same (pos m) (pos n) e = eq-eqb m n (sym (eqb-true n m e))
number_same (negsuc m) (negsuc n) e = eq-eqb m n (sym (eqb-true n m e))
number_same (pos m) (negsuc n) e = not_both false e refl
number_same (negsuc m) (pos n) e = not_both false e refl

text_same : (s t : List ℕ) → same_name s t ≡ true → bytes_eq t s ≡ true
text_same s t e = (bytes_eq-Decides t s).1 (sym ((bytes_eq-Decides s t).0 e))

test_none : (b : Bool) (env : Env) → b ≡ true → Passed (Val (if b then Some env else None)) → ⊥
test_none true env e k = absurd cc
test_none false env e k = not_both false e refl

-- a literal that the value shows
literal_none : (l : Literal) (v : Value) (env : Env) (s : Shape) → Shows v s → overlaps (shape_of (Exactly l)) s ≡ true
    → Passed (matches (Exactly l) v env) → ⊥
literal_none (literal.Int n) (IntV k) env s shows over e =
    let o : overlaps (shape_of (Exactly (literal.Int n))) (Begins (Literally (literal.Int k)) NoShape) ≡ true = subst (λ z. overlaps (shape_of (Exactly (literal.Int n))) z ≡ true) shows over in
    test_none (is_number k n) env (number_same k n (and_left (proper.same_int n k) true o)) e
literal_none (literal.Char t) (TextV us) env s (inl shows) over e =
    not_both false (subst (λ z. overlaps (shape_of (Exactly (literal.Char t))) z ≡ true) shows over) refl
literal_none (literal.Char t) (TextV us) env s (inr shows) over e =
    let o : overlaps (shape_of (Exactly (literal.Char t))) (Begins (Literally (literal.Char us)) NoShape) ≡ true = subst (λ z. overlaps (shape_of (Exactly (literal.Char t))) z ≡ true) shows over in
    test_none (bytes_eq us t) env (text_same t us (and_left (same_name t us) true o)) e
literal_none (literal.Text t) (TextV us) env s (inl shows) over e =
    let o : overlaps (shape_of (Exactly (literal.Text t))) (Begins (Literally (literal.Text us)) NoShape) ≡ true = subst (λ z. overlaps (shape_of (Exactly (literal.Text t))) z ≡ true) shows over in
    test_none (bytes_eq us t) env (text_same t us (and_left (same_name t us) true o)) e
literal_none (literal.Text t) (TextV us) env s (inr shows) over e =
    not_both false (subst (λ z. overlaps (shape_of (Exactly (literal.Text t))) z ≡ true) shows over) refl
literal_none (literal.Int n) (TextV us) env s shows over e = absurd cc
literal_none (literal.Int n) (TagV tag vs) env s shows over e = absurd cc
literal_none (literal.Int n) (RecordV fs) env s shows over e = absurd cc
literal_none (literal.Int n) (CloV inner qs b) env s shows over e = absurd cc
literal_none (literal.Int n) (KnownV k vs) env s shows over e = absurd cc
literal_none (literal.Int n) (WireV x) env s shows over e = absurd cc
literal_none (literal.Char t) (IntV k) env s shows over e = absurd cc
literal_none (literal.Char t) (TagV tag vs) env s shows over e = absurd cc
literal_none (literal.Char t) (RecordV fs) env s shows over e = absurd cc
literal_none (literal.Char t) (CloV inner qs b) env s shows over e = absurd cc
literal_none (literal.Char t) (KnownV k vs) env s shows over e = absurd cc
literal_none (literal.Char t) (WireV x) env s shows over e = absurd cc
literal_none (literal.Text t) (IntV k) env s shows over e = absurd cc
literal_none (literal.Text t) (TagV tag vs) env s shows over e = absurd cc
literal_none (literal.Text t) (RecordV fs) env s shows over e = absurd cc
literal_none (literal.Text t) (CloV inner qs b) env s shows over e = absurd cc
literal_none (literal.Text t) (KnownV k vs) env s shows over e = absurd cc
literal_none (literal.Text t) (WireV x) env s shows over e = absurd cc

mutual
  shown_none : (q : Pattern) (v : Value) (env : Env) (s : Shape) → Shows v s → overlaps (shape_of q) s ≡ true → Passed (matches q v env) → ⊥
  shown_none Anything v env s shows over e = absurd cc
  shown_none (Named x) v env s shows over e = absurd cc
  shown_none (As q x) v env s shows over e =
      and_none (matches q v env) (λ inner. Val (Some (Bind (Local x) v inner))) (shown_none q v env s shows over) (λ inner k. absurd cc) e
  shown_none (Exactly l) v env s shows over e = literal_none l v env s shows over e
  shown_none (Construct u a qs) (TagV tag vs) env s shows over e =
      let b = shows.1 in
      let o : overlaps (shape_of (Construct u a qs)) (Begins (Constructor shows.0 b) shows.2) ≡ true = subst (λ z. overlaps (shape_of (Construct u a qs)) z ≡ true) shows.3 over in
      let same = and_left (same_head (Constructor u a) (Constructor shows.0 b)) (all_overlap (shapes_of qs) shows.2) o in
      let t : a.tag ≡ tag = head_tags u shows.0 a b same ∙ shows.4 in
      let n : a.arity ≡ b.arity = eqb-true a.arity b.arity (and_right (proper.same_tag a.tag b.tag) (a.arity == b.arity) same) in
      let yes : is_of tag vs a ≡ true = is_of_yes tag vs a t (shows.5 ∙ sym n) in
      let rest = shown_all qs vs env shows.2 shows.6 (and_right (same_head (Constructor u a) (Constructor shows.0 b)) (all_overlap (shapes_of qs) shows.2) o) in
      go (is_of_one tag vs (alternatives u)) (is_of tag vs a) yes rest e
    where
      go : (b c : Bool) → c ≡ true → (Passed (matches_all qs vs env) → ⊥)
          → Passed (if b then (if c then matches_all qs vs env else Val None) else Stuck) → ⊥
      go true true y r k = r k
      go true false y r k = not_both false y refl
      go false c y r k = absurd cc
  shown_none (Construct u a qs) (IntV n) env s shows over e = absurd cc
  shown_none (Construct u a qs) (TextV us) env s shows over e = absurd cc
  shown_none (Construct u a qs) (RecordV fs) env s shows over e = absurd cc
  shown_none (Construct u a qs) (CloV inner ps b) env s shows over e = absurd cc
  shown_none (Construct u a qs) (KnownV k vs) env s shows over e = absurd cc
  shown_none (Construct u a qs) (WireV x) env s shows over e = absurd cc
  shown_none (FieldsOf xs) (RecordV fs) env s shows over e = fields_none xs fs env e
  shown_none (FieldsOf xs) (IntV n) env s shows over e = absurd cc
  shown_none (FieldsOf xs) (TextV us) env s shows over e = absurd cc
  shown_none (FieldsOf xs) (TagV tag vs) env s shows over e = absurd cc
  shown_none (FieldsOf xs) (CloV inner ps b) env s shows over e = absurd cc
  shown_none (FieldsOf xs) (KnownV k vs) env s shows over e = absurd cc
  shown_none (FieldsOf xs) (WireV x) env s shows over e = absurd cc
  shown_none (LocatedPattern start q) v env s shows over e = shown_none q v env s shows over e

  shown_all : (qs : Patterns) (vs : Values) (env : Env) (ss : Shapes) → ShowEach vs ss → all_overlap (shapes_of qs) ss ≡ true → Passed (matches_all qs vs env) → ⊥
  shown_all NoPattern NoValue env ss show over e = absurd cc
  shown_all NoPattern (MoreValue v vs) env ss show over e = absurd cc
  shown_all (MorePattern q qs) NoValue env ss show over e = absurd cc
  shown_all (MorePattern q qs) (MoreValue v vs) env ss show over e =
      let o : all_overlap (shapes_of (MorePattern q qs)) (MoreShape show.0 show.1) ≡ true = subst (λ z. all_overlap (shapes_of (MorePattern q qs)) z ≡ true) show.2 over in
      and_none (matches q v env) (λ inner. matches_all qs vs inner)
      (shown_none q v env show.0 show.3 (and_left (overlaps (shape_of q) show.0) (all_overlap (shapes_of qs) show.1) o))
      (λ inner k. shown_all qs vs inner show.1 show.4 (and_right (overlaps (shape_of q) show.0) (all_overlap (shapes_of qs) show.1) o) k) e

-- ---- patterns of one type

all_at : {X : Type 0} (P : X → Type 0) (xs : List X) (x : X) → AllByRecursion P xs → Contains xs x → P x
all_at P [] x h m = absurd (no_member x m)
all_at P (y ∷ xs) x h m = elim (member_cases y x xs m) [ inl e ↦ subst P e h.0 | inr k ↦ all_at P xs x h.1 k ]

abbrev pub AllPass : List Pattern → Value → Env → Type 0
AllPass ps v env = AllByRecursion (λ p. matches p v env ≡ Val None) ps

module _ (w : World) (sound : IsSound w) where
  shape_of_type : (g : Ground) (q : Pattern) → IsPatternOf w g q → OfType w (shape_of q) g
  shape_of_type g q t = subst (OfType w (shape_of q)) t.is (pattern_shape w sound t.known t.is_known q t.is_pattern t.here t.place t.wanted t.frame t.solves)

  -- no value is passed over by patterns that leave nothing out
  pub none_passed : (ps : List Pattern) (v : Value) (g : Ground) (env : Env) → AllByRecursion (IsPatternOf w g) ps → missing ps ≡ None → Has w v g
      → AllPass ps v env → ⊥
  none_passed ps v g env typed none has passed =
      let own = value_shape w sound v g has in
      let at_shape : (s : Shape) → Contains (map shape_of ps) s → OfType w s g =
      λ s m. (let k = map_member shape_of ps s m in subst (λ z. OfType w z g) k.2 (shape_of_type g k.0 (all_at (IsPatternOf w g) ps k.0 typed k.1))) in
      reports_all ps (record {
        proper = λ s m. shape_proper w sound s g (at_shape s m);
        alike = λ s t m n. shape_fits w sound s t g (at_shape s m) (at_shape t n);
      }) none (
        own.0,
        record {
          proper = shape_proper w sound own.0 g own.1;
          fits = λ s m. shape_fits w sound s own.0 g (at_shape s m) own.1;
          avoids = λ s m.
              let k = map_member shape_of ps s m in
              subst (λ z. overlaps z own.0 ≡ false) k.2 (avoids k.0 own.0 own.2 (all_at (λ p. matches p v env ≡ Val None) ps k.0 passed k.1));
        },
      )
    where
      avoids : (q : Pattern) (s : Shape) → Shows v s → Passed (matches q v env) → overlaps (shape_of q) s ≡ false
      avoids q s shows e = elim (yes_or_no (overlaps (shape_of q) s)) [ inl y ↦ absurd (shown_none q v env s shows y e) | inr n ↦ n ]
