-- What the tests of a column give in JavaScript, and the parts of a value by their paths.
use Rattle.std.proofs.Common.{◌≡◌, ℕ, pos, negsuc, ℤ, List, [], ◌∷◌, Bool, true, false, nat_eq, not, refl, sym, ap, ◌∙◌, subst}
use Rattle.std.specs.Prelude.{if◌then◌else◌, ◌&&◌, ◌||◌, codes}
use Rattle.std.specs.List.{list_all}
use Rattle.std.specs.Str.{bytes_eq}
use Rattle.runs.specs.Ends.{Val, then_do, MVal, and_then, with_budget}
use Rattle.elm_canon.specs.declared.unions.Tag.{Tag}
use Rattle.elm_canon.specs.declared.unions.Tag.TheVariants.{Number, Truth, Blank}
use Rattle.elm_canon.specs.declared.unions.Alternative.{Alternative}
use Rattle.elm_canon.specs.Unions.{Union, alternatives}
use Rattle.elm_canon.specs.declared.tree.Literal.{Literal}
use Rattle.elm_canon.specs.declared.tree.Literal.TheVariants as literal
use Rattle.elm_meaning.specs.Values.{Value, IntV, TextV, TagV, Values, NoValue, count_of}
use Rattle.runs.specs.Numbers.{is_number}
use Rattle.elm_meaning.specs.Seen.{same_tag}
use Rattle.elm_meaning.specs.Match.{is_of, is_of_one}
use Rattle.elm_canon.specs.Constructors as proper
use Rattle.elm_canon.specs.Constructors.{same_kind, are_apart, is_exact_alternative}
use Rattle.js_emit.specs.Matrix.{Test, Literally, Tagged, has_test, tests_of_union, is_alike}
use Rattle.js_tree.specs.Tree.{Js, JInt, JBool, JText, JProperty, JBinary, StrictEquals}
use Rattle.js_meaning.specs.Values.{JVal, JNumV, JBoolV, JTextV, JEnv, get_field}
use Rattle.js_meaning.specs.Lists as lists
use Rattle.js_meaning.specs.Lists.{part_name, tagged}
use Rattle.js_meaning.specs.Shapes.{same_bool}
use Rattle.js_meaning.specs.Eval.{JCallee, JLoop, j_eval, strictly_equal}
use Rattle.js_emit.specs.Choice.{tag_js, test_js}
use Rattle.emit_laws.specs.For.{For, for_int, for_text, for_number, for_truth, for_blank}
use Rattle.emit_laws.proofs.Rows.{meets, of_parts, is_of_both, test_parts, both_true, tag_same, tag_itself, number_same}
use Rattle.emit_laws.proofs.Choose.{Kinded, kind_int, kind_char, kind_text, kind_tag, literal_apart}

-- numbers are the same on both sides
number_tags : {m n : ℤ} → Number m ≡ Number n → is_number m n ≡ true
number_tags {m} {n} e = subst (λ t. same_tag (Number m) t ≡ true) e (tag_itself (Number m))

numbers_same : (m n : ℤ) → lists.is_number m n ≡ is_number m n
numbers_same (pos m) (pos n) = refl
numbers_same (negsuc m) (negsuc n) = refl
numbers_same (pos m) (negsuc n) = refl
numbers_same (negsuc m) (pos n) = refl

bools_same : (b c : Bool) → same_bool b c ≡ same_tag (Truth b) (Truth c)
bools_same true true = refl
bools_same true false = refl
bools_same false true = refl
bools_same false false = refl

-- Of constructors with tags that stand apart the tag alone decides.

abbrev pub ProperTest : Test → Type 0
ProperTest (Literally l) = Unit {0}
ProperTest (Tagged u a) = (are_apart (alternatives u) ≡ true) × (list_all (λ b. same_kind a.tag b.tag) (alternatives u) ≡ true)

not_true : (b : Bool) → not b ≡ true → b ≡ true → ⊥
not_true true n e = absurd (cc)
not_true false n e = absurd (cc)

-- tags are told apart alike
tags_alike : (s t : Tag) → same_tag s t ≡ proper.same_tag s t
tags_alike (Number (pos m)) (Number (pos n)) = refl
tags_alike (Number (pos m)) (Number (negsuc n)) = refl
tags_alike (Number (negsuc m)) (Number (pos n)) = refl
tags_alike (Number (negsuc m)) (Number (negsuc n)) = refl
tags_alike (Number m) (Truth b) = refl
tags_alike (Number m) Blank = refl
tags_alike (Truth true) (Truth b) = refl
tags_alike (Truth false) (Truth true) = refl
tags_alike (Truth false) (Truth false) = refl
tags_alike (Truth b) (Number n) = refl
tags_alike (Truth b) Blank = refl
tags_alike Blank (Number n) = refl
tags_alike Blank (Truth b) = refl
tags_alike Blank Blank = refl

abbrev has_tag : Tag → List Alternative → Bool
has_tag t [] = false
has_tag t (a ∷ others) = same_tag t a.tag || has_tag t others

has_alike : (t : Tag) (as' : List Alternative) → has_tag t as' ≡ proper.has_tag t as'
has_alike t [] = refl
has_alike t (a ∷ as') = ap (λ b. b || has_tag t as') (tags_alike t a.tag) ∙ ap (λ b. proper.same_tag t a.tag || b) (has_alike t as')

-- a test of the union has a tag of the union
tag_of_test : (u w : Union) (b : Alternative) (as' : List Alternative) → has_test (Tagged w b) (tests_of_union u as') ≡ true → has_tag b.tag as' ≡ true
tag_of_test u w b [] h = absurd (cc)
tag_of_test u w b (a ∷ as') h = go (same_tag b.tag a.tag) (nat_eq b.arity a.arity) h (tag_of_test u w b as')
  where
    go : (s n : Bool) → (if (s && n) then true else has_test (Tagged w b) (tests_of_union u as')) ≡ true → (has_test (Tagged w b) (tests_of_union u as') ≡ true → has_tag b.tag as' ≡ true) → (s || has_tag b.tag as') ≡ true
    go true n h rest = refl
    go false n h rest = rest h

tag_of_value : (tag : Tag) (vs : Values) (as' : List Alternative) → is_of_one tag vs as' ≡ true → has_tag tag as' ≡ true
tag_of_value tag vs [] h = absurd (cc)
tag_of_value tag vs (a ∷ as') h = go (same_tag tag a.tag) (nat_eq (count_of vs) a.arity) h (tag_of_value tag vs as')
  where
    go : (s n : Bool) → ((s && n) || is_of_one tag vs as') ≡ true → (is_of_one tag vs as' ≡ true → has_tag tag as' ≡ true) → (s || has_tag tag as') ≡ true
    go true n h rest = refl
    go false n h rest = rest h

apart_parts : (a b c : Bool) → (a && (not b && c)) ≡ true → (b ≡ true → ⊥) × (c ≡ true)
apart_parts a b c e = let p = both_true a (not b && c) e in let q = both_true (not b) c p.1 in (not_true b q.0, q.1)

arity_by_tag : (u w : Union) (tag : Tag) (vs : Values) (b : Alternative) → tag ≡ b.tag → (as' : List Alternative) → are_apart as' ≡ true → is_of_one tag vs as' ≡ true → has_test (Tagged w b) (tests_of_union u as') ≡ true → count_of vs ≡ b.arity
arity_by_tag u w tag vs b same [] apart one has = absurd (cc)
arity_by_tag u w tag vs b same (a ∷ as') apart one has =
    let parts = apart_parts (is_exact_alternative a) (proper.has_tag a.tag as') (are_apart as') apart in
    go (is_of tag vs a) (same_tag b.tag a.tag && nat_eq b.arity a.arity) refl refl one has (λ h. parts.0 (sym (has_alike a.tag as') ∙ h)) (arity_by_tag u w tag vs b same as' parts.1)
  where
    go : (this test : Bool) → is_of tag vs a ≡ this → (same_tag b.tag a.tag && nat_eq b.arity a.arity) ≡ test → (this || is_of_one tag vs as') ≡ true → (if test then true else has_test (Tagged w b) (tests_of_union u as')) ≡ true → (has_tag a.tag as' ≡ true → ⊥) → (is_of_one tag vs as' ≡ true → has_test (Tagged w b) (tests_of_union u as') ≡ true → count_of vs ≡ b.arity) → count_of vs ≡ b.arity
    go true true i t one has apart rest = (of_parts tag vs a i).1 ∙ sym (test_parts b a t).1
    go true false i t one has apart rest = absurd (apart (subst (λ x. has_tag x as' ≡ true) (sym same ∙ (of_parts tag vs a i).0) (tag_of_test u w b as' has)))
    go false true i t one has apart rest = absurd (apart (subst (λ x. has_tag x as' ≡ true) (same ∙ (test_parts b a t).0) (tag_of_value tag vs as' one)))
    go false false i t one has apart rest = rest one has

kind_by_tag : (tag t : Tag) (as' : List Alternative) → list_all (λ b. same_kind t b.tag) as' ≡ true → has_tag tag as' ≡ true → same_kind t tag ≡ true
kind_by_tag tag t [] k h = absurd (cc)
kind_by_tag tag t (a ∷ as') k h =
    let parts = both_true (same_kind t a.tag) (list_all (λ b. same_kind t b.tag) as') k in
    go (same_tag tag a.tag) refl h parts.0 (kind_by_tag tag t as' parts.1)
  where
    go : (s : Bool) → same_tag tag a.tag ≡ s → (s || has_tag tag as') ≡ true → same_kind t a.tag ≡ true → (has_tag tag as' ≡ true → same_kind t tag ≡ true) → same_kind t tag ≡ true
    go true is h k rest = subst (λ x. same_kind t x ≡ true) (sym (tag_same tag a.tag is)) k
    go false is h k rest = rest h

-- of one kind with a third
kinds_meet : (r s t : Tag) → same_kind r s ≡ true → same_kind r t ≡ true → same_kind s t ≡ true
kinds_meet (Number i) (Number j) (Number k) e f = refl
kinds_meet (Truth i) (Truth j) (Truth k) e f = refl
kinds_meet Blank Blank Blank e f = refl
kinds_meet (Number i) (Truth j) t e f = absurd (cc)
kinds_meet (Number i) Blank t e f = absurd (cc)
kinds_meet (Number i) (Number j) (Truth k) e f = absurd (cc)
kinds_meet (Number i) (Number j) Blank e f = absurd (cc)
kinds_meet (Truth i) (Number j) t e f = absurd (cc)
kinds_meet (Truth i) Blank t e f = absurd (cc)
kinds_meet (Truth i) (Truth j) (Number k) e f = absurd (cc)
kinds_meet (Truth i) (Truth j) Blank e f = absurd (cc)
kinds_meet Blank (Number j) t e f = absurd (cc)
kinds_meet Blank (Truth j) t e f = absurd (cc)
kinds_meet Blank Blank (Number k) e f = absurd (cc)
kinds_meet Blank Blank (Truth k) e f = absurd (cc)

false≢true' : {A : Type 0} → false ≡ true → A
false≢true' e = absurd (cc)

val_true : {b : Bool} → Val b ≡ Val true → b ≡ true
val_true e = cc

-- of one value and one test of one union the kinds are the same
kinds_same : (u w : Union) (a : Alternative) (tag : Tag) (vs : Values) (b : Alternative) → is_of_one tag vs (alternatives u) ≡ true → is_alike (Tagged u a) (Tagged w b) ≡ true → ProperTest (Tagged u a) → same_kind tag b.tag ≡ true
kinds_same u w a tag vs b one alike pr =
    kinds_meet a.tag tag b.tag (kind_by_tag tag a.tag (alternatives u) pr.1 (tag_of_value tag vs (alternatives u) one)) (kind_by_tag b.tag a.tag (alternatives u) pr.1 (tag_of_test u w b (alternatives u) alike))

-- the tag decides
met_by_tag : (u w : Union) (a : Alternative) (tag : Tag) (vs : Values) (b : Alternative) → is_of_one tag vs (alternatives u) ≡ true → is_alike (Tagged u a) (Tagged w b) ≡ true → ProperTest (Tagged u a) → tag ≡ b.tag → meets (Tagged w b) (TagV tag vs) ≡ Val true
met_by_tag u w a tag vs b one alike pr same = ap (λ x. Val x) (is_of_both tag vs b same (arity_by_tag u w tag vs b same (alternatives u) pr.0 one alike))

tag_by_met : (w : Union) (tag : Tag) (vs : Values) (b : Alternative) → meets (Tagged w b) (TagV tag vs) ≡ Val true → tag ≡ b.tag
tag_by_met w tag vs b e = (of_parts tag vs b (val_true e)).0

module _ (call : JCallee) (loop : JLoop) (env : JEnv) where
  -- the value of an expression that costs nothing
  abbrev pub Is : Js → JVal → Type 0
  Is x w = (m : ℕ) → j_eval call loop x env m ≡ MVal w m

  pub record TestRight (t : Test) (v : Value) (path : Js) : Type 0 where
    pub answer : Bool
    pub is : Is (test_js t path) (JBoolV answer)
    pub yes : answer ≡ true → meets t v ≡ Val true
    pub fails : answer ≡ false → meets t v ≡ Val true → ⊥

  val_false : {b : Bool} {A : Type 0} → b ≡ false → Val b ≡ Val true → A
  val_false e f = absurd (cc)

  strict : (path : Js) (w : JVal) (x : Js) (y : JVal) → Is path w → Is x y → (b : Bool) → strictly_equal w y ≡ Val b → Is (JBinary StrictEquals path x) (JBoolV b)
  strict path w x y p q b e m =
      ap (λ o. and_then o (λ v m1. and_then (j_eval call loop x env m1) (λ u m3. with_budget (then_do (strictly_equal v u) (λ same. Val (JBoolV same))) m3))) (p m)
      ∙ ap (λ o. and_then o (λ u m3. with_budget (then_do (strictly_equal w u) (λ same. Val (JBoolV same))) m3)) (q m)
      ∙ ap (λ o. with_budget (then_do o (λ same. Val (JBoolV same))) m) e

  pub property : (path : Js) (k : List ℕ) (w x : JVal) → Is path w → get_field k w ≡ Val x → Is (JProperty path k) x
  property path k w x p e m = ap (λ o. and_then o (λ v m1. with_budget (get_field k v) m1)) (p m) ∙ ap (λ o. with_budget o m) e

  -- a literal's test
  int_right : (l : Literal) (n : ℤ) (path : Js) → Is path (JNumV n) → TestRight (Literally l) (IntV n) path
  int_right (literal.Int j) n path p = record {
    answer = is_number n j;
    is = strict path (JNumV n) (JInt j) (JNumV j) p (λ m. refl) (is_number n j) (ap (λ b. Val b) (numbers_same n j));
    yes = λ e. ap (λ b. Val b) e;
    fails = λ e f. val_false e f;
  }
  int_right (literal.Char s) n path p = record { answer = false; is = strict path (JNumV n) (JText s) (JTextV s) p (λ m. refl) false refl; yes = λ e. false≢true' e; fails = λ e f. absurd (cc) }
  int_right (literal.Text s) n path p = record { answer = false; is = strict path (JNumV n) (JText s) (JTextV s) p (λ m. refl) false refl; yes = λ e. false≢true' e; fails = λ e f. absurd (cc) }

  text_right : (l : Literal) (t : List ℕ) (path : Js) → Is path (JTextV t) → TestRight (Literally l) (TextV t) path
  text_right (literal.Int j) t path p = record { answer = false; is = strict path (JTextV t) (JInt j) (JNumV j) p (λ m. refl) false refl; yes = λ e. false≢true' e; fails = λ e f. absurd (cc) }
  text_right (literal.Char s) t path p = record { answer = bytes_eq t s; is = strict path (JTextV t) (JText s) (JTextV s) p (λ m. refl) (bytes_eq t s) refl; yes = λ e. ap (λ b. Val b) e; fails = λ e f. val_false e f }
  text_right (literal.Text s) t path p = record { answer = bytes_eq t s; is = strict path (JTextV t) (JText s) (JTextV s) p (λ m. refl) (bytes_eq t s) refl; yes = λ e. ap (λ b. Val b) e; fails = λ e f. val_false e f }

  -- a constructor's test, by its tag and the value's
  tag_right : (w : Union) (tag : Tag) (vs : Values) (b : Alternative) (x : JVal) (path : Js) → For (TagV tag vs) x → Is path x → same_kind tag b.tag ≡ true → (tag ≡ b.tag → meets (Tagged w b) (TagV tag vs) ≡ Val true) → TestRight (Tagged w b) (TagV tag vs) path
  tag_right w tag vs b x path (for_number {k} {ws} few r) p kind met = go b.tag refl kind
    where
      go : (t : Tag) → b.tag ≡ t → same_kind (Number k) t ≡ true → TestRight (Tagged w b) (TagV (Number k) vs) path
      go (Number j) e kind = record {
        answer = is_number k j;
        is = subst (λ t. Is (tag_js t path) (JBoolV (is_number k j))) (sym e) (strict (JProperty path (codes "$")) (JNumV k) (JInt j) (JNumV j) (property path (codes "$") (tagged k ws) (JNumV k) p refl) (λ m. refl) (is_number k j) (ap (λ b. Val b) (numbers_same k j)));
        yes = λ f. met (ap Number (number_same k j f) ∙ sym e);
        fails = λ f g. false≢true' (sym f ∙ number_tags (tag_by_met w (Number k) vs b g ∙ e));
      }
      go (Truth c) e kind = absurd (cc)
      go Blank e kind = absurd (cc)
  tag_right w tag vs b x path (for_truth {b = c}) p kind met = go b.tag refl kind
    where
      go : (t : Tag) → b.tag ≡ t → same_kind (Truth c) t ≡ true → TestRight (Tagged w b) (TagV (Truth c) NoValue) path
      go (Truth d) e kind = record {
        answer = same_bool c d;
        is = subst (λ t. Is (tag_js t path) (JBoolV (same_bool c d))) (sym e) (strict path (JBoolV c) (JBool d) (JBoolV d) p (λ m. refl) (same_bool c d) refl);
        yes = λ f. met (tag_same (Truth c) (Truth d) (sym (bools_same c d) ∙ f) ∙ sym e);
        fails = λ f g. false≢true' (sym f ∙ bools_same c d ∙ subst (λ t. same_tag (Truth c) t ≡ true) (tag_by_met w (Truth c) NoValue b g ∙ e) (tag_itself (Truth c)));
      }
      go (Number j) e kind = absurd (cc)
      go Blank e kind = absurd (cc)
  tag_right w tag vs b x path for_blank p kind met = go b.tag refl kind
    where
      go : (t : Tag) → b.tag ≡ t → same_kind Blank t ≡ true → TestRight (Tagged w b) (TagV Blank NoValue) path
      go Blank e kind = record {
        answer = true;
        is = subst (λ t. Is (tag_js t path) (JBoolV true)) (sym e) (strict path (JNumV (pos 0)) (JInt (pos 0)) (JNumV (pos 0)) p (λ m. refl) true refl);
        yes = λ f. met (sym e);
        fails = λ f g. false≢true' (sym f);
      }
      go (Number j) e kind = absurd (cc)
      go (Truth c) e kind = absurd (cc)

  pub test_right : {first : Test} {v : Value} (u : Test) (w : JVal) (path : Js) → Kinded first v → For v w → Is path w → is_alike first u ≡ true → ProperTest first → TestRight u v path
  test_right (Literally l) w path (kind_int {n}) for_int p alike pr = int_right l n path p
  test_right (Literally l) w path (kind_char {t}) for_text p alike pr = text_right l t path p
  test_right (Literally l) w path (kind_text {t}) for_text p alike pr = text_right l t path p
  test_right (Tagged x b) w path kind_int r p alike pr = absurd (cc)
  test_right (Tagged x b) w path kind_char r p alike pr = absurd (cc)
  test_right (Tagged x b) w path kind_text r p alike pr = absurd (cc)
  test_right (Literally l) w path (kind_tag {u} one) r p alike pr = false≢true' (sym (literal_apart l u (alternatives u)) ∙ alike)
  test_right (Tagged x b) w path (kind_tag {u} {a} {tag} {vs} one) r p alike pr =
      tag_right x tag vs b w path r p (kinds_same u x a tag vs b one alike pr) (λ same. met_by_tag u x a tag vs b one alike pr same)

  -- The parts of a value.

  pub data AllFound : List Js → List Value → Type 0 where
    none_found : AllFound [] []
    more_found : {path : Js} {v : Value} {w : JVal} {paths : List Js} {vs : List Value} → For v w → Is path w → AllFound paths vs → AllFound (path ∷ paths) (v ∷ vs)
