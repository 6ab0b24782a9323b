-- Names, literals and parts can be spelled.
use Rattle.std.proofs.Common.{◌≡◌, ℕ, suc, ◌+◌, ◌≤◌, ◌<◌, ◌^◌, ℤ, pos, negsuc, List, [], ◌∷◌, Bool, true, false, nat_le, nat_lt, refl, sym, ap, ◌∙◌, subst, arith, decimal}
use Rattle.std.specs.Prelude.{if◌then◌else◌, ◌&&◌, ◌||◌, ◌==◌, not}
use Rattle.std.specs.List.{list_all, list_any}
use Rattle.std.proofs.lemmas.Bool.{eqb-true, lt-ltb, le-leb}
use Rattle.std.proofs.lemmas.Bool.Decides.{nat_tests}
use Rattle.std.proofs.lemmas.Fmt.{decimal_is_IsNumeral}
use Rattle.std.proofs.lemmas.Str.Parse.{digit_from_value}
use Rattle.std.specs.Str.Parse.{AllDigits}
use Rattle.wire_value.specs.Exact.{is_exact}
use Rattle.elm_canon.specs.Names as source
use Rattle.elm_canon.specs.declared.reference.Ref.{Ref}
use Rattle.elm_canon.specs.declared.reference.Ref.TheVariants as ref
use Rattle.elm_canon.specs.declared.tree.Literal.{Literal}
use Rattle.elm_canon.specs.declared.tree.Literal.TheVariants as literal
use Rattle.elm_canon.specs.declared.unions.Tag.{Tag}
use Rattle.elm_canon.specs.declared.unions.Tag.TheVariants.{Number, Truth, Blank}
use Rattle.elm_canon.specs.declared.unions.Alternative.{Alternative}
use Rattle.elm_canon.specs.Unions.{Union, alternatives}
use Rattle.elm_canon.specs.Spelled as elm
use Rattle.elm_canon.specs.Constructors.{same_tag, same_kind, is_exact_tag, is_exact_alternative, has_tag, are_apart, is_one_of, is_constructor}
use Rattle.js_tree.specs.Tree.{JsList, NoJs, MoreJs, Stmts, Const, Let, Assign, Return, If, While, Continue}
use Rattle.js_tree.specs.Subset.{is_unit, is_upper, is_letter, is_name_unit, is_word, is_module, is_name, is_spelled, list_spelled, fields_spelled, are_spelled}
use Rattle.js_emit.specs.Names.{js_name, literal_js, parts_from, fields_js, build_js, part_name, now}
use Rattle.emit_size_laws.proofs.Parts.{both, first_of, second_of}

-- ---- words on both sides

same_unit : (u : ℕ) → elm.is_name_unit u ≡ is_name_unit u
same_unit u = go (is_upper u) (nat_le 97 u && nat_le u 122) (nat_le 48 u && nat_le u 57) (u == 95) (nat_le 128 u && is_unit u)
  where
    go : (a b c d e : Bool) → (((a || b) || (c || d)) || e) ≡ ((a || b || c || d) || e)
    go true b c d e = refl
    go false true c d e = refl
    go false false true d e = refl
    go false false false d e = refl

same_units : (us : List ℕ) → list_all elm.is_name_unit us ≡ list_all is_name_unit us
same_units [] = refl
same_units (u ∷ us) = ap (λ b. b && list_all elm.is_name_unit us) (same_unit u) ∙ ap (λ b. is_name_unit u && b) (same_units us)

pub same_word : (x : List ℕ) → elm.is_word x ≡ is_word x
same_word [] = refl
same_word (u ∷ us) = ap (λ b. is_letter u && b) (same_units us)

same_module : (b : Bool) (x : List ℕ) → elm.is_module b x ≡ is_module b x
same_module true [] = refl
same_module false [] = refl
same_module true (u ∷ us) = ap (λ b. is_upper u && b) (same_module false us)
same_module false (u ∷ us) = go (u == 46) (same_module true us) (ap (λ b. b && elm.is_module false us) (same_unit u) ∙ ap (λ b. is_name_unit u && b) (same_module false us))
  where
    go : (t : Bool) → elm.is_module true us ≡ is_module true us → (elm.is_name_unit u && elm.is_module false us) ≡ (is_name_unit u && is_module false us) → (if t then elm.is_module true us else elm.is_name_unit u && elm.is_module false us) ≡ (if t then is_module true us else is_name_unit u && is_module false us)
    go true e f = e
    go false e f = f

pub name_spelled : (r : Ref) → elm.is_spelled r ≡ true → is_name (js_name r) ≡ true
name_spelled (ref.Local x) e = sym (same_word x) ∙ e
name_spelled (ref.Top m x) e = sym (ap (λ b. b && elm.is_word x) (same_module true m) ∙ ap (λ b. is_module true m && b) (same_word x)) ∙ e

-- ---- units

letter_unit : (u : ℕ) → is_letter u ≡ true → is_unit u ≡ true
letter_unit u h = grind (arith, nat_tests)

name_unit : (u : ℕ) → is_name_unit u ≡ true → is_unit u ≡ true
name_unit u h = grind (arith, nat_tests)

name_units : (us : List ℕ) → list_all is_name_unit us ≡ true → list_all is_unit us ≡ true
name_units [] h = refl
name_units (u ∷ us) h = both (is_unit u) (list_all is_unit us) (name_unit u (first_of (is_name_unit u) (list_all is_name_unit us) h)) (name_units us (second_of (is_name_unit u) (list_all is_name_unit us) h))

js_word_units : (x : List ℕ) → is_word x ≡ true → list_all is_unit x ≡ true
js_word_units [] h = absurd (cc)
js_word_units (u ∷ us) h = both (is_unit u) (list_all is_unit us) (letter_unit u (first_of (is_letter u) (list_all is_name_unit us) h)) (name_units us (second_of (is_letter u) (list_all is_name_unit us) h))

pub word_units : (x : List ℕ) → elm.is_word x ≡ true → list_all is_unit x ≡ true
word_units x h = js_word_units x (sym (same_word x) ∙ h)

-- the name of a module
pub module_units : (b : Bool) (x : List ℕ) → elm.is_module b x ≡ true → list_all is_unit x ≡ true
module_units true [] h = refl
module_units false [] h = refl
module_units true (u ∷ us) h = both (is_unit u) (list_all is_unit us) (upper_unit u (first_of (is_upper u) (elm.is_module false us) h)) (module_units false us (second_of (is_upper u) (elm.is_module false us) h))
  where
    upper_unit : (u : ℕ) → is_upper u ≡ true → is_unit u ≡ true
    upper_unit u h = grind (arith, nat_tests)
module_units false (u ∷ us) h = go (u == 46) refl h (λ e. module_units true us e) (λ e. module_units false us e)
  where
    point : (u : ℕ) → (u == 46) ≡ true → is_unit u ≡ true
    point u e = grind (arith, nat_tests)

    go : (t : Bool) → (u == 46) ≡ t → (if t then elm.is_module true us else elm.is_name_unit u && elm.is_module false us) ≡ true → (elm.is_module true us ≡ true → list_all is_unit us ≡ true) → (elm.is_module false us ≡ true → list_all is_unit us ≡ true) → list_all is_unit (u ∷ us) ≡ true
    go true e h one other = both (is_unit u) (list_all is_unit us) (point u e) (one h)
    go false e h one other = both (is_unit u) (list_all is_unit us) (name_unit u (sym (same_unit u) ∙ first_of (elm.is_name_unit u) (elm.is_module false us) h)) (other (second_of (elm.is_name_unit u) (elm.is_module false us) h))

digits_units : (ds : List ℕ) → AllDigits 10 ds → list_all is_unit ds ≡ true
digits_units [] h = refl
digits_units (c ∷ cs) h = both (is_unit c) (list_all is_unit cs) (lt-ltb c 65536 (omega (arith, digit_from_value c h.0))) (digits_units cs h.1)

-- the name of a part
pub part_units : (i : ℕ) → i < 2 ^ 64 → list_all is_unit (part_name i) ≡ true
part_units i l = digits_units (decimal i) (decimal_is_IsNumeral i l).0.1

-- ---- numbers

pub same_exact : (n : ℤ) → elm.is_exact n ≡ is_exact n
same_exact (pos n) = refl
same_exact (negsuc n) = refl

pub small_exact : (k : ℕ) → k < 4294967296 → is_exact (pos k) ≡ true
small_exact k l = le-leb k 9007199254740991 (omega arith)

pub made_name_fits : (d : ℕ) → d < 2 ^ 64 → nat_lt d (2 ^ 64) ≡ true
made_name_fits d l = lt-ltb d (2 ^ 64) l

pub literal_spelled : (l : Literal) → elm.is_exact_literal l ≡ true → is_spelled (literal_js l) ≡ true
literal_spelled (literal.Int n) e = sym (same_exact n) ∙ e
literal_spelled (literal.Char us) e = e
literal_spelled (literal.Text us) e = e

-- ---- what statements return

pub now_spelled : (s : Stmts) → are_spelled s ≡ true → is_spelled (now s) ≡ true
now_spelled (Return e) h = h
now_spelled (If c s t) h =
    let r = second_of (is_spelled c) (are_spelled s && are_spelled t) h in
    both (is_spelled c) (is_spelled (now s) && is_spelled (now t)) (first_of (is_spelled c) (are_spelled s && are_spelled t) h)
    (both (is_spelled (now s)) (is_spelled (now t)) (now_spelled s (first_of (are_spelled s) (are_spelled t) r)) (now_spelled t (second_of (are_spelled s) (are_spelled t) r)))
now_spelled (Const x e s) h = h
now_spelled (Let x e s) h = h
now_spelled (Assign x e s) h = h
now_spelled (While s) h = h
now_spelled Continue h = h

-- ---- constructors

-- the tag of a constructor is exact
exact_same : (s t : Tag) → same_tag s t ≡ true → is_exact_tag t ≡ true → is_exact_tag s ≡ true
exact_same (Number (pos j)) (Number (pos k)) e f = subst (λ z. elm.is_exact (pos z) ≡ true) (sym (eqb-true j k e)) f
exact_same (Number (negsuc j)) (Number (negsuc k)) e f = subst (λ z. elm.is_exact (negsuc z) ≡ true) (sym (eqb-true j k e)) f
exact_same (Number (pos j)) (Number (negsuc k)) e f = absurd (cc)
exact_same (Number (negsuc j)) (Number (pos k)) e f = absurd (cc)
exact_same (Number j) (Truth b) e f = absurd (cc)
exact_same (Number j) Blank e f = absurd (cc)
exact_same (Truth a) t e f = refl
exact_same Blank t e f = refl

exact_among : (a : Alternative) (bs : List Alternative) → are_apart bs ≡ true → is_one_of a bs ≡ true → is_exact_tag a.tag ≡ true
exact_among a [] e f = absurd (cc)
exact_among a (b ∷ bs) e f =
    let p = first_of (is_exact_alternative b) (not (has_tag b.tag bs) && are_apart bs) e in
    let q = second_of (not (has_tag b.tag bs)) (are_apart bs) (second_of (is_exact_alternative b) (not (has_tag b.tag bs) && are_apart bs) e) in
    go (same_tag a.tag b.tag && (a.arity == b.arity)) refl f p (λ g. exact_among a bs q g)
  where
    go : (t : Bool) → (same_tag a.tag b.tag && (a.arity == b.arity)) ≡ t → (t || is_one_of a bs) ≡ true → is_exact_alternative b ≡ true → (is_one_of a bs ≡ true → is_exact_tag a.tag ≡ true) → is_exact_tag a.tag ≡ true
    go true same f exact rec = exact_same a.tag b.tag (first_of (same_tag a.tag b.tag) (a.arity == b.arity) same) (first_of (is_exact_tag b.tag) (same_kind b.tag (Number (pos 0)) || b.arity == 0) exact)
    go false same f exact rec = rec f

pub exact_one : (u : Union) (a : Alternative) → is_constructor u a ≡ true → is_exact_tag a.tag ≡ true
exact_one u a e =
    let p = first_of (are_apart (alternatives u) && list_all (λ b. same_kind a.tag b.tag) (alternatives u)) (is_one_of a (alternatives u) && nat_lt a.arity 4294967296) e in
    let r = second_of (are_apart (alternatives u) && list_all (λ b. same_kind a.tag b.tag) (alternatives u)) (is_one_of a (alternatives u) && nat_lt a.arity 4294967296) e in
    exact_among a (alternatives u) (first_of (are_apart (alternatives u)) (list_all (λ b. same_kind a.tag b.tag) (alternatives u)) p) (first_of (is_one_of a (alternatives u)) (nat_lt a.arity 4294967296) r)

abbrev pub count_js : JsList → ℕ
count_js NoJs = 0
count_js (MoreJs x xs) = suc (count_js xs)

pub parts_spelled : (i : ℕ) (xs : JsList) → i + count_js xs ≤ 2 ^ 64 → list_spelled xs ≡ true → fields_spelled (parts_from i xs) ≡ true
parts_spelled i NoJs le h = refl
parts_spelled i (MoreJs x xs) le h =
    both (list_all is_unit (part_name i)) (is_spelled x && fields_spelled (parts_from (suc i) xs)) (part_units i (omega arith))
    (both (is_spelled x) (fields_spelled (parts_from (suc i) xs)) (first_of (is_spelled x) (list_spelled xs) h) (parts_spelled (suc i) xs (omega arith) (second_of (is_spelled x) (list_spelled xs) h)))

pub named_spelled : (ks : List source.Name) (xs : JsList) → elm.are_fields ks ≡ true → list_spelled xs ≡ true → fields_spelled (fields_js ks xs) ≡ true
named_spelled [] xs e h = refl
named_spelled (k ∷ ks) NoJs e h = refl
named_spelled (k ∷ ks) (MoreJs x xs) e h =
    let r = second_of (elm.is_word k) (not (list_any (source.same_name k) ks) && elm.are_fields ks) e in
    both (list_all is_unit k) (is_spelled x && fields_spelled (fields_js ks xs)) (word_units k (first_of (elm.is_word k) (not (list_any (source.same_name k) ks) && elm.are_fields ks) e))
    (both (is_spelled x) (fields_spelled (fields_js ks xs)) (first_of (is_spelled x) (list_spelled xs) h) (named_spelled ks xs (second_of (not (list_any (source.same_name k) ks)) (elm.are_fields ks) r) (second_of (is_spelled x) (list_spelled xs) h)))

enough : (n : ℕ) → n < 4294967296 → 0 + n ≤ 2 ^ 64
enough n l = omega arith

pub tagged_spelled : (k : ℤ) (xs : JsList) → is_exact k ≡ true → count_js xs < 4294967296 → list_spelled xs ≡ true → (is_exact k && fields_spelled (parts_from 0 xs)) ≡ true
tagged_spelled k xs e l h = both (is_exact k) (fields_spelled (parts_from 0 xs)) e (parts_spelled 0 xs (enough (count_js xs) l) h)

pub build_spelled : (t : Tag) (xs : JsList) → is_exact_tag t ≡ true → count_js xs < 4294967296 → list_spelled xs ≡ true → is_spelled (build_js t xs) ≡ true
build_spelled (Number k) xs e l h = tagged_spelled k xs (sym (same_exact k) ∙ e) l h
build_spelled (Truth b) xs e l h = refl
build_spelled Blank xs e l h = refl
