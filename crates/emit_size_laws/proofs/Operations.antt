-- How long operations are: no part of a proper one is left out.
use Rattle.std.proofs.Common.{◌≡◌, ℕ, suc, ◌+◌, ◌≤◌, List, [], ◌∷◌, length, Bool, true, false, refl, sym, ap, ◌∙◌, arith}
use Rattle.std.specs.Prelude.{pos, negsuc, codes, ℤ, ◌&&◌, ◌||◌, ◌==◌, not, nat_lt}
use Rattle.std.specs.List.{list_all}
use Rattle.std.proofs.lemmas.Bool.{eqb-true}
use Rattle.elm_canon.specs.Names as source
use Rattle.elm_canon.specs.Tree.{Op, TupleOf, ListOf, Build, RecordOf, Access, Update, Negate, Binary}
use Rattle.elm_canon.specs.declared.tree.Operator.{Operator}
use Rattle.elm_canon.specs.declared.tree.Operator.TheVariants as operator
use Rattle.elm_canon.specs.declared.unions.Tag.{Tag}
use Rattle.elm_canon.specs.declared.unions.Tag.TheVariants.{Number, Truth, Blank}
use Rattle.elm_canon.specs.declared.unions.Alternative.{Alternative}
use Rattle.elm_canon.specs.Unions.{Union, alternatives}
use Rattle.elm_canon.specs.Constructors.{same_tag, same_kind, is_exact_tag, is_exact_alternative, has_tag, are_apart}
use Rattle.elm_canon.specs.Constructors.{is_one_of, is_constructor}
use Rattle.elm_canon.specs.Proper.{ProperOp}
use Rattle.js_tree.specs.Tree as js
use Rattle.js_tree.specs.Tree.{Js, JInt, JBool, JBinary, JHelper, JObject, JsList, NoJs, MoreJs, Fields, Minus, Plus, Times, StrictEquals}
use Rattle.js_emit.specs.Names.{tagged, parts_from, build_js, fields_js, two}
use Rattle.js_emit.specs.Operators.{perform_js, binary_js}
use Rattle.emit_size_laws.proofs.Lengths.{size, total, field_total, binary_size, property_size, helper_size, list_size, object_size}

abbrev pub count : JsList → ℕ
count NoJs = 0
count (MoreJs x xs) = suc (count xs)

pub count_total : (xs : JsList) → count xs ≤ total xs
count_total NoJs = omega arith
count_total (MoreJs x xs) = omega (arith, count_total xs)

parts_total : (i : ℕ) (xs : JsList) → total xs ≤ field_total (parts_from i xs)
parts_total i NoJs = omega arith
parts_total i (MoreJs x xs) = omega (arith, parts_total (suc i) xs)

pub tagged_size : (k : ℤ) (xs : JsList) → total xs ≤ size (tagged k xs)
tagged_size k xs = omega (arith, parts_total 0 xs, object_size (js.MoreField (codes "$") (JInt k) (parts_from 0 xs)))

named_total : (ks : List source.Name) (xs : JsList) → count xs ≡ length ks → total xs ≤ field_total (fields_js ks xs)
named_total [] NoJs h = omega arith
named_total [] (MoreJs x xs) h = absurd (omega (arith, h))
named_total (k ∷ ks) NoJs h = omega arith
named_total (k ∷ ks) (MoreJs x xs) h = omega (arith, named_total ks xs (omega (arith, h)))

pub record_size : (ks : List source.Name) (xs : JsList) → count xs ≡ length ks → total xs ≤ size (JObject (fields_js ks xs))
record_size ks xs h = omega (arith, named_total ks xs h, object_size (fields_js ks xs))

binary_parts : (op : Operator) (a b : Js) → suc (suc (size a + size b)) ≤ size (binary_js op a b)
binary_parts operator.Add a b = binary_size Plus a b
binary_parts operator.Subtract a b = binary_size Minus a b
binary_parts operator.Multiply a b = binary_size Times a b
binary_parts operator.Divide a b = omega (arith, helper_size js.Quotient (two a b))
binary_parts operator.Append a b = omega (arith, helper_size js.Append (two a b))
binary_parts operator.Cons a b = omega (arith, tagged_size (pos 1) (two a b))
binary_parts operator.Equal a b = omega (arith, helper_size js.Equal (two a b))
binary_parts operator.Unequal a b =
    omega (arith, helper_size js.Equal (two a b), binary_size StrictEquals (JHelper js.Equal (two a b)) (JBool false))
binary_parts operator.Less a b =
    omega (arith, helper_size js.Compare (two a b), binary_size StrictEquals (JHelper js.Compare (two a b)) (JInt (negsuc 0)))
binary_parts operator.Greater a b =
    omega (arith, helper_size js.Compare (two a b), binary_size StrictEquals (JHelper js.Compare (two a b)) (JInt (pos 1)))
binary_parts operator.AtMost a b =
    let c = JBinary StrictEquals (JHelper js.Compare (two a b)) (JInt (pos 1)) in
    omega (
      arith,
      helper_size js.Compare (two a b),
      binary_size StrictEquals (JHelper js.Compare (two a b)) (JInt (pos 1)),
      binary_size StrictEquals c (JBool false),
    )
binary_parts operator.AtLeast a b =
    let c = JBinary StrictEquals (JHelper js.Compare (two a b)) (JInt (negsuc 0)) in
    omega (
      arith,
      helper_size js.Compare (two a b),
      binary_size StrictEquals (JHelper js.Compare (two a b)) (JInt (negsuc 0)),
      binary_size StrictEquals c (JBool false),
    )

-- ---- a constructor without a number has no fields

both_true : (a b : Bool) → (a && b) ≡ true → (a ≡ true) × (b ≡ true)
both_true true b e = (refl, e)
both_true false b e = absurd (cc)

kinds : (s t : Tag) → same_tag s t ≡ true → same_kind t (Number (pos 0)) ≡ same_kind s (Number (pos 0))
kinds (Number j) (Number k) e = refl
kinds (Truth a) (Truth b) e = refl
kinds Blank Blank e = refl
kinds (Number j) (Truth b) e = absurd (cc)
kinds (Number j) Blank e = absurd (cc)
kinds (Truth a) (Number k) e = absurd (cc)
kinds (Truth a) Blank e = absurd (cc)
kinds Blank (Number k) e = absurd (cc)
kinds Blank (Truth b) e = absurd (cc)

pub bare : (a : Alternative) → is_exact_alternative a ≡ true → same_kind a.tag (Number (pos 0)) ≡ false → a.arity ≡ 0
bare a e f =
    eqb-true a.arity 0 (sym (ap (λ t. t || a.arity == 0) f)
    ∙ (both_true (is_exact_tag a.tag) (same_kind a.tag (Number (pos 0)) || a.arity == 0) e).1)

bare_among : (a : Alternative) (bs : List Alternative) → are_apart bs ≡ true → is_one_of a bs ≡ true
    → same_kind a.tag (Number (pos 0)) ≡ false → a.arity ≡ 0
bare_among a [] e f k = absurd (cc)
bare_among a (b ∷ bs) e f k =
    let p = both_true (is_exact_alternative b) (not (has_tag b.tag bs) && are_apart bs) e in
    let q = both_true (not (has_tag b.tag bs)) (are_apart bs) p.1 in
    go (same_tag a.tag b.tag && (a.arity == b.arity)) refl f p.0 (λ g. bare_among a bs q.1 g k)
  where
    go : (t : Bool) → (same_tag a.tag b.tag && (a.arity == b.arity)) ≡ t → (t || is_one_of a bs) ≡ true
        → is_exact_alternative b ≡ true → (is_one_of a bs ≡ true → a.arity ≡ 0) → a.arity ≡ 0
    go true same f exact rec =
        let s = both_true (same_tag a.tag b.tag) (a.arity == b.arity) same in
        eqb-true a.arity b.arity s.1 ∙ bare b exact (kinds a.tag b.tag s.0 ∙ k)
    go false same f exact rec = rec f

bare_one : (u : Union) (a : Alternative) → is_constructor u a ≡ true → same_kind a.tag (Number (pos 0)) ≡ false → a.arity ≡ 0
bare_one u a e =
    let p = both_true (are_apart (alternatives u) && list_all (λ b. same_kind a.tag b.tag) (alternatives u)) (is_one_of a (alternatives u) && nat_lt a.arity 4294967296) e in
    let q = both_true (are_apart (alternatives u)) (list_all (λ b. same_kind a.tag b.tag) (alternatives u)) p.0 in
    let r = both_true (is_one_of a (alternatives u)) (nat_lt a.arity 4294967296) p.1 in
    bare_among a (alternatives u) q.0 r.0

-- ---- all operations

none_total : (xs : JsList) (n : ℕ) → count xs ≡ n → n ≡ 0 → total xs ≤ 0
none_total NoJs n h z = omega arith
none_total (MoreJs x xs) n h z = absurd (omega (arith, h, z))

pub build_size : (t : Tag) (n : ℕ) (xs : JsList) → count xs ≡ n → (same_kind t (Number (pos 0)) ≡ false → n ≡ 0)
    → total xs ≤ size (build_js t xs)
build_size (Number k) n xs h none = tagged_size k xs
build_size (Truth b) n xs h none = omega (arith, none_total xs n h (none refl))
build_size Blank n xs h none = omega (arith, none_total xs n h (none refl))

pub perform_size : (op : Op) (n : ℕ) (xs : JsList) → count xs ≡ n → ProperOp op n → total xs ≤ size (perform_js op xs)
perform_size TupleOf n NoJs h p = omega arith
perform_size TupleOf n (MoreJs x xs) h p = tagged_size (pos 0) (MoreJs x xs)
perform_size ListOf n NoJs h p = omega arith
perform_size ListOf n (MoreJs x xs) h p = list_size (MoreJs x xs)
perform_size (Build place u a) n xs h p = build_size a.tag n xs h (λ k. p.1 ∙ bare_one u a p.0 k)
perform_size (RecordOf ks) n xs h p = record_size ks xs (h ∙ p.1)
perform_size (Access k) n NoJs h p = omega arith
perform_size (Access k) n (MoreJs x NoJs) h p = omega (arith, property_size x k)
perform_size (Access k) n (MoreJs x (MoreJs y xs)) h p = absurd (omega (arith, h, p.1))
perform_size (Update ks) n NoJs h p = omega arith
perform_size (Update ks) n (MoreJs r xs) h p =
    omega (arith, record_size ks xs (omega (arith, h, p.1)), helper_size js.Update (two r (JObject (fields_js ks xs))))
perform_size Negate n NoJs h p = omega arith
perform_size Negate n (MoreJs x NoJs) h p = omega (arith, binary_size Minus (JInt (pos 0)) x)
perform_size Negate n (MoreJs x (MoreJs y xs)) h p = absurd (omega (arith, h, p))
perform_size (Binary place op) n NoJs h p = omega arith
perform_size (Binary place op) n (MoreJs x NoJs) h p = absurd (omega (arith, h, p))
perform_size (Binary place op) n (MoreJs x (MoreJs y NoJs)) h p = omega (arith, binary_parts op x y)
perform_size (Binary place op) n (MoreJs x (MoreJs y (MoreJs z xs))) h p = absurd (omega (arith, h, p))
