-- What is made of the parts that wait is what the operation is.
use Rattle.std.proofs.Common.{◌≡◌, ℕ, suc, ◌+◌, List, [], ◌∷◌, pos, refl, sym, ap, ◌∙◌, subst, arith, false, ◌==◌, if◌then◌else◌}
use Rattle.std.proofs.lemmas.Bool.{ne_eqb}
use Rattle.elm_canon.specs.Names.{Name}
use Rattle.elm_canon.specs.declared.unions.Tag.{Tag}
use Rattle.elm_canon.specs.declared.unions.Tag.TheVariants.{Number, Truth, Blank}
use Rattle.elm_canon.specs.declared.tree.Operator.{Operator}
use Rattle.elm_canon.specs.declared.tree.Operator.TheVariants as operator
use Rattle.elm_canon.specs.Tree as source
use Rattle.elm_canon.specs.Tree.{Op, TupleOf, ListOf, Build, RecordOf, Access, Negate, Binary}
use Rattle.elm_base.specs.declared.position.Pos.{Pos}
use Rattle.js_tree.specs.Tree.{Js, JInt, JList, JsList, NoJs, MoreJs}
use Rattle.js_tree.specs.Postorder.{Tree, Expression, Items, NoItem, Item, items_then}
use Rattle.js_emit.specs.Names.{build_js, tagged}
use Rattle.js_emit.specs.Operators.{perform_js, binary_js}
use Rattle.js_emit.specs.Parts.{count_items, waiting, with_parts, shape_of, build_shape, operator_shape, names_of}
use Rattle.js_emit.specs.Ends.{ended, items_ended, dropped_js, blank_js}
use Rattle.js_emit.specs.declared.shape.Shape.{Shape}
use Rattle.js_emit.specs.declared.shape.Shape.TheVariants as shape
use Rattle.js_emit.proofs.Waiting.{dropped_waiting, items_waiting, tagged_ended, record_ended, some_items}
use Rattle.js_emit.proofs.Waiting.{updated, update_made}

abbrev count_js : JsList → ℕ
count_js NoJs = 0
count_js (MoreJs x xs) = suc (count_js xs)

counted : (before : Items) (es : JsList) → count_js (items_then before es) ≡ count_items before + count_js es
counted NoItem es = omega arith
counted (Item before x) es = counted before (MoreJs x es) ∙ omega arith

-- ---- other numbers of parts

access_other : (k : Name) (xs : JsList) → (count_js xs ≡ 1 → ⊥) → perform_js (Access k) xs ≡ JInt (pos 0)
access_other k NoJs h = refl
access_other k (MoreJs x NoJs) h = absurd (h refl)
access_other k (MoreJs x (MoreJs y xs)) h = refl

negate_other : (xs : JsList) → (count_js xs ≡ 1 → ⊥) → perform_js Negate xs ≡ JInt (pos 0)
negate_other NoJs h = refl
negate_other (MoreJs x NoJs) h = absurd (h refl)
negate_other (MoreJs x (MoreJs y xs)) h = refl

binary_other : (place : Pos) (op : Operator) (xs : JsList) → (count_js xs ≡ 2 → ⊥)
    → perform_js (Binary place op) xs ≡ JInt (pos 0)
binary_other place op NoJs h = refl
binary_other place op (MoreJs x NoJs) h = refl
binary_other place op (MoreJs x (MoreJs y NoJs)) h = absurd (h refl)
binary_other place op (MoreJs x (MoreJs y (MoreJs z xs))) h = refl

-- parts that are dropped
dropped : (op : Op) (before : Items) (ts : List Tree) (x : Js) → perform_js op (items_then before NoJs) ≡ x → dropped_js op ≡ x
    → ended shape.Dropped op (waiting shape.Dropped (names_of op) before ts)
    ≡ Expression (perform_js op (items_then before NoJs)) ∷ ts
dropped op before ts x performs drops =
    ap (λ us. Expression (dropped_js op) ∷ us) (dropped_waiting (names_of op) before ts)
    ∙ ap (λ e. Expression e ∷ ts) (drops ∙ sym performs)

-- ---- each operation

built : (tag : Tag) (op : Op) (ks : List Name) (before : Items) (ts : List Tree) → dropped_js op ≡ blank_js tag
    → ended (build_shape tag) op (waiting (build_shape tag) ks before ts)
    ≡ Expression (build_js tag (items_then before NoJs)) ∷ ts
built (Number k) op ks before ts h = tagged_ended k ks before ts
built (Truth b) op ks before ts h =
    ap (λ us. Expression (dropped_js op) ∷ us) (dropped_waiting ks before ts) ∙ ap (λ e. Expression e ∷ ts) h
built Blank op ks before ts h =
    ap (λ us. Expression (dropped_js op) ∷ us) (dropped_waiting ks before ts) ∙ ap (λ e. Expression e ∷ ts) h

tuple_some : (xs ys : JsList) (x : Js) → xs ≡ MoreJs x ys → tagged (pos 0) xs ≡ perform_js TupleOf xs
tuple_some xs ys x e = subst (λ zs. tagged (pos 0) zs ≡ perform_js TupleOf zs) (sym e) refl

list_some : (xs ys : JsList) (x : Js) → xs ≡ MoreJs x ys → JList xs ≡ perform_js ListOf xs
list_some xs ys x e = subst (λ zs. JList zs ≡ perform_js ListOf zs) (sym e) refl

updated_js : (ks : List Name) (xs : JsList) → updated ks xs ≡ perform_js (source.Update ks) xs
updated_js ks NoJs = refl
updated_js ks (MoreJs r xs) = refl

operands : (place : Pos) (op : Operator) (x y : Js) (ts : List Tree)
    → ended (operator_shape op) (Binary place op) (waiting (operator_shape op) [] (Item (Item NoItem x) y) ts)
    ≡ Expression (binary_js op x y) ∷ ts
operands place operator.Add x y ts = refl
operands place operator.Subtract x y ts = refl
operands place operator.Multiply x y ts = refl
operands place operator.Divide x y ts = refl
operands place operator.Append x y ts = refl
operands place operator.Cons x y ts = refl
operands place operator.Equal x y ts = refl
operands place operator.Unequal x y ts = refl
operands place operator.Less x y ts = refl
operands place operator.Greater x y ts = refl
operands place operator.AtMost x y ts = refl
operands place operator.AtLeast x y ts = refl

-- by its shape
at_shape : (op : Op) (count : ℕ) (s : Shape) (before : Items) (ts us : List Tree) → shape_of op count ≡ s
    → ended s op (waiting s (names_of op) before ts) ≡ us
    → ended (shape_of op count) op (with_parts op count before ts) ≡ us
at_shape op count s before ts us e h = subst (λ z. ended z op (waiting z (names_of op) before ts) ≡ us) (sym e) h

other : (n k : ℕ) → (n ≡ k → ⊥) → (n == k) ≡ false
other n k h = ne_eqb n k h

-- an operation with all its parts
whole : (op : Op) (before : Items) (ts : List Tree)
    → ended (shape_of op (count_items before)) op (with_parts op (count_items before) before ts)
    ≡ Expression (perform_js op (items_then before NoJs)) ∷ ts
whole TupleOf NoItem ts = refl
whole TupleOf (Item before x) ts =
    at_shape TupleOf _ (shape.Tagged (pos 0)) (Item before x) ts _
    (ap (λ b. if b then shape.Dropped else shape.Tagged (pos 0)) (other (suc (count_items before)) 0 (λ h. omega (arith, h))))
    (tagged_ended (pos 0) [] (Item before x) ts
    ∙ ap (λ e. Expression e ∷ ts) (tuple_some _ _ _ (some_items before x NoJs)))
whole ListOf NoItem ts = refl
whole ListOf (Item before x) ts =
    at_shape ListOf _ shape.Items (Item before x) ts _
    (ap (λ b. if b then shape.Tagged (pos 0) else shape.Items) (other (suc (count_items before)) 0 (λ h. omega (arith, h))))
    (ap (items_ended ListOf) (items_waiting [] (Item before x) ts)
    ∙ ap (λ e. Expression e ∷ ts) (list_some _ _ _ (some_items before x NoJs)))
whole (Build place u a) before ts = built a.tag (Build place u a) [] before ts refl
whole (RecordOf ks) before ts = record_ended ks before ts
whole (Access k) NoItem ts = refl
whole (Access k) (Item NoItem x) ts = refl
whole (Access k) (Item (Item before y) x) ts =
    at_shape (Access k) _ shape.Dropped (Item (Item before y) x) ts _
    (ap (λ b. if b then shape.Bare else shape.Dropped) (other (suc (suc (count_items before))) 1 (λ h. omega (arith, h))))
    (dropped (Access k) (Item (Item before y) x) ts (JInt (pos 0))
    (access_other k _ (λ h. omega (arith, h, counted (Item (Item before y) x) NoJs))) refl)
whole (source.Update ks) NoItem ts = refl
whole (source.Update ks) (Item before x) ts =
    at_shape (source.Update ks) _ shape.Update (Item before x) ts _
    (ap (λ b. if b then shape.Dropped else shape.Update) (other (suc (count_items before)) 0 (λ h. omega (arith, h))))
    (update_made ks before x ts ∙ ap (λ e. Expression e ∷ ts) (updated_js ks _))
whole Negate NoItem ts = refl
whole Negate (Item NoItem x) ts = refl
whole Negate (Item (Item before y) x) ts =
    at_shape Negate _ shape.Dropped (Item (Item before y) x) ts _
    (ap (λ b. if b then shape.AfterZero else shape.Dropped) (other (suc (suc (count_items before))) 1 (λ h. omega (arith, h))))
    (dropped Negate (Item (Item before y) x) ts (JInt (pos 0))
    (negate_other _ (λ h. omega (arith, h, counted (Item (Item before y) x) NoJs))) refl)
whole (Binary place op) NoItem ts = refl
whole (Binary place op) (Item NoItem x) ts = refl
whole (Binary place op) (Item (Item NoItem y) x) ts = operands place op y x ts
whole (Binary place op) (Item (Item (Item before z) y) x) ts =
    at_shape (Binary place op) _ shape.Dropped (Item (Item (Item before z) y) x) ts _
    (ap (λ b. if b then operator_shape op else shape.Dropped)
    (other (suc (suc (suc (count_items before)))) 2 (λ h. omega (arith, h))))
    (dropped (Binary place op) (Item (Item (Item before z) y) x) ts (JInt (pos 0))
    (binary_other place op _ (λ h. omega (arith, h, counted (Item (Item (Item before z) y) x) NoJs))) refl)

pub performed : (op : Op) (count : ℕ) (before : Items) (us ts : List Tree) → count_items before ≡ count
    → us ≡ with_parts op count before ts
    → ended (shape_of op count) op us ≡ Expression (perform_js op (items_then before NoJs)) ∷ ts
performed op count before us ts counts stands =
    ap (ended (shape_of op count) op) stands
    ∙ subst (λ n. ended (shape_of op n) op (with_parts op n before ts)
    ≡ Expression (perform_js op (items_then before NoJs)) ∷ ts) counts (whole op before ts)
