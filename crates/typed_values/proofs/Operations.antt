-- Operations on parts, and patterns of records: they keep types.
use Rattle.std.proofs.Common.{◌≡◌, ℕ, zero, suc, ◌+◌, pos, List, [], ◌∷◌, map, length, Bool, true, false, inl, refl, sym, ap, ◌∙◌, subst, arith, replicate}
use Rattle.std.proofs.lemmas.Slice.Eq.{bytes_eq-Decides}
use Rattle.std.specs.Prelude.{ℤ, ◌||◌, not, if◌then◌else◌, ◌+ℤ◌, ◌-ℤ◌, ◌*ℤ◌}
use Rattle.std.specs.declared.cmp.Ordering.{Ordering}
use Rattle.std.specs.Ordering.{is_lt, is_gt, is_le, is_ge}
use Rattle.std.specs.List.{zip, range_with_len, enumerate_from}
use Rattle.elm_base.specs.declared.position.Pos.{Pos}
use Rattle.runs.specs.Ends.{End, Val, Unsafe, then_do}
use Rattle.runs.specs.Numbers.{add, subtract, multiply, negate, quotient, exact}
use Rattle.wire_value.specs.Exact.{is_exact}
use Rattle.elm_canon.specs.Names.{Name}
use Rattle.elm_canon.specs.declared.reference.Ref.{Ref}
use Rattle.elm_canon.specs.declared.reference.Ref.TheVariants.{Local}
use Rattle.elm_canon.specs.declared.unions.Alternative.{Alternative}
use Rattle.elm_canon.specs.declared.tree.Operator.{Operator}
use Rattle.elm_canon.specs.declared.tree.Operator.TheVariants as operator
use Rattle.elm_canon.specs.Unions.{Union}
use Rattle.elm_canon.specs.Tree.{FieldsOf, Op, TupleOf, ListOf, Build, RecordOf, Access, Update, Negate, Binary}
use Rattle.elm_canon.specs.Spelled.{is_word, are_fields}
use Rattle.elm_meaning.specs.Values.{Value, IntV, RecordV, Values, NoValue, MoreValue, FieldValues, Env, Bind, count_of, truth, list_of, nil, field_of}
use Rattle.elm_meaning.specs.Equal.{equals}
use Rattle.elm_meaning.specs.Order.{compares}
use Rattle.elm_meaning.specs.Operate.{append, on_ints, by_order, operate, build, perform}
use Rattle.elm_meaning.specs.Match.{matches, bind_fields}
use Rattle.elm_type.specs.Types.{ElmType, Fields, Record, Made, NoField, Closed, Over, Rigid, Kind, function, functions, tuple, list_type, int_type, bool_type}
use Rattle.elm_type.specs.Classes.{Ground, meets}
use Rattle.elm_type.specs.Rows.{extend, has_field, insert_field, insert_all, sorted, closed, substitute, substitute_fields}
use Rattle.elm_type.specs.declared.class.Class.{Class}
use Rattle.elm_type.specs.declared.class.Class.TheVariants.{Any, Number as Numbers, Comparable, Appendable}
use Rattle.elm_type.specs.Ground.{lacks_all, leaf_value, value, fits}
use Rattle.type_items.specs.Items.{Place, child, Wanted, at, children, Same, lack_items, class_items}
use Rattle.type_items.specs.Scopes.{Known, Mono, Entries, Scope}
use Rattle.type_items.specs.Patterns.{shape, shape_items, fields_at, open_record, pattern_items, field_names_before, bind_pattern}
use Rattle.type_items.specs.Operations.{plan, operator_class, operator_type}
use Rattle.type_items.specs.Solutions.{Solves}
use Rattle.typed_values.specs.Frames.{Frame, of, Stands}
use Rattle.typed_values.specs.World.{KnownIn, World, Makes, MadeBy, IsSound}
use Rattle.typed_values.specs.Simple.{IsSome, AreFields, IsOperation}
use Rattle.typed_values.specs.Typed.{EndsWell, Has, HasEach, HaveFields, Fits}
use Rattle.typed_values.specs.Steps.{EndsAs, IfMatched, HaveParts, SolvesPlan}
use Rattle.typed_values.proofs.Names.{not_both, solves_left, solves_right}
use Rattle.typed_values.proofs.Keeping.{and_right, and_both, meets_any, fits_kept, meets_kept}
use Rattle.typed_values.proofs.Rows.{substitute_insert, substitute_extend, insert_all_insert, has_inserted}
use Rattle.typed_values.proofs.Envs.{of_functions, fits_bind}
use Rattle.typed_values.proofs.Uses.{class_holds, lacks_hold, value_at}
use Rattle.typed_values.proofs.Patterns.{up}
use Rattle.typed_values.proofs.Forms.{each_count, number_form, with_field, int_value, record_value}
use Rattle.typed_values.proofs.Fields.{onto, TypedAt, onto_typed, field_found, replaced, made}
use Rattle.typed_values.proofs.Unions.{map_length, functions_same}
use Rattle.typed_values.proofs.Makers.{of_tuple, children_length, built, shape_count, made_shape}
use Rattle.typed_values.proofs.Comparing.{Fine, Ordered, equal_fine, compare_fine, AllHave, nil_has, cons_has, before_has, append_well}
use Rattle.typed_values.proofs.Truths.{truths}
use Rattle.typed_values.proofs.Calls.{fine_well}

-- ---- the types of records

abbrev ground_pair : (f : Frame) → Name × Wanted → Name × Ground
ground_pair f p = (p.0, of f p.1)

module _ {X : Type 0} (g : X → Ground) where
  -- fields that are put in their places stay in them
  sorted_stays : (ps : List (Name × ElmType X)) → insert_all (substitute_fields g (sorted ps)) NoField ≡ substitute_fields g (sorted ps)
  sorted_stays [] = refl
  sorted_stays (p ∷ ps) =
      let one = substitute_insert g p.0 p.1 (sorted ps) in
      ap (λ fs. insert_all fs NoField) one ∙ (insert_all_insert p.0 (substitute g p.1) (substitute_fields g (sorted ps)) NoField ∙
      (ap (insert_field p.0 (substitute g p.1)) (sorted_stays ps) ∙ sym one))

pub sorted_again : (ps : List (Name × Ground)) → insert_all (sorted ps) NoField ≡ sorted ps
sorted_again [] = refl
sorted_again (p ∷ ps) = insert_all_insert p.0 p.1 (sorted ps) NoField ∙ ap (insert_field p.0 p.1) (sorted_again ps)

of_sorted : (f : Frame) (ps : List (Name × Wanted)) → substitute_fields f.stands (substitute_fields (leaf_value f.values) (sorted ps)) ≡ sorted (map (ground_pair f) ps)
of_sorted f [] = refl
of_sorted f (p ∷ ps) =
    ap (substitute_fields f.stands) (substitute_insert (leaf_value f.values) p.0 p.1 (sorted ps))
    ∙ (substitute_insert f.stands p.0 (value f.values p.1) (substitute_fields (leaf_value f.values) (sorted ps)) ∙ ap (insert_field p.0 (of f p.1)) (of_sorted f ps))

of_closed : (f : Frame) (ps : List (Name × Wanted)) → of f (closed ps) ≡ closed (map (ground_pair f) ps)
of_closed f ps =
    ap (λ fs. substitute f.stands (Record fs Closed)) (sorted_stays (leaf_value f.values) ps)
    ∙ ap (λ fs. Record fs Closed) (ap (λ fs. insert_all fs NoField) (of_sorted f ps) ∙ sorted_again (map (ground_pair f) ps))

-- the types of so many children, from the number i on
abbrev types_from : Frame → Place → ℕ → ℕ → List Ground
types_from f q i n = map (of f) (map (λ j. at (child q j)) (range_with_len i n))

fields_zip : (f : Frame) (q : Place) (i : ℕ) (xs : List Name) → map (ground_pair f) (map (λ x. (x.1, at (child q x.0))) (enumerate_from i xs)) ≡ zip xs (types_from f q i (length xs))
fields_zip f q i [] = refl
fields_zip f q i (x ∷ xs) = ap (λ ps. (x, of f (at (child q i))) ∷ ps) (fields_zip f q (i + 1) xs)

-- a record whose other fields are known
pub record IsOpen (f : Frame) (xs : List Name) (q : Place) (row : Place) : Type 0 where
  pub others : Fields Rigid
  pub is : of f (open_record xs q (at row)) ≡ Record (onto xs (map (of f) (children q (length xs))) others) Closed
  pub typed : TypedAt xs (map (of f) (children q (length xs))) (onto xs (map (of f) (children q (length xs))) others)

-- of an open record over a constant there is no value
record_without : (w : World) → IsSound w → (xs : List Name) (ts : List Ground) (g : Ground) (v : Value) → IsSome xs → length ts ≡ length xs → lacks_all xs g ≡ true
    → Has w v (extend (sorted (zip xs ts)) g) → (others : Fields Rigid) × (g ≡ Record others Closed)
record_without w sound [] ts g v some n l has = absurd some
record_without w sound (x ∷ xs) [] g v some n l has = absurd (let z : 0 ≡ suc (length xs) = n in omega arith)
record_without w sound (x ∷ xs) (t ∷ ts) (Made h us) v some n l has = not_both false l refl
record_without w sound (x ∷ xs) (t ∷ ts) (Record fs Closed) v some n l has = (fs, refl)
record_without w sound (x ∷ xs) (t ∷ ts) (Record fs (Over r)) v some n l has =
    let whole = insert_all (sorted (zip (x ∷ xs) (t ∷ ts))) fs in
    let own : has_field x whole ≡ true =
    ap (has_field x) (insert_all_insert x t (sorted (zip xs ts)) fs) ∙ (has_inserted x x t (insert_all (sorted (zip xs ts)) fs) ∙ ap (λ b. b || has_field x (insert_all (sorted (zip xs ts)) fs)) ((bytes_eq-Decides x x).1 refl)) in
    let o = record_value w sound v (Record whole (Over r)) (with_field x (Over r) whole own) has in
    let k : Has w (RecordV o.0) (Record whole (Over r)) = subst (λ z. Has w z (Record whole (Over r))) o.1 has in
    absurd (let e : Record k.0 Closed ≡ Record whole (Over r) = k.1 in cc)

-- an open record that some value has, with what it lacks
open_type : (w : World) → IsSound w → (f : Frame) (stands : Stands f) (here : Pos) (xs : List Name) (q row : Place) (v : Value) → AreFields xs → Solves f.values (lack_items here (at row) xs)
    → Has w v (of f (open_record xs q (at row))) → IsOpen f xs q row
open_type w sound f stands here xs q row v proper sol has =
    let k : Kind = record { class = Any; lacks = xs } in
    let own = f.values row in
    let rest = of f (at row) in
    let ts = map (of f) (children q (length xs)) in
    let up_row : substitute f.stands own ≡ rest = ap (substitute f.stands) (sym (value_at f row)) in
    let fit = fits_kept f stands k own (and_both (meets Any own) (lacks_all xs own) (meets_any own) (lacks_hold f here row xs sol)) in
    let without : lacks_all xs rest ≡ true = ap (lacks_all xs) (sym up_row) ∙ and_right (meets Any (substitute f.stands own)) (lacks_all xs (substitute f.stands own)) fit in
    let n : length ts ≡ length xs = map_length (of f) (children q (length xs)) ∙ children_length q (length xs) in
    let is_open : of f (open_record xs q (at row)) ≡ extend (sorted (zip xs ts)) rest =
    ap (substitute f.stands) (substitute_extend (leaf_value f.values) (sorted (fields_at xs q)) (at row))
    ∙ (substitute_extend f.stands (substitute_fields (leaf_value f.values) (sorted (fields_at xs q))) (value f.values (at row))
    ∙ ap (λ fs. extend fs rest) (of_sorted f (fields_at xs q) ∙ ap sorted (fields_zip f q 0 xs))) in
    let r = record_without w sound xs ts rest v proper.1 n without (subst (λ g. Has w v g) is_open has) in record {
      others = r.0;
      is = is_open ∙ ap (extend (sorted (zip xs ts))) r.1;
      typed = onto_typed xs ts r.0 proper.0 n (ap (lacks_all xs) (sym r.1) ∙ without);
    }

-- ---- classes in a frame

class_in : (f : Frame) (stands : Stands f) (c : Class) (g : Ground) → meets c g ≡ true → meets c (substitute f.stands g) ≡ true
class_in f stands c g m = meets_kept f.stands stands.classes g c m

class_at : (f : Frame) (stands : Stands f) (here : Pos) (p : Place) (c : Class) → Solves f.values (class_items here (at p) c) → meets c (of f (at p)) ≡ true
class_at f stands here p c sol =
    ap (λ g. meets c (substitute f.stands g)) (value_at f p) ∙ class_in f stands c (f.values p) (class_holds f here p c sol)

-- ---- operations

module _ (w : World) (sound : IsSound w) where
  exact_fine : (n : ℤ) → Fine (exact n)
  exact_fine n = go (is_exact n)
    where
      go : (b : Bool) → Fine (if b then Val n else Unsafe)
      go true = tt
      go false = tt

  on_ints_well : (v u : Value) (g : Ground) (go : ℤ → ℤ → End ℤ) → meets Numbers g ≡ true → ((a b : ℤ) → Fine (go a b)) → Has w v g → Has w u g → EndsAs w g (on_ints v u go)
  on_ints_well v u g go is fine h k =
      let a = int_value w sound v g (number_form g is) h in
      let b = int_value w sound u g (number_form g is) k in
      subst (λ z. EndsAs w g (on_ints z u go)) (sym a.1) (subst (λ z. EndsAs w g (on_ints (IntV a.0) z go)) (sym b.1)
      (fine_well (λ v. Has w v g) (go a.0 b.0) (λ n. IntV n) (fine a.0 b.0) (λ n. is)))

  order_well : (v u : Value) (A T : Ground) (holds : Ordering → Bool) → bool_type ≡ T → Ordered A → Has w v A → Has w u A → EndsAs w T (by_order v u holds)
  order_well v u A T holds is o h k =
      fine_well (λ z. Has w z T) (compares v u) (λ order. truth (holds order)) (compare_fine w sound v u A o h k) (λ order. subst (λ g. Has w (truth (holds order)) g) is (truths w sound (holds order)))

  equal_well : (v u : Value) (A T : Ground) (holds : Bool → Bool) → bool_type ≡ T → Has w v A → Has w u A → EndsAs w T (then_do (equals v u) (λ same. Val (truth (holds same))))
  equal_well v u A T holds is h k =
      fine_well (λ z. Has w z T) (equals v u) (λ same. truth (holds same)) (equal_fine w sound v u A h k) (λ same. subst (λ g. Has w (truth (holds same)) g) is (truths w sound (holds same)))

  -- the types that an operator's type wants
  pub record Wants (A B C T U R : Ground) : Type 0 where
    pub left : A ≡ T
    pub right : B ≡ U
    pub result : C ≡ R

  wants : (A B C T U R : Ground) → functions (A ∷ B ∷ []) C ≡ functions (T ∷ U ∷ []) R → Wants A B C T U R
  wants A B C T U R e =
      let z : function A (function B C) ≡ function T (function U R) = e in
      let one : A ≡ T = cc in
      let two : B ≡ U = cc in
      let three : C ≡ R = cc in
      record { left = one; right = two; result = three }

  in_order : (holds : Ordering → Bool) (f : Frame) → Stands f → (here : Pos) (p : Place) (t u r : Wanted) (v x : Value)
      → Solves f.values (class_items here (at p) Comparable) → functions (of f (at p) ∷ of f (at p) ∷ []) bool_type ≡ functions (of f t ∷ of f u ∷ []) (of f r)
      → Has w v (of f t) → Has w x (of f u) → EndsAs w (of f r) (by_order v x holds)
  in_order holds f bare here p t u r v x class same h k =
      let A = of f (at p) in
      let e = wants A A bool_type (of f t) (of f u) (of f r) same in
      order_well v x A (of f r) holds e.result (class_at f bare here p Comparable class)
      (subst (λ g. Has w v g) (sym e.left) h) (subst (λ g. Has w x g) (sym e.right) k)

  operate_well : (op : Operator) (f : Frame) → Stands f → (here : Pos) (p : Place) (t u r : Wanted) (v x : Value)
      → Solves f.values (class_items here (at p) (operator_class op)) → of f (operator_type op (at p)) ≡ of f (functions (t ∷ u ∷ []) r)
      → Has w v (of f t) → Has w x (of f u) → EndsAs w (of f r) (operate op v x)
  operate_well operator.Add f bare here p t u r v x class same h k =
      let A = of f (at p) in
      let e = wants A A A (of f t) (of f u) (of f r) same in
      subst (λ g. EndsAs w g (on_ints v x add)) e.result
      (on_ints_well v x A add (class_at f bare here p Numbers class) (λ a b. exact_fine (a +ℤ b)) (subst (λ g. Has w v g) (sym e.left) h) (subst (λ g. Has w x g) (sym e.right) k))
  operate_well operator.Subtract f bare here p t u r v x class same h k =
      let A = of f (at p) in
      let e = wants A A A (of f t) (of f u) (of f r) same in
      subst (λ g. EndsAs w g (on_ints v x subtract)) e.result
      (on_ints_well v x A subtract (class_at f bare here p Numbers class) (λ a b. exact_fine (a -ℤ b)) (subst (λ g. Has w v g) (sym e.left) h) (subst (λ g. Has w x g) (sym e.right) k))
  operate_well operator.Multiply f bare here p t u r v x class same h k =
      let A = of f (at p) in
      let e = wants A A A (of f t) (of f u) (of f r) same in
      subst (λ g. EndsAs w g (on_ints v x multiply)) e.result
      (on_ints_well v x A multiply (class_at f bare here p Numbers class) (λ a b. exact_fine (a *ℤ b)) (subst (λ g. Has w v g) (sym e.left) h) (subst (λ g. Has w x g) (sym e.right) k))
  operate_well operator.Divide f bare here p t u r v x class same h k =
      let e = wants int_type int_type int_type (of f t) (of f u) (of f r) same in
      subst (λ g. EndsAs w g (on_ints v x (λ a b. Val (quotient a b)))) e.result
      (on_ints_well v x int_type (λ a b. Val (quotient a b)) refl (λ a b. tt) (subst (λ g. Has w v g) (sym e.left) h) (subst (λ g. Has w x g) (sym e.right) k))
  operate_well operator.Append f bare here p t u r v x class same h k =
      let A = of f (at p) in
      let e = wants A A A (of f t) (of f u) (of f r) same in
      subst (λ g. EndsAs w g (append v x)) e.result
      (append_well w sound v x A (class_at f bare here p Appendable class) (subst (λ g. Has w v g) (sym e.left) h) (subst (λ g. Has w x g) (sym e.right) k))
  operate_well operator.Cons f bare here p t u r v x class same h k =
      let A = of f (at p) in
      let e = wants A (list_type A) (list_type A) (of f t) (of f u) (of f r) same in
      subst (λ g. EndsAs w g (operate operator.Cons v x)) e.result
      (cons_has w sound v x A (subst (λ g. Has w v g) (sym e.left) h) (subst (λ g. Has w x g) (sym e.right) k))
  operate_well operator.Equal f bare here p t u r v x class same h k =
      let A = of f (at p) in
      let e = wants A A bool_type (of f t) (of f u) (of f r) same in
      equal_well v x A (of f r) (λ b. b) e.result (subst (λ g. Has w v g) (sym e.left) h) (subst (λ g. Has w x g) (sym e.right) k)
  operate_well operator.Unequal f bare here p t u r v x class same h k =
      let A = of f (at p) in
      let e = wants A A bool_type (of f t) (of f u) (of f r) same in
      equal_well v x A (of f r) (λ b. not b) e.result (subst (λ g. Has w v g) (sym e.left) h) (subst (λ g. Has w x g) (sym e.right) k)
  operate_well operator.Less f bare here p t u r v x class same h k = in_order is_lt f bare here p t u r v x class same h k
  operate_well operator.Greater f bare here p t u r v x class same h k = in_order is_gt f bare here p t u r v x class same h k
  operate_well operator.AtMost f bare here p t u r v x class same h k = in_order is_le f bare here p t u r v x class same h k
  operate_well operator.AtLeast f bare here p t u r v x class same h k = in_order is_ge f bare here p t u r v x class same h k

  -- ---- parts

  all_have : (f : Frame) (t : Wanted) (n : ℕ) (vs : Values) → HasEach w vs (map (of f) (replicate n t)) → AllHave w sound vs (of f t)
  all_have f t zero NoValue h = tt
  all_have f t zero (MoreValue v vs) h = absurd h
  all_have f t (suc n) NoValue h = absurd h
  all_have f t (suc n) (MoreValue v vs) h = (h.0, all_have f t n vs h.1)

  list_well : (f : Frame) (t : Wanted) (r : Wanted) (n : ℕ) (vs : Values) → of f (list_type t) ≡ of f r → HasEach w vs (map (of f) (replicate n t)) → EndsAs w (of f r) (perform ListOf vs)
  list_well f t r n vs same h = subst (Has w (list_of vs)) same (before_has w sound vs nil (of f t) (all_have f t n vs h) (nil_has w sound (of f t)))

  tuple_well : (f : Frame) (ts : List Wanted) (r : Wanted) (v : Value) (vs : Values) → of f (tuple ts) ≡ of f r → HasEach w (MoreValue v vs) (map (of f) ts) → EndsAs w (of f r) (perform TupleOf (MoreValue v vs))
  tuple_well f ts r v vs same h = (map (of f) ts, inl (inl (record { tag_is = refl; is = sym (of_tuple f ts) ∙ same })), h)

  build_well : (here : Pos) (u : Union) (alt : Alternative) (n : ℕ) (known : Known) (p q : Place) (f : Frame) (r : Wanted) (vs : Values) → KnownIn w known → Makes w u alt → n ≡ alt.arity
      → of f (functions (shape u alt known p).parts (shape u alt known p).result) ≡ of f (functions (children q n) r) → HasEach w vs (map (of f) (children q n))
      → EndsAs w (of f r) (build alt.tag vs)
  build_well here u alt n known p q f r vs same d count e h =
      let s = shape u alt known p in
      let l : length (map (of f) s.parts) ≡ length (map (of f) (children q n)) =
      map_length (of f) s.parts ∙ (shape_count w sound u alt known p f same d ∙ (sym count ∙ sym (map_length (of f) (children q n) ∙ children_length q n))) in
      let m = functions_same (map (of f) s.parts) (map (of f) (children q n)) (of f s.result) (of f r) l (sym (of_functions f s.parts s.result) ∙ (e ∙ of_functions f (children q n) r)) in
      let c : count_of vs ≡ alt.arity = each_count w vs (map (of f) (children q n)) h ∙ (map_length (of f) (children q n) ∙ (children_length q n ∙ count)) in
      subst (EndsAs w (of f r)) (sym (built w sound u alt vs d c)) (
        map (of f) s.parts,
        inl (subst (λ g. MadeBy w alt.tag vs (map (of f) s.parts) g) m.1 (made_shape w sound u alt known p f vs same d c)),
        subst (λ ts. HasEach w vs ts) (sym m.0) h,
      )

  record_well : (f : Frame) (xs : List Name) (q : Place) (r : Wanted) (vs : Values) → are_fields xs ≡ true → of f (closed (fields_at xs q)) ≡ of f r
      → HasEach w vs (map (of f) (children q (length xs))) → EndsAs w (of f r) (perform (RecordOf xs) vs)
  record_well f xs q r vs proper same h =
      let ts = map (of f) (children q (length xs)) in
      let o = made w xs ts vs proper (map_length (of f) (children q (length xs)) ∙ children_length q (length xs)) h in
      let type : Record (sorted (zip xs ts)) Closed ≡ of f r = sym (of_closed f (fields_at xs q) ∙ ap closed (fields_zip f q 0 xs)) ∙ same in
      subst (λ e. EndsAs w (of f r) (then_do e (λ fs. Val (RecordV fs)))) (sym o.is) (sorted (zip xs ts), type, o.have)

  -- the fields of a record whose other fields are known
  pub record Opened (f : Frame) (xs : List Name) (q row : Place) (v : Value) (o : IsOpen f xs q row) : Type 0 where
    pub fields : FieldValues
    pub is : v ≡ RecordV fields
    pub have : HaveFields w fields (onto xs (map (of f) (children q (length xs))) o.others)

  opened : (f : Frame) (xs : List Name) (q row : Place) (v : Value) (o : IsOpen f xs q row) → Has w v (of f (open_record xs q (at row))) → Opened f xs q row v o
  opened f xs q row v o h =
      let whole = onto xs (map (of f) (children q (length xs))) o.others in
      let k : Has w v (Record whole Closed) = subst (λ g. Has w v g) o.is h in
      let r = record_value w sound v (Record whole Closed) refl k in
      let z : Has w (RecordV r.0) (Record whole Closed) = subst (λ x. Has w x (Record whole Closed)) r.1 k in
      let e : Record z.0 Closed ≡ Record whole Closed = z.1 in
      let same : z.0 ≡ whole = cc in
      record { fields = r.0; is = r.1; have = subst (λ ts. HaveFields w r.0 ts) same z.2 }

  access_well : (f : Frame) (x : Name) (q row : Place) (r : Wanted) (v : Value) → IsOpen f (x ∷ []) q row → of f (at (child q 0)) ≡ of f r
      → Has w v (of f (open_record (x ∷ []) q (at row))) → EndsAs w (of f r) (field_of x v)
  access_well f x q row r v o same h =
      let p = opened f (x ∷ []) q row v o h in
      let k = field_found w x p.fields (onto (x ∷ []) (map (of f) (children q 1)) o.others) (of f (at (child q 0))) p.have o.typed.0 in
      subst (λ z. EndsAs w (of f r) (field_of x z)) (sym p.is) (subst (EndsAs w (of f r)) (sym k.is) (subst (λ g. Has w k.value g) same k.has))

  update_well : (f : Frame) (xs : List Name) (q row : Place) (r : Wanted) (v : Value) (vs : Values) → IsOpen f xs q row → of f (open_record xs q (at row)) ≡ of f r
      → Has w v (of f r) → HasEach w vs (map (of f) (children q (length xs))) → EndsAs w (of f r) (perform (Update xs) (MoreValue v vs))
  update_well f xs q row r v vs o same h each =
      let whole = onto xs (map (of f) (children q (length xs))) o.others in
      let p = opened f xs q row v o (subst (λ g. Has w v g) (sym same) h) in
      let k = replaced w xs (map (of f) (children q (length xs))) vs p.fields whole o.typed each p.have in
      subst (λ z. EndsAs w (of f r) (perform (Update xs) (MoreValue z vs))) (sym p.is)
      (subst (λ e. EndsAs w (of f r) (then_do e (λ gs. Val (RecordV gs)))) (sym k.is) (whole, sym o.is ∙ same, k.have))

  -- ---- what the pattern of a record binds

  bound : (f : Frame) (U : Ref → Bool) (S : Scope) (q : Place) (whole : Fields Rigid) (fs : FieldValues) → HaveFields w fs whole → (i : ℕ) (xs : List Name) (env : Env) (names : Entries)
      → TypedAt xs (types_from f q i (length xs)) whole → Fits w env U (record { known = S.known; names = names; constants = S.constants }) f
      → EndsWell (IfMatched (λ inner. Fits w inner U (record {
        known = S.known;
        names = field_names_before (map (λ x. (x.1, at (child q x.0))) (enumerate_from i xs)) names;
        constants = S.constants;
      }) f)) (bind_fields xs fs env)
  bound f U S q whole fs have i [] env names typed fits = fits
  bound f U S q whole fs have i (x ∷ xs) env names typed fits =
      let k = field_found w x fs whole (of f (at (child q i))) have typed.0 in
      let inner : Scope = record { known = S.known; names = names; constants = S.constants } in
      subst (λ e. EndsWell (IfMatched (λ inner. Fits w inner U (record {
        known = S.known;
        names = field_names_before (map (λ x. (x.1, at (child q x.0))) (enumerate_from (i + 1) xs)) ((Local x, Mono (at (child q i))) ∷ names);
        constants = S.constants;
      }) f)) (then_do e (λ v. bind_fields xs fs (Bind (Local x) v env)))) (sym k.is)
      (bound f U S q whole fs have (i + 1) xs (Bind (Local x) k.value env) ((Local x, Mono (at (child q i))) ∷ names) typed.1
      (fits_bind w env (Local x) k.value (at (child q i)) names U inner f k.has fits refl))

  pub fields_well : (xs : List Name) (here : Pos) (p : Place) (t : Wanted) (f : Frame) (v : Value) (env : Env) (U : Ref → Bool) (S : Scope) → AreFields xs → Stands f
      → Solves f.values (pattern_items (FieldsOf xs) S.known here p t) → Has w v (of f t) → Fits w env U S f
      → EndsWell (IfMatched (λ inner. Fits w inner U (bind_pattern (FieldsOf xs) p t S) f)) (matches (FieldsOf xs) v env)
  fields_well xs here p t f v env U S proper bare sol has fits =
      let lacking = lack_items here (at (child p 0)) xs in
      let same = Same here (open_record xs (child p 1) (at (child p 0))) t ∷ [] in
      let e : of f (open_record xs (child p 1) (at (child p 0))) ≡ of f t = up f (open_record xs (child p 1) (at (child p 0))) t (solves_right f lacking same sol).0 in
      let o = open_type w sound f bare here xs (child p 1) (child p 0) v proper (solves_left f lacking same sol) (subst (λ g. Has w v g) (sym e) has) in
      let r = opened f xs (child p 1) (child p 0) v o (subst (λ g. Has w v g) (sym e) has) in
      subst (λ z. EndsWell (IfMatched (λ inner. Fits w inner U (bind_pattern (FieldsOf xs) p t S) f)) (matches (FieldsOf xs) z env)) (sym r.is)
      (bound f U S (child p 1) (onto xs (map (of f) (children (child p 1) (length xs))) o.others) r.fields r.have 0 xs env S.names o.typed fits)

  -- ---- whole operations

  pub performs : (op : Op) (n : ℕ) (scope : Scope) (here : Pos) (p : Place) (t : Wanted) (f : Frame) (vs : Values) → KnownIn w scope.known → IsOperation w op (suc n) → Stands f
      → SolvesPlan f (plan op (suc n) scope here p t) → HaveParts w f (plan op (suc n) scope here p t) vs → EndsAs w (of f t) (perform op vs)
  performs TupleOf n scope here p t f NoValue known proper bare sol h = absurd h
  performs TupleOf n scope here p t f (MoreValue v vs) known proper bare sol h =
      tuple_well f (children (child p 0) (suc n)) t v vs (up f (tuple (children (child p 0) (suc n))) t sol.before.0) h
  performs ListOf n scope here p t f vs known proper bare sol h =
      list_well f (at (child p 1)) t (suc n) vs (up f (list_type (at (child p 1))) t sol.before.0) h
  performs (Build place u alt) n scope here p t f vs known proper bare sol h =
      let s = shape u alt scope.known (child p 1) in
      let asked = shape_items u alt scope.known place (child p 1) in
      let ts = children (child p 0) (suc n) in
      let same = Same place (functions s.parts s.result) (functions ts t) ∷ [] in
      build_well place u alt (suc n) scope.known (child p 1) (child p 0) f t vs known proper.0 proper.1
      (up f (functions s.parts s.result) (functions ts t) (solves_right f asked same sol.before).0) h
  performs (RecordOf []) n scope here p t f vs known proper bare sol h = absurd (let z : suc n ≡ 0 = proper.1 in omega arith)
  performs (RecordOf (x ∷ xs)) n scope here p t f vs known proper bare sol h =
      record_well f (x ∷ xs) (child p 0) t vs proper.0 (up f (closed (fields_at (x ∷ xs) (child p 0))) t sol.before.0) h
  performs (Access x) n scope here p t f NoValue known proper bare sol h = absurd h
  performs (Access x) n scope here p t f (MoreValue v NoValue) known proper bare sol h =
      let fields : are_fields (x ∷ []) ≡ true = and_both (is_word x) true proper.0 refl in
      let o = open_type w sound f bare here (x ∷ []) (child p 2) (child p 1) v (fields, tt) sol.before h.0 in
      access_well f x (child p 2) (child p 1) t v o (up f (at (child (child p 2) 0)) t sol.after.0) h.0
  performs (Access x) n scope here p t f (MoreValue v (MoreValue u vs)) known proper bare sol h = absurd h.1
  performs (Update xs) n scope here p t f NoValue known proper bare sol h = absurd h
  performs (Update xs) n scope here p t f (MoreValue v vs) known proper bare sol h =
      let lacking = lack_items here (at (child p 1)) xs in
      let same = Same here (open_record xs (child p 2) (at (child p 1))) t ∷ [] in
      let e : of f (open_record xs (child p 2) (at (child p 1))) ≡ of f t = up f (open_record xs (child p 2) (at (child p 1))) t (solves_right f lacking same sol.between).0 in
      let o = open_type w sound f bare here xs (child p 2) (child p 1) v proper.0 (solves_left f lacking same sol.between) (subst (λ g. Has w v g) (sym e) h.0) in
      update_well f xs (child p 2) (child p 1) t v vs o e h.0 h.1
  performs Negate n scope here p t f NoValue known proper bare sol h = absurd h
  performs Negate n scope here p t f (MoreValue v NoValue) known proper bare sol h =
      let is : meets Numbers (of f t) ≡ true = class_in f bare Numbers (value f.values t) sol.before.0 in
      let r = int_value w sound v (of f t) (number_form (of f t) is) h.0 in
      subst (λ z. EndsAs w (of f t) (perform Negate (MoreValue z NoValue))) (sym r.1)
      (fine_well (λ z. Has w z (of f t)) (negate r.0) (λ m. IntV m) (exact_fine (pos 0 -ℤ r.0)) (λ m. is))
  performs Negate n scope here p t f (MoreValue v (MoreValue u vs)) known proper bare sol h = absurd h.1
  performs (Binary place op) n scope here p t f NoValue known proper bare sol h = absurd h
  performs (Binary place op) n scope here p t f (MoreValue v NoValue) known proper bare sol h = absurd h.1
  performs (Binary place op) n scope here p t f (MoreValue v (MoreValue u NoValue)) known proper bare sol h =
      let a = at (child p 1) in
      let one = at (child (child p 0) 0) in
      let two = at (child (child p 0) 1) in
      let asked = class_items place a (operator_class op) in
      let same = Same place (operator_type op a) (functions (one ∷ two ∷ []) t) ∷ [] in
      operate_well op f bare place (child p 1) one two t v u (solves_left f asked same sol.before)
      (up f (operator_type op a) (functions (one ∷ two ∷ []) t) (solves_right f asked same sol.before).0) h.0 h.1.0
  performs (Binary place op) n scope here p t f (MoreValue v (MoreValue u (MoreValue x vs))) known proper bare sol h = absurd h.1.1

  pub performs_none : (op : Op) (scope : Scope) (here : Pos) (p : Place) (t : Wanted) (f : Frame) → KnownIn w scope.known → IsOperation w op 0 → Stands f
      → Solves f.values (plan op 0 scope here p t).before → EndsAs w (of f t) (perform op NoValue)
  performs_none TupleOf scope here p t f known proper bare sol = ([], inl (inl (record { tag_is = refl; is = up f (tuple []) t sol.0 })), tt)
  performs_none ListOf scope here p t f known proper bare sol = list_well f (at (child p 1)) t 0 NoValue (up f (list_type (at (child p 1))) t sol.0) tt
  performs_none (Build place u alt) scope here p t f known proper bare sol =
      let s = shape u alt scope.known (child p 1) in
      let asked = shape_items u alt scope.known place (child p 1) in
      let same = Same place (functions s.parts s.result) t ∷ [] in
      build_well place u alt 0 scope.known (child p 1) (child p 0) f t NoValue known proper.0 proper.1 (up f (functions s.parts s.result) t (solves_right f asked same sol).0) tt
  performs_none (RecordOf []) scope here p t f known proper bare sol = (NoField, up f (closed []) t sol.0, tt)
  performs_none (RecordOf (x ∷ xs)) scope here p t f known proper bare sol = absurd (let z : 0 ≡ suc (length xs) = proper.1 in omega arith)
  performs_none (Access x) scope here p t f known proper bare sol = absurd (let z : 0 ≡ 1 = proper.1 in omega arith)
  performs_none (Update xs) scope here p t f known proper bare sol = absurd (let z : 0 ≡ suc (length xs) = proper.1 in omega arith)
  performs_none Negate scope here p t f known proper bare sol = absurd (let z : 0 ≡ 1 = proper in omega arith)
  performs_none (Binary place op) scope here p t f known proper bare sol = absurd (let z : 0 ≡ 2 = proper in omega arith)
