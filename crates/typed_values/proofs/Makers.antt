-- Values of one type that constructors make: which tags they have, what patterns find of them, and what makes them.
use Rattle.std.proofs.Common.{◌≡◌, ℕ, zero, suc, ◌+◌, pos, List, [], ◌∷◌, map, length, Bool, true, false, ◌⊎◌, inl, inr, refl, sym, ap, ◌∙◌, subst, arith, eq-eqb, negsuc}
use Rattle.std.specs.Prelude.{◌||◌, ◌&&◌, ◌==◌, codes}
use Rattle.runs.specs.Ends.{Val}
use Rattle.elm_canon.specs.Names.{Name}
use Rattle.elm_canon.specs.declared.unions.Tag.{Tag}
use Rattle.elm_canon.specs.declared.unions.Tag.TheVariants.{Number, Truth, Blank}
use Rattle.elm_canon.specs.declared.unions.Alternative.{Alternative}
use Rattle.elm_canon.specs.Unions.{Union, TupleUnion, ListUnion, Declared, tuple_alternative, nil_alternative, cons_alternative}
use Rattle.elm_meaning.specs.Values.{Value, TagV, Values, NoValue, MoreValue, count_of}
use Rattle.elm_meaning.specs.Seen.{same_tag, same_kind}
use Rattle.elm_meaning.specs.Match.{is_of, is_of_one}
use Rattle.elm_meaning.specs.Operate.{build}
use Rattle.elm_type.specs.Types.{Made, MoreType, NoType, types_of, tuple, list_type}
use Rattle.elm_type.specs.Classes.{Ground}
use Rattle.elm_type.specs.Rows.{substitute, substitute_all}
use Rattle.elm_type.specs.declared.head.Head.TheVariants as head
use Rattle.elm_type.specs.Ground.{leaf_value}
use Rattle.std.specs.List.{range_with_len}
use Rattle.type_items.specs.Items.{Place, Wanted, child, children, at}
use Rattle.type_items.specs.Scopes.{Known}
use Rattle.type_items.specs.Patterns.{shape, list_parts}
use Rattle.typed_values.specs.Frames.{Frame, of}
use Rattle.typed_values.specs.World.{KnownIn, World, Constructor, Among, is_negative, Declares, Makes, made_type, IsNil, IsCons, MadeBy, IsSound}
use Rattle.typed_values.specs.Typed.{Has, HasEach}
use Rattle.typed_values.specs.Steps.{Constructed}
use Rattle.typed_values.proofs.Names.{not_both}
use Rattle.typed_values.proofs.Keeping.{and_left, and_both}
use Rattle.typed_values.proofs.Forms.{Tags, form, each_count, tag_value, union_form, is_port_ground, plain_made}
use Rattle.typed_values.proofs.Unions.{map_length, choice, shape_of_declared, fields_same, UnionAt, of_union, no_list}

-- ---- tags

pub tag_itself : (t : Tag) → same_tag t t ≡ true
tag_itself (Number (pos n)) = eq-eqb n n refl
tag_itself (Number (negsuc n)) = eq-eqb n n refl
tag_itself (Truth true) = refl
tag_itself (Truth false) = refl
tag_itself Blank = refl

pub kind_itself : (t : Tag) → same_kind t t ≡ true
kind_itself (Number n) = refl
kind_itself (Truth b) = refl
kind_itself Blank = refl

or_left : (a b : Bool) → a ≡ true → (a || b) ≡ true
or_left a b e = ap (λ c. c || b) e

or_right : (a b : Bool) → b ≡ true → (a || b) ≡ true
or_right true b e = refl
or_right false b e = e

pub is_of_yes : (tag : Tag) (vs : Values) (a : Alternative) → a.tag ≡ tag → count_of vs ≡ a.arity → is_of tag vs a ≡ true
is_of_yes tag vs a e n =
    and_both (same_tag tag a.tag) (count_of vs == a.arity) (ap (same_tag tag) e ∙ tag_itself tag) (eq-eqb (count_of vs) a.arity n)

-- ---- tuples

pub types_same : (as_ bs : List Ground) → types_of as_ ≡ types_of bs → as_ ≡ bs
types_same [] [] e = refl
types_same [] (b ∷ bs) e = absurd (let z : NoType ≡ MoreType b (types_of bs) = e in cc)
types_same (a ∷ as_) [] e = absurd (let z : MoreType a (types_of as_) ≡ NoType = e in cc)
types_same (a ∷ as_) (b ∷ bs) e =
    let z : MoreType a (types_of as_) ≡ MoreType b (types_of bs) = e in
    let one : a ≡ b = cc in
    let more : types_of as_ ≡ types_of bs = cc in
    ap (λ c. c ∷ as_) one ∙ ap (λ cs. b ∷ cs) (types_same as_ bs more)

all_of : (f : Frame) (ts : List Wanted) → substitute_all f.stands (substitute_all (leaf_value f.values) (types_of ts)) ≡ types_of (map (of f) ts)
all_of f [] = refl
all_of f (t ∷ ts) = ap (MoreType (of f t)) (all_of f ts)

pub of_tuple : (f : Frame) (ts : List Wanted) → of f (tuple ts) ≡ tuple (map (of f) ts)
of_tuple f ts = ap (Made head.Tuple) (all_of f ts)

abbrev tuple_tag : ℕ → Tag
tuple_tag n = (tuple_alternative n).tag

pub tuple_arity : (n : ℕ) → (tuple_alternative n).arity ≡ n
tuple_arity zero = refl
tuple_arity (suc n) = refl

range_length : (a n : ℕ) → length (range_with_len a n) ≡ n
range_length a zero = refl
range_length a (suc n) = ap (λ m. suc m) (range_length (a + 1) n)

pub children_length : (p : Place) (n : ℕ) → length (children p n) ≡ n
children_length p n = map_length (λ i. at (child p i)) (range_with_len 0 n) ∙ range_length 0 n

-- ---- values of one type

-- where the tags are the same, the parts have the same types
pub record Together (tag other : Tag) (parts others : List Ground) : Type 0 where
  pub kinds : same_kind tag other ≡ true
  pub same : same_tag tag other ≡ true → parts ≡ others

one_tag : (tag other : Tag) (parts others : List Ground) → tag ≡ other → parts ≡ others → Together tag other parts others
one_tag tag other parts others e p = record { kinds = ap (λ z. same_kind z other) e ∙ kind_itself other; same = λ _. p }

different : (a b tag other : Tag) (parts others : List Ground) → tag ≡ a → other ≡ b → same_kind a b ≡ true → same_tag a b ≡ false → Together tag other parts others
different a b tag other parts others e f k n = record {
  kinds = ap (λ z. same_kind z other) e ∙ (ap (same_kind a) f ∙ k);
  same = λ s. not_both (same_tag tag other) s (ap (λ z. same_tag z other) e ∙ (ap (same_tag a) f ∙ n));
}

module _ (w : World) (sound : IsSound w) where
  union_together : (home name : Name) (tag other : Tag) (parts others : List Ground) (g : Ground) → UnionAt w sound home name tag parts g → UnionAt w sound home name other others g
      → Together tag other parts others
  union_together home name tag other parts others g a b =
      let u = sound.unions home name in
      let c = a.constructor_ in
      let d = b.constructor_ in record {
        kinds = subst (λ z. same_kind z other ≡ true) a.tag_is (subst (λ z. same_kind c.alternative.tag z ≡ true) b.tag_is (u.alike c d a.among b.among));
        same = λ s.
            let t : same_tag c.alternative.tag d.alternative.tag ≡ true =
            subst (λ z. same_tag z d.alternative.tag ≡ true) (sym a.tag_is) (subst (λ z. same_tag tag z ≡ true) (sym b.tag_is) s) in
            let e : c ≡ d = u.told c d a.among b.among t in
            sym a.parts_are ∙ (fields_same w sound home name c a.choice b.choice a.among (a.is ∙ sym (subst (λ z. substitute b.choice (made_type home name z) ≡ g) (sym e) b.is)) ∙ (ap (λ z. map (substitute b.choice) z.fields) e ∙ b.parts_are));
      }

  pub together : (tag : Tag) (vs : Values) (parts : List Ground) (other : Tag) (us : Values) (others : List Ground) (g : Ground) → MadeBy w tag vs parts g → MadeBy w other us others g
      → count_of vs ≡ length parts → count_of us ≡ length others → Together tag other parts others
  together tag vs parts other us others g (inl m) (inl k) n o =
      let e : tuple parts ≡ tuple others = m.is ∙ sym k.is in
      let t : types_of parts ≡ types_of others = cc in
      let p = types_same parts others t in
      one_tag tag other parts others (m.tag_is ∙ (ap tuple_tag (n ∙ (ap length p ∙ sym o)) ∙ sym k.tag_is)) p
  together tag vs parts other us others g (inl m) (inr (inl k)) n o = absurd (let e : tuple parts ≡ list_type k.item = m.is ∙ sym k.is in cc)
  together tag vs parts other us others g (inr (inl m)) (inl k) n o = absurd (let e : list_type m.item ≡ tuple others = m.is ∙ sym k.is in cc)
  together tag vs parts other us others g (inr (inl m)) (inr (inl k)) n o =
      let e : list_type m.item ≡ list_type k.item = m.is ∙ sym k.is in
      let same : m.item ≡ k.item = cc in
      go same m.form k.form
    where
      go : {s t : Ground} → s ≡ t → IsNil tag parts ⊎ IsCons s tag parts → IsNil other others ⊎ IsCons t other others → Together tag other parts others
      go q (inl a) (inl b) = one_tag tag other parts others (a.0 ∙ sym b.0) (a.1 ∙ sym b.1)
      go q (inl a) (inr b) = different (Number (pos 0)) (Number (pos 1)) tag other parts others a.0 b.0 refl refl
      go q (inr a) (inl b) = different (Number (pos 1)) (Number (pos 0)) tag other parts others a.0 b.0 refl refl
      go q (inr a) (inr b) = one_tag tag other parts others (a.0 ∙ sym b.0) (a.1 ∙ (ap (λ z. z ∷ list_type z ∷ []) q ∙ sym b.1))
  together tag vs parts other us others g (inr (inr m)) k n o =
      union_together m.home m.name tag other parts others g (of_union w sound m.home m.name m.constructor_ m.choice tag vs parts g m.among m.is (inr (inr m)))
      (of_union w sound m.home m.name m.constructor_ m.choice other us others g m.among m.is k)
  together tag vs parts other us others g (inl m) (inr (inr k)) n o =
      union_together k.home k.name tag other parts others g (of_union w sound k.home k.name k.constructor_ k.choice tag vs parts g k.among k.is (inl m))
      (of_union w sound k.home k.name k.constructor_ k.choice other us others g k.among k.is (inr (inr k)))
  together tag vs parts other us others g (inr (inl m)) (inr (inr k)) n o =
      union_together k.home k.name tag other parts others g (of_union w sound k.home k.name k.constructor_ k.choice tag vs parts g k.among k.is (inr (inl m)))
      (of_union w sound k.home k.name k.constructor_ k.choice other us others g k.among k.is (inr (inr k)))

  -- ---- signs of tags

  -- tuples and lists have no numbers below 0
  tuple_natural : (k : ℕ) → is_negative (tuple_tag k) ≡ false
  tuple_natural zero = refl
  tuple_natural (suc k) = refl

  list_natural : (item : Ground) (tag : Tag) (parts : List Ground) → IsNil tag parts ⊎ IsCons item tag parts → is_negative tag ≡ false
  list_natural item tag parts (inl a) = ap is_negative a.0
  list_natural item tag parts (inr a) = ap is_negative a.0

  union_signs : (home name : Name) (tag other : Tag) (parts others : List Ground) (g : Ground) → UnionAt w sound home name tag parts g → UnionAt w sound home name other others g
      → is_negative tag ≡ is_negative other
  union_signs home name tag other parts others g a b =
      ap is_negative (sym a.tag_is) ∙ ((sound.unions home name).signs a.constructor_ b.constructor_ a.among b.among ∙ ap is_negative b.tag_is)

  -- of one type all numbers are below 0, or none is
  pub same_signs : (tag : Tag) (vs : Values) (parts : List Ground) (other : Tag) (us : Values) (others : List Ground) (g : Ground) → MadeBy w tag vs parts g → MadeBy w other us others g
      → is_negative tag ≡ is_negative other
  same_signs tag vs parts other us others g (inr (inr m)) k =
      union_signs m.home m.name tag other parts others g (of_union w sound m.home m.name m.constructor_ m.choice tag vs parts g m.among m.is (inr (inr m)))
      (of_union w sound m.home m.name m.constructor_ m.choice other us others g m.among m.is k)
  same_signs tag vs parts other us others g (inl m) (inr (inr k)) =
      union_signs k.home k.name tag other parts others g (of_union w sound k.home k.name k.constructor_ k.choice tag vs parts g k.among k.is (inl m))
      (of_union w sound k.home k.name k.constructor_ k.choice other us others g k.among k.is (inr (inr k)))
  same_signs tag vs parts other us others g (inr (inl m)) (inr (inr k)) =
      union_signs k.home k.name tag other parts others g (of_union w sound k.home k.name k.constructor_ k.choice tag vs parts g k.among k.is (inr (inl m)))
      (of_union w sound k.home k.name k.constructor_ k.choice other us others g k.among k.is (inr (inr k)))
  same_signs tag vs parts other us others g (inl m) (inl k) = ap is_negative m.tag_is ∙ (tuple_natural (count_of vs) ∙ sym (ap is_negative k.tag_is ∙ tuple_natural (count_of us)))
  same_signs tag vs parts other us others g (inl m) (inr (inl k)) = ap is_negative m.tag_is ∙ (tuple_natural (count_of vs) ∙ sym (list_natural k.item other others k.form))
  same_signs tag vs parts other us others g (inr (inl m)) (inl k) = list_natural m.item tag parts m.form ∙ sym (ap is_negative k.tag_is ∙ tuple_natural (count_of us))
  same_signs tag vs parts other us others g (inr (inl m)) (inr (inl k)) = list_natural m.item tag parts m.form ∙ sym (list_natural k.item other others k.form)

  -- the types of the parts of a node
  pub record Node (parts : List Ground) (g : Ground) : Type 0 where
    pub color : Ground
    pub key : Ground
    pub value : Ground
    pub is : parts ≡ color ∷ key ∷ value ∷ g ∷ g ∷ []

  pub node_parts : (vs : Values) (parts : List Ground) (g : Ground) → MadeBy w (Number (negsuc 0)) vs parts g → Node parts g
  node_parts vs parts g (inl m) = not_both true refl (ap is_negative m.tag_is ∙ tuple_natural (count_of vs))
  node_parts vs parts g (inr (inl m)) = not_both true refl (list_natural m.item (Number (negsuc 0)) parts m.form)
  node_parts vs parts g (inr (inr m)) =
      let n = (sound.unions m.home m.name).nodes m.constructor_ m.among m.tag_is in
      let color = substitute m.choice n.color in
      let key = substitute m.choice n.key in
      let value = substitute m.choice n.value in record {
        color = color;
        key = key;
        value = value;
        is = sym m.parts_are ∙ (ap (map (substitute m.choice)) n.is ∙ ap (λ z. color ∷ key ∷ value ∷ z ∷ z ∷ []) m.is);
      }

  -- ---- what is of these types

  pub tuple_made : (tag : Tag) (vs : Values) (parts ts : List Ground) → MadeBy w tag vs parts (tuple ts) → (parts ≡ ts) × (tag ≡ tuple_tag (count_of vs))
  tuple_made tag vs parts ts (inl m) = (let e : tuple parts ≡ tuple ts = m.is in let t : types_of parts ≡ types_of ts = cc in (types_same parts ts t, m.tag_is))
  tuple_made tag vs parts ts (inr (inl m)) = absurd (let e : list_type m.item ≡ tuple ts = m.is in cc)
  tuple_made tag vs parts ts (inr (inr m)) = absurd (let e : substitute m.choice (made_type m.home m.name m.constructor_) ≡ tuple ts = m.is in cc)

  pub list_made : (tag : Tag) (vs : Values) (parts : List Ground) (t : Ground) → MadeBy w tag vs parts (list_type t) → IsNil tag parts ⊎ IsCons t tag parts
  list_made tag vs parts t (inl m) = absurd (let e : tuple parts ≡ list_type t = m.is in cc)
  list_made tag vs parts t (inr (inl m)) =
      let e : list_type m.item ≡ list_type t = m.is in
      let same : m.item ≡ t = cc in
      subst (λ z. IsNil tag parts ⊎ IsCons z tag parts) same m.form
  list_made tag vs parts t (inr (inr m)) =
      let e : substitute m.choice (made_type m.home m.name m.constructor_) ≡ list_type t = m.is in
      let p : m.home ≡ codes "List" = cc in
      let q : m.name ≡ codes "List" = cc in
      no_list w sound m.home m.name m.constructor_ m.among p q

  -- ---- patterns

  pub one_of : (tag : Tag) (vs : Values) (c : Constructor) (cs : List Constructor) → Among c cs → is_of tag vs c.alternative ≡ true → is_of_one tag vs (map (λ d. d.alternative) cs) ≡ true
  one_of tag vs c [] among e = absurd among
  one_of tag vs c (d ∷ cs) (inl same) e =
      or_left (is_of tag vs d.alternative) (is_of_one tag vs (map (λ d. d.alternative) cs)) (ap (λ z. is_of tag vs z.alternative) (sym same) ∙ e)
  one_of tag vs c (d ∷ cs) (inr among) e = or_right (is_of tag vs d.alternative) (is_of_one tag vs (map (λ d. d.alternative) cs)) (one_of tag vs c cs among e)

  abbrev AConstructed : Union → Alternative → Known → Place → Frame → Value → Type 0
  AConstructed u alt k p f v = Constructed w u alt (map (of f) (shape u alt k p).parts) v

  tuple_constructed : (n : ℕ) (alt : Alternative) (k : Known) (p : Place) (f : Frame) (tag : Tag) (vs : Values) → alt ≡ tuple_alternative n → Has w (TagV tag vs) (of f (tuple (children p n)))
      → AConstructed (TupleUnion n) alt k p f (TagV tag vs)
  tuple_constructed n alt k p f tag vs e has =
      let h : Has w (TagV tag vs) (tuple (map (of f) (children p n))) = subst (λ g. Has w (TagV tag vs) g) (of_tuple f (children p n)) has in
      let m = tuple_made tag vs h.0 (map (of f) (children p n)) (plain_made w sound tag vs h.0 (tuple (map (of f) (children p n))) refl h.1) in
      let count : count_of vs ≡ n = each_count w vs h.0 h.2 ∙ (ap length m.0 ∙ (map_length (of f) (children p n) ∙ children_length p n)) in record {
        tag = tag;
        fields = vs;
        is = refl;
        one = or_left (is_of tag vs (tuple_alternative n)) false (is_of_yes tag vs (tuple_alternative n) (sym (m.1 ∙ ap tuple_tag count)) (count ∙ sym (tuple_arity n)));
        of_this = λ _. subst (λ ts. HasEach w vs ts) m.0 h.2;
      }

  list_constructed : (alt : Alternative) (k : Known) (p : Place) (f : Frame) (tag : Tag) (vs : Values) → (alt ≡ nil_alternative) ⊎ (alt ≡ cons_alternative)
      → Has w (TagV tag vs) (list_type (of f (at (child p 0)))) → AConstructed ListUnion alt k p f (TagV tag vs)
  list_constructed alt k p f tag vs e h =
      let t = of f (at (child p 0)) in
      let parts = map (of f) (list_parts alt.arity (at (child p 0))) in
      let is_nil = is_of tag vs nil_alternative in
      let is_cons = is_of tag vs cons_alternative in
      elim (list_made tag vs h.0 t (plain_made w sound tag vs h.0 (list_type t) refl h.1)) [
        | inl m ↦ record {
          tag = tag;
          fields = vs;
          is = refl;
          one = or_left is_nil (is_cons || false) (is_of_yes tag vs nil_alternative (sym m.0) (each_count w vs h.0 h.2 ∙ ap length m.1));
          of_this = λ y. elim e [
            | inl a ↦ subst (λ z. HasEach w vs (map (of f) (list_parts z.arity (at (child p 0))))) (sym a) (subst (λ ts. HasEach w vs ts) m.1 h.2)
            | inr a ↦ (let z : is_cons ≡ true = subst (λ b. is_of tag vs b ≡ true) a y in
                not_both (same_tag tag (Number (pos 1))) (and_left (same_tag tag (Number (pos 1))) (count_of vs == 2) z) (ap (λ c. same_tag c (Number (pos 1))) m.0))
          ];
        }
        | inr m ↦ record {
          tag = tag;
          fields = vs;
          is = refl;
          one = or_right is_nil (is_cons || false) (or_left is_cons false (is_of_yes tag vs cons_alternative (sym m.0) (each_count w vs h.0 h.2 ∙ ap length m.1)));
          of_this = λ y. elim e [
            | inl a ↦ (let z : is_nil ≡ true = subst (λ b. is_of tag vs b ≡ true) a y in
                not_both (same_tag tag (Number (pos 0))) (and_left (same_tag tag (Number (pos 0))) (count_of vs == 0) z) (ap (λ c. same_tag c (Number (pos 0))) m.0))
            | inr a ↦ subst (λ z. HasEach w vs (map (of f) (list_parts z.arity (at (child p 0))))) (sym a) (subst (λ ts. HasEach w vs ts) m.1 h.2)
          ];
        }
      ]

  union_constructed : (m x : Name) (cs : List Alternative) (alt : Alternative) (k : Known) (p : Place) (f : Frame) (tag : Tag) (vs : Values) → KnownIn w k → Declares w (Declared m x cs) alt
      → Has w (TagV tag vs) (of f (shape (Declared m x cs) alt k p).result) → AConstructed (Declared m x cs) alt k p f (TagV tag vs)
  union_constructed m x cs alt k p f tag vs known d h =
      let c = d.1 in
      let s = shape_of_declared w sound m x c alt k f p d.2 d.3 known in
      let g = of f (shape (Declared m x cs) alt k p).result in
      let u = of_union w sound m x c (choice f p) tag vs h.0 g d.2 (sym s.result) (plain_made w sound tag vs h.0 g (ap is_port_ground s.result ∙ d.4) h.1) in
      let own = u.constructor_ in
      let count : count_of vs ≡ own.alternative.arity =
      each_count w vs h.0 h.2 ∙ (ap length (sym u.parts_are) ∙ (map_length (substitute u.choice) own.fields ∙ (sound.unions m x).counted own u.among)) in record {
        tag = tag;
        fields = vs;
        is = refl;
        one = subst (λ z. is_of_one tag vs z ≡ true) (sym d.0) (one_of tag vs own (w.unions m x) u.among (is_of_yes tag vs own.alternative u.tag_is count));
        of_this = λ y.
            let t : same_tag own.alternative.tag c.alternative.tag ≡ true =
            subst (λ z. same_tag z c.alternative.tag ≡ true) (sym u.tag_is) (subst (λ z. same_tag tag z.tag ≡ true) (sym d.3) (and_left (same_tag tag alt.tag) (count_of vs == alt.arity) y)) in
            let e : own ≡ c = (sound.unions m x).told own c u.among d.2 t in
            let parts : h.0 ≡ map (of f) (shape (Declared m x cs) alt k p).parts =
            sym u.parts_are ∙ (fields_same w sound m x own u.choice (choice f p) u.among (u.is ∙ subst (λ z. of f (shape (Declared m x cs) alt k p).result ≡ substitute (choice f p) (made_type m x z)) (sym e) s.result) ∙ (ap (λ z. map (substitute (choice f p)) z.fields) e ∙ sym s.parts)) in
            subst (λ ts. HasEach w vs ts) parts h.2;
      }

  -- a value of a constructor's type is one of the constructors of its union
  pub constructed : (u : Union) (alt : Alternative) (k : Known) (p : Place) (f : Frame) (v : Value) → KnownIn w k → Declares w u alt
      → Has w v (of f (shape u alt k p).result) → AConstructed u alt k p f v
  constructed u alt k p f v known d has =
      let r = tag_value w sound v (of f (shape u alt k p).result) (result_form u d) has in
      subst (AConstructed u alt k p f) (sym r.2) (go u d (subst (λ z. Has w z (of f (shape u alt k p).result)) r.2 has))
    where
      result_form : (u : Union) → Declares w u alt → form (of f (shape u alt k p).result) ≡ Tags
      result_form (TupleUnion n) d = refl
      result_form ListUnion d = refl
      result_form (Declared m x cs) d = ap form (shape_of_declared w sound m x d.1 alt k f p d.2 d.3 known).result ∙ union_form w sound m x d.1 d.2

      go : {tag : Tag} {vs : Values} (u : Union) → Declares w u alt → Has w (TagV tag vs) (of f (shape u alt k p).result) → AConstructed u alt k p f (TagV tag vs)
      go {tag = tag} {vs = vs} (TupleUnion n) d h = tuple_constructed n alt k p f tag vs d h
      go {tag = tag} {vs = vs} ListUnion d h = list_constructed alt k p f tag vs d h
      go {tag = tag} {vs = vs} (Declared m x cs) d h = union_constructed m x cs alt k p f tag vs known d h

  -- ---- what constructors make

  build_tag : (tag : Tag) (vs : Values) → (same_kind tag (Number (pos 0)) ≡ true) ⊎ (count_of vs ≡ 0) → build tag vs ≡ Val (TagV tag vs)
  build_tag (Number n) vs e = refl
  build_tag (Truth b) NoValue e = refl
  build_tag (Truth b) (MoreValue v vs) (inl e) = not_both false e refl
  build_tag (Truth b) (MoreValue v vs) (inr e) = absurd (let z : suc (count_of vs) ≡ 0 = e in omega arith)
  build_tag Blank NoValue e = refl
  build_tag Blank (MoreValue v vs) (inl e) = not_both false e refl
  build_tag Blank (MoreValue v vs) (inr e) = absurd (let z : suc (count_of vs) ≡ 0 = e in omega arith)

  pub built_of : (m x : Name) (c : Constructor) (vs : Values) → Among c (w.unions m x) → count_of vs ≡ c.alternative.arity
      → build c.alternative.tag vs ≡ Val (TagV c.alternative.tag vs)
  built_of m x c vs among n = build_tag c.alternative.tag vs (elim ((sound.unions m x).bare c among) [
    | inl k ↦ inl k
    | inr none ↦ inr (n ∙ (sym ((sound.unions m x).counted c among) ∙ ap length none))
  ])

  pub built : (u : Union) (alt : Alternative) (vs : Values) → Makes w u alt → count_of vs ≡ alt.arity → build alt.tag vs ≡ Val (TagV alt.tag vs)
  built (TupleUnion n) alt vs d e = build_tag alt.tag vs (subst (λ a. (same_kind a.tag (Number (pos 0)) ≡ true) ⊎ (count_of vs ≡ 0)) (sym d) (go n (e ∙ ap (λ a. a.arity) d)))
    where
      go : (n : ℕ) → count_of vs ≡ (tuple_alternative n).arity → (same_kind (tuple_tag n) (Number (pos 0)) ≡ true) ⊎ (count_of vs ≡ 0)
      go zero q = inr q
      go (suc n) q = inl refl
  built ListUnion alt vs (inl d) e = build_tag alt.tag vs (inl (ap (λ a. same_kind a.tag (Number (pos 0))) d))
  built ListUnion alt vs (inr d) e = build_tag alt.tag vs (inl (ap (λ a. same_kind a.tag (Number (pos 0))) d))
  built (Declared m x cs) alt vs d e =
      subst (λ a. build a.tag vs ≡ Val (TagV a.tag vs)) d.2 (built_of m x d.0 vs d.1 (e ∙ sym (ap (λ a. a.arity) d.2)))

  -- what may be taken apart may be built
  pub makes_of : (u : Union) (alt : Alternative) → Declares w u alt → Makes w u alt
  makes_of (TupleUnion n) alt d = d
  makes_of ListUnion alt d = d
  makes_of (Declared m x cs) alt d = (d.1, d.2, d.3, ap (λ b. b && same_tag alt.tag (Number (pos 0))) d.4)

  pub shape_count : (u : Union) (alt : Alternative) (k : Known) (p : Place) (f : Frame) → KnownIn w k → Makes w u alt → length (shape u alt k p).parts ≡ alt.arity
  shape_count (TupleUnion n) alt k p f known d = children_length p n ∙ (sym (tuple_arity n) ∙ ap (λ a. a.arity) (sym d))
  shape_count ListUnion alt k p f known (inl d) = subst (λ a. length (list_parts a.arity (at (child p 0))) ≡ a.arity) (sym d) refl
  shape_count ListUnion alt k p f known (inr d) = subst (λ a. length (list_parts a.arity (at (child p 0))) ≡ a.arity) (sym d) refl
  shape_count (Declared m x cs) alt k p f known d =
      let s = shape_of_declared w sound m x d.0 alt k f p d.1 d.2 known in
      sym (map_length (of f) (shape (Declared m x cs) alt k p).parts)
      ∙ (ap length s.parts ∙ (map_length (substitute (choice f p)) d.0.fields ∙ ((sound.unions m x).counted d.0 d.1 ∙ ap (λ a. a.arity) d.2)))

  pub made_shape : (u : Union) (alt : Alternative) (k : Known) (p : Place) (f : Frame) (vs : Values) → KnownIn w k → Makes w u alt → count_of vs ≡ alt.arity
      → MadeBy w alt.tag vs (map (of f) (shape u alt k p).parts) (of f (shape u alt k p).result)
  made_shape (TupleUnion n) alt k p f vs known d e = inl (record {
    tag_is = ap (λ a. a.tag) d ∙ ap tuple_tag (sym (e ∙ (ap (λ a. a.arity) d ∙ tuple_arity n)));
    is = sym (of_tuple f (children p n));
  })
  made_shape ListUnion alt k p f vs known (inl d) e =
      inr (inl (record { item = of f (at (child p 0)); is = refl; form = inl (ap (λ a. a.tag) d, ap (λ a. map (of f) (list_parts a.arity (at (child p 0)))) d) }))
  made_shape ListUnion alt k p f vs known (inr d) e =
      inr (inl (record { item = of f (at (child p 0)); is = refl; form = inr (ap (λ a. a.tag) d, ap (λ a. map (of f) (list_parts a.arity (at (child p 0)))) d) }))
  made_shape (Declared m x cs) alt k p f vs known d e =
      let s = shape_of_declared w sound m x d.0 alt k f p d.1 d.2 known in
      inr (inr (record {
        home = m;
        name = x;
        constructor_ = d.0;
        among = d.1;
        tag_is = ap (λ a. a.tag) d.2;
        own = d.3;
        choice = choice f p;
        parts_are = sym s.parts;
        is = sym s.result;
      }))
