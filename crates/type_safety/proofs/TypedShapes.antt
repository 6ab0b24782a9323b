-- Shapes of a type: those of its patterns, and one for each of its values.
use Rattle.std.proofs.Common.{◌≡◌, ℕ, suc, ◌+◌, ℤ, pos, negsuc, List, [], ◌∷◌, map, length, Bool, true, false, ◌⊎◌, inl, inr, refl, sym, ap, ◌∙◌, subst, eqb-true}
use Rattle.std.specs.Prelude.{◌==◌, codes}
use Rattle.std.specs.List.{Contains}
use Rattle.elm_base.specs.declared.position.Pos.{Pos}
use Rattle.elm_canon.specs.Names.{Name}
use Rattle.elm_canon.specs.declared.unions.Tag.{Tag}
use Rattle.elm_canon.specs.declared.unions.Tag.TheVariants.{Number, Truth, Blank}
use Rattle.elm_canon.specs.declared.unions.Alternative.{Alternative}
use Rattle.elm_canon.specs.declared.tree.Literal.{Literal}
use Rattle.elm_canon.specs.declared.tree.Literal.TheVariants as literal
use Rattle.elm_canon.specs.Unions.{Union, TupleUnion, ListUnion, Declared, alternatives}
use Rattle.elm_canon.specs.Unions.{tuple_alternative, nil_alternative, cons_alternative}
use Rattle.elm_canon.specs.Tree.{Pattern, Anything, Named, As, Exactly, Construct, FieldsOf, LocatedPattern, Patterns}
use Rattle.elm_canon.specs.Tree.{NoPattern, MorePattern}
use Rattle.elm_canon.specs.Constructors as proper
use Rattle.elm_meaning.specs.Seen as seen
use Rattle.elm_meaning.specs.Values.{Value, IntV, TextV, TagV, RecordV, CloV, KnownV, WireV, Values, NoValue, MoreValue, count_of}
use Rattle.elm_type.specs.Types.{Leaf, Made, int_type, char_type, string_type, list_type, tuple, named, types_of}
use Rattle.elm_type.specs.Classes.{Ground, meets, is_char}
use Rattle.elm_type.specs.declared.class.Class.TheVariants.{Number as Numbers}
use Rattle.type_items.specs.Scopes.{Known}
use Rattle.elm_type.specs.Rows.{substitute}
use Rattle.type_items.specs.Items.{Place, Wanted, Same, child, children, at}
use Rattle.type_items.specs.Patterns.{shape, shape_items, list_parts, literal_type, pattern_items, patterns_items}
use Rattle.type_items.specs.Solutions.{Solves}
use Rattle.pattern_check.specs.Shapes as shapes
use Rattle.pattern_check.specs.Shapes.{Head, Literally, OtherLiteral, Constructor, Shape, Open, Begins, Shapes, NoShape}
use Rattle.pattern_check.specs.Shapes.{MoreShape, shape_of, shapes_of, same_head, width, arity_of, IsKnown, IsProper}
use Rattle.pattern_check.specs.Shapes.{AreProper, IsAlike, Fits, AllFit}
use Rattle.pattern_check.proofs.Members.{first_member, later_member, member_map}
use Rattle.pattern_check.proofs.Heads.{member_is_one}
use Rattle.typed_values.specs.Frames.{Frame, of}
use Rattle.typed_values.specs.World as world
use Rattle.typed_values.specs.World.{World, KnownIn, Among, Declares, variables_of, made_type, MadeBy, OfPort, IsPorted, IsSound}
use Rattle.typed_values.specs.Typed.{Has, HasEach}
use Rattle.typed_values.specs.Simple.{IsPattern, ArePatterns}
use Rattle.typed_values.proofs.Names.{not_both, solves_left, solves_right}
use Rattle.typed_values.proofs.Keeping.{and_left}
use Rattle.typed_values.proofs.Patterns.{up, no_nonsense}
use Rattle.typed_values.proofs.Rows.{extend_none}
use Rattle.typed_values.proofs.Forms.{Ints, Texts, Tags, Calls, form, form_of, number_form, value_form, each_count, union_form}
use Rattle.typed_values.proofs.Unions.{map_length, choice, shape_of_declared, fields_same, no_list}
use Rattle.typed_values.proofs.Makers.{tag_itself, types_same, of_tuple, tuple_arity, children_length}

-- ---- tags

int_is : (m n : ℤ) → proper.same_int m n ≡ true → m ≡ n
int_is (pos m) (pos n) e = ap pos (eqb-true m n e)
int_is (negsuc m) (negsuc n) e = ap negsuc (eqb-true m n e)
int_is (pos m) (negsuc n) e = not_both false e refl
int_is (negsuc m) (pos n) e = not_both false e refl

truth_is : (a b : Bool) → proper.same_truth a b ≡ true → a ≡ b
truth_is true true e = refl
truth_is true false e = sym e
truth_is false true e = e
truth_is false false e = refl

tag_is : (s t : Tag) → proper.same_tag s t ≡ true → s ≡ t
tag_is (Number m) (Number n) e = ap Number (int_is m n e)
tag_is (Truth a) (Truth b) e = ap Truth (truth_is a b e)
tag_is Blank Blank e = refl
tag_is (Number m) (Truth b) e = not_both false e refl
tag_is (Number m) Blank e = not_both false e refl
tag_is (Truth a) (Number n) e = not_both false e refl
tag_is (Truth a) Blank e = not_both false e refl
tag_is Blank (Number n) e = not_both false e refl
tag_is Blank (Truth b) e = not_both false e refl

pub head_tags : (u v : Union) (a b : Alternative) → same_head (Constructor u a) (Constructor v b) ≡ true → a.tag ≡ b.tag
head_tags u v a b e = tag_is a.tag b.tag (and_left (proper.same_tag a.tag b.tag) (a.arity == b.arity) e)

-- ---- literals

abbrev pub literal_ground : Literal → Ground
literal_ground (literal.Int n) = int_type
literal_ground (literal.Char us) = char_type
literal_ground (literal.Text us) = string_type

literal_of : (f : Frame) (l : Literal) → literal_ground l ≡ of f (literal_type l)
literal_of f (literal.Int n) = refl
literal_of f (literal.Char us) = refl
literal_of f (literal.Text us) = refl

abbrev has_char : Ground → Bool
has_char (Made h ts) = is_char h
has_char _ = false

-- a literal is of the type
abbrev pub IsLiteralOf : Literal → Ground → Type 0
IsLiteralOf (literal.Int n) g = meets Numbers g ≡ true
IsLiteralOf (literal.Char us) g = char_type ≡ g
IsLiteralOf (literal.Text us) g = string_type ≡ g

literal_is : (l : Literal) (g : Ground) → literal_ground l ≡ g → IsLiteralOf l g
literal_is (literal.Int n) g e = subst (λ h. meets Numbers h ≡ true) e refl
literal_is (literal.Char us) g e = e
literal_is (literal.Text us) g e = e

literal_form : (l : Literal) (g : Ground) → IsLiteralOf l g → form g ≡ form (literal_ground l)
literal_form (literal.Int n) g e = number_form g e
literal_form (literal.Char us) g e = sym (ap form e)
literal_form (literal.Text us) g e = sym (ap form e)

same_literals : (l m : Literal) (g : Ground) → IsLiteralOf l g → IsLiteralOf m g → shapes.same_kind l m ≡ true
same_literals (literal.Int m) (literal.Int n) g e f = refl
same_literals (literal.Char s) (literal.Char t) g e f = refl
same_literals (literal.Text s) (literal.Text t) g e f = refl
same_literals (literal.Int m) (literal.Char t) g e f = absurd (let z : Ints ≡ Texts = sym (number_form g e) ∙ sym (ap form f) in cc)
same_literals (literal.Int m) (literal.Text t) g e f = absurd (let z : Ints ≡ Texts = sym (number_form g e) ∙ sym (ap form f) in cc)
same_literals (literal.Char s) (literal.Int n) g e f = absurd (let z : Ints ≡ Texts = sym (number_form g f) ∙ sym (ap form e) in cc)
same_literals (literal.Text s) (literal.Int n) g e f = absurd (let z : Ints ≡ Texts = sym (number_form g f) ∙ sym (ap form e) in cc)
same_literals (literal.Char s) (literal.Text t) g e f = not_both true refl (ap has_char (e ∙ sym f))
same_literals (literal.Text s) (literal.Char t) g e f = not_both true refl (ap has_char (f ∙ sym e))

literal_no_tag : {X : Type 0} (l : Literal) (g : Ground) → IsLiteralOf l g → form g ≡ Tags → X
literal_no_tag (literal.Int n) g k e = absurd (let z : Ints ≡ Tags = sym (number_form g k) ∙ e in cc)
literal_no_tag (literal.Char us) g k e = absurd (let z : Texts ≡ Tags = ap form k ∙ e in cc)
literal_no_tag (literal.Text us) g k e = absurd (let z : Texts ≡ Tags = ap form k ∙ e in cc)

-- ---- values

-- what the value shows of itself
abbrev mutual
  pub Shows : Value → Shape → Type 0
  Shows (IntV n) s = s ≡ Begins (Literally (literal.Int n)) NoShape
  Shows (TextV us) s = (s ≡ Begins (Literally (literal.Text us)) NoShape) ⊎ (s ≡ Begins (Literally (literal.Char us)) NoShape)
  Shows (TagV tag vs) s =
      (u : Union) × (alt : Alternative) × (ss : Shapes) × (s ≡ Begins (Constructor u alt) ss) × (alt.tag ≡ tag)
      × (count_of vs ≡ alt.arity) × ShowEach vs ss
  Shows _ s = Unit {0}

  pub ShowEach : Values → Shapes → Type 0
  ShowEach NoValue ss = ss ≡ NoShape
  ShowEach (MoreValue v vs) ss = (s : Shape) × (rest : Shapes) × (ss ≡ MoreShape s rest) × Shows v s × ShowEach vs rest

module _ (w : World) where
  -- ---- what is of a type

  -- of parts of these types the constructor of the union makes what is of that type
  abbrev pub Builds : Union → Alternative → List Ground → Ground → Type 0
  Builds (TupleUnion n) alt parts g = (alt ≡ tuple_alternative n) × (length parts ≡ n) × (tuple parts ≡ g)
  Builds ListUnion alt parts g =
      (item : Ground) × (list_type item ≡ g)
      × (((alt ≡ nil_alternative) × (parts ≡ [])) ⊎ ((alt ≡ cons_alternative) × (parts ≡ item ∷ list_type item ∷ [])))
  Builds (Declared m x cs) alt parts g =
      (cs ≡ map (λ c. c.alternative) (w.unions m x)) × (c : world.Constructor) × Among c (w.unions m x) × (c.alternative ≡ alt)
      × (of_leaf : Leaf ℕ → Ground) × (map (substitute of_leaf) c.fields ≡ parts) × (substitute of_leaf (made_type m x c) ≡ g)

  abbrev pub BeginsAt : Head → List Ground → Ground → Type 0
  BeginsAt (Literally l) parts g = IsLiteralOf l g × (parts ≡ [])
  BeginsAt OtherLiteral parts g = ⊥
  BeginsAt (Constructor u alt) parts g = Builds u alt parts g

  abbrev mutual
    pub OfType : Shape → Ground → Type 0
    OfType Open g = Unit {0}
    OfType (Begins h ss) g = (parts : List Ground) × BeginsAt h parts g × EachOfType ss parts

    pub EachOfType : Shapes → List Ground → Type 0
    EachOfType NoShape [] = Unit {0}
    EachOfType NoShape (t ∷ ts) = ⊥
    EachOfType (MoreShape s ss) [] = ⊥
    EachOfType (MoreShape s ss) (t ∷ ts) = OfType s t × EachOfType ss ts

  each_width : (ss : Shapes) (ts : List Ground) → EachOfType ss ts → width ss ≡ length ts
  each_width NoShape [] h = refl
  each_width NoShape (t ∷ ts) h = absurd h
  each_width (MoreShape s ss) [] h = absurd h
  each_width (MoreShape s ss) (t ∷ ts) h = ap (λ n. suc n) (each_width ss ts h.1)

  among_member : (c : world.Constructor) (cs : List world.Constructor) → Among c cs → Contains cs c
  among_member c [] a = absurd a
  among_member c (d ∷ cs) (inl e) = subst (Contains (d ∷ cs)) (sym e) (first_member d cs)
  among_member c (d ∷ cs) (inr a) = later_member d c cs (among_member c cs a)

  module _ (sound : IsSound w) where
    -- ---- constructors

    builds_one : (u : Union) (alt : Alternative) (parts : List Ground) (g : Ground) → Builds u alt parts g → proper.is_one_of alt (alternatives u) ≡ true
    builds_one (TupleUnion n) alt parts g b = member_is_one (tuple_alternative n ∷ []) alt (subst (Contains (tuple_alternative n ∷ [])) (sym b.0) (first_member (tuple_alternative n) []))
    builds_one ListUnion alt parts g b = elim b.2 [
      | inl n ↦ member_is_one (alternatives ListUnion) alt (subst (Contains (alternatives ListUnion)) (sym n.0) (first_member nil_alternative (cons_alternative ∷ [])))
      | inr n ↦ member_is_one (alternatives ListUnion) alt (subst (Contains (alternatives ListUnion)) (sym n.0) (later_member nil_alternative cons_alternative (cons_alternative ∷ []) (first_member cons_alternative [])))
    ]
    builds_one (Declared m x cs) alt parts g b =
        subst (λ z. proper.is_one_of alt z ≡ true) (sym b.0)
        (member_is_one (map (λ c. c.alternative) (w.unions m x)) alt
        (subst (Contains (map (λ c. c.alternative) (w.unions m x))) b.3 (member_map (λ c. c.alternative) (w.unions m x) b.1 (among_member b.1 (w.unions m x) b.2))))

    builds_arity : (u : Union) (alt : Alternative) (parts : List Ground) (g : Ground) → Builds u alt parts g → length parts ≡ alt.arity
    builds_arity (TupleUnion n) alt parts g b = b.1 ∙ (sym (tuple_arity n) ∙ ap (λ a. a.arity) (sym b.0))
    builds_arity ListUnion alt parts g b = elim b.2 [
      | inl n ↦ ap length n.1 ∙ ap (λ a. a.arity) (sym n.0)
      | inr n ↦ ap length n.1 ∙ ap (λ a. a.arity) (sym n.0)
    ]
    builds_arity (Declared m x cs) alt parts g b =
        ap length (sym b.5) ∙ (map_length (substitute b.4) b.1.fields ∙ ((sound.unions m x).counted b.1 b.2 ∙ ap (λ a. a.arity) b.3))

    builds_form : (u : Union) (alt : Alternative) (parts : List Ground) (g : Ground) → Builds u alt parts g → form g ≡ Tags
    builds_form (TupleUnion n) alt parts g b = sym (ap form b.2)
    builds_form ListUnion alt parts g b = sym (ap form b.1)
    builds_form (Declared m x cs) alt parts g b = sym (ap form b.6) ∙ union_form w sound m x b.1 b.2

    -- constructors of one type are of one union, and where they are the same their parts are of the same types
    abbrev Joined : Union → Union → Alternative → Alternative → List Ground → List Ground → Type 0
    Joined u v a b ps qs = (u ≡ v) × (same_head (Constructor u a) (Constructor v b) ≡ true → ps ≡ qs)

    lists_joined : (a b : Alternative) (ps qs : List Ground) (s t : Ground) → s ≡ t
        → ((a ≡ nil_alternative) × (ps ≡ [])) ⊎ ((a ≡ cons_alternative) × (ps ≡ s ∷ list_type s ∷ []))
        → ((b ≡ nil_alternative) × (qs ≡ [])) ⊎ ((b ≡ cons_alternative) × (qs ≡ t ∷ list_type t ∷ [])) → a.tag ≡ b.tag → ps ≡ qs
    lists_joined a b ps qs s t same (inl i) (inl j) e = i.1 ∙ sym j.1
    lists_joined a b ps qs s t same (inl i) (inr j) e =
        absurd (let z : Number (pos 0) ≡ Number (pos 1) = ap (λ z. z.tag) (sym i.0) ∙ (e ∙ ap (λ z. z.tag) j.0) in cc)
    lists_joined a b ps qs s t same (inr i) (inl j) e =
        absurd (let z : Number (pos 1) ≡ Number (pos 0) = ap (λ z. z.tag) (sym i.0) ∙ (e ∙ ap (λ z. z.tag) j.0) in cc)
    lists_joined a b ps qs s t same (inr i) (inr j) e = i.1 ∙ (ap (λ z. z ∷ list_type z ∷ []) same ∙ sym j.1)

    declared_same : (m x : Name) (cs ds : List Alternative) (a b : Alternative) (ps qs : List Ground) (g : Ground) → Builds (Declared m x cs) a ps g → Builds (Declared m x ds) b qs g
        → a.tag ≡ b.tag → ps ≡ qs
    declared_same m x cs ds a b ps qs g i k t =
        let c = i.1 in
        let d = k.1 in
        let same : c.alternative.tag ≡ d.alternative.tag = ap (λ z. z.tag) i.3 ∙ (t ∙ ap (λ z. z.tag) (sym k.3)) in
        let is : c ≡ d =
        (sound.unions m x).told c d i.2 k.2 (subst (λ z. seen.same_tag c.alternative.tag z ≡ true) same (tag_itself c.alternative.tag)) in
        let made : substitute i.4 (made_type m x c) ≡ substitute k.4 (made_type m x c) =
        i.6 ∙ sym (subst (λ z. substitute k.4 (made_type m x z) ≡ g) (sym is) k.6) in
        sym i.5 ∙ (fields_same w sound m x c i.4 k.4 i.2 made ∙ (ap (λ z. map (substitute k.4) z.fields) is ∙ k.5))

    declared_join : (m x : Name) (cs ds : List Alternative) (a b : Alternative) (ps qs : List Ground) (g : Ground) → Builds (Declared m x cs) a ps g → Builds (Declared m x ds) b qs g
        → Joined (Declared m x cs) (Declared m x ds) a b ps qs
    declared_join m x cs ds a b ps qs g i k =
        (ap (Declared m x) (i.0 ∙ sym k.0), λ h. declared_same m x cs ds a b ps qs g i k (head_tags (Declared m x cs) (Declared m x ds) a b h))

    builds_join : (u v : Union) (a b : Alternative) (ps qs : List Ground) (g : Ground) → Builds u a ps g → Builds v b qs g → Joined u v a b ps qs
    builds_join (TupleUnion n) (TupleUnion o) a b ps qs g i j =
        let e : tuple ps ≡ tuple qs = i.2 ∙ sym j.2 in
        let t : types_of ps ≡ types_of qs = cc in
        let p = types_same ps qs t in
        (ap TupleUnion (sym i.1 ∙ (ap length p ∙ j.1)), λ _. p)
    builds_join (TupleUnion n) ListUnion a b ps qs g i j = absurd (let e : tuple ps ≡ list_type j.0 = i.2 ∙ sym j.1 in cc)
    builds_join (TupleUnion n) (Declared m x cs) a b ps qs g i j =
        absurd (let e : tuple ps ≡ substitute j.4 (made_type m x j.1) = i.2 ∙ sym j.6 in cc)
    builds_join ListUnion (TupleUnion n) a b ps qs g i j = absurd (let e : list_type i.0 ≡ tuple qs = i.1 ∙ sym j.2 in cc)
    builds_join ListUnion ListUnion a b ps qs g i j =
        let e : list_type i.0 ≡ list_type j.0 = i.1 ∙ sym j.1 in
        let same : i.0 ≡ j.0 = cc in
        (refl, λ h. lists_joined a b ps qs i.0 j.0 same i.2 j.2 (head_tags ListUnion ListUnion a b h))
    builds_join ListUnion (Declared m x cs) a b ps qs g i j =
        let e : substitute j.4 (made_type m x j.1) ≡ list_type i.0 = j.6 ∙ sym i.1 in
        let p : m ≡ codes "List" = cc in
        let q : x ≡ codes "List" = cc in
        no_list w sound m x j.1 j.2 p q
    builds_join (Declared m x cs) (TupleUnion n) a b ps qs g i j =
        absurd (let e : tuple qs ≡ substitute i.4 (made_type m x i.1) = j.2 ∙ sym i.6 in cc)
    builds_join (Declared m x cs) ListUnion a b ps qs g i j =
        let e : substitute i.4 (made_type m x i.1) ≡ list_type j.0 = i.6 ∙ sym j.1 in
        let p : m ≡ codes "List" = cc in
        let q : x ≡ codes "List" = cc in
        no_list w sound m x i.1 i.2 p q
    builds_join (Declared m x cs) (Declared n y ds) a b ps qs g i j =
        let e : substitute i.4 (made_type m x i.1) ≡ substitute j.4 (made_type n y j.1) = i.6 ∙ sym j.6 in
        let p : m ≡ n = cc in
        let q : x ≡ y = cc in
        subst (λ z. Builds (Declared n z ds) b qs g → Joined (Declared m x cs) (Declared n z ds) a b ps qs) q
        (subst (λ z. Builds (Declared z x ds) b qs g → Joined (Declared m x cs) (Declared z x ds) a b ps qs) p
        (λ k. declared_join m x cs ds a b ps qs g i k)) j

    -- ---- shapes of one type

    mutual
      pub shape_proper : (s : Shape) (g : Ground) → OfType s g → IsProper s
      shape_proper Open g h = tt
      shape_proper (Begins (Literally l) ss) g h = (tt, (each_width ss h.0 h.2 ∙ ap length h.1.1, shapes_proper ss h.0 h.2))
      shape_proper (Begins OtherLiteral ss) g h = absurd h.1
      shape_proper (Begins (Constructor u alt) ss) g h = (
        builds_one u alt h.0 g h.1,
        (each_width ss h.0 h.2 ∙ builds_arity u alt h.0 g h.1, shapes_proper ss h.0 h.2),
      )

      shapes_proper : (ss : Shapes) (ts : List Ground) → EachOfType ss ts → AreProper ss
      shapes_proper NoShape ts h = tt
      shapes_proper (MoreShape s ss) [] h = absurd h
      shapes_proper (MoreShape s ss) (t ∷ ts) h = (shape_proper s t h.0, shapes_proper ss ts h.1)

    heads_join : (h k : Head) (ps qs : List Ground) (g : Ground) → BeginsAt h ps g → BeginsAt k qs g → IsAlike h k × (same_head h k ≡ true → ps ≡ qs)
    heads_join (Literally l) (Literally m) ps qs g i j = (same_literals l m g i.0 j.0, λ _. i.1 ∙ sym j.1)
    heads_join (Literally l) (Constructor v b) ps qs g i j = literal_no_tag l g i.0 (builds_form v b qs g j)
    heads_join (Constructor u a) (Literally m) ps qs g i j = literal_no_tag m g j.0 (builds_form u a ps g i)
    heads_join (Constructor u a) (Constructor v b) ps qs g i j = builds_join u v a b ps qs g i j
    heads_join OtherLiteral k ps qs g i j = absurd i
    heads_join (Literally l) OtherLiteral ps qs g i j = absurd j
    heads_join (Constructor u a) OtherLiteral ps qs g i j = absurd j

    mutual
      pub shape_fits : (s t : Shape) (g : Ground) → OfType s g → OfType t g → Fits s t
      shape_fits Open t g i j = tt
      shape_fits (Begins h ss) Open g i j = tt
      shape_fits (Begins h ss) (Begins k ts) g i j =
          let r = heads_join h k i.0 j.0 g i.1 j.1 in
          (r.0, λ e. shapes_fit ss ts j.0 (subst (EachOfType ss) (r.1 e) i.2) j.2)

      shapes_fit : (ss ts : Shapes) (gs : List Ground) → EachOfType ss gs → EachOfType ts gs → AllFit ss ts
      shapes_fit NoShape NoShape gs i j = tt
      shapes_fit NoShape (MoreShape t ts) [] i j = absurd j
      shapes_fit NoShape (MoreShape t ts) (g ∷ gs) i j = absurd i
      shapes_fit (MoreShape s ss) NoShape [] i j = absurd i
      shapes_fit (MoreShape s ss) NoShape (g ∷ gs) i j = absurd j
      shapes_fit (MoreShape s ss) (MoreShape t ts) [] i j = absurd i
      shapes_fit (MoreShape s ss) (MoreShape t ts) (g ∷ gs) i j = (shape_fits s t g i.0 j.0, shapes_fit ss ts gs i.1 j.1)

    -- ---- the shape of a pattern

    shape_builds : (u : Union) (alt : Alternative) (known : Known) (p : Place) (f : Frame) → KnownIn w known → Declares w u alt
        → Builds u alt (map (of f) (shape u alt known p).parts) (of f (shape u alt known p).result)
    shape_builds (TupleUnion n) alt known p f is_known d = (d, map_length (of f) (children p n) ∙ children_length p n, sym (of_tuple f (children p n)))
    shape_builds ListUnion alt known p f is_known (inl d) =
        (of f (at (child p 0)), refl, inl (d, ap (λ a. map (of f) (list_parts a.arity (at (child p 0)))) d))
    shape_builds ListUnion alt known p f is_known (inr d) =
        (of f (at (child p 0)), refl, inr (d, ap (λ a. map (of f) (list_parts a.arity (at (child p 0)))) d))
    shape_builds (Declared m x cs) alt known p f is_known d =
        let s = shape_of_declared w sound m x d.1 alt known f p d.2 d.3 is_known in
        (d.0, d.1, d.2, d.3, choice f p, sym s.parts, sym s.result)

    module _ (known : Known) (is_known : KnownIn w known) where
      mutual
        pub pattern_shape : (q : Pattern) → IsPattern w q → (here : Pos) (p : Place) (t : Wanted) (f : Frame) → Solves f.values (pattern_items q known here p t)
            → OfType (shape_of q) (of f t)
        pattern_shape Anything proper here p t f sol = tt
        pattern_shape (Named x) proper here p t f sol = tt
        pattern_shape (As q x) proper here p t f sol = pattern_shape q proper here p t f sol
        pattern_shape (Exactly l) proper here p t f sol = ([], (literal_is l (of f t) (literal_of f l ∙ up f (literal_type l) t sol.0), refl), tt)
        pattern_shape (Construct u alt qs) proper here p t f sol =
            let asked = shape_items u alt known here (child p 0) in
            let s = shape u alt known (child p 0) in
            let rest = solves_right f asked (Same here s.result t ∷ patterns_items qs known here (child p 1) 0 s.parts) sol in (
              map (of f) s.parts,
              subst (Builds u alt (map (of f) s.parts)) (up f s.result t rest.0) (shape_builds u alt known (child p 0) f is_known proper.0),
              pattern_shapes qs proper.2 here (child p 1) 0 s.parts f rest.1,
            )
        pattern_shape (FieldsOf xs) proper here p t f sol = tt
        pattern_shape (LocatedPattern start q) proper here p t f sol = pattern_shape q proper start p t f sol

        pattern_shapes : (qs : Patterns) → ArePatterns w qs → (here : Pos) (p : Place) (i : ℕ) (ts : List Wanted) (f : Frame) → Solves f.values (patterns_items qs known here p i ts)
            → EachOfType (shapes_of qs) (map (of f) ts)
        pattern_shapes NoPattern proper here p i [] f sol = tt
        pattern_shapes NoPattern proper here p i (t ∷ ts) f sol = no_nonsense f here sol
        pattern_shapes (MorePattern q qs) proper here p i [] f sol = no_nonsense f here sol
        pattern_shapes (MorePattern q qs) proper here p i (t ∷ ts) f sol =
            let first = pattern_items q known here (child p i) t in
            let rest = patterns_items qs known here p (i + 1) ts in (
              pattern_shape q proper.0 here (child p i) t f (solves_left f first rest sol),
              pattern_shapes qs proper.1 here p (i + 1) ts f (solves_right f first rest sol),
            )

    -- ---- the shape of a value

    made_builds : (tag : Tag) (vs : Values) (parts : List Ground) (g : Ground) → MadeBy w tag vs parts g → count_of vs ≡ length parts
        → (u : Union) × (alt : Alternative) × Builds u alt parts g × (alt.tag ≡ tag)
    made_builds tag vs parts g (inl m) n = (TupleUnion (count_of vs), tuple_alternative (count_of vs), (refl, sym n, m.is), sym m.tag_is)
    made_builds tag vs parts g (inr (inl m)) n = elim m.form [
      | inl a ↦ (ListUnion, nil_alternative, (m.item, m.is, inl (refl, a.1)), sym a.0)
      | inr a ↦ (ListUnion, cons_alternative, (m.item, m.is, inr (refl, a.1)), sym a.0)
    ]
    made_builds tag vs parts g (inr (inr m)) n =
        let cs = map (λ c. c.alternative) (w.unions m.home m.name) in
        (Declared m.home m.name cs, m.constructor_.alternative, (refl, m.constructor_, m.among, refl, m.choice, m.parts_are, m.is), m.tag_is)

    -- what ports make: a carrier of a text and of what shows nothing of itself
    shows_call : (x : Value) → form_of x ≡ Calls → Shows x Open
    shows_call (IntV n) e = absurd (cc)
    shows_call (TextV us) e = absurd (cc)
    shows_call (TagV tag vs) e = absurd (cc)
    shows_call (RecordV fs) e = tt
    shows_call (CloV env qs b) e = tt
    shows_call (KnownV k vs) e = tt
    shows_call (WireV x) e = tt

    abbrev carried_shapes : List ℕ → Shapes
    carried_shapes port = MoreShape (Begins (Literally (literal.Text port)) NoShape) (MoreShape Open NoShape)

    shows_carried : (vs rest : Values) (port : List ℕ) (carried : Ground) → vs ≡ MoreValue (TextV port) rest → form carried ≡ Calls → HasEach w vs (string_type ∷ carried ∷ []) → ShowEach vs (carried_shapes port)
    shows_carried NoValue rest port carried e calls h = absurd h
    shows_carried (MoreValue v NoValue) rest port carried e calls h = absurd h.1
    shows_carried (MoreValue v (MoreValue x (MoreValue y vs))) rest port carried e calls h = absurd h.1.1
    shows_carried (MoreValue v (MoreValue x NoValue)) rest port carried e calls h =
        let v_is : v ≡ TextV port = cc in
        let own : Shows v (Begins (Literally (literal.Text port)) NoShape) = subst (λ z. Shows z (Begins (Literally (literal.Text port)) NoShape)) (sym v_is) (inl refl) in
        (Begins (Literally (literal.Text port)) NoShape, MoreShape Open NoShape, refl, own, (Open, NoShape, refl, shows_call x (sym (value_form w sound x carried h.1.0) ∙ calls), refl))

    ported_shape : (m x : Name) (message g : Ground) → IsPorted w m x → named m x (message ∷ []) ≡ g → (tag : Tag) (vs rest : Values) (port : List ℕ) (carried : Ground) → tag ≡ Number (pos 0)
        → vs ≡ MoreValue (TextV port) rest → form carried ≡ Calls → HasEach w vs (string_type ∷ carried ∷ []) → (s : Shape) × OfType s g × Shows (TagV tag vs) s
    ported_shape m x message g ported is tag vs rest port carried tag_is begins calls h =
        let c = ported.carrier.0 in
        let among = ported.carrier.1 in
        let k = ported.carrier.2 in
        let cs = map (λ c. c.alternative) (w.unions m x) in
        let parts = map (substitute (λ _. message)) c.fields in
        let parts_are : parts ≡ string_type ∷ substitute (λ _. message) k.other ∷ [] = ap (map (substitute (λ _. message))) k.fields_are in
        let made : substitute (λ _. message) (made_type m x c) ≡ g =
        ap (λ ns. substitute (λ _. message) (named m x (variables_of ns))) k.arguments_are ∙ (ap (λ z. named m x (z ∷ [])) (extend_none message) ∙ is) in (
          Begins (Constructor (Declared m x cs) c.alternative) (carried_shapes port),
          (parts, (refl, c, among, refl, (λ _. message), refl, made), subst (EachOfType (carried_shapes port)) (sym parts_are) (([], (refl, refl), tt), (tt, tt))),
          (
            Declared m x cs,
            c.alternative,
            carried_shapes port,
            refl,
            k.tag_is ∙ sym tag_is,
            each_count w vs (string_type ∷ carried ∷ []) h ∙ (sym (ap length k.fields_are) ∙ (sound.unions m x).counted c among),
            shows_carried vs rest port carried begins calls h,
          ),
        )

    port_shape : (tag : Tag) (vs : Values) (parts : List Ground) (g : Ground) → OfPort w tag vs parts g → HasEach w vs parts → (s : Shape) × OfType s g × Shows (TagV tag vs) s
    port_shape tag vs parts g m h = elim m.carries [
      | inl s ↦ ported_shape (codes "Platform.Cmd") (codes "Cmd") s.message g sound.commands s.is tag vs m.rest m.port m.carried m.tag_is m.begins
          (ap form s.carried_is) (subst (HasEach w vs) m.parts_are h)
      | inr l ↦ ported_shape (codes "Platform.Sub") (codes "Sub") l.message g sound.subscriptions l.is tag vs m.rest m.port m.carried m.tag_is m.begins
          (ap form l.carried_is) (subst (HasEach w vs) m.parts_are h)
    ]

    mutual
      pub value_shape : (v : Value) (g : Ground) → Has w v g → (s : Shape) × OfType s g × Shows v s
      value_shape (IntV n) g has = (Begins (Literally (literal.Int n)) NoShape, ([], (has, refl), tt), refl)
      value_shape (TextV us) g (inl has) = (Begins (Literally (literal.Text us)) NoShape, ([], (has, refl), tt), inl refl)
      value_shape (TextV us) g (inr has) = (Begins (Literally (literal.Char us)) NoShape, ([], (has, refl), tt), inr refl)
      value_shape (TagV tag vs) g has = elim has.1 [
        | inl m ↦ (let n = each_count w vs has.0 has.2 in
            let b = made_builds tag vs has.0 g m n in
            let r = value_shapes vs has.0 has.2 in (
              Begins (Constructor b.0 b.1) r.0,
              (has.0, b.2, r.1),
              (b.0, b.1, r.0, refl, b.3, n ∙ builds_arity b.0 b.1 has.0 g b.2, r.2),
            ))
        | inr m ↦ port_shape tag vs has.0 g m has.2
      ]
      value_shape (RecordV fs) g has = (Open, tt, tt)
      value_shape (CloV env qs e) g has = (Open, tt, tt)
      value_shape (KnownV k vs) g has = (Open, tt, tt)
      value_shape (WireV wire) g has = (Open, tt, tt)

      value_shapes : (vs : Values) (ts : List Ground) → HasEach w vs ts → (ss : Shapes) × EachOfType ss ts × ShowEach vs ss
      value_shapes NoValue [] has = (NoShape, tt, refl)
      value_shapes NoValue (t ∷ ts) has = absurd has
      value_shapes (MoreValue v vs) [] has = absurd has
      value_shapes (MoreValue v vs) (t ∷ ts) has =
          let one = value_shape v t has.0 in
          let rest = value_shapes vs ts has.1 in
          (MoreShape one.0 rest.0, (one.1, rest.1), (one.0, rest.0, refl, one.2, rest.2))
