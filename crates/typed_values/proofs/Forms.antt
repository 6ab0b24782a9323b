-- Which values there are of a type.
use Rattle.std.proofs.Common.{◌≡◌, ℕ, suc, ℤ, pos, ◌⊎◌, List, [], ◌∷◌, map, length, Bool, true, false, inl, inr, refl, sym, ap, ◌∙◌, subst}
use Rattle.std.specs.Prelude.{◌&&◌, ◌||◌, codes}
use Rattle.std.specs.Str.{bytes_eq}
use Rattle.std.proofs.lemmas.Slice.Eq.{bytes_eq-Decides}
use Rattle.elm_base.specs.declared.position.Pos.{Pos}
use Rattle.elm_canon.specs.Names.{Name}
use Rattle.elm_canon.specs.declared.unions.Tag.{Tag}
use Rattle.elm_canon.specs.declared.unions.Tag.TheVariants.{Number as NumberTag}
use Rattle.elm_canon.specs.Tree.{Patterns, NoPattern, MorePattern}
use Rattle.elm_canon.specs.Proper.{has_parameter}
use Rattle.elm_meaning.specs.Seen.{same_tag}
use Rattle.elm_meaning.specs.Values.{Value, IntV, TextV, TagV, RecordV, CloV, KnownV, WireV, Values, NoValue, MoreValue, FieldValues, count_of}
use Rattle.elm_type.specs.Types.{Fields, End, Closed, Over, Record, Made, NoField, MoreField, Rigid, functions}
use Rattle.elm_type.specs.Classes.{Ground, meets, is_int, is_char, is_string, is_list}
use Rattle.elm_type.specs.Rows.{has_field}
use Rattle.elm_type.specs.declared.class.Class.TheVariants.{Number}
use Rattle.elm_type.specs.declared.head.Head.{Head}
use Rattle.elm_type.specs.declared.head.Head.TheVariants as head
use Rattle.type_items.specs.Items.{Place, Wanted}
use Rattle.type_items.specs.Scopes.{Known}
use Rattle.type_items.specs.Patterns.{patterns_items}
use Rattle.type_items.specs.Solutions.{Solves}
use Rattle.typed_values.specs.Frames.{Frame, of}
use Rattle.typed_values.specs.World.{World, Constructor, Among, MadeBy, OfPort, IsSound, is_ported}
use Rattle.typed_values.specs.Typed.{Has, HasEach}
use Rattle.typed_values.proofs.Names.{not_both}
use Rattle.typed_values.proofs.Keeping.{and_left, and_right}
use Rattle.typed_values.proofs.Numbers.{number_is_int}
use Rattle.typed_values.proofs.Patterns.{no_nonsense}

pub data Form : Type 0 where
  Ints : Form
  Texts : Form
  Tags : Form
  Records : Form
  Calls : Form

abbrev pub named_form : Bool → Bool → Form
named_form true b = Ints
named_form false true = Texts
named_form false false = Tags

-- of the type of a constant there are no values but numbers
abbrev pub record_form : End Rigid → Fields Rigid → Form
record_form Closed fs = Records
record_form (Over r) NoField = Ints
record_form (Over r) (MoreField k t fs) = Records

abbrev pub form : Ground → Form
form (Made (head.Named m x) ts) = named_form (is_int (head.Named m x)) (is_char (head.Named m x) || is_string (head.Named m x))
form (Made head.Function ts) = Calls
form (Made head.Tuple ts) = Tags
form (Record fs end) = record_form end fs

abbrev pub form_of : Value → Form
form_of (IntV n) = Ints
form_of (TextV us) = Texts
form_of (TagV tag vs) = Tags
form_of (RecordV fs) = Records
form_of (CloV env qs e) = Calls
form_of (KnownV k vs) = Calls
form_of (WireV w) = Calls

-- commands and subscriptions
abbrev pub is_port_ground : Ground → Bool
is_port_ground (Made (head.Named m x) ts) = is_ported m x
is_port_ground (Made head.Function ts) = false
is_port_ground (Made head.Tuple ts) = false
is_port_ground (Record fs end) = false

pub number_form : (g : Ground) → meets Number g ≡ true → form g ≡ Ints
number_form (Made h ts) m = sym (ap form (number_is_int h ts m))
number_form (Record NoField Closed) m = not_both false m refl
number_form (Record NoField (Over r)) m = refl
number_form (Record (MoreField k t fs) end) m = not_both false m refl

-- a record with some field has the form of one
pub with_field : (x : Name) (end : End Rigid) (fs : Fields Rigid) → has_field x fs ≡ true → record_form end fs ≡ Records
with_field x Closed fs e = refl
with_field x (Over r) NoField e = not_both false e refl
with_field x (Over r) (MoreField k t fs) e = refl

pub each_count : (w : World) (vs : Values) (ts : List Ground) → HasEach w vs ts → count_of vs ≡ length ts
each_count w NoValue [] h = refl
each_count w NoValue (t ∷ ts) h = absurd h
each_count w (MoreValue v vs) [] h = absurd h
each_count w (MoreValue v vs) (t ∷ ts) h = ap (λ n. suc n) (each_count w vs ts h.1)

module _ (w : World) (sound : IsSound w) where
  none_at : {X : Type 0} (m n x y : Name) (c : Constructor) → (bytes_eq m n && bytes_eq x y) ≡ true → (w.unions n y) ≡ []
      → Among c (w.unions m x) → X
  none_at m n x y c e none among =
      let p : m ≡ n = (bytes_eq-Decides m n).0 (and_left (bytes_eq m n) (bytes_eq x y) e) in
      let q : x ≡ y = (bytes_eq-Decides x y).0 (and_right (bytes_eq m n) (bytes_eq x y) e) in
      let r : (w.unions m x) ≡ [] = ap (λ z. (w.unions z x)) p ∙ (ap (λ z. (w.unions n z)) q ∙ none) in
      absurd (subst (λ cs. Among c cs) r among)

  -- the name of a union is none of these
  pub record Plain (h : Head) : Type 0 where
    pub int : is_int h ≡ false
    pub char : is_char h ≡ false
    pub string : is_string h ≡ false
    pub list : is_list h ≡ false

  pub union_plain : (m x : Name) (c : Constructor) → Among c (w.unions m x) → Plain (head.Named m x)
  union_plain m x c among = record {
    int = no_test (is_int (head.Named m x)) (λ e. none_at m (codes "Basics") x (codes "Int") c e sound.no_ints among);
    char = no_test (is_char (head.Named m x)) (λ e. none_at m (codes "Char") x (codes "Char") c e sound.no_chars among);
    string = no_test (is_string (head.Named m x)) (λ e. none_at m (codes "String") x (codes "String") c e sound.no_texts among);
    list = no_test (is_list (head.Named m x)) (λ e. none_at m (codes "List") x (codes "List") c e sound.no_lists among);
  }
    where
      no_test : (b : Bool) → (b ≡ true → ⊥) → b ≡ false
      no_test true n = absurd (n refl)
      no_test false n = refl

  pub union_form : (m x : Name) (c : Constructor) → Among c (w.unions m x)
      → named_form (is_int (head.Named m x)) (is_char (head.Named m x) || is_string (head.Named m x)) ≡ Tags
  union_form m x c among =
      let p = union_plain m x c among in
      ap (λ b. named_form b (is_char (head.Named m x) || is_string (head.Named m x))) p.int
      ∙ (ap (λ b. named_form false (b || is_string (head.Named m x))) p.char ∙ ap (named_form false) p.string)

  pub port_form : (tag : Tag) (vs : Values) (parts : List Ground) (g : Ground) → OfPort w tag vs parts g → form g ≡ Tags
  port_form tag vs parts g m = elim m.carries [ inl s ↦ sym (ap form s.is) | inr l ↦ sym (ap form l.is) ]

  pub port_ground : (tag : Tag) (vs : Values) (parts : List Ground) (g : Ground) → OfPort w tag vs parts g → is_port_ground g ≡ true
  port_ground tag vs parts g m = elim m.carries [ inl s ↦ sym (ap is_port_ground s.is) | inr l ↦ sym (ap is_port_ground l.is) ]

  -- where ports make nothing of the type, or nothing with the tag
  pub plain_made : (tag : Tag) (vs : Values) (parts : List Ground) (g : Ground) → is_port_ground g ≡ false → MadeBy w tag vs parts g ⊎ OfPort w tag vs parts g → MadeBy w tag vs parts g
  plain_made tag vs parts g n (inl m) = m
  plain_made tag vs parts g n (inr m) = not_both (is_port_ground g) (port_ground tag vs parts g m) n

  pub tag_made : (tag : Tag) (vs : Values) (parts : List Ground) (g : Ground) → same_tag tag (NumberTag (pos 0)) ≡ false → MadeBy w tag vs parts g ⊎ OfPort w tag vs parts g → MadeBy w tag vs parts g
  tag_made tag vs parts g n (inl m) = m
  tag_made tag vs parts g n (inr m) = not_both (same_tag tag (NumberTag (pos 0))) (ap (λ z. same_tag z (NumberTag (pos 0))) m.tag_is) n

  pub made_form : (tag : Tag) (vs : Values) (parts : List Ground) (g : Ground) → MadeBy w tag vs parts g → form g ≡ Tags
  made_form tag vs parts g (inl m) = sym (ap form m.is)
  made_form tag vs parts g (inr (inl m)) = sym (ap form m.is)
  made_form tag vs parts g (inr (inr m)) = sym (ap form m.is) ∙ union_form m.home m.name m.constructor_ m.among

  call_form : (qs : Patterns) (ts : List Wanted) (r : Wanted) (f : Frame) (known : Known) (here : Pos) (p : Place) (i : ℕ) (g : Ground) → has_parameter qs ≡ true
      → Solves f.values (patterns_items qs known here p i ts) → functions (map (of f) ts) (of f r) ≡ g → form g ≡ Calls
  call_form NoPattern ts r f known here p i g some sol is = not_both false some refl
  call_form (MorePattern q qs) [] r f known here p i g some sol is = no_nonsense f here sol
  call_form (MorePattern q qs) (t ∷ ts) r f known here p i g some sol is = sym (ap form is)

  pub value_form : (v : Value) (g : Ground) → Has w v g → form g ≡ form_of v
  value_form (IntV n) g h = number_form g h
  value_form (TextV us) g (inl h) = sym (ap form h)
  value_form (TextV us) g (inr h) = sym (ap form h)
  value_form (TagV tag vs) g h = elim h.1 [ inl m ↦ made_form tag vs h.0 g m | inr m ↦ port_form tag vs h.0 g m ]
  value_form (RecordV fs) g h = sym (ap form h.1)
  value_form (CloV env qs e) g h = call_form qs h.parameters h.result h.frame h.scope.known h.here h.patterns_at h.first g h.some h.patterns h.is
  value_form (KnownV k vs) g h = sym (ap form h.1.is)
  value_form (WireV wire) g h = sym (ap form h.is)

  -- ---- what a value of a form is

  pub int_value : (v : Value) (g : Ground) → form g ≡ Ints → Has w v g → (n : ℤ) × (v ≡ IntV n)
  int_value v g e h = go v (sym e ∙ value_form v g h)
    where
      go : (v : Value) → Ints ≡ form_of v → (n : ℤ) × (v ≡ IntV n)
      go (IntV n) z = (n, refl)
      go (TextV us) z = absurd (cc)
      go (TagV tag vs) z = absurd (cc)
      go (RecordV fs) z = absurd (cc)
      go (CloV env qs b) z = absurd (cc)
      go (KnownV k vs) z = absurd (cc)
      go (WireV wire) z = absurd (cc)

  pub text_value : (v : Value) (g : Ground) → form g ≡ Texts → Has w v g → (us : List ℕ) × (v ≡ TextV us)
  text_value v g e h = go v (sym e ∙ value_form v g h)
    where
      go : (v : Value) → Texts ≡ form_of v → (us : List ℕ) × (v ≡ TextV us)
      go (IntV n) z = absurd (cc)
      go (TextV us) z = (us, refl)
      go (TagV tag vs) z = absurd (cc)
      go (RecordV fs) z = absurd (cc)
      go (CloV env qs b) z = absurd (cc)
      go (KnownV k vs) z = absurd (cc)
      go (WireV wire) z = absurd (cc)

  pub tag_value : (v : Value) (g : Ground) → form g ≡ Tags → Has w v g → (tag : Tag) × (vs : Values) × (v ≡ TagV tag vs)
  tag_value v g e h = go v (sym e ∙ value_form v g h)
    where
      go : (v : Value) → Tags ≡ form_of v → (tag : Tag) × (vs : Values) × (v ≡ TagV tag vs)
      go (IntV n) z = absurd (cc)
      go (TextV us) z = absurd (cc)
      go (TagV tag vs) z = (tag, vs, refl)
      go (RecordV fs) z = absurd (cc)
      go (CloV env qs b) z = absurd (cc)
      go (KnownV k vs) z = absurd (cc)
      go (WireV wire) z = absurd (cc)

  pub record_value : (v : Value) (g : Ground) → form g ≡ Records → Has w v g → (fs : FieldValues) × (v ≡ RecordV fs)
  record_value v g e h = go v (sym e ∙ value_form v g h)
    where
      go : (v : Value) → Records ≡ form_of v → (fs : FieldValues) × (v ≡ RecordV fs)
      go (IntV n) z = absurd (cc)
      go (TextV us) z = absurd (cc)
      go (TagV tag vs) z = absurd (cc)
      go (RecordV fs) z = (fs, refl)
      go (CloV env qs b) z = absurd (cc)
      go (KnownV k vs) z = absurd (cc)
      go (WireV wire) z = absurd (cc)
