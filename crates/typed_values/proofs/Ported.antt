-- Commands and subscriptions: what ports made, and batches.
use Rattle.std.proofs.Common.{◌≡◌, ℕ, pos, List, [], ◌∷◌, map, length, true, false, ◌⊎◌, inl, inr, refl, sym, ap, ◌∙◌, subst}
use Rattle.std.specs.Prelude.{codes}
use Rattle.elm_canon.specs.Names.{Name}
use Rattle.elm_canon.specs.declared.unions.Tag.{Tag}
use Rattle.elm_canon.specs.declared.unions.Tag.TheVariants.{Number}
use Rattle.elm_canon.specs.declared.unions.Alternative.{Alternative}
use Rattle.elm_canon.specs.Unions.{Declared}
use Rattle.elm_meaning.specs.Seen.{same_tag}
use Rattle.elm_meaning.specs.Values.{Value, TextV, TagV, Values, NoValue, MoreValue, count_of}
use Rattle.elm_meaning.specs.Match.{is_of, is_of_one}
use Rattle.elm_type.specs.Types.{MoreType, NoType, Made, Leaf, Free, variable, named, tuple, function, string_type, list_type}
use Rattle.elm_type.specs.Classes.{Ground}
use Rattle.elm_type.specs.Rows.{substitute}
use Rattle.elm_type.specs.declared.head.Head.TheVariants as head
use Rattle.type_items.specs.Items.{Place}
use Rattle.type_items.specs.Scopes.{Known}
use Rattle.type_items.specs.Patterns.{shape}
use Rattle.typed_values.specs.Frames.{Frame, of}
use Rattle.typed_values.specs.World.{KnownIn, World, Constructor, Among, is_ported, is_port_tag, Holds, made_type, variables_of, OfPort, MadeBy, IsSound, IsCarrier, IsPorted}
use Rattle.typed_values.specs.Typed.{Has, HasEach}
use Rattle.typed_values.specs.Steps.{MadeByPort, Batched, Carries}
use Rattle.typed_values.proofs.Rows.{extend_none}
use Rattle.typed_values.proofs.Names.{not_both}
use Rattle.typed_values.proofs.Keeping.{and_both}
use Rattle.typed_values.proofs.Forms.{Tags, form, each_count, tag_value, union_form}
use Rattle.typed_values.proofs.Unions.{map_length, choice, shape_of_declared, fields_same, of_union, no_list}
use Rattle.typed_values.proofs.Makers.{is_of_yes, one_of}
use Rattle.typed_values.proofs.Sent.{ported_names, ported_made}

abbrev two : Value → Value → Values
two u v = MoreValue u (MoreValue v NoValue)

module _ (w : World) (sound : IsSound w) where
  ported_union : (m x : Name) → is_ported m x ≡ true → IsPorted w m x
  ported_union m x e = elim (ported_names m x e) [
    | inl p ↦ subst (λ z. IsPorted w z x) (sym p.0) (subst (λ z. IsPorted w (codes "Platform.Cmd") z) (sym p.1) sound.commands)
    | inr p ↦ subst (λ z. IsPorted w z x) (sym p.0) (subst (λ z. IsPorted w (codes "Platform.Sub") z) (sym p.1) sound.subscriptions)
  ]

  carrier_of : (m x : Name) (c : Constructor) → is_ported m x ≡ true → Among c (w.unions m x) → c.alternative.tag ≡ Number (pos 0) → IsCarrier c
  carrier_of m x c e among tag = elim ((ported_union m x e).others c among) [
    | inl k ↦ k
    | inr b ↦ not_both true refl (ap (λ t. same_tag t (Number (pos 0))) (sym tag ∙ b.tag_is))
  ]

  -- ---- the types of what ports make

  made_of : (m x : Name) (c : Constructor) (i : ℕ) (L : Leaf ℕ → Ground) → c.arguments ≡ i ∷ [] → substitute L (made_type m x c) ≡ named m x (L (Free i) ∷ [])
  made_of m x c i L e =
      ap (λ ns. substitute L (named m x (variables_of ns))) e ∙ ap (λ g. Made (head.Named m x) (MoreType g NoType)) (extend_none (L (Free i)))

  pub carriers : (m x : Name) (cs : List Alternative) (carrier : Alternative) (k : Known) (p : Place) (f : Frame) → KnownIn w k → is_ported m x ≡ true → Holds w m x cs carrier → carrier.tag ≡ Number (pos 0)
      → Carries m x cs carrier f (shape (Declared m x cs) carrier k p)
  carriers m x cs carrier k p f known port d tag =
      let c = d.1 in
      let L = choice f p in
      let own : c.alternative.tag ≡ Number (pos 0) = ap (λ a. a.tag) d.3 ∙ tag in
      let is = carrier_of m x c port d.2 own in
      let s = shape_of_declared w sound m x c carrier k f p d.2 d.3 known in
      let arity : 2 ≡ c.alternative.arity = sym (ap length is.fields_are) ∙ (sound.unions m x).counted c d.2 in
      let mine : (u v : Value) → is_of (Number (pos 0)) (two u v) c.alternative ≡ true =
      λ u v. is_of_yes (Number (pos 0)) (two u v) c.alternative own arity in record {
        message = L (Free is.message);
        carried = substitute L is.other;
        parts_are = s.parts ∙ ap (map (substitute L)) is.fields_are;
        result_is = s.result ∙ made_of m x c is.message L is.arguments_are;
        listens = λ e.
            let l = (ported_union m x port).listeners e c d.2 own in
            let fields : string_type ∷ is.other ∷ [] ≡ string_type ∷ function l.0 (variable (Free l.1)) ∷ [] = sym is.fields_are ∙ l.3 in
            let arguments : is.message ∷ [] ≡ l.1 ∷ [] = sym is.arguments_are ∙ l.2 in
            let other : is.other ≡ function l.0 (variable (Free l.1)) = cc in
            let same : l.1 ≡ is.message = cc in
            (substitute L l.0, ap (substitute L) other ∙ ap (function (substitute L l.0)) (extend_none (L (Free l.1)) ∙ ap (λ i. L (Free i)) same));
        one = λ u v. subst (λ z. is_of_one (Number (pos 0)) (two u v) z ≡ true) (sym d.0) (one_of w sound (Number (pos 0)) (two u v) c (w.unions m x) d.2 (mine u v));
        this = λ u v. ap (is_of (Number (pos 0)) (two u v)) (sym d.3) ∙ mine u v;
      }

  -- ---- the values

  from_port : (tag : Tag) (vs : Values) (parts : List Ground) (g : Ground) → OfPort w tag vs parts g → HasEach w vs parts → MadeByPort w g (TagV tag vs)
  from_port tag vs parts g o has =
      subst (λ t. MadeByPort w g (TagV t vs)) (sym o.tag_is) (subst (λ us. MadeByPort w g (TagV (Number (pos 0)) us)) (sym o.begins)
      (go o.rest (subst (λ us. HasEach w us (string_type ∷ o.carried ∷ [])) o.begins (subst (HasEach w vs) o.parts_are has)).1))
    where
      go : (rest : Values) → HasEach w rest (o.carried ∷ []) → MadeByPort w g (TagV (Number (pos 0)) (MoreValue (TextV o.port) rest))
      go NoValue h = absurd h
      go (MoreValue v NoValue) h = record { port = o.port; inner = v; carried = o.carried; is = refl; has = h.0; carries = o.carries }
      go (MoreValue v (MoreValue u us)) h = absurd h.1

  -- what texts made of the union has another tag
  own_tag : (m x : Name) (c : Constructor) (L : Leaf ℕ → Ground) (tag : Tag) (vs : Values) (parts : List Ground) (g : Ground) → Among c (w.unions m x) → substitute L (made_type m x c) ≡ g → MadeBy w tag vs parts g
      → is_port_tag m x tag ≡ false
  own_tag m x c L tag vs parts g among is (inl k) =
      absurd (let e : tuple parts ≡ substitute L (made_type m x c) = k.is ∙ sym is in cc)
  own_tag m x c L tag vs parts g among is (inr (inl k)) =
      let e : list_type k.item ≡ substitute L (made_type m x c) = k.is ∙ sym is in
      let p : m ≡ codes "List" = cc in
      let q : x ≡ codes "List" = cc in
      no_list w sound m x c among p q
  own_tag m x c L tag vs parts g among is (inr (inr k)) =
      let e : substitute k.choice (made_type k.home k.name k.constructor_) ≡ substitute L (made_type m x c) = k.is ∙ sym is in
      let p : k.home ≡ m = cc in
      let q : k.name ≡ x = cc in
      subst (λ z. is_port_tag m z tag ≡ false) q (subst (λ z. is_port_tag z k.name tag ≡ false) p k.own)

  batched : (m x : Name) (cs : List Alternative) (batch : Alternative) (k : Known) (p : Place) (f : Frame) (tag : Tag) (vs : Values) (parts : List Ground) → KnownIn w k → is_ported m x ≡ true → Holds w m x cs batch
      → batch.tag ≡ Number (pos 1) → MadeBy w tag vs parts (of f (shape (Declared m x cs) batch k p).result) → HasEach w vs parts
      → Batched w cs batch (map (of f) (shape (Declared m x cs) batch k p).parts) (TagV tag vs)
  batched m x cs batch k p f tag vs parts known port d number made has =
      let c = d.1 in
      let L = choice f p in
      let s = shape_of_declared w sound m x c batch k f p d.2 d.3 known in
      let g = of f (shape (Declared m x cs) batch k p).result in
      let u = of_union w sound m x c L tag vs parts g d.2 (sym s.result) made in
      let own = u.constructor_ in
      let not_port : is_port_tag m x tag ≡ false = own_tag m x c L tag vs parts g d.2 (sym s.result) made in
      let none : own.alternative.tag ≡ Number (pos 0) → ⊥ =
      λ z. not_both (is_port_tag m x tag) (and_both (is_ported m x) (same_tag tag (Number (pos 0))) port (ap (λ t. same_tag t (Number (pos 0))) (sym u.tag_is ∙ z))) not_port in
      let b = ported_made w sound m x own port u.among none in
      let is : tag ≡ Number (pos 1) = sym u.tag_is ∙ b.tag_is in
      let t : same_tag own.alternative.tag c.alternative.tag ≡ true =
      ap (λ z. same_tag z c.alternative.tag) b.tag_is ∙ ap (same_tag (Number (pos 1))) (ap (λ a. a.tag) d.3 ∙ number) in
      let same : own ≡ c = (sound.unions m x).told own c u.among d.2 t in
      let count : count_of vs ≡ own.alternative.arity =
      each_count w vs parts has ∙ (ap length (sym u.parts_are) ∙ (map_length (substitute u.choice) own.fields ∙ (sound.unions m x).counted own u.among)) in
      let mine : is_of tag vs own.alternative ≡ true = is_of_yes tag vs own.alternative u.tag_is count in
      let types : parts ≡ map (of f) (shape (Declared m x cs) batch k p).parts =
      sym u.parts_are ∙ (fields_same w sound m x own u.choice L u.among (u.is ∙ subst (λ z. g ≡ substitute L (made_type m x z)) (sym same) s.result) ∙ (ap (λ z. map (substitute L) z.fields) same ∙ sym s.parts)) in record {
        fields = vs;
        is = ap (λ z. TagV z vs) is;
        one = subst (λ z. is_of_one z vs cs ≡ true) is (subst (λ z. is_of_one tag vs z ≡ true) (sym d.0) (one_of w sound tag vs own (w.unions m x) u.among mine));
        this = subst (λ z. is_of z vs batch ≡ true) is (ap (is_of tag vs) (sym (ap (λ z. z.alternative) same ∙ d.3)) ∙ mine);
        has = subst (HasEach w vs) types has;
      }

  pub ported : (m x : Name) (cs : List Alternative) (batch : Alternative) (k : Known) (p : Place) (f : Frame) (v : Value) → KnownIn w k → is_ported m x ≡ true → Holds w m x cs batch → batch.tag ≡ Number (pos 1)
      → Has w v (of f (shape (Declared m x cs) batch k p).result)
      → MadeByPort w (of f (shape (Declared m x cs) batch k p).result) v ⊎ Batched w cs batch (map (of f) (shape (Declared m x cs) batch k p).parts) v
  ported m x cs batch k p f v known port d number has =
      let s = shape (Declared m x cs) batch k p in
      let g = of f s.result in
      let is : form g ≡ Tags = ap form (shape_of_declared w sound m x d.1 batch k f p d.2 d.3 known).result ∙ union_form w sound m x d.1 d.2 in
      let r = tag_value w sound v g is has in
      subst (λ z. MadeByPort w g z ⊎ Batched w cs batch (map (of f) s.parts) z) (sym r.2) (go r.0 r.1 (subst (λ z. Has w z g) r.2 has))
    where
      go : (tag : Tag) (vs : Values) → Has w (TagV tag vs) (of f (shape (Declared m x cs) batch k p).result)
          → MadeByPort w (of f (shape (Declared m x cs) batch k p).result) (TagV tag vs) ⊎ Batched w cs batch (map (of f) (shape (Declared m x cs) batch k p).parts) (TagV tag vs)
      go tag vs h = elim h.1 [
        | inl made ↦ inr (batched m x cs batch k p f tag vs h.0 known port d number made h.2)
        | inr o ↦ inl (from_port tag vs h.0 (of f (shape (Declared m x cs) batch k p).result) o h.2)
      ]
