-- The sample world holds together, and so do worlds of its unions and others.
use Rattle.std.proofs.Common.{◌≡◌, ℤ, pos, List, [], ◌∷◌, length, Bool, true, false, ◌⊎◌, inl, inr, refl, ap, ◌∙◌, sym, subst}
use Rattle.std.specs.Prelude.{◌&&◌, Some, None, codes}
use Rattle.std.specs.List.{AllByRecursion}
use Rattle.std.specs.Str.{bytes_eq}
use Rattle.std.proofs.lemmas.Slice.Eq.{bytes_eq-Decides}
use Rattle.elm_canon.specs.Names.{Name}
use Rattle.elm_canon.specs.declared.unions.Tag.TheVariants.{Number, Truth}
use Rattle.elm_meaning.specs.Seen.{same_tag, same_kind}
use Rattle.elm_type.specs.Types.{Scheme, Free, variable, function, functions, named, variables}
use Rattle.type_items.specs.Scopes.{Known}
use Rattle.typed_values.specs.Payloads.{cmd_type, sub_type}
use Rattle.typed_values.specs.World.{World, KnownIn, Constructor, is_negative, Among, IsOneOf, IsJust, IsNothing, IsCarrier, IsBatch, IsListener, IsSound, made_type}
use Rattle.typed_values.specs.Sample.{truth_maker, just_maker, nothing_maker, send_maker, listen_maker, batch_maker, sample_bools, sample_maybes, sample_commands, sample_subscriptions, is_at, sample_unions, sample_known, maker_scheme, sample}
use Rattle.typed_values.proofs.Names.{not_both}
use Rattle.typed_values.proofs.Keeping.{and_left, and_right}

-- what a union's constructors have to be, apart from what is known of them
pub record Fine (cs : List Constructor) : Type 0 where
  pub counted : (c : Constructor) → Among c cs → length c.fields ≡ c.alternative.arity
  pub closed : (c : Constructor) → Among c cs → AllByRecursion (λ t. AllByRecursion (IsOneOf c.arguments) (variables t)) c.fields
  pub told : (c d : Constructor) → Among c cs → Among d cs → same_tag c.alternative.tag d.alternative.tag ≡ true → c ≡ d
  pub alike : (c d : Constructor) → Among c cs → Among d cs → same_kind c.alternative.tag d.alternative.tag ≡ true
  pub bare : (c : Constructor) → Among c cs → (same_kind c.alternative.tag (Number (pos 0)) ≡ true) ⊎ (c.fields ≡ [])
  pub natural : (c : Constructor) → Among c cs → is_negative c.alternative.tag ≡ false

-- each of two constructors
pub both : (P : Constructor → Type 0) (a b : Constructor) → P a → P b → (c : Constructor) → Among c (a ∷ b ∷ []) → P c
both P a b p q c (inl e) = subst P (sym e) p
both P a b p q c (inr (inl e)) = subst P (sym e) q
both P a b p q c (inr (inr e)) = absurd e

fine_bools : Fine (truth_maker false ∷ truth_maker true ∷ [])
fine_bools = record {
  counted = both (λ c. length c.fields ≡ c.alternative.arity) (truth_maker false) (truth_maker true) refl refl;
  closed = both (λ c. AllByRecursion (λ t. AllByRecursion (IsOneOf c.arguments) (variables t)) c.fields) (truth_maker false) (truth_maker true) tt tt;
  told = λ c d m n. both (λ c. same_tag c.alternative.tag d.alternative.tag ≡ true → c ≡ d) (truth_maker false) (truth_maker true)
      (both (λ d. same_tag (Truth false) d.alternative.tag ≡ true → truth_maker false ≡ d) (truth_maker false) (truth_maker true) (λ _. refl) (λ e. not_both false e refl) d n)
      (both (λ d. same_tag (Truth true) d.alternative.tag ≡ true → truth_maker true ≡ d) (truth_maker false) (truth_maker true) (λ e. not_both false e refl) (λ _. refl) d n) c m;
  alike = λ c d m n. both (λ c. same_kind c.alternative.tag d.alternative.tag ≡ true) (truth_maker false) (truth_maker true)
      (both (λ d. same_kind (Truth false) d.alternative.tag ≡ true) (truth_maker false) (truth_maker true) refl refl d n)
      (both (λ d. same_kind (Truth true) d.alternative.tag ≡ true) (truth_maker false) (truth_maker true) refl refl d n) c m;
  bare = both (λ c. (same_kind c.alternative.tag (Number (pos 0)) ≡ true) ⊎ (c.fields ≡ [])) (truth_maker false) (truth_maker true) (inr refl) (inr refl);
  natural = both (λ c. is_negative c.alternative.tag ≡ false) (truth_maker false) (truth_maker true) refl refl;
}

-- of two constructors without unions of numbers below 0
fine_two : (a b : Constructor) → length a.fields ≡ a.alternative.arity → length b.fields ≡ b.alternative.arity
    → AllByRecursion (λ t. AllByRecursion (IsOneOf a.arguments) (variables t)) a.fields → AllByRecursion (λ t. AllByRecursion (IsOneOf b.arguments) (variables t)) b.fields
    → a.alternative.tag ≡ Number (pos 0) → b.alternative.tag ≡ Number (pos 1) → Fine (a ∷ b ∷ [])
fine_two a b na nb ca cb ta tb = record {
  counted = both (λ c. length c.fields ≡ c.alternative.arity) a b na nb;
  closed = both (λ c. AllByRecursion (λ t. AllByRecursion (IsOneOf c.arguments) (variables t)) c.fields) a b ca cb;
  told = λ c d m n. both (λ c. same_tag c.alternative.tag d.alternative.tag ≡ true → c ≡ d) a b
      (both (λ d. same_tag a.alternative.tag d.alternative.tag ≡ true → a ≡ d) a b (λ _. refl) (λ e. apart (pos 0) (pos 1) a b ta tb refl e) d n)
      (both (λ d. same_tag b.alternative.tag d.alternative.tag ≡ true → b ≡ d) a b (λ e. apart (pos 1) (pos 0) b a tb ta refl e) (λ _. refl) d n) c m;
  alike = λ c d m n. both (λ c. same_kind c.alternative.tag d.alternative.tag ≡ true) a b
      (ap (λ z. same_kind z d.alternative.tag) ta ∙ numbered (pos 0) d n) (ap (λ z. same_kind z d.alternative.tag) tb ∙ numbered (pos 1) d n) c m;
  bare = both (λ c. (same_kind c.alternative.tag (Number (pos 0)) ≡ true) ⊎ (c.fields ≡ [])) a b (inl (ap (λ z. same_kind z (Number (pos 0))) ta)) (inl (ap (λ z. same_kind z (Number (pos 0))) tb));
  natural = both (λ c. is_negative c.alternative.tag ≡ false) a b (ap is_negative ta) (ap is_negative tb);
}
  where
    apart : {X : Type 0} (i j : ℤ) (c d : Constructor) → c.alternative.tag ≡ Number i → d.alternative.tag ≡ Number j → same_tag (Number i) (Number j) ≡ false → same_tag c.alternative.tag d.alternative.tag ≡ true → X
    apart i j c d e f n y = not_both (same_tag c.alternative.tag d.alternative.tag) y (ap (λ z. same_tag z d.alternative.tag) e ∙ (ap (same_tag (Number i)) f ∙ n))

    numbered : (i : ℤ) (d : Constructor) → Among d (a ∷ b ∷ []) → same_kind (Number i) d.alternative.tag ≡ true
    numbered i d n = both (λ d. same_kind (Number i) d.alternative.tag ≡ true) a b (ap (same_kind (Number i)) ta) (ap (same_kind (Number i)) tb) d n

fine_maybes : Fine (just_maker ∷ nothing_maker ∷ [])
fine_maybes = fine_two just_maker nothing_maker refl refl ((inl refl, tt), tt) tt refl refl

fine_commands : Fine (send_maker ∷ batch_maker (cmd_type (variable (Free 0))) ∷ [])
fine_commands = fine_two send_maker (batch_maker (cmd_type (variable (Free 0)))) refl refl (tt, (tt, tt)) ((inl refl, tt), tt) refl refl

fine_subscriptions : Fine (listen_maker ∷ batch_maker (sub_type (variable (Free 0))) ∷ [])
fine_subscriptions = fine_two listen_maker (batch_maker (sub_type (variable (Free 0)))) refl refl (tt, ((inl refl, tt), tt)) ((inl refl, tt), tt) refl refl

pub fine_none : Fine []
fine_none = record {
  counted = λ c m. absurd m;
  closed = λ c m. absurd m;
  told = λ c d m n e. absurd m;
  alike = λ c d m n. absurd m;
  bare = λ c m. absurd m;
  natural = λ c m. absurd m;
}

-- a constructor is known as a function of its fields
abbrev pub MadeIn : Known → Name → Name → Constructor → Type 0
MadeIn known m x c = (s : Scheme) × (known m c.alternative.name ≡ Some s) × (s.type ≡ functions c.fields (made_type m x c))

of_name : (m n x y : Name) → (bytes_eq m n && bytes_eq x y) ≡ true → (m ≡ n) × (x ≡ y)
of_name m n x y e = ((bytes_eq-Decides m n).0 (and_left (bytes_eq m n) (bytes_eq x y) e), (bytes_eq-Decides x y).0 (and_right (bytes_eq m n) (bytes_eq x y) e))

module _ (others : Name → Name → List Constructor) (fine_others : (m x : Name) → Fine (others m x)) where
  -- the same, of the constructors that are chosen by tests
  fine : (m x : Name) (a b c d : Bool) → Fine (sample_bools a (sample_maybes b (sample_commands c (sample_subscriptions d (others m x)))))
  fine m x true b c d = fine_bools
  fine m x false true c d = fine_maybes
  fine m x false false true d = fine_commands
  fine m x false false false true = fine_subscriptions
  fine m x false false false false = fine_others m x

  -- where the other constructors are known, so are these
  module _ (known : Known) where
    -- what is known of the constructors of the core
    pub record KnowsCore : Type 0 where
      pub bools : (b : Bool) → MadeIn known (codes "Basics") (codes "Bool") (truth_maker b)
      pub just : MadeIn known (codes "Maybe") (codes "Maybe") just_maker
      pub nothing : MadeIn known (codes "Maybe") (codes "Maybe") nothing_maker
      pub send : MadeIn known (codes "Platform.Cmd") (codes "Cmd") send_maker
      pub commands : MadeIn known (codes "Platform.Cmd") (codes "Cmd") (batch_maker (cmd_type (variable (Free 0))))
      pub listen : MadeIn known (codes "Platform.Sub") (codes "Sub") listen_maker
      pub subscriptions : MadeIn known (codes "Platform.Sub") (codes "Sub") (batch_maker (sub_type (variable (Free 0))))

    at_name : (m n x y : Name) (P : Name → Name → Type 0) → is_at n y m x ≡ true → P n y → P m x
    at_name m n x y P e h = (let r = of_name m n x y e in subst (λ z. P z x) (sym r.0) (subst (P n) (sym r.1) h))

    makes : KnowsCore → (m x : Name) → ((c : Constructor) → Among c (others m x) → MadeIn known m x c) → (c : Constructor) (i j k l : Bool)
        → is_at (codes "Basics") (codes "Bool") m x ≡ i → is_at (codes "Maybe") (codes "Maybe") m x ≡ j → is_at (codes "Platform.Cmd") (codes "Cmd") m x ≡ k → is_at (codes "Platform.Sub") (codes "Sub") m x ≡ l
        → Among c (sample_bools i (sample_maybes j (sample_commands k (sample_subscriptions l (others m x))))) → MadeIn known m x c
    makes core m x more c true j k l e f g h among =
        at_name m (codes "Basics") x (codes "Bool") (λ n y. MadeIn known n y c) e (both (MadeIn known (codes "Basics") (codes "Bool")) (truth_maker false) (truth_maker true) (core.bools false) (core.bools true) c among)
    makes core m x more c false true k l e f g h among =
        at_name m (codes "Maybe") x (codes "Maybe") (λ n y. MadeIn known n y c) f (both (MadeIn known (codes "Maybe") (codes "Maybe")) just_maker nothing_maker core.just core.nothing c among)
    makes core m x more c false false true l e f g h among =
        at_name m (codes "Platform.Cmd") x (codes "Cmd") (λ n y. MadeIn known n y c) g
        (both (MadeIn known (codes "Platform.Cmd") (codes "Cmd")) send_maker (batch_maker (cmd_type (variable (Free 0)))) core.send core.commands c among)
    makes core m x more c false false false true e f g h among =
        at_name m (codes "Platform.Sub") x (codes "Sub") (λ n y. MadeIn known n y c) h
        (both (MadeIn known (codes "Platform.Sub") (codes "Sub")) listen_maker (batch_maker (sub_type (variable (Free 0)))) core.listen core.subscriptions c among)
    makes core m x more c false false false false e f g h among = more c among

-- what else a world of these unions has to know, and has to have no constructors of
pub record Others (w : World) (others : Name → Name → List Constructor) : Type 0 where
  pub fine : (m x : Name) → Fine (others m x)
  pub core : (k : Known) → KnownIn w k → KnowsCore others fine k
  pub makes : (k : Known) → KnownIn w k → (m x : Name) (c : Constructor) → Among c (others m x) → MadeIn k m x c
  pub no_ints : others (codes "Basics") (codes "Int") ≡ []
  pub no_chars : others (codes "Char") (codes "Char") ≡ []
  pub no_texts : others (codes "String") (codes "String") ≡ []
  pub no_lists : others (codes "List") (codes "List") ≡ []

first_among : (a b : Constructor) → Among a (a ∷ b ∷ [])
first_among a b = inl refl

second_among : (a b : Constructor) → Among b (a ∷ b ∷ [])
second_among a b = inr (inl refl)

-- a world of the sample's unions and others
pub sound_with : (w : World) (others : Name → Name → List Constructor) → w.unions ≡ sample_unions others → Others w others → IsSound w
sound_with w others same o = subst (λ u. IsSound (record { known = w.known; unions = u; outs = w.outs; ins = w.ins })) (sym same) (record {
  unions = λ m x. (let u = fine others o.fine m x (is_at (codes "Basics") (codes "Bool") m x) (is_at (codes "Maybe") (codes "Maybe") m x) (is_at (codes "Platform.Cmd") (codes "Cmd") m x) (is_at (codes "Platform.Sub") (codes "Sub") m x) in record {
    makes = λ k is c among. makes others o.fine k (o.core k is) m x (o.makes k is m x) c (is_at (codes "Basics") (codes "Bool") m x) (is_at (codes "Maybe") (codes "Maybe") m x) (is_at (codes "Platform.Cmd") (codes "Cmd") m x) (is_at (codes "Platform.Sub") (codes "Sub") m x) refl refl refl refl among;
    counted = u.counted;
    closed = u.closed;
    told = u.told;
    alike = u.alike;
    bare = u.bare;
    nodes = λ c m e. absurd (let z : true ≡ false = sym (ap is_negative e) ∙ u.natural c m in cc);
    signs = λ c d m n. u.natural c m ∙ sym (u.natural d n);
  });
  no_ints = o.no_ints;
  no_chars = o.no_chars;
  no_texts = o.no_texts;
  no_lists = o.no_lists;
  truths = λ b. (truth_maker b, (go b, refl));
  no_others = both (λ c. (b : Bool) × (c.alternative.tag ≡ Truth b) × (c.arguments ≡ [])) (truth_maker false) (truth_maker true) (false, refl, refl) (true, refl, refl);
  maybes = record {
    just = (just_maker, inl refl, (refl, 0, refl, refl));
    nothing = (nothing_maker, inr (inl refl), (refl, 0, refl, refl));
    others = both (λ c. IsJust c ⊎ IsNothing c) just_maker nothing_maker (inl (refl, 0, refl, refl)) (inr (refl, 0, refl, refl));
  };
  commands = record {
    carrier = (send_maker, inl refl, is_send);
    others = both (λ c. IsCarrier c ⊎ IsBatch (codes "Platform.Cmd") (codes "Cmd") c) send_maker (batch_maker (cmd_type (variable (Free 0)))) (inl is_send) (inr (record { tag_is = refl; fields_are = refl }));
    listeners = λ e. not_both true refl (ap (λ n. bytes_eq n (codes "Platform.Cmd")) e);
  };
  subscriptions = record {
    carrier = (listen_maker, inl refl, is_listen);
    others = both (λ c. IsCarrier c ⊎ IsBatch (codes "Platform.Sub") (codes "Sub") c) listen_maker (batch_maker (sub_type (variable (Free 0)))) (inl is_listen) (inr (record { tag_is = refl; fields_are = refl }));
    listeners = λ e c among t. both (λ d. d.alternative.tag ≡ Number (pos 0) → IsListener d) listen_maker (batch_maker (sub_type (variable (Free 0))))
        (λ _. (named (codes "Platform.Sub") (codes "Payload") [], 0, refl, refl)) (λ n. not_both true refl (ap (λ tag. same_tag tag (Number (pos 1))) n)) c among t;
  };
})
  where
    go : (b : Bool) → Among (truth_maker b) (truth_maker false ∷ truth_maker true ∷ [])
    go true = inr (inl refl)
    go false = inl refl

    is_send : IsCarrier send_maker
    is_send = record { tag_is = refl; other = named (codes "Platform.Cmd") (codes "Payload") []; fields_are = refl; message = 0; arguments_are = refl }

    is_listen : IsCarrier listen_maker
    is_listen = record { tag_is = refl; other = function (named (codes "Platform.Sub") (codes "Payload") []) (variable (Free 0)); fields_are = refl; message = 0; arguments_are = refl }

pub sample_is_sound : IsSound sample
sample_is_sound = sound_with sample (λ m x. []) refl (record {
  fine = λ m x. fine_none;
  core = λ k is. subst (KnowsCore (λ m x. []) (λ m x. fine_none)) (sym is.1) known_core;
  makes = λ k is m x c among. absurd among;
  no_ints = refl;
  no_chars = refl;
  no_texts = refl;
  no_lists = refl;
})
  where
    bools : (b : Bool) → MadeIn (sample_known (λ m x. None)) (codes "Basics") (codes "Bool") (truth_maker b)
    bools true = (maker_scheme (codes "Basics") (codes "Bool") (truth_maker true), refl, refl)
    bools false = (maker_scheme (codes "Basics") (codes "Bool") (truth_maker false), refl, refl)

    known_core : KnowsCore (λ m x. []) (λ m x. fine_none) (sample_known (λ m x. None))
    known_core = record {
      bools = bools;
      just = (maker_scheme (codes "Maybe") (codes "Maybe") just_maker, refl, refl);
      nothing = (maker_scheme (codes "Maybe") (codes "Maybe") nothing_maker, refl, refl);
      send = (maker_scheme (codes "Platform.Cmd") (codes "Cmd") send_maker, refl, refl);
      commands = (maker_scheme (codes "Platform.Cmd") (codes "Cmd") (batch_maker (cmd_type (variable (Free 0)))), refl, refl);
      listen = (maker_scheme (codes "Platform.Sub") (codes "Sub") listen_maker, refl, refl);
      subscriptions = (maker_scheme (codes "Platform.Sub") (codes "Sub") (batch_maker (sub_type (variable (Free 0)))), refl, refl);
    }
