-- Constructors: their types, and the values that they make.
use Rattle.std.proofs.Common.{◌≡◌, ℕ, zero, suc, List, [], ◌∷◌, map, length, Some, inl, inr, refl, sym, ap, ◌∙◌, subst, arith}
use Rattle.std.specs.Prelude.{codes}
use Rattle.std.specs.List.{AllByRecursion}
use Rattle.elm_canon.specs.Names.{Name}
use Rattle.elm_canon.specs.declared.unions.Tag.{Tag}
use Rattle.elm_canon.specs.declared.unions.Alternative.{Alternative}
use Rattle.elm_meaning.specs.Values.{Values}
use Rattle.elm_type.specs.Types.{ElmType, ElmTypes, Fields, Closed, Over, Made, Record, NoType, MoreType, NoField, MoreField, Leaf, Free, Fixed, variables, variables_all, variables_fields, renamed, types_of, function, functions, tuple, list_type}
use Rattle.elm_type.specs.Classes.{Ground}
use Rattle.elm_type.specs.Rows.{extend, substitute, substitute_all, substitute_fields}
use Rattle.elm_type.specs.declared.head.Head.TheVariants as head
use Rattle.elm_type.specs.Ground.{leaf_value}
use Rattle.type_items.specs.Items.{Place, Wanted}
use Rattle.type_items.specs.Scopes.{Known, leaf_at, instance}
use Rattle.type_items.specs.Patterns.{Shape, parameters_of, result_of, declared_shape}
use Rattle.typed_values.specs.Frames.{Frame, of, instance_leaf}
use Rattle.typed_values.specs.World.{KnownIn, World, Constructor, Among, variables_of, made_type, IsOneOf, OfUnion, MadeBy, IsSound}
use Rattle.typed_values.proofs.Names.{all_left, all_right}
use Rattle.typed_values.proofs.Rows.{extend_none, substitute_twice, after_renamed, substitute_same}
use Rattle.typed_values.proofs.Uses.{choice_at, leaf_of}

-- ---- substitutions that agree on the variables of a type

module _ {X Y : Type 0} (f g : X → ElmType Y) where
  abbrev Agrees : List X → Type 0
  Agrees xs = AllByRecursion (λ x. f x ≡ g x) xs

  mutual
    pub agree : (t : ElmType X) → Agrees (variables t) → substitute f t ≡ substitute g t
    agree (Made h ts) a = ap (Made h) (agree_all ts a)
    agree (Record fs Closed) a = ap (λ gs. extend gs (Record NoField Closed)) (agree_fields fs a)
    agree (Record fs (Over x)) a = ap (λ gs. extend gs (f x)) (agree_fields fs a.1) ∙ ap (extend (substitute_fields g fs)) a.0

    agree_all : (ts : ElmTypes X) → Agrees (variables_all ts) → substitute_all f ts ≡ substitute_all g ts
    agree_all NoType a = refl
    agree_all (MoreType t ts) a =
        ap (λ u. MoreType u (substitute_all f ts)) (agree t (all_left (λ x. f x ≡ g x) (variables t) (variables_all ts) a))
        ∙ ap (MoreType (substitute g t)) (agree_all ts (all_right (λ x. f x ≡ g x) (variables t) (variables_all ts) a))

    agree_fields : (fs : Fields X) → Agrees (variables_fields fs) → substitute_fields f fs ≡ substitute_fields g fs
    agree_fields NoField a = refl
    agree_fields (MoreField k t fs) a =
        ap (λ u. MoreField k u (substitute_fields f fs)) (agree t (all_left (λ x. f x ≡ g x) (variables t) (variables_fields fs) a))
        ∙ ap (MoreField k (substitute g t)) (agree_fields fs (all_right (λ x. f x ≡ g x) (variables t) (variables_fields fs) a))

module _ (L M : Leaf ℕ → Ground) where
  abbrev Alike : List ℕ → Type 0
  Alike ns = (i : ℕ) → Among i ns → L (Free i) ≡ M (Free i)

  leaves_agree : (ns : List ℕ) → Alike ns → (ls : List (Leaf ℕ)) → AllByRecursion (IsOneOf ns) ls → AllByRecursion (λ l. L l ≡ M l) ls
  leaves_agree ns same [] b = tt
  leaves_agree ns same (Free i ∷ ls) b = (same i b.0, leaves_agree ns same ls b.1)
  leaves_agree ns same (Fixed r ∷ ls) b = absurd b.0

  arguments_same : (ns : List ℕ) → substitute_all L (types_of (variables_of ns)) ≡ substitute_all M (types_of (variables_of ns)) → Alike ns
  arguments_same [] e i among = absurd among
  arguments_same (n ∷ ns) e i (inl is) =
      let z : MoreType (extend NoField (L (Free n))) (substitute_all L (types_of (variables_of ns))) ≡ MoreType (extend NoField (M (Free n))) (substitute_all M (types_of (variables_of ns))) = e in
      let same : extend NoField (L (Free n)) ≡ extend NoField (M (Free n)) = cc in
      ap (λ j. L (Free j)) is ∙ (sym (extend_none (L (Free n))) ∙ (same ∙ (extend_none (M (Free n)) ∙ sym (ap (λ j. M (Free j)) is))))
  arguments_same (n ∷ ns) e i (inr among) =
      let z : MoreType (extend NoField (L (Free n))) (substitute_all L (types_of (variables_of ns))) ≡ MoreType (extend NoField (M (Free n))) (substitute_all M (types_of (variables_of ns))) = e in
      let rest : substitute_all L (types_of (variables_of ns)) ≡ substitute_all M (types_of (variables_of ns)) = cc in
      arguments_same ns rest i among

  fields_agree : (ns : List ℕ) → Alike ns → (ts : List (ElmType (Leaf ℕ))) → AllByRecursion (λ t. AllByRecursion (IsOneOf ns) (variables t)) ts
      → map (substitute L) ts ≡ map (substitute M) ts
  fields_agree ns same [] b = refl
  fields_agree ns same (t ∷ ts) b =
      ap (λ u. u ∷ map (substitute L) ts) (agree L M t (leaves_agree ns same (variables t) b.0)) ∙ ap (λ us. substitute M t ∷ us) (fields_agree ns same ts b.1)

-- ---- functions of some parameters

pub functions_same : (as_ bs : List Ground) (r s : Ground) → length as_ ≡ length bs → functions as_ r ≡ functions bs s → (as_ ≡ bs) × (r ≡ s)
functions_same [] [] r s n e = (refl, e)
functions_same [] (b ∷ bs) r s n e = absurd (let z : 0 ≡ suc (length bs) = n in omega arith)
functions_same (a ∷ as_) [] r s n e = absurd (let z : suc (length as_) ≡ 0 = n in omega arith)
functions_same (a ∷ as_) (b ∷ bs) r s n e =
    let m : length as_ ≡ length bs = (let z : suc (length as_) ≡ suc (length bs) = n in omega arith) in
    let one : a ≡ b = cc in
    let more : functions as_ r ≡ functions bs s = cc in
    let rest = functions_same as_ bs r s m more in
    (ap (λ z. z ∷ as_) one ∙ ap (λ zs. b ∷ zs) rest.0, rest.1)

renamed_functions : {X Y : Type 0} (f : X → Y) (ts : List (ElmType X)) (r : ElmType X) → renamed f (functions ts r) ≡ functions (map (renamed f) ts) (renamed f r)
renamed_functions f [] r = refl
renamed_functions f (t ∷ ts) r = ap (function (renamed f t)) (renamed_functions f ts r)

result_is : (n : ℕ) (ts : List Wanted) (r : Wanted) → length ts ≡ n → result_of n (functions ts r) ≡ r
result_is zero [] r e = refl
result_is zero (t ∷ ts) r e = absurd (let z : suc (length ts) ≡ 0 = e in omega arith)
result_is (suc n) [] r e = absurd (let z : 0 ≡ suc n = e in omega arith)
result_is (suc n) (t ∷ ts) r e = result_is n ts r (let z : suc (length ts) ≡ suc n = e in omega arith)

parameters_are : (n : ℕ) (ts : List Wanted) (r : Wanted) → length ts ≡ n → parameters_of n (functions ts r) ≡ ts
parameters_are zero [] r e = refl
parameters_are zero (t ∷ ts) r e = absurd (let z : suc (length ts) ≡ 0 = e in omega arith)
parameters_are (suc n) [] r e = absurd (let z : 0 ≡ suc n = e in omega arith)
parameters_are (suc n) (t ∷ ts) r e = ap (λ us. t ∷ us) (parameters_are n ts r (let z : suc (length ts) ≡ suc n = e in omega arith))

pub map_length : {X Y : Type 0} (f : X → Y) (xs : List X) → length (map f xs) ≡ length xs
map_length f [] = refl
map_length f (x ∷ xs) = ap (λ n. suc n) (map_length f xs)

-- ---- the types of a constructor at a place

abbrev pub choice : Frame → Place → Leaf ℕ → Ground
choice f p = instance_leaf (choice_at f p) f

of_renamed : (f : Frame) (t : ElmType (Leaf ℕ)) (q : Place) → of f (renamed (leaf_at q) t) ≡ substitute (choice f q) t
of_renamed f t q =
    ap (substitute f.stands) (after_renamed (leaf_at q) (leaf_value f.values) t)
    ∙ (substitute_twice (λ l. leaf_value f.values (leaf_at q l)) f.stands t ∙ substitute_same _ _ t (leaf_of f q))

each_renamed : (f : Frame) (ts : List (ElmType (Leaf ℕ))) (q : Place) → map (of f) (map (renamed (leaf_at q)) ts) ≡ map (substitute (choice f q)) ts
each_renamed f [] q = refl
each_renamed f (t ∷ ts) q = ap (λ u. u ∷ map (of f) (map (renamed (leaf_at q)) ts)) (of_renamed f t q) ∙ ap (λ us. substitute (choice f q) t ∷ us) (each_renamed f ts q)

pub record HasShape (w : World) (m x : Name) (c : Constructor) (f : Frame) (p : Place) (s : Shape) : Type 0 where
  pub parts : map (of f) s.parts ≡ map (substitute (choice f p)) c.fields
  pub result : of f s.result ≡ substitute (choice f p) (made_type m x c)

module _ (w : World) (sound : IsSound w) where
  pub shape_of_declared : (m x : Name) (c : Constructor) (alt : Alternative) (known : Known) (f : Frame) (p : Place) → Among c (w.unions m x) → c.alternative ≡ alt → KnownIn w known
      → HasShape w m x c f p (declared_shape (known m alt.name) alt.arity p)
  shape_of_declared m x c alt known f p among is same =
      let u = sound.unions m x in
      let k = u.makes known same c among in
      let found : known m alt.name ≡ Some k.0 = sym (ap (λ a. known m a.name) is) ∙ k.1 in
      let type : instance k.0 p ≡ functions (map (renamed (leaf_at p)) c.fields) (renamed (leaf_at p) (made_type m x c)) =
      ap (renamed (leaf_at p)) k.2 ∙ renamed_functions (leaf_at p) c.fields (made_type m x c) in
      let n : length (map (renamed (leaf_at p)) c.fields) ≡ alt.arity = map_length (renamed (leaf_at p)) c.fields ∙ (u.counted c among ∙ ap (λ a. a.arity) is) in
      subst (λ o. HasShape w m x c f p (declared_shape o alt.arity p)) (sym found) (record {
        parts = ap (λ t. map (of f) (parameters_of alt.arity t)) type
            ∙ (ap (map (of f)) (parameters_are alt.arity (map (renamed (leaf_at p)) c.fields) (renamed (leaf_at p) (made_type m x c)) n) ∙ each_renamed f c.fields p);
        result = ap (λ t. of f (result_of alt.arity t)) type
            ∙ (ap (of f) (result_is alt.arity (map (renamed (leaf_at p)) c.fields) (renamed (leaf_at p) (made_type m x c)) n) ∙ of_renamed f (made_type m x c) p);
      })

  -- what the variables stand for determines the types of the fields
  pub fields_same : (m x : Name) (c : Constructor) (L M : Leaf ℕ → Ground) → Among c (w.unions m x) → substitute L (made_type m x c) ≡ substitute M (made_type m x c)
      → map (substitute L) c.fields ≡ map (substitute M) c.fields
  fields_same m x c L M among e =
      let z : Made (head.Named m x) (substitute_all L (types_of (variables_of c.arguments))) ≡ Made (head.Named m x) (substitute_all M (types_of (variables_of c.arguments))) = e in
      let arguments : substitute_all L (types_of (variables_of c.arguments)) ≡ substitute_all M (types_of (variables_of c.arguments)) = cc in
      fields_agree L M c.arguments (arguments_same L M c.arguments arguments) c.fields ((sound.unions m x).closed c among)

  -- ---- values of one union

  pub record UnionAt (home name : Name) (tag : Tag) (parts : List Ground) (g : Ground) : Type 0 where
    pub constructor_ : Constructor
    pub among : Among constructor_ (w.unions home name)
    pub tag_is : constructor_.alternative.tag ≡ tag
    pub choice : Leaf ℕ → Ground
    pub parts_are : map (substitute choice) constructor_.fields ≡ parts
    pub is : substitute choice (made_type home name constructor_) ≡ g

  at_own : (tag : Tag) (parts : List Ground) (g : Ground) (m : OfUnion w tag parts g) → UnionAt m.home m.name tag parts g
  at_own tag parts g m = record { constructor_ = m.constructor_; among = m.among; tag_is = m.tag_is; choice = m.choice; parts_are = m.parts_are; is = m.is }

  pub no_list : {X : Type 0} (m x : Name) (c : Constructor) → Among c (w.unions m x) → m ≡ codes "List" → x ≡ codes "List" → X
  no_list m x c among p q =
      absurd (subst (λ cs. Among c cs) (ap (λ z. (w.unions z x)) p ∙ (ap (λ z. (w.unions (codes "List") z)) q ∙ sound.no_lists)) among)

  -- what has the type of a declared union is made by one of its constructors
  pub of_union : (home name : Name) (c : Constructor) (L : Leaf ℕ → Ground) (tag : Tag) (vs : Values) (parts : List Ground) (g : Ground) → Among c (w.unions home name)
      → substitute L (made_type home name c) ≡ g → MadeBy w tag vs parts g → UnionAt home name tag parts g
  of_union home name c L tag vs parts g among is (inl m) =
      absurd (let e : tuple parts ≡ substitute L (made_type home name c) = m.is ∙ sym is in cc)
  of_union home name c L tag vs parts g among is (inr (inl m)) =
      let e : list_type m.item ≡ substitute L (made_type home name c) = m.is ∙ sym is in
      let p : home ≡ codes "List" = cc in
      let q : name ≡ codes "List" = cc in
      no_list home name c among p q
  of_union home name c L tag vs parts g among is (inr (inr m)) =
      let e : substitute m.choice (made_type m.home m.name m.constructor_) ≡ substitute L (made_type home name c) = m.is ∙ sym is in
      let p : m.home ≡ home = cc in
      let q : m.name ≡ name = cc in
      subst (λ z. UnionAt home z tag parts g) q (subst (λ z. UnionAt z m.name tag parts g) p (at_own tag parts g m))
