-- What is known of a program besides its expressions: the types of what its modules declare, its unions and its ports.
-- Which values these make, and of which types the functions without a body are.
use Rattle.std.specs.Prelude.{◌≡◌, ℕ, pos, negsuc, List, [], ◌∷◌, ◌++◌, map, length, Bool, true, false, ◌&&◌}
use Rattle.std.specs.Prelude.{◌||◌, Option, Some, ◌⊎◌}
use Rattle.std.specs.Prelude.{codes}
use Rattle.std.specs.List.{AllByRecursion, zip}
use Rattle.std.specs.Str.{bytes_eq}
use Rattle.wire_value.specs.Wire.{Wire}
use Rattle.elm_canon.specs.Names.{Name}
use Rattle.elm_canon.specs.declared.unions.Tag.{Tag}
use Rattle.elm_canon.specs.declared.unions.Tag.TheVariants.{Number, Truth}
use Rattle.elm_canon.specs.declared.unions.Alternative.{Alternative}
use Rattle.elm_canon.specs.Unions.{Union, TupleUnion, ListUnion, Declared}
use Rattle.elm_canon.specs.Unions.{tuple_alternative, nil_alternative, cons_alternative}
use Rattle.elm_canon.specs.Tree as canon
use Rattle.elm_canon.specs.Spelled.{are_fields}
use Rattle.elm_meaning.specs.Seen.{same_tag, same_kind}
use Rattle.elm_meaning.specs.Functions as primitives
use Rattle.elm_meaning.specs.Functions.{Primitive, Bodiless, Given, Getter, Core}
use Rattle.elm_meaning.specs.Values.{TextV, Values, MoreValue, count_of}
use Rattle.elm_type.specs.Types.{ElmType, Made, NoField, MoreField, Leaf, Free, Fixed, Scheme, types_of}
use Rattle.elm_type.specs.Types.{variable, variables, function, functions}
use Rattle.elm_type.specs.Types.{tuple, named, int_type, char_type, string_type, list_type}
use Rattle.elm_type.specs.Classes.{Ground, meets}
use Rattle.elm_type.specs.Rows.{closed, extend, substitute}
use Rattle.elm_type.specs.declared.class.Class.TheVariants.{Comparable}
use Rattle.elm_type.specs.declared.head.Head.TheVariants as head
use Rattle.elm_type.specs.Ground.{lacks}
use Rattle.type_items.specs.Scopes.{Known}
use Rattle.typed_values.specs.Payloads.{payload_type, IsWire, HasEachOnce, cmd_type, sub_type}

-- ---- unions

-- a constructor, the types of its fields, and the variables that are the arguments of its union
pub record Constructor : Type 0 where
  pub alternative : Alternative
  pub fields : List (ElmType (Leaf ℕ))
  pub arguments : List ℕ

pub record World : Type 0 where
  -- what the scopes of its modules know, each by a name: the types of what other modules declare, and of their own
  -- constructors and ports
  pub known : Name → Known
  -- the constructors, in declared order, of the union of that name in that module; what is no union has none
  pub unions : Name → Name → List Constructor
  -- what its ports carry, out and in, by their names
  pub outs : Name → Option canon.Payload
  pub ins : Name → Option canon.Payload

abbrev pub KnownIn : World → Known → Type 0
KnownIn w known = (scope : Name) × (known ≡ w.known scope)

abbrev pub Among : {X : Type 0} → X → List X → Type 0
Among x [] = ⊥
Among x (y ∷ ys) = (x ≡ y) ⊎ Among x ys

-- Commands and subscriptions: what has the number 0 is made by ports alone, and no pattern takes them apart, but those
-- of their `map`.
abbrev pub is_ported : Name → Name → Bool
is_ported m x =
    (bytes_eq m (codes "Platform.Cmd") && bytes_eq x (codes "Cmd"))
    || (bytes_eq m (codes "Platform.Sub") && bytes_eq x (codes "Sub"))

abbrev pub is_port_tag : Name → Name → Tag → Bool
is_port_tag m x tag = is_ported m x && same_tag tag (Number (pos 0))

-- the alternative is one of the union that texts may build
abbrev pub Makes : World → Union → Alternative → Type 0
Makes w (TupleUnion n) alt = alt ≡ tuple_alternative n
Makes w ListUnion alt = (alt ≡ nil_alternative) ⊎ (alt ≡ cons_alternative)
Makes w (Declared m x cs) alt =
    (c : Constructor) × Among c (w.unions m x) × (c.alternative ≡ alt) × (is_port_tag m x alt.tag ≡ false)

-- the alternative is one of the union, as this is declared
abbrev pub Holds : World → Name → Name → List Alternative → Alternative → Type 0
Holds w m x cs alt =
    (cs ≡ map (λ (c : Constructor). c.alternative) (w.unions m x))
    × (c : Constructor) × Among c (w.unions m x) × (c.alternative ≡ alt)

-- the alternative is one of the union, as this is declared, and texts may take it apart
abbrev pub Declares : World → Union → Alternative → Type 0
Declares w (TupleUnion n) alt = alt ≡ tuple_alternative n
Declares w ListUnion alt = (alt ≡ nil_alternative) ⊎ (alt ≡ cons_alternative)
Declares w (Declared m x cs) alt =
    (cs ≡ map (λ c. c.alternative) (w.unions m x))
    × (c : Constructor) × Among c (w.unions m x) × (c.alternative ≡ alt) × (is_ported m x ≡ false)

abbrev pub variables_of : List ℕ → List (ElmType (Leaf ℕ))
variables_of ns = map (λ i. variable (Free i)) ns

-- the type of what a constructor makes, in that module and union
abbrev pub made_type : Name → Name → Constructor → ElmType (Leaf ℕ)
made_type m x c = named m x (variables_of c.arguments)

-- one of these variables
abbrev pub IsOneOf : List ℕ → Leaf ℕ → Type 0
IsOneOf ns (Free i) = Among i ns
IsOneOf ns (Fixed r) = ⊥

-- ---- values of constructors: what has a tag and parts of these types is of that type

pub record OfTuple (tag : Tag) (vs : Values) (parts : List Ground) (g : Ground) : Type 0 where
  pub tag_is : tag ≡ (tuple_alternative (count_of vs)).tag
  pub is : tuple parts ≡ g

abbrev pub IsNil : Tag → List Ground → Type 0
IsNil tag parts = (tag ≡ Number (pos 0)) × (parts ≡ [])

abbrev pub IsCons : Ground → Tag → List Ground → Type 0
IsCons item tag parts = (tag ≡ Number (pos 1)) × (parts ≡ item ∷ list_type item ∷ [])

pub record OfList (tag : Tag) (parts : List Ground) (g : Ground) : Type 0 where
  pub item : Ground
  pub is : list_type item ≡ g
  pub form : IsNil tag parts ⊎ IsCons item tag parts

pub record OfUnion (w : World) (tag : Tag) (parts : List Ground) (g : Ground) : Type 0 where
  pub home : Name
  pub name : Name
  pub constructor_ : Constructor
  pub among : Among constructor_ (w.unions home name)
  pub tag_is : constructor_.alternative.tag ≡ tag
  pub own : is_port_tag home name tag ≡ false
  -- what the variables stand for
  pub choice : Leaf ℕ → Ground
  pub parts_are : map (substitute choice) constructor_.fields ≡ parts
  pub is : substitute choice (made_type home name constructor_) ≡ g

abbrev pub MadeBy : World → Tag → Values → List Ground → Ground → Type 0
MadeBy w tag vs parts g = OfTuple tag vs parts g ⊎ (OfList tag parts g ⊎ OfUnion w tag parts g)

-- ---- values of ports

-- the type of what goes out at a port: it has the head of functions, and one part alone, so that no text can name it
abbrev pub sent_type : Name → Ground
sent_type port = Made head.Function (types_of (named [] port [] ∷ []))

pub record IsSent (w : World) (wire : Wire) (g : Ground) : Type 0 where
  pub port : Name
  pub payload : canon.Payload
  pub out : w.outs port ≡ Some payload
  pub wire_is : IsWire payload wire
  pub is : sent_type port ≡ g

-- a command carries what goes out
pub record Sends (port : Name) (carried g : Ground) : Type 0 where
  pub message : Ground
  pub carried_is : carried ≡ sent_type port
  pub is : cmd_type message ≡ g

-- a subscription carries a function of what comes in
pub record Listens (w : World) (port : Name) (carried g : Ground) : Type 0 where
  pub message : Ground
  pub payload : canon.Payload
  pub in_ : w.ins port ≡ Some payload
  pub carried_is : carried ≡ function (payload_type payload) message
  pub is : sub_type message ≡ g

-- a command or a subscription of a port: the port's name, and what belongs to the port
pub record OfPort (w : World) (tag : Tag) (vs : Values) (parts : List Ground) (g : Ground) : Type 0 where
  pub port : Name
  pub rest : Values
  pub carried : Ground
  pub tag_is : tag ≡ Number (pos 0)
  pub begins : vs ≡ MoreValue (TextV port) rest
  pub parts_are : parts ≡ string_type ∷ carried ∷ []
  pub carries : Sends port carried g ⊎ Listens w port carried g

-- ---- functions without a body: with arguments of these types they give the last type

-- The types that the core's modules give the functions of the fixed JavaScript text.
abbrev pub IsPrimitive : Primitive → List Ground → Ground → Type 0
IsPrimitive primitives.Crash ts r = ts ≡ string_type ∷ []
IsPrimitive primitives.BitNot ts r = (ts ≡ int_type ∷ []) × (r ≡ int_type)
IsPrimitive primitives.FromInt ts r = (ts ≡ int_type ∷ []) × (r ≡ string_type)
IsPrimitive primitives.Length ts r = (ts ≡ string_type ∷ []) × (r ≡ int_type)
IsPrimitive primitives.UnitAt ts r =
    ((ts ≡ int_type ∷ string_type ∷ []) ⊎ (ts ≡ int_type ∷ char_type ∷ [])) × (r ≡ int_type)
IsPrimitive primitives.FromUnit ts r = (ts ≡ int_type ∷ []) × (r ≡ string_type)
IsPrimitive primitives.Slice ts r = (ts ≡ int_type ∷ int_type ∷ string_type ∷ []) × (r ≡ string_type)
IsPrimitive primitives.Find ts r = (ts ≡ string_type ∷ int_type ∷ string_type ∷ []) × (r ≡ int_type)
IsPrimitive primitives.Same ts r =
    ((ts ≡ char_type ∷ []) × (r ≡ string_type)) ⊎ ((ts ≡ string_type ∷ []) × (r ≡ char_type))
IsPrimitive primitives.Compare ts r =
    (t : Ground) × (ts ≡ t ∷ t ∷ []) × (meets Comparable t ≡ true) × (r ≡ int_type)
IsPrimitive _ ts r = (ts ≡ int_type ∷ int_type ∷ []) × (r ≡ int_type)

pub record IsMaker (w : World) (alt : Alternative) (ts : List Ground) (r : Ground) : Type 0 where
  pub home : Name
  pub name : Name
  pub constructor_ : Constructor
  pub among : Among constructor_ (w.unions home name)
  pub is : constructor_.alternative ≡ alt
  pub own : is_port_tag home name alt.tag ≡ false
  pub choice : Leaf ℕ → Ground
  pub parts_are : map (substitute choice) constructor_.fields ≡ ts
  pub gives : substitute choice (made_type home name constructor_) ≡ r

pub record IsGetter (x : Name) (ts : List Ground) (r : Ground) : Type 0 where
  -- the other fields
  pub others : Ground
  pub without : lacks x others ≡ true
  pub argument : ts ≡ extend (MoreField x r NoField) others ∷ []

abbrev pub IsGiven : World → canon.Known → List Ground → Ground → Type 0
IsGiven w (canon.Maker alt) ts r = IsMaker w alt ts r
IsGiven w (canon.RecordMaker xs) ts r =
    (are_fields xs ≡ true) × (length ts ≡ length xs) × (r ≡ closed (zip xs ts))
IsGiven w (canon.OutPort port t) ts r =
    (message : Ground) × (w.outs port ≡ Some t) × HasEachOnce t × (ts ≡ payload_type t ∷ []) × (r ≡ cmd_type message)
IsGiven w (canon.InPort port t) ts r =
    (message : Ground) × (w.ins port ≡ Some t) × (ts ≡ function (payload_type t) message ∷ []) × (r ≡ sub_type message)

abbrev pub Takes : World → Bodiless → List Ground → Ground → Type 0
Takes w (Given k) ts r = IsGiven w k ts r
Takes w (Getter x) ts r = IsGetter x ts r
Takes w (Core p) ts r = IsPrimitive p ts r

-- once it has arguments of these types it is a function of that type: there are more to come
pub record Knows (w : World) (k : Bodiless) (parts : List Ground) (g : Ground) : Type 0 where
  pub next : Ground
  pub later : List Ground
  pub result : Ground
  pub takes : Takes w k (parts ++ next ∷ later) result
  pub is : function next (functions later result) ≡ g

-- ---- worlds that hold together

-- a node of a dictionary: a color, a key, a value, and what is left and what is right of it
pub record IsNode (m x : Name) (c : Constructor) : Type 0 where
  pub color : ElmType (Leaf ℕ)
  pub key : ElmType (Leaf ℕ)
  pub value : ElmType (Leaf ℕ)
  pub is : c.fields ≡ color ∷ key ∷ value ∷ made_type m x c ∷ made_type m x c ∷ []

abbrev pub is_negative : Tag → Bool
is_negative (Number (negsuc n)) = true
is_negative _ = false

-- the constructors of a union
pub record IsUnion (w : World) (m x : Name) : Type 0 where
  -- a constructor is known as a function of its fields
  pub makes : (known : Known) → KnownIn w known → (c : Constructor) → Among c (w.unions m x)
      → (s : Scheme) × (known m c.alternative.name ≡ Some s) × (s.type ≡ functions c.fields (made_type m x c))
  pub counted : (c : Constructor) → Among c (w.unions m x) → length c.fields ≡ c.alternative.arity
  pub closed : (c : Constructor) → Among c (w.unions m x)
      → AllByRecursion (λ t. AllByRecursion (IsOneOf c.arguments) (variables t)) c.fields
  -- constructors are told apart by their tags, which are of one kind
  pub told : (c d : Constructor) → Among c (w.unions m x) → Among d (w.unions m x)
      → same_tag c.alternative.tag d.alternative.tag ≡ true → c ≡ d
  pub alike : (c d : Constructor) → Among c (w.unions m x) → Among d (w.unions m x)
      → same_kind c.alternative.tag d.alternative.tag ≡ true
  -- True, False and () have no fields
  pub bare : (c : Constructor) → Among c (w.unions m x)
      → (same_kind c.alternative.tag (Number (pos 0)) ≡ true) ⊎ (c.fields ≡ [])
  -- the constructors of dictionaries have numbers below 0, and all of them have; that of a node has the number -1
  pub nodes : (c : Constructor) → Among c (w.unions m x) → c.alternative.tag ≡ Number (negsuc 0) → IsNode m x c
  pub signs : (c d : Constructor) → Among c (w.unions m x) → Among d (w.unions m x)
      → is_negative c.alternative.tag ≡ is_negative d.alternative.tag

abbrev pub IsTruth : World → Bool → Constructor → Type 0
IsTruth w b c = Among c (w.unions (codes "Basics") (codes "Bool")) × (c.alternative.tag ≡ Truth b)

-- commands and subscriptions: what carries a text and something else, with the number 0; and batches
pub record IsCarrier (c : Constructor) : Type 0 where
  pub tag_is : c.alternative.tag ≡ Number (pos 0)
  pub other : ElmType (Leaf ℕ)
  pub fields_are : c.fields ≡ string_type ∷ other ∷ []
  pub message : ℕ
  pub arguments_are : c.arguments ≡ message ∷ []

pub record IsBatch (m x : Name) (c : Constructor) : Type 0 where
  pub tag_is : c.alternative.tag ≡ Number (pos 1)
  pub fields_are : c.fields ≡ list_type (made_type m x c) ∷ []

-- a function that makes the message
abbrev pub IsListener : Constructor → Type 0
IsListener c =
    (received : ElmType (Leaf ℕ)) × (i : ℕ) × (c.arguments ≡ i ∷ [])
    × (c.fields ≡ string_type ∷ function received (variable (Free i)) ∷ [])

pub record IsPorted (w : World) (m x : Name) : Type 0 where
  pub carrier : (c : Constructor) × Among c (w.unions m x) × IsCarrier c
  pub others : (c : Constructor) → Among c (w.unions m x) → IsCarrier c ⊎ IsBatch m x c
  -- what subscriptions carry
  pub listeners : m ≡ codes "Platform.Sub" → (c : Constructor) → Among c (w.unions m x)
      → c.alternative.tag ≡ Number (pos 0) → IsListener c

-- Just with its one field, and Nothing
abbrev pub IsJust : Constructor → Type 0
IsJust c =
    (c.alternative.tag ≡ Number (pos 0)) × (i : ℕ) × (c.arguments ≡ i ∷ []) × (c.fields ≡ variable (Free i) ∷ [])

abbrev pub IsNothing : Constructor → Type 0
IsNothing c = (c.alternative.tag ≡ Number (pos 1)) × (i : ℕ) × (c.arguments ≡ i ∷ []) × (c.fields ≡ [])

pub record IsMaybe (w : World) : Type 0 where
  pub just : (c : Constructor) × Among c (w.unions (codes "Maybe") (codes "Maybe")) × IsJust c
  pub nothing : (c : Constructor) × Among c (w.unions (codes "Maybe") (codes "Maybe")) × IsNothing c
  pub others : (c : Constructor) → Among c (w.unions (codes "Maybe") (codes "Maybe")) → IsJust c ⊎ IsNothing c

-- Unions are as they are declared. Numbers, characters, texts and lists are none, Bool has
-- True and False, Maybe has Just and Nothing, and commands and subscriptions have batches and those of one port.
pub record IsSound (w : World) : Type 0 where
  pub unions : (m x : Name) → IsUnion w m x
  pub no_ints : (w.unions (codes "Basics") (codes "Int")) ≡ []
  pub no_chars : (w.unions (codes "Char") (codes "Char")) ≡ []
  pub no_texts : (w.unions (codes "String") (codes "String")) ≡ []
  pub no_lists : (w.unions (codes "List") (codes "List")) ≡ []
  pub truths : (b : Bool) → (c : Constructor) × IsTruth w b c
  pub no_others : (c : Constructor) → Among c (w.unions (codes "Basics") (codes "Bool"))
      → (b : Bool) × (c.alternative.tag ≡ Truth b) × (c.arguments ≡ [])
  pub maybes : IsMaybe w
  pub commands : IsPorted w (codes "Platform.Cmd") (codes "Cmd")
  pub subscriptions : IsPorted w (codes "Platform.Sub") (codes "Sub")
