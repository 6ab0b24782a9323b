-- Each single step of evaluation keeps types.
use Rattle.std.specs.Prelude.{◌≡◌, ℕ, suc, pos, List, [], ◌∷◌, length, map, Bool, true, Option, Some, None, ◌⊎◌}
use Rattle.std.specs.Prelude.{codes}
use Rattle.std.specs.List.{AllByRecursion}
use Rattle.elm_base.specs.declared.position.Pos.{Pos}
use Rattle.runs.specs.Ends.{End, Val}
use Rattle.elm_canon.specs.Names.{Name}
use Rattle.elm_canon.specs.declared.reference.Ref.{Ref}
use Rattle.elm_canon.specs.declared.unions.Tag.{Tag}
use Rattle.elm_canon.specs.declared.unions.Tag.TheVariants.{Number}
use Rattle.elm_canon.specs.declared.unions.Alternative.{Alternative}
use Rattle.elm_canon.specs.declared.tree.Literal.{Literal}
use Rattle.elm_canon.specs.Unions.{Union, Declared, alternatives}
use Rattle.elm_canon.specs.Tree.{Pattern, FieldsOf, Op}
use Rattle.elm_meaning.specs.Functions.{Bodiless, Getter}
use Rattle.elm_meaning.specs.Values.{Value, TextV, TagV, Values, NoValue, MoreValue, Env, truth, append_values}
use Rattle.elm_meaning.specs.Match.{matches, is_literal, is_of, is_of_one}
use Rattle.elm_meaning.specs.Operate.{perform}
use Rattle.elm_meaning.specs.Primitives.{known}
use Rattle.elm_type.specs.Types.{MoreField, NoField, function, named, bool_type, string_type}
use Rattle.elm_type.specs.Classes.{Ground}
use Rattle.elm_type.specs.Rows.{extend}
use Rattle.elm_type.specs.Ground.{lacks}
use Rattle.type_items.specs.Items.{Place, Wanted}
use Rattle.type_items.specs.Scopes.{Known, Scope}
use Rattle.type_items.specs.Patterns.{Shape, shape, shape_items, literal_type, pattern_items, bind_pattern}
use Rattle.type_items.specs.Operations.{Plan, plan}
use Rattle.type_items.specs.Solutions.{Solves}
use Rattle.typed_values.specs.Frames.{Frame, of, Stands}
use Rattle.typed_values.specs.World.{KnownIn, World, is_ported, Declares, Holds, MadeBy, OfPort, Sends, Listens, Knows}
use Rattle.typed_values.specs.Typed.{EndsWell, Has, HasEach, Fits}
use Rattle.pattern_check.specs.Missing.{missing}
use Rattle.typed_values.specs.Exhaustive.{IsPatternOf}
use Rattle.typed_values.specs.Simple.{AreFields, IsOperation}

-- ---- single steps

-- a value is one of the constructors of a union, and of this one with fields of these types
pub record Constructed (w : World) (u : Union) (alt : Alternative) (parts : List Ground) (v : Value) : Type 0 where
  pub tag : Tag
  pub fields : Values
  pub is : v ≡ TagV tag fields
  pub one : is_of_one tag fields (alternatives u) ≡ true
  pub of_this : is_of tag fields alt ≡ true → HasEach w fields parts

-- ---- commands and subscriptions

-- a port made it
pub record MadeByPort (w : World) (g : Ground) (v : Value) : Type 0 where
  pub port : Name
  pub inner : Value
  pub carried : Ground
  pub is : v ≡ TagV (Number (pos 0)) (MoreValue (TextV port) (MoreValue inner NoValue))
  pub has : Has w inner carried
  pub carries : Sends port carried g ⊎ Listens w port carried g

-- a batch, whose constructor is this alternative of these, with fields of these types
pub record Batched (w : World) (cs : List Alternative) (batch : Alternative) (parts : List Ground) (v : Value) : Type 0
  where
    pub fields : Values
    pub is : v ≡ TagV (Number (pos 1)) fields
    pub one : is_of_one (Number (pos 1)) fields cs ≡ true
    pub this : is_of (Number (pos 1)) fields batch ≡ true
    pub has : HasEach w fields parts

-- the types of the constructor of a union m.x by which ports make its values, and what its values are
pub record Carries (m x : Name) (cs : List Alternative) (carrier : Alternative) (f : Frame) (s : Shape) : Type 0 where
  pub message : Ground
  pub carried : Ground
  pub parts_are : map (of f) s.parts ≡ string_type ∷ carried ∷ []
  pub result_is : of f s.result ≡ named m x (message ∷ [])
  pub listens : m ≡ codes "Platform.Sub" → (received : Ground) × (carried ≡ function received message)
  pub one : (u v : Value) → is_of_one (Number (pos 0)) (MoreValue u (MoreValue v NoValue)) cs ≡ true
  pub this : (u v : Value) → is_of (Number (pos 0)) (MoreValue u (MoreValue v NoValue)) carrier ≡ true

-- ---- ends

-- if there is an environment, it is such
abbrev pub IfMatched : (Env → Type 0) → Option Env → Type 0
IfMatched P None = Unit {0}
IfMatched P (Some env) = P env

-- an end that is not Stuck, with a value of the type
abbrev pub EndsAs : World → Ground → End Value → Type 0
EndsAs w g end = EndsWell (λ v. Has w v g) end

-- the values of the parts have the types that the operation wants of them
abbrev pub HaveParts : World → Frame → Plan → Values → Type 0
HaveParts w f plan vs = HasEach w vs (of f plan.first ∷ map (of f) plan.rest)

-- what is asked of the types of the parts is solved
pub record SolvesPlan (f : Frame) (plan : Plan) : Type 0 where
  pub before : Solves f.values plan.before
  pub between : Solves f.values plan.between
  pub after : Solves f.values plan.after

pub record StepsKeepTypes (w : World) : Type 0 where
  -- which values there are of a type
  pub literals : (l : Literal) (v : Value) (f : Frame) → Has w v (of f (literal_type l))
      → (b : Bool) × (is_literal l v ≡ Val b)
  pub truths : (v : Value) → Has w v bool_type → (b : Bool) × (v ≡ truth b)
  pub no_function : (tag : Tag) (vs : Values) (parts : List Ground) (a b : Ground)
      → MadeBy w tag vs parts (function a b) ⊎ OfPort w tag vs parts (function a b) → ⊥
  pub constructs : (u : Union) (alt : Alternative) (k : Known) (here : Pos) (p : Place) (f : Frame) (v : Value)
      → KnownIn w k → Declares w u alt → Stands f → Solves f.values (shape_items u alt k here p)
      → Has w v (of f (shape u alt k p).result) → Constructed w u alt (map (of f) (shape u alt k p).parts) v
  pub counts : (u : Union) (alt : Alternative) (k : Known) (p : Place) → KnownIn w k → Declares w u alt
      → length (shape u alt k p).parts ≡ alt.arity
  -- commands and subscriptions: a port made it, or it is a batch
  pub ported : (m x : Name) (cs : List Alternative) (batch : Alternative) (k : Known) (p : Place) (f : Frame)
      (v : Value) → KnownIn w k → is_ported m x ≡ true → Holds w m x cs batch → batch.tag ≡ Number (pos 1)
      → Has w v (of f (shape (Declared m x cs) batch k p).result)
      → MadeByPort w (of f (shape (Declared m x cs) batch k p).result) v
      ⊎ Batched w cs batch (map (of f) (shape (Declared m x cs) batch k p).parts) v
  pub carriers : (m x : Name) (cs : List Alternative) (carrier : Alternative) (k : Known) (p : Place) (f : Frame)
      → KnownIn w k → is_ported m x ≡ true → Holds w m x cs carrier → carrier.tag ≡ Number (pos 0)
      → Carries m x cs carrier f (shape (Declared m x cs) carrier k p)
  -- what the pattern of a record binds
  pub fields : (xs : List Name) (here : Pos) (p : Place) (t : Wanted) (f : Frame) (v : Value) (env : Env)
      (hidden : Ref → Bool) (scope : Scope) → AreFields xs → Stands f
      → Solves f.values (pattern_items (FieldsOf xs) scope.known here p t) → Has w v (of f t)
      → Fits w env hidden scope f
      → EndsWell (IfMatched (λ inner. Fits w inner hidden (bind_pattern (FieldsOf xs) p t scope) f))
      (matches (FieldsOf xs) v env)
  -- patterns that leave nothing out
  pub taken : (ps : List Pattern) (v : Value) (g : Ground) (env : Env) → AllByRecursion (IsPatternOf w g) ps
      → missing ps ≡ None → Has w v g → AllByRecursion (λ p. matches p v env ≡ Val None) ps → ⊥
  -- functions without a body
  pub getter : (x : Name) (r t : Ground) → lacks x r ≡ true
      → Knows w (Getter x) [] (function (extend (MoreField x t NoField) r) t)
  pub knows : (k : Bodiless) (vs : Values) (parts : List Ground) (v : Value) (a b : Ground) → HasEach w vs parts
      → Knows w k parts (function a b) → Has w v a
      → EndsAs w b (known k (append_values vs (MoreValue v NoValue)))
  -- operations on some parts, and on none
  pub performs : (op : Op) (n : ℕ) (scope : Scope) (here : Pos) (p : Place) (t : Wanted) (f : Frame) (vs : Values)
      → KnownIn w scope.known → IsOperation w op (suc n) → Stands f → SolvesPlan f (plan op (suc n) scope here p t)
      → HaveParts w f (plan op (suc n) scope here p t) vs → EndsAs w (of f t) (perform op vs)
  pub performs_none : (op : Op) (scope : Scope) (here : Pos) (p : Place) (t : Wanted) (f : Frame)
      → KnownIn w scope.known → IsOperation w op 0 → Stands f → Solves f.values (plan op 0 scope here p t).before
      → EndsAs w (of f t) (perform op NoValue)
