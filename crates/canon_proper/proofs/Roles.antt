-- What each symbol of the grammar guarantees of the words that it stands for, and what each action asks of its values.
use Rattle.std.proofs.Common.{◌≡◌, ℕ, zero, suc, ◌<◌, List, [], ◌∷◌, Bool, true, false, not, ◌&&◌, ◌||◌, nat_eq, map}
use Rattle.std.proofs.Common.{Some, refl, sym, subst, arith}
use Rattle.std.specs.Prelude.{if◌then◌else◌}
use Rattle.std.specs.List.{list_any, list_all}
use Rattle.std.proofs.lemmas.Bool.Decides.{nat_tests}
use Rattle.parse_machine.specs.declared.table.Symbol.{Symbol}
use Rattle.parse_machine.specs.declared.table.Symbol.TheVariants.{Word, Part, Line, Block}
use Rattle.parse_machine.specs.Grammar.{◌⟶◌, production, Holds, Place, Calls, a_part, a_line, a_block}
use Rattle.elm_grammar.specs.declared.action.Action.{Action}
use Rattle.elm_grammar.specs.declared.action.Action.TheVariants as action
use Rattle.elm_grammar.specs.Classes as class
use Rattle.elm_grammar.specs.Meaning.{action_in, action_at}
use Rattle.elm_grammar.specs.Search.{holds}
use Rattle.elm_grammar.specs.Table as table
use Rattle.elm_grammar.specs.Table.{Ruled, ◌by◌, elm, elm_rules, elm_actions}

pub data Role : Type 0 where
  -- any word
  Free : Role
  -- a name without a module; of fields, their names
  Named : Role
  -- one that begins with a lower-case letter
  Lower : Role
  -- the name of a module
  Homed : Role
  -- a name without a module that begins with an upper-case letter, which names a module too
  Upper : Role
  -- a point and a name
  Fielded : Role
  -- a pattern of one token
  Plain : Role
  -- of a list: it has an item
  Filled : Role

-- what one role guarantees, the other does
abbrev pub covers : Role → Role → Bool
covers r Free = true
covers Named Named = true
covers Named Plain = true
covers Lower Lower = true
covers Lower Named = true
covers Lower Plain = true
covers Homed Homed = true
covers Upper Upper = true
covers Upper Named = true
covers Upper Homed = true
covers Upper Plain = true
covers Fielded Fielded = true
covers Plain Plain = true
covers Filled Filled = true
covers r s = false

-- ---- symbols

abbrev is_among : List ℕ → ℕ → Bool
is_among ks k = list_any (nat_eq k) ks

-- a token of the class
abbrev pub class_role : ℕ → Role
class_role k =
    if is_among (class.name ∷ class.alias ∷ []) k then Lower
    else (if nat_eq k class.upper then Upper
    else (if nat_eq k class.qualified_upper then Homed
    else (if is_among (class.access ∷ class.accessor ∷ []) k then Fielded
    else (if is_among (class.underscore ∷ class.number ∷ class.text ∷ []) k then Plain else Free))))

-- a value of the nonterminal
abbrev pub role_of : ℕ → Role
role_of n =
    if is_among (table.ImportAs ∷ table.TypeVariables ∷ table.PatternAs ∷ table.Base ∷ []) n then Named
    else (if is_among (table.PatternRecord ∷ table.PatternFields ∷ table.Fields ∷ []) n then Named
    else (if nat_eq n table.Accesses then Fielded else (if nat_eq n table.Parameters then Filled else Free)))

abbrev all_below : (ℕ → Bool) → ℕ → Bool
all_below f zero = true
all_below f (suc n) = f n && all_below f n

abbrev fits_class : ℕ → Role → ℕ → Bool
fits_class set r k = not (holds set k) || covers (class_role k) r

-- each class of the set has the role
abbrev fits_word : ℕ → Role → Bool
fits_word set Free = true
fits_word set r = all_below (fits_class set r) 64

abbrev pub fits_symbol : Symbol → Role → Bool
fits_symbol (Word set) r = fits_word set r
fits_symbol (Part n) r = covers (role_of n) r
fits_symbol (Line n) r = covers (role_of n) r
fits_symbol (Block n) r = covers (role_of n) r

-- ---- lists of roles; any that are left out are free

abbrev pub first_role : List Role → Role
first_role [] = Free
first_role (r ∷ rs) = r

abbrev pub other_roles : List Role → List Role
other_roles [] = []
other_roles (r ∷ rs) = rs

abbrev pub fits_all : List Symbol → List Role → Bool
fits_all [] rs = true
fits_all (s ∷ ss) rs = fits_symbol s (first_role rs) && fits_all ss (other_roles rs)

-- ---- actions

-- the role of each item of a list
abbrev pub item_role : Role → Role
item_role Filled = Free
item_role r = r

-- the action can make a value with the role
abbrev pub may_give : Action → Role → Bool
may_give (action.Empty i) Filled = false
may_give (action.End i) Filled = false
may_give a r = true

-- what it asks of its values, to make one with the role
abbrev pub needs : Action → Role → List Role
needs (action.Same i) r = r ∷ []
needs (action.Second i) r = Free ∷ r ∷ []
needs (action.More i) r = item_role r ∷ item_role r ∷ []
needs (action.Comma i) r = Free ∷ item_role r ∷ item_role r ∷ []
needs action.SecondAsList r = Free ∷ r ∷ []
needs action.Opening r = Free ∷ r ∷ []
needs action.HeaderOf r = Homed ∷ []
needs action.ImportOf r = Free ∷ Homed ∷ Named ∷ []
needs action.FirstPort r = Lower ∷ []
needs action.PortOf r = Free ∷ Lower ∷ []
needs action.ValueOf r = Lower ∷ []
needs action.AliasOf r = Free ∷ Upper ∷ Named ∷ []
needs action.UnionOf r = Named ∷ Named ∷ []
needs action.ConstructorOf r = Upper ∷ []
needs action.VariableType r = Named ∷ []
needs action.RecordTypeOf r = Named ∷ Named ∷ []
needs action.MoreFieldTypes r = Free ∷ Named ∷ []
needs action.MoreOperators r = r ∷ r ∷ []
needs action.OperandThen r = Free ∷ r ∷ []
needs action.LambdaOf r = Free ∷ Filled ∷ []
needs action.DefinitionOf r = Named ∷ []
needs action.WordAccess r = Free ∷ Fielded ∷ []
needs action.BracketAccess r = Free ∷ Free ∷ Fielded ∷ []
needs action.RecordAccess r = Free ∷ Free ∷ Fielded ∷ []
needs action.RecordOf r = Named ∷ Named ∷ Free ∷ Free ∷ Named ∷ []
needs action.MoreFields r = Free ∷ Named ∷ Free ∷ Free ∷ r ∷ []
needs action.PatternOf r = Free ∷ Free ∷ Named ∷ []
needs action.WordPattern r = Plain ∷ []
needs action.FieldsPatternOf r = Free ∷ Named ∷ []
needs a r = []

-- ---- the table

-- the production guarantees what its action asks for
abbrev fits : Ruled → Bool
fits ((n ⟶ r) by a) = may_give a (role_of n) && fits_all r (needs a (role_of n))

fitting : list_all fits elm_rules ≡ true
fitting = refl

pub and_true : (a b : Bool) → (a && b) ≡ true → (a ≡ true) × (b ≡ true)
and_true true b e = (refl, e)
and_true false b e = absurd cc

-- what is known of production p of the grammar
pub record Known (a : Action) (n : ℕ) (r : List Symbol) : Type 0 where
  pub gives : may_give a (role_of n) ≡ true
  pub asks : fits_all r (needs a (role_of n)) ≡ true

known_in : (rs : List Ruled) (p n : ℕ) (r : List Symbol) → list_all fits rs ≡ true →
    production (map table.rule rs) p ≡ Some (n ⟶ r) → Known (action_in (map table.action rs) p) n r
known_in [] p n r k e = absurd cc
known_in ((m ⟶ q by a) ∷ rs) zero n r k e =
    let f : q ≡ r = cc in
    let g : m ≡ n = cc in
    let w = and_true (fits ((m ⟶ q) by a)) (list_all fits rs) k in
    let v = and_true (may_give a (role_of m)) (fits_all q (needs a (role_of m))) w.0 in
    let u : Known a m q = record { gives = v.0; asks = v.1 } in
    subst (λ y. Known a y r) g (subst (λ y. Known a m y) f u)
known_in ((m ⟶ q by a) ∷ rs) (suc p) n r k e =
    known_in rs p n r (and_true (fits ((m ⟶ q) by a)) (list_all fits rs) k).1 e

pub known : (p n : ℕ) (r : List Symbol) → production elm p ≡ Some (n ⟶ r) → Known (action_at p) n r
known p n r e = known_in elm_rules p n r fitting e

pub called : {m l : Place} {c b n : ℕ} {s : Symbol} (r : Role) → Calls m c s n l b → fits_symbol s r ≡ true →
    covers (role_of n) r ≡ true
called r a_part e = e
called r a_line e = e
called r (a_block w) e = e

-- ---- words

at_below : (f : ℕ → Bool) (n k : ℕ) → all_below f n ≡ true → k < n → f k ≡ true
at_below f zero k e l = absurd (omega (arith, l))
at_below f (suc n) k e l =
    at (and_true (f n) (all_below f n) e) (λ w i. at_below f n k w i) (nat_eq k n) refl
  where
    at : (f n ≡ true) × (all_below f n ≡ true) → (all_below f n ≡ true → k < n → f k ≡ true) → (b : Bool) →
        nat_eq k n ≡ b → f k ≡ true
    at w later true h = let i : k ≡ n = grind (arith, nat_tests) in subst (λ z. f z ≡ true) (sym i) w.0
    at w later false h =
        let i : k < n = grind (arith, nat_tests) in
        later w.1 i

class_fits : (set k : ℕ) (r : Role) → Holds set k → fits_class set r k ≡ true → covers (class_role k) r ≡ true
class_fits set k r h e = at (holds set k) is e
  where
    is : holds set k ≡ true
    is = let a = h.0 in let b = h.1 in grind (arith, nat_tests)

    at : (b : Bool) → b ≡ true → (not b || covers (class_role k) r) ≡ true → covers (class_role k) r ≡ true
    at true f g = g
    at false f g = absurd cc

pub word_role : (set k : ℕ) (r : Role) → Holds set k → fits_word set r ≡ true → covers (class_role k) r ≡ true
word_role set k Free h e = refl
word_role set k Named h e = class_fits set k Named h (at_below (fits_class set Named) 64 k e h.0)
word_role set k Lower h e = class_fits set k Lower h (at_below (fits_class set Lower) 64 k e h.0)
word_role set k Homed h e = class_fits set k Homed h (at_below (fits_class set Homed) 64 k e h.0)
word_role set k Upper h e = class_fits set k Upper h (at_below (fits_class set Upper) 64 k e h.0)
word_role set k Fielded h e = class_fits set k Fielded h (at_below (fits_class set Fielded) 64 k e h.0)
word_role set k Plain h e = class_fits set k Plain h (at_below (fits_class set Plain) 64 k e h.0)
word_role set k Filled h e = class_fits set k Filled h (at_below (fits_class set Filled) 64 k e h.0)
