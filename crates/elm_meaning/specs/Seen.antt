-- Values as they are compared. (elm/core 1.0.5: Basics, Dict, Set.) A dictionary is its keys and values in order; a
-- function is only known to be one.
use Rattle.std.specs.Prelude.{ℕ, zero, suc, ℤ, pos, negsuc, List, [], ◌∷◌, Bool, true, false, Option, Some, None}
use Rattle.std.specs.Prelude.{option_and_then}
use Rattle.wire_value.specs.Wire.{Wire}
use Rattle.runs.specs.Numbers.{is_number}
use Rattle.elm_canon.specs.Names.{Name}
use Rattle.elm_canon.specs.declared.unions.Tag.{Tag}
use Rattle.elm_canon.specs.declared.unions.Tag.TheVariants.{Number, Truth, Blank}
use Rattle.elm_meaning.specs.Values.{Value, IntV, TextV, TagV, RecordV, CloV, KnownV, WireV, Values, NoValue, MoreValue}
use Rattle.elm_meaning.specs.Values.{FieldValues, NoFieldV, MoreFieldV}

mutual
  pub data Seen : Type 0 where
    FunctionS : Seen
    IntS : ℤ → Seen
    TextS : List ℕ → Seen
    TagS : Tag → Seens → Seen
    RecordS : List Name → Seens → Seen
    -- the keys and the values in turn
    DictS : Seens → Seen
    -- what begins as a dictionary and is none
    OddS : Seen
    WireS : Wire → Seen

  pub data Seens : Type 0 where
    NoSeen : Seens
    MoreSeen : Seen → Seens → Seens

abbrev pub names_of : FieldValues → List Name
names_of NoFieldV = []
names_of (MoreFieldV k v fs) = k ∷ names_of fs

abbrev pub dict_or_odd : Option Seens → Seen
dict_or_odd (Some xs) = DictS xs
dict_or_odd None = OddS

-- The node of a dictionary has the number -1, and a color, a key, a value, what is left and what is right of it.
-- Another number ends it.
abbrev mutual
  pub see : Value → Seen
  see (IntV n) = IntS n
  see (TextV t) = TextS t
  see (TagV (Number (negsuc n)) vs) = dict_or_odd (entries_in n vs NoSeen)
  see (TagV tag vs) = TagS tag (see_all vs)
  see (RecordV fs) = RecordS (names_of fs) (see_fields fs)
  see (CloV env ps e) = FunctionS
  see (KnownV f vs) = FunctionS
  see (WireV w) = WireS w

  pub see_all : Values → Seens
  see_all NoValue = NoSeen
  see_all (MoreValue v vs) = MoreSeen (see v) (see_all vs)

  pub see_fields : FieldValues → Seens
  see_fields NoFieldV = NoSeen
  see_fields (MoreFieldV k v fs) = MoreSeen (see v) (see_fields fs)

  -- the keys and values of a dictionary, before others
  pub entries : Value → Seens → Option Seens
  entries (TagV (Number (negsuc n)) vs) others = entries_in n vs others
  entries (TagV (Number (pos n)) vs) others = Some others
  entries v others = None

  -- those of a node with the number -1 - n
  pub entries_in : ℕ → Values → Seens → Option Seens
  entries_in zero (MoreValue color (MoreValue key (MoreValue value (MoreValue left (MoreValue right NoValue))))) others =
      option_and_then (λ after. entries left (MoreSeen (see key) (MoreSeen (see value) after))) (entries right others)
  entries_in zero vs others = None
  entries_in (suc n) vs others = Some others

-- ---- tags

abbrev pub same_bool : Bool → Bool → Bool
same_bool true b = b
same_bool false true = false
same_bool false false = true

abbrev pub same_tag : Tag → Tag → Bool
same_tag (Number m) (Number n) = is_number m n
same_tag (Truth a) (Truth b) = same_bool a b
same_tag Blank Blank = true
same_tag _ _ = false

-- both are numbers, both truth values, or both that of ()
abbrev pub same_kind : Tag → Tag → Bool
same_kind (Number j) (Number k) = true
same_kind (Truth b) (Truth c) = true
same_kind Blank Blank = true
same_kind _ _ = false

abbrev pub same_count : Seens → Seens → Bool
same_count NoSeen NoSeen = true
same_count (MoreSeen x xs) (MoreSeen y ys) = same_count xs ys
same_count _ _ = false
