-- What functions of the fixed text give, as an engine gives it too.
use Rattle.std.specs.Prelude.{◌≡◌, ℕ, pos, negsuc, List, [], codes}
use Rattle.wire_value.specs.Wire as wire
use Rattle.wire_value.specs.Wire.{no_wire, more_wires, no_member, more_members}
use Rattle.runs.specs.Ends.{Val, Crashed, Unsafe, Stuck}
use Rattle.js_tree.specs.Tree as js
use Rattle.js_meaning.specs.Values.{JVal, JNumV, JTextV, JObjV, JNullV, JArrayV, JCodecV, JVals, NoJVal, MoreJVal}
use Rattle.js_meaning.specs.Values.{NoJField, MoreJField}
use Rattle.js_meaning.specs.Lists.{tagged, list_value, pair_value}
use Rattle.js_meaning.specs.Codecs.{Refusal, Decoding, decode, encode, nothing_value, just_value}
use Rattle.js_meaning.specs.Helpers.{j_help}

-- one value, and two
abbrev pub one : JVal → JVals
one v = MoreJVal v NoJVal

abbrev pub two : JVal → JVal → JVals
two v w = MoreJVal v (one w)

-- a number, and a negative one, by one more than it: -(n + 1)
abbrev pub n : ℕ → JVal
n k = JNumV (pos k)

abbrev pub below : ℕ → JVal
below k = JNumV (negsuc k)

abbrev pub t : List ℕ → JVal
t us = JTextV us

-- {"x":v,"y":w}, and {"y":w,"x":v}
abbrev pub point : JVal → JVal → JVal
point v w = JObjV (MoreJField (codes "x") v (MoreJField (codes "y") w NoJField))

-- a node of a dictionary, and its end
abbrev pub leaf : JVal
leaf = tagged (negsuc 1) NoJField

abbrev pub node : JVal → JVal → JVal → JVal → JVal
node key value left right =
    tagged (negsuc 0) (MoreJField (codes "a0") (n 0) (MoreJField (codes "a1") key (MoreJField (codes "a2") value (MoreJField (codes "a3") left (MoreJField (codes "a4") right NoJField)))))

abbrev pub int_decoder : JVal
int_decoder = JCodecV js.DecodeInt NoJVal

abbrev pub same_encoder : JVal
same_encoder = JCodecV js.EncodeSame NoJVal

pub record Examples : Type 0 where
  -- _mod(3,-1) is 2, _mod(-3,1) is -2, _mod(0,1) crashes
  pub modulo : j_help js.Modulo (two (n 3) (below 0)) ≡ Val (n 2)
  pub modulo_below : j_help js.Modulo (two (below 2) (n 1)) ≡ Val (below 1)
  pub modulo_by_zero : j_help js.Modulo (two (n 0) (n 1)) ≡ Crashed (codes "modBy 0")
  -- _quot(-7,2) is -3, _quot(7,0) is 0, _quot(9007199254740991,1) is -1
  pub quotient : j_help js.Quotient (two (below 6) (n 2)) ≡ Val (below 2)
  pub quotient_by_zero : j_help js.Quotient (two (n 7) (n 0)) ≡ Val (n 0)
  pub quotient_in_32_bits : j_help js.Quotient (two (n 9007199254740991) (n 1)) ≡ Val (below 0)
  -- _rem(3,-7) is -1; by 0 it is not a number
  pub remainder : j_help js.Remainder (two (n 3) (below 6)) ≡ Val (below 0)
  pub remainder_by_zero : j_help js.Remainder (two (n 0) (n 1)) ≡ Unsafe
  -- _and(-1,4294967298) is 2, _not(5) is -6
  pub bit_and : j_help js.BitAnd (two (below 0) (n 4294967298)) ≡ Val (n 2)
  pub bit_not : j_help js.BitNot (one (n 5)) ≡ Val (below 5)
  -- _shl(33,1) is 2, _shr(1,-3) is -2, _shz(28,-1) is 15
  pub shift_left : j_help js.ShiftLeft (two (n 33) (n 1)) ≡ Val (n 2)
  pub shift_right : j_help js.ShiftRight (two (n 1) (below 2)) ≡ Val (below 1)
  pub shift_right_zero : j_help js.ShiftRightZero (two (n 28) (below 0)) ≡ Val (n 15)
  -- _slice(-2,9,"abc") is "bc", _find("",5,"abc") is 3, _find("c",-3,"abc") is 2, _fromUnit(65601) is "A"
  pub slice : j_help js.Slice (MoreJVal (below 1) (two (n 9) (t (codes "abc")))) ≡ Val (t (codes "bc"))
  pub find_nothing : j_help js.Find (MoreJVal (t []) (two (n 5) (t (codes "abc")))) ≡ Val (n 3)
  pub find : j_help js.Find (MoreJVal (t (codes "c")) (two (below 2) (t (codes "abc")))) ≡ Val (n 2)
  pub from_unit : j_help js.FromUnit (one (n 65601)) ≡ Val (t (codes "A"))
  -- _append of texts, and of the lists of 1 and of 2
  pub append_texts : j_help js.Append (two (t (codes "ab")) (t (codes "c"))) ≡ Val (t (codes "abc"))
  pub append_lists : j_help js.Append (two (list_value (one (n 1))) (list_value (one (n 2)))) ≡ Val (list_value (two (n 1) (n 2)))
  -- _update of {"x":1,"y":2} by {"y":3}
  pub update : j_help js.Update (two (point (n 1) (n 2)) (JObjV (MoreJField (codes "y") (n 3) NoJField))) ≡ Val (point (n 1) (n 3))
  -- the pairs of a dictionary stand in the order of its keys
  pub pairs : j_help js.Pairs (two (node (n 2) (t (codes "b")) (node (n 1) (t (codes "a")) leaf leaf) leaf) (list_value NoJVal))
      ≡ Val (list_value (two (pair_value (n 1) (t (codes "a"))) (pair_value (n 2) (t (codes "b")))))
  -- a call with too few values, or with others, has no rule
  pub too_few : j_help js.Append (one (n 1)) ≡ Stuck
  pub others : j_help js.Length (one (n 1)) ≡ Stuck
  -- decoders and encoders of Maybe, lists and records
  pub nothing : decode (JCodecV js.DecodeMaybe (one int_decoder)) wire.null ≡ Val (Decoding nothing_value)
  pub just : decode (JCodecV js.DecodeMaybe (one int_decoder)) (wire.int (pos 3)) ≡ Val (Decoding (just_value (n 3)))
  pub just_of_another : decode (JCodecV js.DecodeMaybe (one int_decoder)) (wire.text (codes "3")) ≡ Val Refusal
  pub list_of_ints : decode (JCodecV js.DecodeList (one int_decoder)) (wire.list (more_wires (wire.int (pos 1)) (more_wires (wire.int (pos 2)) no_wire)))
      ≡ Val (Decoding (list_value (two (n 1) (n 2))))
  pub field_among_others : decode (JCodecV js.DecodeRecord (two (t (codes "x")) int_decoder)) (wire.object (more_members (codes "x") (wire.int (pos 2)) (more_members (codes "y") wire.null no_member)))
      ≡ Val (Decoding (JObjV (MoreJField (codes "x") (n 2) NoJField)))
  pub missing_field : decode (JCodecV js.DecodeRecord (two (t (codes "x")) int_decoder)) (wire.object no_member) ≡ Val Refusal
  pub array_for_a_record : decode (JCodecV js.DecodeRecord (two (t (codes "x")) int_decoder)) (wire.list no_wire) ≡ Val Refusal
  pub null_of_nothing : encode (JCodecV js.EncodeMaybe (one same_encoder)) nothing_value ≡ Val JNullV
  pub array_of_list : encode (JCodecV js.EncodeList (one (JCodecV js.EncodeNull NoJVal))) (list_value (two (n 1) (n 2))) ≡ Val (JArrayV (two JNullV JNullV))
  pub field_alone : encode (JCodecV js.EncodeRecord (two (t (codes "x")) same_encoder)) (point (n 2) (n 1)) ≡ Val (JObjV (MoreJField (codes "x") (n 2) NoJField))
