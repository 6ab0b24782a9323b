-- Emitted lines, what they do, and that they are in the subset, worked out.
use Rattle.std.specs.Prelude.{◌≡◌, true, ℕ, pos, List, [], ◌∷◌, codes}
use Rattle.wire_value.specs.Wire as wire
use Rattle.wire_value.specs.Wire.{Wire, no_wire, more_wires}
use Rattle.runs.specs.Trace.{Trace, Ends, Then, Sent, TurnedAway, Ready, Crashed}
use Rattle.elm_canon.specs.declared.reference.Ref.TheVariants.{Top}
use Rattle.elm_canon.specs.declared.tree.Operator.TheVariants as operator
use Rattle.elm_canon.specs.Tree.{Expr, NameOf, Accessor, IntPayload, ListPayload, Declaration, Given}
use Rattle.elm_canon.specs.Tree.{OutPort, InPort}
use Rattle.elm_meaning.specs.Functions.{Modulo, Length}
use Rattle.elm_meaning.specs.Run.{Program, SourceRun}
use Rattle.elm_meaning.specs.Samples.{top, local, int, minus, binary, list_of, call}
use Rattle.elm_meaning.specs.Samples.{constant, defined, list_map, map_body, mod_by, negate, build, built, sends, adder}
use Rattle.js_tree.specs.Tree.{NoLine}
use Rattle.js_tree.specs.Text.{lines_text, main_text}
use Rattle.js_tree.specs.Subset.{in_subset}
use Rattle.js_meaning.specs.Run.{JsRun}
use Rattle.js_emit.specs.Program.{Emit, declaration_lines, primitive_lines}
use Rattle.js_emit.specs.Samples.{first, zeros, flip, twice, updater, between}

-- ---- texts

abbrev pub IsText : Declaration → List ℕ → Type 0
IsText d text = lines_text (declaration_lines (d ∷ [])) ≡ text

pub record Texts : Type 0 where
  -- f a b = a + b
  pub sum : IsText (defined (top (codes "f")) (codes "a" ∷ codes "b" ∷ []) (binary operator.Add (local (codes "a")) (local (codes "b"))))
      (codes "const Main$f=($a=>{return ($b=>{return ($a+$b);});});\n")
  -- a loop has constants of its own for each turn
  pub loop : IsText build
      (codes "const Main$build=($$0=>{return ($$1=>{let $$2=$$0;let $$3=$$1;while(true){const $n=$$2;const $acc=$$3;if(_eq($n,0)){return $acc;}else{const $$4=($n-1);const $$5={\"$\":1,\"a0\":($$6=>{return $n;}),\"a1\":$acc};$$2=$$4;$$3=$$5;continue;}}});});\n")
  -- the recursive call of `map` is no value of it
  pub cases : IsText (defined list_map (codes "f" ∷ codes "xs" ∷ []) map_body)
      (codes "const List$map=($f=>{return ($xs=>{const $$0=$xs;const $$1=(($$0[\"$\"]===0)?0:1);if(($$1===0)){return {\"$\":0};}else{const $x=$$0[\"a0\"];const $rest=$$0[\"a1\"];return {\"$\":1,\"a0\":$f($x),\"a1\":List$map($f)($rest)};}});});\n")
  -- the tests of the second column stand under those of the first
  pub tree_of_tests : IsText zeros
      (codes "const Main$zeros=($a=>{return ($b=>{const $$0={\"$\":0,\"a0\":$a,\"a1\":$b};const $$1=(($$0[\"a0\"]===0)?0:(($$0[\"a0\"]===5)?(($$0[\"a1\"]===0)?1:2):(($$0[\"a1\"]===0)?1:3)));if(($$1===0)){return 1;}else{if(($$1===1)){return 2;}else{if(($$1===2)){const $n=$$0[\"a1\"];return $n;}else{return 3;}}}});});\n")
  pub truth_values : IsText flip
      (codes "const Main$flip=($b=>{const $$0=$b;const $$1=(($$0===false)?0:1);if(($$1===0)){return true;}else{return false;}});\n")
  -- statements inside of an expression are a function that is called at once
  pub blocks : IsText twice
      (codes "const Main$twice=((()=>{const $$0={\"$\":0,\"a0\":1,\"a1\":{\"y\":2}};const $x=$$0[\"a0\"];const $y=$$0[\"a1\"][\"y\"];const $go=($$1=>{let $$2=$$1;while(true){const $n=$$2;if((_cmp($n,$y)===(-1))){const $$3=($n+$x);$$2=$$3;continue;}else{return $n;}}});return ($go(0)+$x);})()+1);\n")
  pub updates : IsText (constant (top (codes "set")) updater)
      (codes "const Main$set=($$0=>{const $x=$$0[\"a0\"];return ($$1=>{const $r=$$1;return _update($r,{\"y\":$x});});});\n")
  pub both : IsText between
      (codes "const Main$between=($a=>{return ($b=>{return ($n=>{return (((_cmp($a,$n)===1)===false)&&((_cmp($n,$b)===1)===false));});});});\n")
  pub field : IsText (constant (top (codes "x")) (Accessor (codes "x")))
      (codes "const Main$x=($$0=>{return $$0[\"x\"];});\n")
  pub out_port : IsText (Given (top (codes "out")) (OutPort (codes "out") (ListPayload IntPayload)))
      (codes "const Main$out=($$0=>{return {\"$\":0,\"a0\":\"out\",\"a1\":_eList(_eSame())($$0)};});\n")
  pub in_port : IsText (Given (top (codes "inp")) (InPort (codes "inp") IntPayload))
      (codes "const Main$inp=($$0=>{return {\"$\":0,\"a0\":\"inp\",\"a1\":$$0};});\n")
  pub primitives : lines_text (primitive_lines ((mod_by, Modulo) ∷ (Top (codes "String") (codes "length"), Length) ∷ []) NoLine)
      ≡ codes "const Basics$modBy=($$0=>{return ($$1=>{return _mod($$0,$$1);});});\nconst String$length=($$0=>{return _length($$0);});\n"
  pub line_of_main : main_text (Emit adder)
      ≡ codes "const _main={\"name\":\"Main\",\"program\":Main$main,\"flags\":_dInt(),\"ins\":{\"inp\":_dInt()},\"outs\":{\"out\":0}};\n"

-- ---- runs

-- the program and its JavaScript do this, with so many units of fuel
pub record BothDo (p : Program) (flags : Wire) (inputs : List (List ℕ × Wire)) (trace : Trace) : Type 0 where
  pub source : SourceRun p flags inputs 12 ≡ trace
  pub output : JsRun (Emit p) flags inputs 40 ≡ trace

abbrev pub sent : ℕ → Trace
sent n = Then (Sent (codes "out") (wire.int (pos n))) (Ends Ready)

abbrev pub BothSend : Expr → List Declaration → Trace → Type 0
BothSend e ds trace = BothDo (sends IntPayload e ds) wire.null [] trace

pub record Runs : Type 0 where
  pub negative_argument : BothSend (call (NameOf negate) (minus (int 1) ∷ [])) [] (sent 1)
  pub first_of : BothSend (call (NameOf (top (codes "first"))) (call (NameOf (top (codes "build"))) (int 3 ∷ list_of [] ∷ []) ∷ [])) (build ∷ first ∷ []) (sent 1)
  -- what a turn's function closes over is not assigned
  pub own_variables : BothDo (sends (ListPayload IntPayload) built (build ∷ [])) wire.null []
      (Then (Sent (codes "out") (wire.list (more_wires (wire.int (pos 1)) (more_wires (wire.int (pos 2)) (more_wires (wire.int (pos 3)) no_wire))))) (Ends Ready))
  pub tests : BothSend (call (NameOf (top (codes "zeros"))) (int 5 ∷ int 7 ∷ [])) (zeros ∷ []) (sent 7)
  pub nested : BothSend (NameOf (top (codes "twice"))) (twice ∷ []) (sent 4)
  pub modulo_by_zero : BothSend (call (NameOf mod_by) (int 0 ∷ int 1 ∷ [])) [] (Ends (Crashed (codes "modBy 0")))
  pub inputs : BothDo adder (wire.int (pos 1)) ((codes "inp", wire.int (pos 3)) ∷ (codes "inp", wire.text (codes "x")) ∷ (codes "inp", wire.int (pos 7)) ∷ [])
      (Then (Sent (codes "out") (wire.int (pos 4))) (Then (TurnedAway (codes "inp")) (Then (Sent (codes "out") (wire.int (pos 11))) (Ends Ready))))

-- ---- the subset

-- a loop's variables stand in no function nested in their scope
pub record InSubset : Type 0 where
  pub all : in_subset (Emit (sends IntPayload (NameOf (top (codes "twice"))) (build ∷ first ∷ zeros ∷ flip ∷ twice ∷ between ∷ []))) ≡ true
