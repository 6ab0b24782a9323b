use Rattle.std.proofs.Common.{◌≡◌, ◌≤◌, length, true}
use Rattle.std.specs.List.{list_all}
use Rattle.elm_lexer.specs.Characters.{is_hex_digit}
use Rattle.elm_lexer.specs.Kinds.{number_from}
use Rattle.elm_lexer.proofs.kind.int.Given as goal

abbrev pub invariant-loop-rest : goal.invariant-loop-rest
invariant-loop-rest l = record {
  small : l.value ≤ 9007199254740991;
  digits : list_all is_hex_digit l.rest ≡ true;
  same : number_from l.base l.value l.rest ≡ number_from l.base 0 l.digits;
}

abbrev pub decreases-loop-rest : goal.decreases-loop-rest
decreases-loop-rest l = length l.rest
