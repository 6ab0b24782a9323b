-- The core library in three parts.
use Rattle.std.specs.Prelude.{ℕ, List, [], ◌∷◌, ◌++◌, codes}
use Rattle.core_modules.specs.declared.basics_text.TheConstants.{BASICS}
use Rattle.core_modules.specs.declared.bitwise_text.TheConstants.{BITWISE}
use Rattle.core_modules.specs.declared.char_text.TheConstants.{CHAR}
use Rattle.core_modules.specs.declared.debug_text.TheConstants.{DEBUG}
use Rattle.core_modules.specs.declared.maybe_text.TheConstants.{MAYBE}
use Rattle.core_modules.specs.declared.dict_text.TheConstants.{DICT_1, DICT_2}
use Rattle.core_modules.specs.declared.list_text.TheConstants.{LIST_1, LIST_2}
use Rattle.core_modules.specs.declared.platform_cmd_text.TheConstants.{PLATFORM_CMD}
use Rattle.core_modules.specs.declared.platform_sub_text.TheConstants.{PLATFORM_SUB}
use Rattle.core_modules.specs.declared.platform_text.TheConstants.{PLATFORM}
use Rattle.core_modules.specs.declared.result_text.TheConstants.{RESULT}
use Rattle.core_modules.specs.declared.set_text.TheConstants.{SET}
use Rattle.core_modules.specs.declared.string_text.TheConstants.{STRING_1, STRING_2}
use Rattle.core_modules.specs.declared.tuple_text.TheConstants.{TUPLE}

abbrev pub first_modules : List (List ℕ × List ℕ)
first_modules =
    (codes "Basics", BASICS.now)
    ∷ (codes "Bitwise", BITWISE.now)
    ∷ (codes "Char", CHAR.now)
    ∷ (codes "Debug", DEBUG.now)
    ∷ (codes "Maybe", MAYBE.now)
    ∷ []

abbrev pub second_modules : List (List ℕ × List ℕ)
second_modules =
    (codes "Dict", DICT_1.now ++ DICT_2.now)
    ∷ (codes "List", LIST_1.now ++ LIST_2.now)
    ∷ (codes "Platform.Cmd", PLATFORM_CMD.now)
    ∷ (codes "Platform.Sub", PLATFORM_SUB.now)
    ∷ (codes "Platform", PLATFORM.now)
    ∷ []

abbrev pub third_modules : List (List ℕ × List ℕ)
third_modules =
    (codes "Result", RESULT.now)
    ∷ (codes "Set", SET.now)
    ∷ (codes "String", STRING_1.now ++ STRING_2.now)
    ∷ (codes "Tuple", TUPLE.now)
    ∷ []
