-- The constructors that the modules of a build mention.
use Rattle.std.specs.Prelude.{◌≡◌, List, ◌∷◌, ◌++◌, Option}
use Rattle.elm_canon.specs.Names.{Name}
use Rattle.elm_canon.specs.Tree.{Payload}
use Rattle.elm_canon.specs.Mentions.{DeclarationsMention}
use Rattle.build_safety.specs.Compiled.{Compiled, home_of, AreModules}
use Rattle.build_safety.specs.BuildWorlds.{world}
use Rattle.program_safety.specs.Ports.{IsOfWorld}

-- they are constructors of the unions of the build's world
abbrev pub MentionsAreOfWorld : Type 0
MentionsAreOfWorld =
    (cs : List Compiled) (outs ins : Name → Option Payload) (before : List Compiled) (c : Compiled)
    (after : List Compiled) → AreModules cs → before ++ c ∷ after ≡ cs
    → DeclarationsMention (IsOfWorld (world cs outs ins)) (IsOfWorld (world cs outs ins)) (home_of c)
    c.resolved.whole.declarations
