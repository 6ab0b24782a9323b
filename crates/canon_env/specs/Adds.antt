-- What is added to a list, as long as memory does not run out.
use Rattle.std.specs.Prelude.{◌≡◌, ◌++◌, List, Bool, true}

-- memory did not run out before, and these were added, if it has not run out after
abbrev pub Adds : {X : Type 0} → Bool → Bool → List X → List X → List X → Type 0
Adds before after old new more = after ≡ true → (before ≡ true) × (new ≡ old ++ more)
