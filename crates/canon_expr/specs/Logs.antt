-- What is noted while a module is walked: its faults, and the places where the local names are bound that it uses.
use Rattle.std.specs.Prelude.{◌≡◌, List, ◌++◌, Option, Some, None, flat_map, filter_map}
use Rattle.elm_tree.specs.Tree.{Pos, Long}
use Rattle.elm_canon.specs.declared.reference.Ref.{Ref}
use Rattle.elm_canon.specs.declared.reference.Ref.TheVariants.{Local, Top}
use Rattle.canon_env.specs.Found.{Found, Nothing, One, Several}
use Rattle.canon_env.specs.Naming.{World, own_name}
use Rattle.canon_env.specs.Sites.{Site, ValueUse, faults_at, ValueMeaning, LocalValue, Elsewhere, value_meaning}
use Rattle.canon_expr.specs.declared.log.Log.{Log}

abbrev pub local_place : ValueMeaning → Option Pos
local_place (LocalValue place) = Some place
local_place (Elsewhere found) = None

-- where the local name is bound that a site uses
unfoldable pub used_place : World → Site → Option Pos
used_place w (ValueUse locals x) = local_place (value_meaning w locals x)
used_place w _ = None

-- the log has what it had, and then what stands at these sites
pub record Grows (w : World) (old new : Log) (sites : List Site) : Type 0 where
  pub findings : new.findings.items ≡ old.findings.items ++ flat_map (faults_at w) sites
  pub uses : new.uses.items ≡ old.uses.items ++ filter_map (used_place w) sites

-- ---- what the name of a value means

abbrev pub found_ref : Long → Found (Unit {0}) → Option Ref
found_ref x Nothing = None
found_ref x Several = None
found_ref x (One r) = Some (Top r.home (own_name x))

abbrev pub value_ref : Long → ValueMeaning → Option Ref
value_ref x (LocalValue place) = Some (Local (own_name x))
value_ref x (Elsewhere found) = found_ref x found
