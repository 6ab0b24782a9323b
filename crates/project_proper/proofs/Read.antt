-- What a text guarantees of its declarations, where its truth values are two at most.
use Rattle.std.proofs.Common.{List, [], ◌∷◌, arith}
use Rattle.elm_tree.specs.Tree.{Declaration, Value, Port, Union, Alias, ConstructorOf}
use Rattle.elm_canon.specs.Names.{Name}
use Rattle.module_proper.specs.Counted.{HaveFewer, AllHaveFew}
use Rattle.canon_proper.specs.Spelled.{HaveFewFields, AreSmall}
use Rattle.canon_proper.proofs.Walking.{text_spelled}
use Rattle.project_proper.specs.Laws.{HaveTruths, ReadLaw}

fewer : (cs : List ConstructorOf) → HaveFewFields cs → HaveFewer 4294967296 cs
fewer [] h = tt
fewer (c ∷ cs) h = (h.0, fewer cs h.1)

few_each : (home : Name) (ds : List Declaration) → HaveTruths home ds → AreSmall ds → AllHaveFew home ds
few_each home [] t h = tt
few_each home (Value d ∷ ds) t h = (tt, few_each home ds t h.1)
few_each home (Port x u ∷ ds) t h = (tt, few_each home ds t h.1)
few_each home (Union x ps cs ∷ ds) t h = (
  record { many = omega (arith, h.0.0); fields = fewer cs h.0.1; truths = t.0 },
  few_each home ds t.1 h.1,
)
few_each home (Alias x ps u ∷ ds) t h = (tt, few_each home ds t h.1)

pub all_read : ReadLaw
all_read text tokens t home h l p truths =
    let m = text_spelled text tokens t h l p in
    record { spelled = m.declarations; cased = m.cased; few = few_each home t.declarations truths m.small }
