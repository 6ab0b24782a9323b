-- What a store says of its steps.
use Rattle.type_store.specs.Store.{Store}
use Rattle.type_store.specs.Solutions.{Ask, Added}
use Rattle.type_store.specs.Reaching.{GoesOn}
use Rattle.type_walks.proofs.Steps.{Took}

-- to add what is asked is a step
pub took : (s s' : Store) (asked : Ask) → Added s asked s' → GoesOn s s' → Took s asked s'
took s s' asked added goes = record {
  later = record { grows = goes.grows; depth = goes.no_deeper; constants = goes.constants };
  determined = λ e v l. record {
    same = λ σ τ f g agree. (goes.rests e).same σ τ f g (λ u i d. agree u (record { inside = i; depth = d })) v l.inside l.depth;
  };
  added = added;
}
