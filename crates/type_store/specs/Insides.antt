-- What a store of the program keeps between two calls: a whole store, and memory that serves one call after another.
use Rattle.std.specs.Prelude.{◌≡◌, []}
use Rattle.type_store.specs.declared.store.Store.TheInside.{Inside}
use Rattle.type_store.specs.Store.{Store}
use Rattle.type_store.specs.Shape.{IsStore}
use Rattle.type_store.specs.Adding.{IsIdle}
use Rattle.type_store.specs.View.{store_view}

abbrev pub slots_of : Inside → Store
slots_of s = store_view s.slots.items

pub record IsKept (s : Inside) : Type 0 where
  pub whole : IsStore (store_view s.slots.items)
  pub idle : IsIdle s.tools
  pub work : s.tools.work.items ≡ []
  pub made : s.tools.made.items ≡ []
