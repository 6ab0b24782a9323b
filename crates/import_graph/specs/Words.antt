-- The names that imports of the program have.
use Rattle.import_graph.specs.Modules.{Word}
use Rattle.import_graph.specs.declared.reader.Written.{Written}

abbrev pub word_view : Written → Word
word_view w = record { place = w.place; text = w.name }
