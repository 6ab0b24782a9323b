use Rattle.std.proofs.Common.{map, drop, string_bytes}
use Rattle.import_graph.proofs.Naming.{IsLeft}
use Rattle.import_graph.proofs.entries.entry_name.Given as goal

-- no directory so far names the module
abbrev pub invariant-loop-directory : goal.invariant-loop-directory
invariant-loop-directory l =
    IsLeft l.path (map string_bytes (drop l.directory-index l.directories)) (map string_bytes l.directories)
