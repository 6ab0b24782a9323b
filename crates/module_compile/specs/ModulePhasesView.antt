-- What a module is compiled in, by what is known of its imports.
use Rattle.module_made.specs.Around.{Around}
use Rattle.module_compile.specs.Parts.{found_view, interfaces_view, around_of}
use Rattle.module_compile.specs.declared.imports.Imports.{Imports}

unfoldable pub around_view : Imports → Around
around_view i = around_of i.is_core i.name (found_view i.found) (interfaces_view i.interfaces)
