-- What tokens and faults of the program are, as those of the definition.
use Rattle.std.specs.Prelude.{⊤}
use Rattle.elm_base.specs.declared.position.Pos.{Pos}
use Rattle.elm_lexer.specs.declared.error.TextError.{TextError}
use Rattle.elm_lexer.specs.declared.error.TextError.TheVariants as error
use Rattle.elm_lexer.specs.declared.error.TextFault as program_fault
use Rattle.elm_lexer.specs.declared.token.Token as program
use Rattle.elm_lexer.specs.Tokens.{Place, Token, Fault}

-- rows and columns as plain numbers
abbrev pub place_view : Pos → Place
place_view p = record { row = p.row; column = p.column }

-- the token, with the text that its reference points to
abbrev pub token_view : program.Token → Token
token_view t = record { kind = t.kind; text = t.text.now; start = place_view t.start; space_before = t.space_before; space_after = t.space_after }

-- the fault, with the text that its reference points to
abbrev pub fault_view : program_fault.TextFault → Fault
fault_view f = record { code = f.code; place = place_view f.place; detail = f.detail.now }

-- the error is out of memory, or a fault of which this holds
abbrev pub IfFault : TextError → (Fault → Type 0) → Type 0
IfFault error.NoMemory Holds = ⊤
IfFault (error.Fault f) Holds = Holds (fault_view f)
