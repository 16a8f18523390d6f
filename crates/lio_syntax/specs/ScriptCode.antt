-- The lines of a script are those of no other one. So contracts tell scripts apart by their lines.
use Rattle.std.specs.Prelude.{◌≡◌, ℕ, List, [], ◌∷◌, refl}
use Rattle.std.proofs.Common.{ap, ◌∙◌}
use Rattle.std.specs.Coded.{Coded, code_by, coded_list}
use Rattle.lio_syntax_lines.specs.contracts.line.Line as line_contract
use Rattle.lio_syntax_lines.specs.declared.line.Line.{Line}
use Rattle.lio_syntax_lines.specs.declared.line.Line.TheVariants as line
use Rattle.lio_syntax.specs.Statements.{Statement, Statements, Do, If, IfElse, While, Try, Nothing, Then, Procedure}
use Rattle.lio_syntax.specs.Lines.{statement_lines, block_lines, script_lines}
use Rattle.lio_syntax.specs.Behind.{Behind, Outside, Block, First, Tried, in_front, before_if, before_while, before_try, before_else, before_catch, before_proc, behind, procedures, script_of_lines}

-- statements in front of what is behind
in_front_all : Statements → Behind → Behind
in_front_all Nothing k = k
in_front_all (Then statement block) k = in_front statement (in_front_all block k)

all-block : (block : Statements) (k : Behind) → in_front_all block (Block Nothing k) ≡ Block block k
unfolding in_front_all
all-block Nothing k = refl
all-block (Then statement block) k = ap (in_front statement) (all-block block k)

all-first : (block other : Statements) (k : Behind) → in_front_all block (First Nothing other k) ≡ First block other k
unfolding in_front_all
all-first Nothing other k = refl
all-first (Then statement block) other k = ap (in_front statement) (all-first block other k)

all-tried : (block : Statements) (x y : List ℕ) (handler : Statements) (k : Behind) → in_front_all block (Tried Nothing x y handler k) ≡ Tried block x y handler k
unfolding in_front_all
all-tried Nothing x y handler k = refl
all-tried (Then statement block) x y handler k = ap (in_front statement) (all-tried block x y handler k)

mutual
  unfolding behind statement_lines block_lines in_front_all

  behind-statement_lines : (statement : Statement) (rest : List Line) → behind (statement_lines statement rest) ≡ in_front statement (behind rest)
  behind-statement_lines (Do simple) rest = refl
  behind-statement_lines (If a block) rest =
      ap (before_if a) (behind-block_lines block (line.End ∷ rest) ∙ all-block block (behind rest))
  behind-statement_lines (IfElse a block other) rest =
      ap (before_if a) (behind-block_lines block (line.Else ∷ block_lines other (line.End ∷ rest))
      ∙ ap (λ k. in_front_all block (before_else k)) (behind-block_lines other (line.End ∷ rest) ∙ all-block other (behind rest))
      ∙ all-first block other (behind rest))
  behind-statement_lines (While a block) rest =
      ap (before_while a) (behind-block_lines block (line.End ∷ rest) ∙ all-block block (behind rest))
  behind-statement_lines (Try block x y handler) rest =
      ap before_try (behind-block_lines block (line.Catch x y ∷ block_lines handler (line.End ∷ rest))
      ∙ ap (λ k. in_front_all block (before_catch x y k)) (behind-block_lines handler (line.End ∷ rest) ∙ all-block handler (behind rest))
      ∙ all-tried block x y handler (behind rest))

  behind-block_lines : (block : Statements) (rest : List Line) → behind (block_lines block rest) ≡ in_front_all block (behind rest)
  behind-block_lines Nothing rest = refl
  behind-block_lines (Then statement block) rest =
      behind-statement_lines statement (block_lines block rest) ∙ ap (in_front statement) (behind-block_lines block rest)

-- the lines of a script are those of no other one
behind-script_lines : (script : List Procedure) → behind (script_lines script) ≡ Outside script
unfolding behind script_lines
behind-script_lines [] = refl
behind-script_lines (procedure ∷ others) =
    ap (before_proc procedure.name procedure.parameters)
    (behind-block_lines procedure.body (line.End ∷ script_lines others) ∙ all-block procedure.body (behind (script_lines others)) ∙ ap (Block procedure.body) (behind-script_lines others))

-- behind the first line of a procedure stands its body, and outside of it stand those that follow
pub behind-body : (body : Statements) (others : List Procedure) → behind (block_lines body (line.End ∷ script_lines others)) ≡ Block body (Outside others)
unfolding behind
behind-body body others =
    behind-block_lines body (line.End ∷ script_lines others) ∙ all-block body (behind (script_lines others)) ∙ ap (Block body) (behind-script_lines others)

-- the script of the lines of a script
pub script_of_lines-script_lines : (script : List Procedure) → script_of_lines (script_lines script) ≡ script
script_of_lines-script_lines script = ap procedures (behind-script_lines script)

-- a script is stored as its lines
abbrev pub script_code : Coded (List Procedure)
script_code = code_by (List Line) (coded_list line_contract.the_row.coded) script_lines script_of_lines script_of_lines-script_lines
