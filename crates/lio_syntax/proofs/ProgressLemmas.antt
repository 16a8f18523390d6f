-- How reading goes from line to line.
use Rattle.std.proofs.Common.{◌≡◌, ℕ, suc, ◌+◌, List, [], ◌∷◌, ◌++◌, length, length-append, ap, sym, ◌∙◌, arith, is_some}
use Rattle.std.specs.Prelude.{if◌then◌else◌}
use Rattle.lio_syntax_lines.specs.declared.line.Line.{Line}
use Rattle.lio_syntax_lines.specs.declared.line.ParsedLine.{ParsedLine}
use Rattle.lio_syntax_lines.specs.declared.line.ParsedLine.TheVariants.{Blank, Says}
use Rattle.lio_syntax_lines.specs.Header.{header_of, parsed_header}
use Rattle.lio_syntax.specs.declared.headers.Headers.{Headers}
use Rattle.lio_syntax.specs.declared.progress.Progress.{Progress}
use Rattle.lio_syntax.specs.Headers.{count_in, Knows}
use Rattle.lio_syntax.specs.OpenBlocks.{opened_by, opened_behind}
use Rattle.lio_syntax.specs.Progress.{Stands}
use Rattle.lio_syntax.specs.Rules.{or_else, count_if_named}
use Rattle.lio_syntax.specs.Verdict.{said}
use Rattle.lio_syntax.proofs.FaultLemmas.{open_from-push, parameters_of-push, procedure_count-push, said-push, said-blank}
use Rattle.lio_syntax.proofs.HeaderLemmas.{or_else-none}

-- a table with the procedure of one line more
pub knows-push : (old new : Headers) (before : List ParsedLine) (line : ParsedLine) → Knows old before
    → ((q : List ℕ) → count_in new q ≡ or_else (count_in old q) (count_if_named q (parsed_header line))) → Knows new (before ++ line ∷ [])
knows-push old new before line knows more = record {
  same = λ q. more q ∙ ap (λ o. or_else o (count_if_named q (parsed_header line))) (knows.same q) ∙ sym (parameters_of-push before line q);
}

pub length-push : {X : Type 0} (before : List X) (line : X) → length (before ++ line ∷ []) ≡ suc (length before)
length-push before line = omega (arith, length-append before (line ∷ []))

-- behind one line more
pub stands-push : (old new : Progress) (before : List ParsedLine) (line : ParsedLine) → Stands old before
    → new.blocks ≡ opened_behind old.blocks line → Knows new.seen (before ++ line ∷ [])
    → new.procedures ≡ (if is_some (parsed_header line) then suc old.procedures else old.procedures) → new.count ≡ suc old.count
    → new.lines.items ≡ said (before ++ line ∷ []) → Stands new (before ++ line ∷ [])
stands-push old new before line stands blocks seen procedures count lines = record {
  blocks = blocks ∙ ap (λ b. opened_behind b line) stands.blocks ∙ sym (open_from-push [] before line);
  seen = seen;
  procedures = procedures ∙ ap (λ n. if is_some (parsed_header line) then suc n else n) stands.procedures ∙ sym (procedure_count-push before line);
  count = count ∙ ap suc stands.count ∙ sym (length-push before line);
  lines = lines;
}

-- behind a line that says nothing
pub stands-blank : (old new : Progress) (before : List ParsedLine) → Stands old before → new.blocks ≡ old.blocks → new.seen ≡ old.seen
    → new.procedures ≡ old.procedures → new.count ≡ old.count + 1 → new.lines.items ≡ old.lines.items → Stands new (before ++ Blank ∷ [])
stands-blank old new before stands blocks seen procedures count lines =
    stands-push old new before Blank stands blocks
    (knows-push old.seen new.seen before Blank stands.seen (λ q. ap (λ s. count_in s q) seen ∙ sym (or_else-none (count_in old.seen q))))
    procedures (omega arith) (lines ∙ stands.lines ∙ sym (said-blank before))

-- behind a line that says something
pub stands-says : (old new : Progress) (before : List ParsedLine) (line : Line) → Stands old before → new.blocks ≡ opened_by old.blocks line
    → Knows new.seen (before ++ Says line ∷ []) → new.procedures ≡ (if is_some (header_of line) then suc old.procedures else old.procedures)
    → new.count ≡ suc old.count → new.lines.items ≡ old.lines.items ++ line ∷ [] → Stands new (before ++ Says line ∷ [])
stands-says old new before line stands blocks seen procedures count lines =
    stands-push old new before (Says line) stands blocks seen procedures count
    (lines ∙ ap (λ ls. ls ++ line ∷ []) stands.lines ∙ sym (said-push before line))
