use Rattle.std.proofs.Common.{◌≡◌, ◌++◌, length, All}
use Rattle.std.specs.Option.{option_map}
use Rattle.lio_syntax_lines.specs.Forms as spec
use Rattle.lio_syntax_lines.specs.Literals.{IsName}
use Rattle.lio_syntax_lines.proofs.forms.Words.names.Given as goal

-- the names so far stand before the words that are left
abbrev pub invariant-words : goal.invariant-words
invariant-words l = record {
  so_far : spec.names_of l.fn.self ≡ option_map (λ more. l.names ++ more) (spec.names_of l.self);
  sound : All IsName l.names;
}

abbrev pub decreases-words : goal.decreases-words
decreases-words l = length l.self
