use Rattle.std.proofs.Common.{refl, ap, ◌∙◌, sym}
use Rattle.lio_front.specs.Sorted.{plain_of, sorted_of}
use Rattle.lio_front.proofs.WalkLemmas.{none-third, none-unnamed}
use Rattle.lio_front.proofs.words.sorted.Sorted.with_plain.Goals as goal

pub returns-then-not-is_name-clause-cases : goal.returns-then-not-is_name-clause-cases
returns-then-not-is_name-clause-cases c = λ rest. none-unnamed c.args.self.plain (sorted_of c.args.self) c.args.word.now rest refl (sym c.is_name.ensures ∙ c.if-not-is_name.true)

pub returns-in-Two-clause-cases : goal.returns-in-Two-clause-cases
returns-in-Two-clause-cases c = λ rest. none-third (sorted_of c.args.self) c.in-Two.field-0.now c.in-Two.field-1.now c.args.word.now rest (ap plain_of c.in-Two.is)
