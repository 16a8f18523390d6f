use Rattle.lio_front.specs.declared.words.said.Name.TheVariants.{History, View, Observer, Make, Workers, Check}
use Rattle.lio_front.specs.Sorted.{sorted_of}
use Rattle.lio_front.proofs.WalkLemmas.{none-value}
use Rattle.lio_front.proofs.words.sorted.Sorted.with_value.Goals as goal

pub returns-in_err-only-in-History-clause-cases : goal.returns-in_err-only-in-History-clause-cases
returns-in_err-only-in-History-clause-cases c =
    rw (c.from_residual.ensures, c.in-History.is) (λ rest. none-value History (sorted_of c.args.self) c.args.word.now rest (c.in_err-only-in-History.ensures rest.histories))

pub returns-in_err-only-in-View-clause-cases : goal.returns-in_err-only-in-View-clause-cases
returns-in_err-only-in-View-clause-cases c =
    rw (c.from_residual-in_err-only-in-View.ensures, c.in-View.is) (λ rest. none-value View (sorted_of c.args.self) c.args.word.now rest (c.in_err-only-in-View.ensures rest.views))

pub returns-in_err-only-in-Observer-clause-cases : goal.returns-in_err-only-in-Observer-clause-cases
returns-in_err-only-in-Observer-clause-cases c =
    rw (c.from_residual-in_err-only-in-Observer.ensures, c.in-Observer.is) (λ rest. none-value Observer (sorted_of c.args.self) c.args.word.now rest (c.in_err-only-in-Observer.ensures rest.observers))

pub returns-in_err-only-in-Make-clause-cases : goal.returns-in_err-only-in-Make-clause-cases
returns-in_err-only-in-Make-clause-cases c =
    rw (c.from_residual-in_err-only-in-Make.ensures, c.in-Make.is) (λ rest. none-value Make (sorted_of c.args.self) c.args.word.now rest (c.in_err-only-in-Make.ensures rest.sizes))

pub returns-in_err-only-in-Workers-clause-cases : goal.returns-in_err-only-in-Workers-clause-cases
returns-in_err-only-in-Workers-clause-cases c =
    rw (c.from_residual-in_err-only-in-Workers.ensures, c.in-Workers.is) (λ rest. none-value Workers (sorted_of c.args.self) c.args.word.now rest (c.in_err-only-in-Workers.ensures rest.counts))

pub returns-in_err-only-in-Check-clause-cases : goal.returns-in_err-only-in-Check-clause-cases
returns-in_err-only-in-Check-clause-cases c =
    rw (c.from_residual-in_err-only-in-Check.ensures, c.in-Check.is) (λ rest. none-value Check (sorted_of c.args.self) c.args.word.now rest (c.in_err-only-in-Check.ensures rest.checks))
