use Rattle.std.proofs.Common.{sym, subst}
use Rattle.lio_syntax.specs.Kept.{KeepsRules, SaysLiterals}
use Rattle.lio_start.proofs.LawLemmas.{literals_are_said}
use Rattle.lio_start.proofs.job.Job.of.Goals as goal

pub invariant_of-result : goal.invariant_of-result
invariant_of-result c =
    let lines = sym c.lines.ensures.lines in
    record {
      policy = c.policy_keeps_rules.ensures;
      rules = subst KeepsRules lines c.lines.ensures.rules;
      literals = literals_are_said c.args.script (subst SaysLiterals lines c.lines.ensures.literals);
      fits = c.requires.fits;
      over = c.requires.over;
      each = c.requires.each;
    }
