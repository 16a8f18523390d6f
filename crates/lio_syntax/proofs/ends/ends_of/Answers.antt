use Rattle.std.proofs.Common.{◌≡◌, ◌+◌, ◌-◌, ◌<◌, length, drop, ap, sym, subst, ◌∙◌, arith, ℕ}
use Rattle.std.proofs.Math.ListN.{set, length-set}
use Rattle.lio_syntax.specs.Closing.{block_ends, ends_behind}
use Rattle.lio_syntax.proofs.ClosingLemmas.{ends_none, table_none, ends_step, table_step}
use Rattle.lio_syntax.proofs.ends.ends_of.Goals as goal

pub lines-init : goal.lines-init
lines-init c =
    let size : length c.in_ok-table.table.items ≡ length c.args.lines.now = omega (arith, c.in_ok-table.ensures.len) in
    record {
      ends = c.new-ends.ensures ∙ ends_none c.args.lines.now;
      table = table_none c.in_ok-table.table.items c.args.lines.now size;
      same = size;
      within = omega arith;
    }

pub lines-preserved : goal.lines-preserved
lines-preserved c =
    let lines = c.args.lines.now in
    let at = c.lines.at - 1 in
    let next : at + 1 ≡ c.lines.at = omega arith in
    let within : at < length c.args.lines.now = omega (arith, c.lines.invariant.within) in
    let ends = subst (λ (n : ℕ). c.lines.ends ≡ block_ends n (drop n lines)) (sym next) c.lines.invariant.ends in
    let table = subst (λ (n : ℕ). drop n c.lines.table.items ≡ ends_behind n (drop n lines)) (sym next) c.lines.invariant.table in
    record {
      ends = ends_step at lines c.index-lines-at.result c.lines.ends _ within c.index-lines-at.is ends c.in_ok-pass.ensures;
      table = ap (λ (place : ℕ). drop at (set c.lines.table.items at place)) c.first.ensures
          ∙ table_step at lines c.index-lines-at.result c.lines.table.items c.lines.ends within c.index-lines-at.is c.lines.invariant.same ends table;
      same = length-set c.lines.table.items at c.first.result ∙ c.lines.invariant.same;
      within = omega arith;
    }
