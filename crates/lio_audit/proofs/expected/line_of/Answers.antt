use Rattle.lio_task.specs.Configuration.{configuration_of}
use Rattle.lio_audit.proofs.ExpectedLemmas.{would-be_printable}
use Rattle.lio_audit.proofs.expected.line_of.Goals as goal

pub print_entry-text-requires : goal.print_entry-text-requires
print_entry-text-requires c =
    would-be_printable c.args.names.now (configuration_of c.args.script.now c.args.config.now) c.args.k c.args.ticket c.in-Ok.entry c.requires.named c.in-Ok.ensures.ok
