use Rattle.std.proofs.Common.{append_assoc}
use Rattle.lio_events.proofs.print.print_reply.Goals as goal

pub returns-in_ok-append_fault-in-Refused : goal.returns-in_ok-append_fault-in-Refused
returns-in_ok-append_fault-in-Refused c =
    let text = rw (c.in_ok-extend_from_slice-in-Refused.ensures.items, c.get-in-Refused.ensures, append_assoc) at c.in_ok-append_fault-in-Refused.ensures.ok in
    rw c.in-Refused.is text
